use Rattle.std.proofs.Common.{◌≡◌, ◌∙◌, ◌∷◌, IfOk, map, string_bytes, codes, subst, sym}
use Rattle.std.proofs.lemmas.Slice.Eq.{bytes_eq-Decides}
use Rattle.bh_words.specs.Settings.{Text, Finds}
use Rattle.bh_words.specs.Words.{IsCommand}
use Rattle.bh_words.proofs.commands.named.Goals as goal

pub returns-then-eq-4 : goal.returns-then-eq-4
returns-then-eq-4 c =
    let same : c.args.name.now ≡ codes "from-http1" = (bytes_eq-Decides c.args.name.now (codes "from-http1")).0 (sym c.eq-4.ensures ∙ c.if-eq-4.true) in
    subst (λ (name : Text). IfOk c.from_http1.result (Finds (IsCommand (name ∷ map string_bytes c.args.words.now)))) (sym same) c.from_http1.ensures
