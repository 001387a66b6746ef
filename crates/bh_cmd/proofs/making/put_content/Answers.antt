use Rattle.std.proofs.Common.{◌≡◌, ◌∙◌, ◌+◌, ◌++◌, ◌∷◌, [], length, take, ap, sym, refl, arith, append_assoc, ℕ, List, length-set}
use Rattle.std.proofs.lemmas.Grind.{take-set_at}
use Rattle.std.proofs.lemmas.List.FromFn.{map-range_with_len_more}
use Rattle.bh_cmd.specs.Trials.{content_byte, content_from}
use Rattle.bh_cmd.proofs.making.put_content.Goals as goal

pub loop-i-preserved : goal.loop-i-preserved
loop-i-preserved c =
    let front = take c.args.at c.args.ready.now in
    let before = content_from c.args.from c.loop-i.i in
    let room : length c.loop-i.ready ≡ 1024 = c.loop-i.invariant.0 in (
      length-set c.loop-i.ready _ _ ∙ room,
      take-set_at c.loop-i.ready (c.args.at + c.loop-i.i) (c.args.at + (c.loop-i.i + 1)) c.byte_of.result (omega arith) (omega (arith, room))
          ∙ ap (λ (l : List ℕ). l ++ c.byte_of.result ∷ []) c.loop-i.invariant.1
          ∙ append_assoc front before (c.byte_of.result ∷ [])
          ∙ ap (λ (b : ℕ). front ++ (before ++ b ∷ [])) c.byte_of.ensures
          ∙ ap (λ (l : List ℕ). front ++ l) (sym (map-range_with_len_more content_byte c.args.from c.loop-i.i (c.args.from + c.loop-i.i) refl)),
    )
