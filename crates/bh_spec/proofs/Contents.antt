-- Content is no longer than its text.
use Rattle.std.proofs.Common.{◌≤◌, ℕ, List, [], ◌∷◌, length, ap, arith}
use Rattle.std.specs.List.{concat}
use Rattle.std.proofs.lemmas.List.{length-append, length-map}
use Rattle.bh_spec.specs.declared.Part.{Part}
use Rattle.bh_spec.specs.declared.Part.TheVariants as parts
use Rattle.bh_spec.specs.declared.Form.{Form}
use Rattle.bh_spec.specs.declared.Form.TheVariants.{Known, Indeterminate}
use Rattle.bh_spec.specs.declared.Omitted.{Omitted}
use Rattle.bh_spec.specs.declared.Omitted.TheVariants.{Nothing, Trailers, Both}
use Rattle.bh_spec.specs.Bounds.{Bounds}
use Rattle.bh_spec.specs.Messages.{Field, Message}
use Rattle.bh_spec.specs.Texts.{Text, AreEach, IsString}
use Rattle.bh_spec.specs.Tails.{IsBody, IsTail}
use Rattle.bh_spec.specs.Viable.{SpellsBytes}
use Rattle.bh_spec.proofs.Marks.{length-mark}

run_long : (long part : Part) (x : List ℕ) (t : Text) → IsString long part x t → length x ≤ length t
run_long long part x t h = omega (arith, ap length h.4, length-append h.0 h.1, ap length h.3, length-mark part x)

chunks_long : (cs : List (List ℕ)) (t : Text) → AreEach (IsString parts.ChunkLength parts.Content) cs t → length (concat cs) ≤ length t
chunks_long [] t h = omega arith
chunks_long (c ∷ cs) t h =
    omega (arith, ap length h.4, length-append h.0 h.1, run_long parts.ChunkLength parts.Content c h.0 h.2, chunks_long cs h.1 h.3, length-append c (concat cs))

body_long : (form : Form) (c : List ℕ) (t : Text) → IsBody form c t → length c ≤ length t
body_long Known c t h = run_long parts.ContentLength parts.Content c t h
body_long Indeterminate c t h =
    let spelled = h.3 in
    omega (arith, ap length h.1, chunks_long h.0 spelled.0 spelled.2, ap length spelled.4, length-append spelled.0 spelled.1)

tail_long : (L : Bounds) (form : Form) (c : List ℕ) (fs : List Field) (o : Omitted) (z : ℕ) (t : Text) → IsTail L form c fs o z t → length c ≤ length t
tail_long L form c fs Nothing z t h = omega (arith, body_long form c h.0 h.2, ap length h.4, length-append h.0 h.1)
tail_long L form c fs Trailers z t h = body_long form c t h.2
tail_long L form c fs Both z t h = omega (arith, ap length h.0)

pub content_long : (L : Bounds) (m : Message) (o : Omitted) (z : ℕ) (bytes : List ℕ) → SpellsBytes L m o z bytes → length m.content ≤ length bytes
content_long L m o z bytes h =
    let spelled = h.spelled in
    let a = spelled.text in
    let b = a.3 in
    let c = b.3 in
    omega (
      arith,
      tail_long L spelled.form m.content m.trailers o z c.1 c.3,
      ap length c.4,
      length-append c.0 c.1,
      ap length b.4,
      length-append b.0 b.1,
      ap length a.4,
      length-append a.0 a.1,
      ap length h.same,
      length-map h.text (λ (byte : Part × ℕ). byte.1),
    )
