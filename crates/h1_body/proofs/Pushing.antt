-- A piece that is pushed: what its bytes do, one behind the other.
use Rattle.std.proofs.Common.{◌≡◌, ◌⊎◌, ◌<◌, ◌≤◌, ◌+◌, ◌-◌, arith, ℕ, List, [], ◌∷◌, ◌++◌, length, take, drop, get_or, refl, sym, ap, subst, ◌∙◌, append_assoc, inl, inr}
use Rattle.std.proofs.lemmas.List.{length-append, length-drop, take_more, take-append-drop}
use Rattle.std.proofs.Math.Seq.{take-length, take-append_seam}
use Rattle.bh_spec.specs.declared.H1Why.{H1Why}
use Rattle.bh_spec.specs.declared.H1Why.TheVariants as why
use Rattle.h1_spec.specs.BodyStates.{At, to_end, OfRest, nothing_behind, Moves}
use Rattle.h1_body.specs.declared.content.Phase.{Phase}
use Rattle.h1_body.specs.declared.content.Phase.TheVariants as phases
use Rattle.h1_body.specs.Contents.{at_of, IsValid, IsReading, Becomes, AwaitsMore, NoneMissing, IsContent, IsRefused, IsRun}
use Rattle.h1_spec.proofs.BodySteps.{moves_here, moves_on}
use Rattle.h1_body.proofs.Phases.{Refuses, awaits, unended}

pub becomes_here : (v : At) → Becomes v [] [] v
becomes_here v L = moves_here L v

pub becomes_on : (v w u : At) (piece : List ℕ) (i : ℕ) → i < length piece → Becomes v (take i piece) [] w → Becomes w (get_or piece i 0 ∷ []) [] u → Becomes v (take (i + 1) piece) [] u
becomes_on v w u piece i h b g L =
    subst (λ (z : List ℕ). Moves L v z [] u) (sym (take_more piece i 0 h)) (moves_on L v w u (take i piece) (get_or piece i 0 ∷ []) [] [] (b L) (g L))

pub content_says : (v w u : At) (piece bytes : List ℕ) (i : ℕ) → i < length piece → Becomes v (take i piece) [] w → IsRun w (drop i piece) bytes u → IsContent v piece (i + length bytes) bytes u
content_says v w u piece bytes i h b r = record {
  inside = omega (arith, left, cut);
  some = r.some;
  ends = (take i piece, joined);
  becomes = λ L. subst (λ (z : List ℕ). Moves L v z bytes u) (sym joined) (moves_on L v w u (take i piece) bytes [] bytes (b L) (r.becomes L));
  all = all r.all;
  place = r.place;
}
  where
    left : length (drop i piece) ≡ length piece - i
    left = length-drop i piece

    cut : length (drop i piece) ≡ length bytes + length r.front.0
    cut = ap length r.front.1 ∙ length-append bytes r.front.0

    whole : piece ≡ (take i piece ++ bytes) ++ r.front.0
    whole = sym (take-append-drop i piece) ∙ ap (λ (z : List ℕ). take i piece ++ z) r.front.1 ∙ sym (append_assoc (take i piece) bytes r.front.0)

    long : length (take i piece ++ bytes) ≡ i + length bytes
    long = omega (arith, ap (length {A = ℕ}) whole, length-append (take i piece ++ bytes) r.front.0, left, cut)

    joined : take (i + length bytes) piece ≡ take i piece ++ bytes
    joined = ap (λ (n : ℕ). take n piece) (sym long) ∙ ap (take (length (take i piece ++ bytes))) whole ∙ take-append_seam (take i piece ++ bytes) r.front.0

    all : (length bytes ≡ length (drop i piece)) ⊎ NoneMissing u → (i + length bytes ≡ length piece) ⊎ NoneMissing u
    all (inl e) = inl (omega (arith, e, left, h))
    all (inr n) = inr n

pub refused_says : (v w : At) (piece : List ℕ) (i : ℕ) (cause : H1Why) → i < length piece → Becomes v (take i piece) [] w → AwaitsMore w [] → Refuses w (get_or piece i 0) cause → (cause ≡ why.Ended → ⊥)
    → IsRefused v piece cause
refused_says v w piece i cause h b a r n = record {
  at = i;
  behind = w;
  inside = h;
  none = b;
  before = awaits v w (take i piece) b a;
  decided = λ L after.
      let shape : take (i + 1) piece ++ after ≡ take i piece ++ (get_or piece i 0 ∷ after) =
      ap (λ (z : List ℕ). z ++ after) (take_more piece i 0 h) ∙ append_assoc (take i piece) (get_or piece i 0 ∷ []) after in
      subst (λ (z : List ℕ). OfRest L nothing_behind v z cause) (sym shape) ((b L).causes (get_or piece i 0 ∷ after) cause (r L after));
  not_end = n;
}

pub all_taken : (piece : List ℕ) (i : ℕ) → i ≤ length piece → length piece ≤ i → take i piece ≡ piece
all_taken piece i g h = let same : i ≡ length piece = omega arith in ap (λ (n : ℕ). take n piece) same ∙ take-length piece

nil_of : (x : List ℕ) → length x ≡ 0 → x ≡ []
nil_of [] e = refl
nil_of (b ∷ x) e = absurd (omega (arith, e))

pub need_says : (old phase : Phase) (piece : List ℕ) (i : ℕ) → i ≤ length piece → length piece ≤ i → Becomes (at_of old) (take i piece) [] (at_of phase)
    → IsValid phase → IsReading phase → (phase ≡ phases.ToEnd → (old ≡ phases.ToEnd) × (i ≡ 0))
    → Becomes (at_of old) piece [] (at_of phase) × (((at_of old ≡ to_end) × (piece ≡ [])) ⊎ AwaitsMore (at_of old) piece)
need_says old phase piece i g h b valid reading ended = (all, rest (unended phase valid reading))
  where
    all : Becomes (at_of old) piece [] (at_of phase)
    all = subst (λ (z : List ℕ). Becomes (at_of old) z [] (at_of phase)) (all_taken piece i g h) b

    rest : (phase ≡ phases.ToEnd) ⊎ AwaitsMore (at_of phase) [] → ((at_of old ≡ to_end) × (piece ≡ [])) ⊎ AwaitsMore (at_of old) piece
    rest (inl e) = let f = ended e in inl (ap at_of f.0, nil_of piece (omega (arith, f.1, h)))
    rest (inr a) = inr (awaits (at_of old) (at_of phase) piece all a)
