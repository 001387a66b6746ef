-- A reader of a whole body: its content and its trailer section, one behind the other.
use Rattle.std.proofs.Common.{◌≡◌, ◌⊎◌, ◌+◌, ◌-◌, arith, Bool, true, false, ℕ, List, [], ◌++◌, take, drop, refl, sym, ap, subst, ◌∙◌, append_assoc, inl, inr}
use Rattle.std.proofs.lemmas.List.{take-append-drop, length-drop}
use Rattle.std.proofs.Math.Seq.{take-add}
use Rattle.bh_spec.specs.Bounds.{Bounds}
use Rattle.bh_spec.specs.Messages.{Field}
use Rattle.bh_spec.specs.declared.H1Why.{H1Why}
use Rattle.bh_spec.specs.declared.H1Why.TheVariants as why
use Rattle.h1_spec.specs.BodyStates.{At, to_end, in_trailers, over, trailers_of, OfRest, nothing_behind, Moves, IsRefusedFrom}
use Rattle.h1_body.specs.declared.content.Phase.{Phase}
use Rattle.h1_body.specs.declared.content.Phase.TheVariants as phases
use Rattle.h1_body.specs.declared.content.Pushed.TheVariants as pushed
use Rattle.h1_body.specs.declared.trailers.TrailerStep.TheVariants as trailer
use Rattle.h1_body.specs.declared.reader.BodyStep.TheVariants as steps
use Rattle.h1_body.specs.Contents.{at_of, IsReading, IsRefused, Says}
use Rattle.h1_body.specs.Trailers.{SaysTrailers, IsEnded}
use Rattle.h1_body.specs.Readers.{trailers_at, place_of, SaysBody}
use Rattle.h1_spec.proofs.BodySteps.{moves_on}

-- ---- places

pub place_other : (phase : Phase) (ended : Bool) (seen : List ℕ) (lines : List Field) → (phase ≡ phases.Trailers → ⊥) → place_of phase ended seen lines ≡ at_of phase
place_other (phases.Count missing) ended seen lines n = refl
place_other phases.ToEnd ended seen lines n = refl
place_other (phases.Line line room) ended seen lines n = refl
place_other (phases.Chunk missing) ended seen lines n = refl
place_other phases.ChunkEnd ended seen lines n = refl
place_other phases.ChunkLf ended seen lines n = refl
place_other phases.Trailers ended seen lines n = absurd (n refl)

pub place_in : (phase : Phase) (ended : Bool) (seen : List ℕ) (lines : List Field) → phase ≡ phases.Trailers → ended ≡ false → place_of phase ended seen lines ≡ in_trailers seen
place_in phase ended seen lines e f = ap (λ (p : Phase). place_of p ended seen lines) e ∙ ap (λ (b : Bool). trailers_at b seen lines) f

pub place_over : (phase : Phase) (seen : List ℕ) (lines : List Field) → phase ≡ phases.Trailers → place_of phase true seen lines ≡ over lines
place_over phase seen lines e = ap (λ (p : Phase). place_of p true seen lines) e

pub not_trailers : (phase : Phase) → IsReading phase → phase ≡ phases.Trailers → ⊥
not_trailers phase r e = subst IsReading e r

-- ---- content alone

pub content_need : (section : ℕ) (v w : At) (p q : Phase) (piece : List ℕ) → v ≡ at_of p → w ≡ at_of q → Says (at_of p) piece pushed.Need (at_of q) → SaysBody section v piece steps.Need w
content_need section v w p q piece e f h L l =
    let moved = subst (λ (z : At). Moves L z piece [] w) (sym e) (subst (λ (z : At). Moves L (at_of p) piece [] z) (sym f) (h.0 L)) in
    (moved, rest h.1)
  where
    rest : ((at_of p ≡ to_end) × (piece ≡ [])) ⊎ ((K : Bounds) → OfRest K nothing_behind (at_of p) piece why.Ended) → ((v ≡ to_end) × (piece ≡ [])) ⊎ OfRest L nothing_behind v piece why.Ended
    rest (inl z) = inl (e ∙ z.0, z.1)
    rest (inr a) = inr (subst (λ (z : At). OfRest L nothing_behind z piece why.Ended) (sym e) (a L))

pub content_refused : (section : ℕ) (v : At) (p : Phase) (piece : List ℕ) (cause : H1Why) → v ≡ at_of p → IsRefused (at_of p) piece cause → IsRefusedFrom section v piece cause
content_refused section v p piece cause e h = subst (λ (z : At). IsRefusedFrom section z piece cause) (sym e) (record {
  at = h.at;
  behind = h.behind;
  inside = h.inside;
  none = λ L l. h.none L;
  before = λ L l. h.before L;
  decided = λ L l. h.decided L;
  not_end = h.not_end;
})

-- ---- the trailer section, behind so many bytes of the piece

pub behind_need : (section : ℕ) (v w : At) (p q : Phase) (piece : List ℕ) (taken : ℕ) (lines : List Field) → v ≡ at_of p → Says (at_of p) piece (pushed.Trailers taken) (at_of q)
    → SaysTrailers section [] (drop taken piece) trailer.Need lines → w ≡ in_trailers (drop taken piece) → SaysBody section v piece steps.Need w
behind_need section v w p q piece taken lines e h t f L l =
    let more = t L l in
    let first = subst (λ (z : At). Moves L (at_of p) (take taken piece) [] z) h.1 (h.2 L) in
    let both = moves_on L (at_of p) (in_trailers []) (in_trailers (drop taken piece)) (take taken piece) (drop taken piece) [] [] first more.0 in (
      subst (λ (z : At). Moves L z piece [] w) (sym e) (subst (λ (z : At). Moves L (at_of p) piece [] z) (sym f)
          (subst (λ (z : List ℕ). Moves L (at_of p) z [] (in_trailers (drop taken piece))) (take-append-drop taken piece) both)),
      inr (subst (λ (z : At). OfRest L nothing_behind z piece why.Ended) (sym e)
          (subst (λ (z : List ℕ). OfRest L nothing_behind (at_of p) z why.Ended) (take-append-drop taken piece) (first.causes (drop taken piece) why.Ended more.1))),
    )

pub behind_refused : (section : ℕ) (v : At) (p q : Phase) (piece : List ℕ) (taken : ℕ) (cause : H1Why) → v ≡ at_of p → Says (at_of p) piece (pushed.Trailers taken) (at_of q)
    → IsRefusedFrom section (in_trailers []) (drop taken piece) cause → IsRefusedFrom section v piece cause
behind_refused section v p q piece taken cause e h t = subst (λ (z : At). IsRefusedFrom section z piece cause) (sym e) (record {
  at = taken + t.at;
  behind = t.behind;
  none = λ L l.
      subst (λ (z : List ℕ). Moves L (at_of p) z [] t.behind) (sym (take-add taken t.at piece))
      (moves_on L (at_of p) (in_trailers []) t.behind (take taken piece) (take t.at (drop taken piece)) [] [] (first L) (t.none L l));
  inside = omega (arith, h.0, t.inside, length-drop taken piece);
  before = λ L l.
      subst (λ (z : List ℕ). OfRest L nothing_behind (at_of p) z why.Ended) (sym (take-add taken t.at piece)) ((first L).causes (take t.at (drop taken piece)) why.Ended (t.before L l));
  decided = λ L l after.
      let shape : take (taken + t.at + 1) piece ≡ take taken piece ++ take (t.at + 1) (drop taken piece) =
      ap (λ (n : ℕ). take n piece) (omega arith) ∙ take-add taken (t.at + 1) piece in
      subst (λ (z : List ℕ). OfRest L nothing_behind (at_of p) z cause)
      (sym (ap (λ (z : List ℕ). z ++ after) shape ∙ append_assoc (take taken piece) (take (t.at + 1) (drop taken piece)) after))
      ((first L).causes (take (t.at + 1) (drop taken piece) ++ after) cause (t.decided L l after));
  not_end = t.not_end;
})
  where
    first : (L : Bounds) → Moves L (at_of p) (take taken piece) [] (in_trailers [])
    first L = subst (λ (z : At). Moves L (at_of p) (take taken piece) [] z) h.1 (h.2 L)

ended_behind : (section : ℕ) (p q : Phase) (piece : List ℕ) (taken more : ℕ) (lines : List Field) → Says (at_of p) piece (pushed.Trailers taken) (at_of q)
    → IsEnded section (in_trailers []) (drop taken piece) more lines → IsEnded section (at_of p) piece (taken + more) lines
ended_behind section p q piece taken more lines h t = record {
  some = omega (arith, t.some);
  behind = t.behind;
  none = λ L l.
      subst (λ (z : List ℕ). Moves L (at_of p) z [] t.behind) (sym front)
      (moves_on L (at_of p) (in_trailers []) t.behind (take taken piece) (take (more - 1) (drop taken piece)) [] [] (first L) (t.none L l));
  before = λ L l. subst (λ (z : List ℕ). OfRest L nothing_behind (at_of p) z why.Ended) (sym front) ((first L).causes (take (more - 1) (drop taken piece)) why.Ended (t.before L l));
  bytes = t.bytes;
  read = t.read;
}
  where
    first : (L : Bounds) → Moves L (at_of p) (take taken piece) [] (in_trailers [])
    first L = subst (λ (z : At). Moves L (at_of p) (take taken piece) [] z) h.1 (h.2 L)

    front : take (taken + more - 1) piece ≡ take taken piece ++ take (more - 1) (drop taken piece)
    front = ap (λ (n : ℕ). take n piece) (omega (arith, t.some)) ∙ take-add taken (more - 1) piece

pub behind_whole : (section : ℕ) (v w : At) (p q : Phase) (piece : List ℕ) (taken more : ℕ) (lines : List Field) → v ≡ at_of p → Says (at_of p) piece (pushed.Trailers taken) (at_of q)
    → SaysTrailers section [] (drop taken piece) (trailer.Whole more) lines → w ≡ over lines → SaysBody section v piece (steps.Whole (taken + more)) w
behind_whole section v w p q piece taken more lines e h t f = (
  omega (arith, h.0, t.0, length-drop taken piece),
  (lines, f),
  λ L l.
      let first = subst (λ (z : At). Moves L (at_of p) (take taken piece) [] z) h.1 (h.2 L) in
      let both = moves_on L (at_of p) (in_trailers []) (over lines) (take taken piece) (take more (drop taken piece)) [] [] first (t.1 L l) in
      subst (λ (z : At). Moves L z (take (taken + more) piece) [] w) (sym e) (subst (λ (z : At). Moves L (at_of p) (take (taken + more) piece) [] z) (sym f)
      (subst (λ (z : List ℕ). Moves L (at_of p) z [] (over lines)) (sym (take-add taken more piece)) both)),
  subst (λ (z : At). IsEnded section z piece (taken + more) (trailers_of w)) (sym e)
      (subst (λ (z : At). IsEnded section (at_of p) piece (taken + more) (trailers_of z)) (sym f) (ended_behind section p q piece taken more lines h t.2)),
)

pub whole_at : (section : ℕ) (v w : At) (seen piece : List ℕ) (taken : ℕ) (lines : List Field) → v ≡ in_trailers seen → SaysTrailers section seen piece (trailer.Whole taken) lines → w ≡ over lines
    → SaysBody section v piece (steps.Whole taken) w
whole_at section v w seen piece taken lines e t f = (
  t.0,
  (lines, f),
  λ L l. subst (λ (z : At). Moves L z (take taken piece) [] w) (sym e) (subst (λ (z : At). Moves L (in_trailers seen) (take taken piece) [] z) (sym f) (t.1 L l)),
  subst (λ (z : At). IsEnded section z piece taken (trailers_of w)) (sym e) (subst (λ (z : At). IsEnded section (in_trailers seen) piece taken (trailers_of z)) (sym f) t.2),
)

pub need_at : (section : ℕ) (v w : At) (seen piece : List ℕ) (lines : List Field) → v ≡ in_trailers seen → SaysTrailers section seen piece trailer.Need lines → w ≡ in_trailers (seen ++ piece)
    → SaysBody section v piece steps.Need w
need_at section v w seen piece lines e t f L l =
    let more = t L l in (
      subst (λ (z : At). Moves L z piece [] w) (sym e) (subst (λ (z : At). Moves L (in_trailers seen) piece [] z) (sym f) more.0),
      inr (subst (λ (z : At). OfRest L nothing_behind z piece why.Ended) (sym e) more.1),
    )
