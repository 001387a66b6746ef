-- What the step of a head reader says of a trailer section.
use Rattle.std.proofs.Common.{◌≡◌, ◌<◌, ◌≤◌, ◌+◌, ◌-◌, arith, ℕ, zero, suc, List, [], ◌++◌, length, take, drop, Option, Some, sym, ap, subst, ◌∙◌, append_assoc, append-nil}
use Rattle.std.proofs.Math.Seq.{take-append-add}
use Rattle.std.proofs.lemmas.List.{length-append, length-take, length-take-le, take_all, take-take, take-append-le, take-append-drop}
use Rattle.bh_spec.specs.Bounds.{Bounds, IsWithin}
use Rattle.bh_spec.specs.Messages.{Field}
use Rattle.bh_model.specs.Lines.{FieldsView}
use Rattle.bh_spec.specs.declared.H1Why.TheVariants as why
use Rattle.h1_spec.specs.Grammar.{crlf}
use Rattle.h1_spec.specs.Heads.{IsSection, EndsBlank, EndsAt}
use Rattle.h1_spec.specs.BodyCauses.{OfTrailers}
use Rattle.h1_spec.specs.Heads.{HoldsNoEnd}
use Rattle.h1_head.specs.Ends.{ReaderView, IsOpen, IsWhole, IsPast}
use Rattle.h1_spec.specs.BodyStates.{in_trailers, over, OfRest, nothing_behind, Moves, IsRefusedFrom}
use Rattle.h1_body.specs.Trailers.{IsReady, IsEnded}
use Rattle.h1_spec.proofs.TrailerEnds.{ends_later, none_front, none_before, trailers_on, trailers_unended, trailers_past, trailers_wrong, trailers_over}

-- the bytes that were seen, the piece among them
seen_on : (section : ℕ) (seen piece : List ℕ) (head : ReaderView) (spans : ℕ) (fields : FieldsView) → IsReady section seen head spans fields → head.seen ++ piece ≡ crlf ++ (seen ++ piece)
seen_on section seen piece head spans fields r = ap (λ (z : List ℕ). z ++ piece) r.seen_is ∙ append_assoc crlf seen piece

pub need_says : (section : ℕ) (seen piece : List ℕ) (head after : ReaderView) (spans : ℕ) (fields : FieldsView) → IsReady section seen head spans fields → IsOpen head piece after
    → (L : Bounds) → L.section ≡ Some section → Moves L (in_trailers seen) piece [] (in_trailers (seen ++ piece)) × OfRest L nothing_behind (in_trailers seen) piece why.Ended
need_says section seen piece head after spans fields r step L e =
    let same = seen_on section seen piece head spans fields r in (
      trailers_on L seen piece,
      subst (λ (z : List ℕ). OfTrailers L nothing_behind z why.Ended) (append-nil (seen ++ piece))
          (trailers_unended L section (seen ++ piece) e (subst HoldsNoEnd (step.seen ∙ same) step.none)
          (omega (arith, step.more, r.limit, ap (length {A = ℕ}) same))),
    )

pub ready_on : (section : ℕ) (seen piece : List ℕ) (head after : ReaderView) (spans : ℕ) (fields : FieldsView) → IsReady section seen head spans fields → IsOpen head piece after
    → after.limit ≡ head.limit → IsReady section (seen ++ piece) after spans fields
ready_on section seen piece head after spans fields r step l = record {
  seen_is = step.seen ∙ seen_on section seen piece head spans fields r;
  none = step.none;
  limit = l ∙ r.limit;
  more = omega (arith, step.more, l, ap (length {A = ℕ}) step.seen);
  small = r.small;
  room = r.room;
  empty = r.empty;
  idle = r.idle;
  spare = r.spare;
  free = r.free;
}

-- a front of the bytes that were seen, the piece among them
front_on : (section : ℕ) (seen piece : List ℕ) (head : ReaderView) (spans : ℕ) (fields : FieldsView) (k : ℕ) → IsReady section seen head spans fields
    → take (length head.seen + k) (head.seen ++ piece) ≡ crlf ++ (seen ++ take k piece)
front_on section seen piece head spans fields k r =
    take-append-add head.seen piece k ∙ ap (λ (z : List ℕ). z ++ take k piece) r.seen_is ∙ append_assoc crlf seen (take k piece)

-- the bytes before the one that decides are too few
short_on : (section : ℕ) (seen piece : List ℕ) (head : ReaderView) (spans : ℕ) (fields : FieldsView) (k : ℕ) → IsReady section seen head spans fields
    → HoldsNoEnd (take (length head.seen + k) (head.seen ++ piece)) → length head.seen + k < section + 2
    → (L : Bounds) → L.section ≡ Some section → OfRest L nothing_behind (in_trailers seen) (take k piece) why.Ended
short_on section seen piece head spans fields k r none room L e =
    let same = front_on section seen piece head spans fields k r in
    subst (λ (z : List ℕ). OfTrailers L nothing_behind z why.Ended) (append-nil (seen ++ take k piece))
    (trailers_unended L section (seen ++ take k piece) e (subst HoldsNoEnd same none)
    (omega (arith, room, ap (length {A = ℕ}) same, length-take (length head.seen + k) (head.seen ++ piece))))

pub limit_says : (section : ℕ) (seen piece : List ℕ) (head after : ReaderView) (spans : ℕ) (fields : FieldsView) → IsReady section seen head spans fields → IsPast head piece after
    → IsRefusedFrom section (in_trailers seen) piece why.TrailerLimit
limit_says section seen piece head after spans fields r step = record {
  at = at;
  behind = in_trailers (seen ++ take at piece);
  none = λ L e. trailers_on L seen (take at piece);
  inside = omega (arith, long, step.many, r.limit, length-append head.seen piece, r.more);
  before = short_on section seen piece head spans fields at r
      (subst HoldsNoEnd (ap (take (length head.seen + at)) step.seen ∙ take-take (length head.seen + at) head.limit (head.seen ++ piece) (omega (arith, long, r.limit, r.more)))
      (none_front (length head.seen + at) after.seen step.none))
      (omega (arith, long, r.limit, r.more));
  decided = λ L e more.
      subst (λ (z : List ℕ). OfTrailers L nothing_behind z why.TrailerLimit) (append_assoc seen (take (at + 1) piece) more)
      (trailers_past L section (seen ++ take (at + 1) piece) more e full
      (subst HoldsNoEnd (step.seen ∙ ap (λ (n : ℕ). take n (head.seen ++ piece)) whole ∙ front ∙ sym (take_all (section + 2) (crlf ++ (seen ++ take (at + 1) piece)) exact)) step.none));
  not_end = λ f. absurd (cc);
}
  where
    long : length head.seen ≡ 2 + length seen
    long = omega (arith, ap (length {A = ℕ}) r.seen_is)

    at : ℕ
    at = section - length seen - 1

    whole : head.limit ≡ length head.seen + (at + 1)
    whole = omega (arith, long, r.limit, r.more)

    front : take (length head.seen + (at + 1)) (head.seen ++ piece) ≡ crlf ++ (seen ++ take (at + 1) piece)
    front = front_on section seen piece head spans fields (at + 1) r

    size : length (crlf ++ (seen ++ take (at + 1) piece)) ≡ section + 2
    size = omega (arith, ap (length {A = ℕ}) front, length-take (length head.seen + (at + 1)) (head.seen ++ piece), whole, r.limit, step.many)

    full : section + 2 ≤ length (crlf ++ (seen ++ take (at + 1) piece))
    full = omega (arith, size)

    exact : length (crlf ++ (seen ++ take (at + 1) piece)) ≤ section + 2
    exact = omega (arith, size)

-- the section that was found
pub found : (section taken : ℕ) (seen piece : List ℕ) (head after : ReaderView) (spans : ℕ) (fields : FieldsView) → IsReady section seen head spans fields → IsWhole head piece taken after
    → drop 2 after.seen ≡ seen ++ take taken piece
found section taken seen piece head after spans fields r step =
    ap (drop 2) (step.seen ∙ ap (λ (z : List ℕ). z ++ take taken piece) r.seen_is ∙ append_assoc crlf seen (take taken piece))

fits : (section taken : ℕ) (seen piece : List ℕ) (head after : ReaderView) (spans : ℕ) (fields : FieldsView) → IsReady section seen head spans fields → IsWhole head piece taken after
    → length (seen ++ take taken piece) ≤ section
fits section taken seen piece head after spans fields r step =
    omega (arith, step.fits, r.limit, ap (length {A = ℕ}) r.seen_is, length-append seen (take taken piece), length-take-le taken piece step.within)

-- the bytes before the last are too few
last_missing : (section taken : ℕ) (seen piece : List ℕ) (head after : ReaderView) (spans : ℕ) (fields : FieldsView) → IsReady section seen head spans fields → IsWhole head piece taken after
    → (L : Bounds) → L.section ≡ Some section → OfRest L nothing_behind (in_trailers seen) (take (taken - 1) piece) why.Ended
last_missing section taken seen piece head after spans fields r step =
    let some = ends_later head.seen piece taken r.none step.ends in
    short_on section seen piece head spans fields (taken - 1) r
    (none_before (head.seen ++ piece) (length head.seen + taken) (length head.seen + (taken - 1)) step.ends (omega (arith, some))) (omega (arith, some, step.fits, r.limit))

pub wrong_says : (section taken : ℕ) (seen piece : List ℕ) (head after : ReaderView) (spans : ℕ) (fields : FieldsView) → IsReady section seen head spans fields → IsWhole head piece taken after
    → ((lines : List Field) → IsSection lines (seen ++ take taken piece) → ⊥) → IsRefusedFrom section (in_trailers seen) piece why.TrailerForm
wrong_says section taken seen piece head after spans fields r step wrong = record {
  at = taken - 1;
  behind = in_trailers (seen ++ take (taken - 1) piece);
  none = λ L e. trailers_on L seen (take (taken - 1) piece);
  inside = omega (arith, ends_later head.seen piece taken r.none step.ends, step.within);
  before = last_missing section taken seen piece head after spans fields r step;
  decided = λ L e more.
      subst (λ (n : ℕ). OfTrailers L nothing_behind (seen ++ (take n piece ++ more)) why.TrailerForm) (omega (arith, ends_later head.seen piece taken r.none step.ends))
      (subst (λ (z : List ℕ). OfTrailers L nothing_behind z why.TrailerForm) (append_assoc seen (take taken piece) more)
      (trailers_wrong L section x rest more e (subst (λ (n : ℕ). EndsAt (crlf ++ (x ++ rest)) n) long (subst (λ (z : List ℕ). EndsAt z (length head.seen + taken)) bytes step.ends))
      (fits section taken seen piece head after spans fields r step) wrong));
  not_end = λ f. absurd (cc);
}
  where
    x : List ℕ
    x = seen ++ take taken piece

    rest : List ℕ
    rest = drop taken piece

    joined : x ++ rest ≡ seen ++ piece
    joined = append_assoc seen (take taken piece) rest ∙ ap (λ (z : List ℕ). seen ++ z) (take-append-drop taken piece)

    bytes : head.seen ++ piece ≡ crlf ++ (x ++ rest)
    bytes = seen_on section seen piece head spans fields r ∙ ap (λ (z : List ℕ). crlf ++ z) (sym joined)

    long : length head.seen + taken ≡ length x + 2
    long = omega (arith, ap (length {A = ℕ}) r.seen_is, length-append seen (take taken piece), length-take-le taken piece step.within)

pub whole_says : (section taken : ℕ) (seen piece : List ℕ) (head after : ReaderView) (spans : ℕ) (fields : FieldsView) (lines : List Field) → IsReady section seen head spans fields → IsWhole head piece taken after
    → IsSection lines (seen ++ take taken piece) → (L : Bounds) → L.section ≡ Some section → Moves L (in_trailers seen) (take taken piece) [] (over lines)
whole_says section taken seen piece head after spans fields lines r step h L e =
    trailers_over L section seen (take taken piece) lines e (fits section taken seen piece head after spans fields r step) h

pub whole_ends : (section taken : ℕ) (seen piece : List ℕ) (head after : ReaderView) (spans : ℕ) (fields : FieldsView) (lines : List Field) → IsReady section seen head spans fields → IsWhole head piece taken after
    → IsSection lines (seen ++ take taken piece) → IsEnded section (in_trailers seen) piece taken lines
whole_ends section taken seen piece head after spans fields lines r step h = record {
  some = ends_later head.seen piece taken r.none step.ends;
  behind = in_trailers (seen ++ take (taken - 1) piece);
  none = λ L e. trailers_on L seen (take (taken - 1) piece);
  before = last_missing section taken seen piece head after spans fields r step;
  bytes = seen ++ take taken piece;
  read = λ L e. (subst (λ (o : Option ℕ). IsWithin o (length (seen ++ take taken piece))) (sym e) (fits section taken seen piece head after spans fields r step), h);
}
