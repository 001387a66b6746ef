-- Heads in pieces, as places of a reader: in a head, behind one of an informational response, and behind one that is wrong.
use Rattle.std.proofs.Common.{◌≡◌, ◌<◌, ◌≤◌, ◌+◌, ◌-◌, arith, ℕ, zero, suc, List, [], ◌∷◌, ◌++◌, length, take, drop, Some, refl, sym, ap, subst, ◌∙◌, append_assoc, inl, inr}
use Rattle.std.proofs.lemmas.Bool.{cases_lt}
use Rattle.std.proofs.lemmas.List.{length-append, length-take, length-take-le, take-take, take-append-le, take-append-drop}
use Rattle.std.proofs.Math.Seq.{take-append-add, take-append_seam}
use Rattle.bh_spec.specs.declared.H1Why.{H1Why}
use Rattle.bh_spec.specs.declared.H1Why.TheVariants as why
use Rattle.bh_spec.specs.Bounds.{IsWithin}
use Rattle.bh_spec.specs.Messages.{Interim}
use Rattle.bh_spec.specs.Texts.{Text, bytes_of, content_in, ◌then◌, AreEach}
use Rattle.bh_spec.specs.Items.{Item}
use Rattle.bh_spec.specs.Residuals.{HasRest}
use Rattle.bh_spec.proofs.Marks.{bytes_of-append, content-append}
use Rattle.bh_stream.specs.Decoding.{IsSilent}
use Rattle.bh_stream.proofs.Moving.{shorter, bytes-length}
use Rattle.h1_spec.specs.Heads.{EndsBlank, EndsAt, HoldsNoEnd}
use Rattle.h1_spec.specs.Http1.{IsHeadWithin, IsInterimHead, interims_of}
use Rattle.h1_spec.specs.Marks.{as_framing}
use Rattle.h1_spec.specs.Translation.{OfWholeHead, OfHead}
use Rattle.h1_spec.proofs.BodyMarks.{framing_bytes, framing_none}
use Rattle.h1_spec.proofs.TrailerEnds.{ends_later, none_front, none_before, ends_longer}
use Rattle.h1_head.specs.Ends.{ReaderView, IsOpen, IsWhole as IsWholeHead, IsPast}
use Rattle.h1_read.specs.Places.{Setting, in_head, HeadRest, RestFrom}
use Rattle.h1_read.specs.Wrong.{OfHeads, WrongFrom}
use Rattle.h1_read.specs.Readings.{Goes}
use Rattle.h1_read.specs.Readers.{NeedsAt, RefusedAt}
use Rattle.h1_read.proofs.HeadParts.{heads_bytes, some_end, framing_split}
use Rattle.h1_read.proofs.Counts.{head_counts}

-- ---- where the first head ends

-- bytes that hold no end yet are some of the heads'
in_heads : (seen heads b x more : List ℕ) (many : ℕ) → heads ++ b ≡ x ++ more → HoldsNoEnd (seen ++ x) → EndsAt (seen ++ heads) many → length x ≤ length heads
in_heads seen heads b x more many e none ends =
    elim (cases_lt (length heads) (length x)) [
      | inl less ↦ (
          let cut = shorter heads b x more e (omega (arith, less)) in
          let longer : seen ++ x ≡ (seen ++ heads) ++ cut.0 = ap (λ (z : List ℕ). seen ++ z) cut.1 ∙ sym (append_assoc seen heads cut.0) in
          absurd (none many (subst EndsBlank (sym (ap (take many) longer ∙ take-append-le many (seen ++ heads) cut.0 ends.within)) ends.ends))
          )
      | inr le ↦ le
    ]

-- ---- in a head

-- the same with the heads cut at another place
reheaded : (S : Setting) (n : ℕ) (seen : List ℕ) (q : List Item) (u : Text) (h : HeadRest S n seen q u) (other heads : List ℕ) → seen ++ h.heads ≡ other ++ heads
    → HeadRest S n other q (as_framing heads ++ h.body)
reheaded S n seen q u h other heads e = record {
  start = h.start;
  head = h.head;
  heads = heads;
  body = h.body;
  behind = h.behind;
  text = subst (λ (z : List ℕ). (AreEach (IsInterimHead S.limits) (interims_of h.start) then IsHeadWithin S.limits h.head) z) e h.text;
  says = h.says;
  next = h.next;
  few = h.few;
  coded = h.coded;
  counted = h.counted;
  start_fits = h.start_fits;
  fields_fit = h.fields_fit;
  tail = h.tail;
  items_are = h.items_are;
  text_is = refl;
}

-- where no head is over, nothing is handed out
pub head_goes : (S : Setting) (n : ℕ) (seen x : List ℕ) → HoldsNoEnd (seen ++ x) → Goes S (in_head n seen) x [] (in_head n (seen ++ x))
head_goes S n seen x none = record {
  residual = record { text = as_framing x; same = framing_bytes x; forth = forth; back = back };
  wrong = λ more cause h. subst (λ (z : List ℕ). OfHeads S n z cause) (append_assoc seen x more) h;
  counts = head_counts S.to_head n seen x none;
}
  where
    forth : (q : List Item) (u : Text) (more : List ℕ) → HeadRest S n seen q u → bytes_of u ≡ x ++ more → HasRest (λ (i : List Item). i) (HeadRest S n (seen ++ x)) (as_framing x) q u
    forth q u more h e =
        let joined : h.heads ++ bytes_of h.body ≡ x ++ more = sym (heads_bytes h.heads h.body u h.text_is) ∙ e in
        let end = some_end S.limits (interims_of h.start) h.head (seen ++ h.heads) h.text in
        let cut = shorter x more h.heads (bytes_of h.body) (sym joined) (in_heads seen h.heads (bytes_of h.body) x more end.0 joined none end.1) in
        record {
          thing = q;
          rest = as_framing cut.0 ++ h.body;
          spelled = reheaded S n seen q u h (seen ++ x) cut.0 (ap (λ (z : List ℕ). seen ++ z) cut.1 ∙ sym (append_assoc seen x cut.0));
          same = refl;
          joined = h.text_is ∙ ap (λ (z : List ℕ). as_framing z ++ h.body) cut.1 ∙ framing_split x cut.0 h.body;
        }

    back : (q : List Item) (t : Text) → HeadRest S n (seen ++ x) q t → HeadRest S n seen q (as_framing x ++ t)
    back q t h = subst (HeadRest S n seen q) (framing_split x h.heads h.body ∙ ap (λ (z : Text). as_framing x ++ z) (sym h.text_is))
        (reheaded S n (seen ++ x) q t h seen (x ++ h.heads) (append_assoc seen x h.heads))

-- and no byte is content
pub head_silent : (S : Setting) (n : ℕ) (seen x : List ℕ) → HoldsNoEnd (seen ++ x) → IsSilent (RestFrom S) (in_head n seen) x
head_silent S n seen x none q front back more h e =
    let bytes = bytes_of front in
    let joined : h.heads ++ bytes_of h.body ≡ bytes ++ bytes_of back = sym (heads_bytes h.heads h.body (front ++ back) h.text_is) ∙ bytes_of-append front back in
    let end = some_end S.limits (interims_of h.start) h.head (seen ++ h.heads) h.text in
    let longer : seen ++ x ≡ (seen ++ bytes) ++ more = ap (λ (z : List ℕ). seen ++ z) e ∙ sym (append_assoc seen bytes more) in
    let quiet : HoldsNoEnd (seen ++ bytes) = subst HoldsNoEnd (ap (take (length (seen ++ bytes))) longer ∙ take-append_seam (seen ++ bytes) more) (none_front (length (seen ++ bytes)) (seen ++ x) none) in
    let few = in_heads seen h.heads (bytes_of h.body) bytes (bytes_of back) end.0 joined quiet end.1 in
    let cut = shorter front back (as_framing h.heads) h.body h.text_is (omega (arith, few, bytes-length front, ap length (framing_bytes h.heads), bytes-length (as_framing h.heads))) in
    omega (arith, framing_none h.heads, ap content_in cut.1, content-append front cut.0)

-- ---- what is wrong in a head

abbrev pub dummies : ℕ → List Interim
dummies zero = []
dummies (suc n) = record { status = 0; fields = [] } ∷ dummies n

pub many_dummies : (n : ℕ) → length (dummies n) ≡ n
many_dummies zero = refl
many_dummies (suc n) = ap suc (many_dummies n)

-- what is wrong with the next head, whatever those before it were
pub of_next : (S : Setting) (n : ℕ) (bytes : List ℕ) (cause : H1Why) → IsWithin S.limits.interims n
    → ((before : List Interim) → length before ≡ n → OfHead S.limits S.scheme S.to_head before bytes cause) → OfHeads S n bytes cause
of_next S n bytes cause few says = record {
  earlier = dummies n;
  many = many_dummies n;
  interims = [];
  few = subst (IsWithin S.limits.interims) (omega arith) few;
  text = ([], bytes, refl, says (dummies n ++ []) (omega (arith, length-append (dummies n) [], many_dummies n)), refl);
}

same_some : (a b : ℕ) → Some a ≡ Some b → a ≡ b
same_some a b e = cc

-- there are too few bytes
pub head_ended : (S : Setting) (n : ℕ) (seen x : List ℕ) (limit : ℕ) → IsWithin S.limits.interims n → S.limits.section ≡ Some limit → HoldsNoEnd (seen ++ x) → length (seen ++ x) < limit
    → WrongFrom S (in_head n seen) x why.Ended
head_ended S n seen x limit few e none room = of_next S n (seen ++ x) why.Ended few (λ before long. inr (inl (
  record {
    short = λ most f. omega (arith, room, same_some limit most (sym e ∙ f));
    none = λ many h. none many h.ends;
  },
  refl,
)))

-- the bytes that were seen, and so many of the piece
front_is : (seen piece : List ℕ) (k : ℕ) → take (length seen + k) (seen ++ piece) ≡ seen ++ take k piece
front_is seen piece k = take-append-add seen piece k

-- As many bytes as the limit hold no end.
pub head_past : (S : Setting) (n : ℕ) (heads after : ReaderView) (piece : List ℕ) → IsWithin S.limits.interims n → S.limits.section ≡ Some heads.limit
    → length heads.seen < heads.limit → IsPast heads piece after → RefusedAt S (in_head n heads.seen) piece why.HeadLimit
head_past S n heads after piece few e short step = record {
  at = at;
  inside = omega (arith, short, step.many, length-append heads.seen piece);
  state = in_head n (heads.seen ++ take at piece);
  goes = head_goes S n heads.seen (take at piece) quiet;
  before = inr (head_ended S n heads.seen (take at piece) heads.limit few e quiet (omega (arith, short, length-append heads.seen (take at piece), length-take at piece)));
  wrong = λ more. of_next S n (heads.seen ++ (take (at + 1) piece ++ more)) why.HeadLimit few (λ before long. inl (
    record {
      most = heads.limit;
      limited = e;
      long = omega (arith, full, length-append heads.seen (take (at + 1) piece ++ more), length-append heads.seen (take (at + 1) piece), length-append (take (at + 1) piece) more);
      none = λ many less h.
          let cut : take many (heads.seen ++ (take (at + 1) piece ++ more)) ≡ take many after.seen =
          ap (take many) (sym (append_assoc heads.seen (take (at + 1) piece) more))
          ∙ take-append-le many (heads.seen ++ take (at + 1) piece) more (omega (arith, less, full)) ∙ ap (take many) (sym all) in
          step.none many (subst EndsBlank cut h.ends);
    },
    refl,
  ));
  not_end = λ f. absurd (cc);
}
  where
    at : ℕ
    at = heads.limit - length heads.seen - 1

    all : after.seen ≡ heads.seen ++ take (at + 1) piece
    all = step.seen ∙ ap (λ (k : ℕ). take k (heads.seen ++ piece)) (omega (arith, short)) ∙ front_is heads.seen piece (at + 1)

    full : length (heads.seen ++ take (at + 1) piece) ≡ heads.limit
    full = omega (arith, short, step.many, length-append heads.seen piece, length-append heads.seen (take (at + 1) piece), length-take (at + 1) piece)

    quiet : HoldsNoEnd (heads.seen ++ take at piece)
    quiet = subst HoldsNoEnd (ap (take (length heads.seen + at)) all ∙ front_is heads.seen (take (at + 1) piece) at ∙ ap (λ (z : List ℕ). heads.seen ++ z) (take-take at (at + 1) piece (omega arith)))
        (none_front (length heads.seen + at) after.seen step.none)

-- no head is over in the whole piece
pub head_needs : (S : Setting) (n : ℕ) (heads after : ReaderView) (piece : List ℕ) → IsWithin S.limits.interims n → S.limits.section ≡ Some heads.limit
    → IsOpen heads piece after → NeedsAt S (in_head n heads.seen) piece (in_head n after.seen)
head_needs S n heads after piece few e step =
    let quiet : HoldsNoEnd (heads.seen ++ piece) = subst HoldsNoEnd step.seen step.none in
    record {
      goes = subst (λ (z : List ℕ). Goes S (in_head n heads.seen) piece [] (in_head n z)) (sym step.seen) (head_goes S n heads.seen piece quiet);
      passes = inr (head_silent S n heads.seen piece quiet);
      before = inr (head_ended S n heads.seen piece heads.limit few e quiet step.more);
    }

-- A head is over, and is wrong.
pub head_wrong : (S : Setting) (n : ℕ) (heads after : ReaderView) (piece : List ℕ) (taken : ℕ) (cause : H1Why) → IsWithin S.limits.interims n → S.limits.section ≡ Some heads.limit
    → HoldsNoEnd heads.seen → IsWholeHead heads piece taken after
    → ((interims : List Interim) (rest : List ℕ) → length interims ≡ n → OfWholeHead S.limits S.scheme S.to_head interims after.seen rest cause) → (cause ≡ why.Ended → ⊥)
    → RefusedAt S (in_head n heads.seen) piece cause
head_wrong S n heads after piece taken cause few e none step says not_end = record {
  at = taken - 1;
  inside = omega (arith, some, step.within);
  state = in_head n (heads.seen ++ take (taken - 1) piece);
  goes = head_goes S n heads.seen (take (taken - 1) piece) quiet;
  before = inr (head_ended S n heads.seen (take (taken - 1) piece) heads.limit few e quiet
      (omega (arith, some, step.fits, step.within, length-append heads.seen (take (taken - 1) piece), length-take (taken - 1) piece)));
  wrong = λ more. subst (λ (z : List ℕ). OfHeads S n z cause)
      (append_assoc heads.seen (take taken piece) more ∙ ap (λ (k : ℕ). heads.seen ++ (take k piece ++ more)) (omega (arith, some)))
      (of_next S n (y ++ more) cause few (λ before long. inr (inr (record {
        many = length y;
        ends = ends_longer y (drop taken piece) more ends;
        within = subst (λ (o : _). IsWithin o (length y)) (sym e) (omega (arith, size, step.fits));
        says = subst (λ (z : List ℕ). OfWholeHead S.limits S.scheme S.to_head before z (drop (length y) (y ++ more)) cause) (sym (take-append_seam y more))
            (subst (λ (z : List ℕ). OfWholeHead S.limits S.scheme S.to_head before z (drop (length y) (y ++ more)) cause) step.seen (says before (drop (length y) (y ++ more)) long));
      }))));
  not_end = not_end;
}
  where
    some : 0 < taken
    some = ends_later heads.seen piece taken none step.ends

    y : List ℕ
    y = heads.seen ++ take taken piece

    size : length (heads.seen ++ take taken piece) ≡ length heads.seen + taken
    size = omega (arith, step.within, length-append heads.seen (take taken piece), length-take-le taken piece step.within)

    quiet : HoldsNoEnd (heads.seen ++ take (taken - 1) piece)
    quiet = subst HoldsNoEnd (front_is heads.seen piece (taken - 1))
        (none_before (heads.seen ++ piece) (length heads.seen + taken) (length heads.seen + (taken - 1)) step.ends (omega (arith, some)))

    ends : EndsAt ((heads.seen ++ take taken piece) ++ drop taken piece) (length (heads.seen ++ take taken piece))
    ends = subst (EndsAt ((heads.seen ++ take taken piece) ++ drop taken piece)) (sym size)
        (subst (λ (z : List ℕ). EndsAt z (length heads.seen + taken))
        (ap (λ (z : List ℕ). heads.seen ++ z) (sym (take-append-drop taken piece)) ∙ sym (append_assoc heads.seen (take taken piece) (drop taken piece))) step.ends)
