-- Bodies in pieces, as places of a reader; and behind a whole message.
use Rattle.std.proofs.lemmas.Bool.{false≢true}
use Rattle.std.proofs.Common.{◌==◌, ◌≡◌, ◌<◌, ◌≤◌, ◌+◌, ◌-◌, arith, ℕ, Bool, false, cond, List, [], ◌∷◌, ◌++◌, map, length, take, Some, refl, sym, ap, subst, ◌∙◌, append_assoc, append-nil, inl, inr}
use Rattle.std.proofs.lemmas.List.{map-append}
use Rattle.std.proofs.lemmas.List.Elements.{All-nil}
use Rattle.bh_spec.specs.declared.H1Why.{H1Why}
use Rattle.bh_spec.specs.declared.H1Why.TheVariants as why
use Rattle.bh_spec.specs.declared.Omitted.{Omitted}
use Rattle.bh_spec.specs.declared.Omitted.TheVariants.{Nothing, Trailers}
use Rattle.bh_spec.specs.Bytes.{AreBytes}
use Rattle.bh_spec.specs.Messages.{Field}
use Rattle.bh_spec.specs.Canonical.{FieldsFit}
use Rattle.bh_spec.specs.Texts.{Text, bytes_of, content_in}
use Rattle.bh_spec.specs.Items.{Item, content_byte, trailer_section, ending, trailer_items, tail_items}
use Rattle.bh_spec.specs.Residuals.{HasRest}
use Rattle.bh_spec.proofs.Marks.{bytes_of-append, content-append}
use Rattle.bh_push.proofs.Contents.{bytes_behind, bytes_joined}
use Rattle.bh_stream.specs.Decoding.{IsSilent}
use Rattle.bh_stream.proofs.Moving.{shorter, bytes-length, items-map}
use Rattle.h1_spec.specs.Cleaning.{clean_trailers}
use Rattle.h1_spec.specs.Translation.{OfEnd}
use Rattle.h1_spec.specs.BodyStates.{At, in_count, over, Rest, Found, OfRest, marked, AreMarked, Moves, IsRefusedFrom}
use Rattle.h1_spec.proofs.BodyMarks.{marked_bytes, marked_front}
use Rattle.h1_spec.proofs.BehindBodies.{rest_lifted}
use Rattle.h1_body.specs.Trailers.{IsEnded}
use Rattle.h1_read.specs.Places.{Setting, Place, in_body, behind_trailers, left_out, BodyRest, RestFrom}
use Rattle.h1_read.specs.Readings.{Goes}
use Rattle.h1_read.specs.ReadingLaws.{goes_here}
use Rattle.h1_read.specs.Readers.{NeedsAt, RefusedAt, IsOver}
use Rattle.h1_read.proofs.Completing.{nothing_fits}
use Rattle.h1_read.proofs.Counts.{body_counts, trailers_counts}

-- ---- content

-- what the items of a rest are, by what it is of
rest_items : (content later : List ℕ) (trailers : List Field) (left : Omitted) → tail_items (content ++ later) trailers left 0 ≡ map content_byte content ++ tail_items later trailers left 0
rest_items content later trailers left =
    ap (λ (q : List Item). q ++ (trailer_items left trailers ++ ending left 0 ∷ [])) (map-append content_byte content later)
    ∙ append_assoc (map content_byte content) (map content_byte later) (trailer_items left trailers ++ ending left 0 ∷ [])

-- the bytes of a rest that begins with some bytes
bytes_are : (S : Setting) (named : List (List ℕ)) (at : At) (q : List Item) (u : Text) (x more : List ℕ) (h : BodyRest S.limits named at q u) → bytes_of u ≡ x ++ more → h.bytes ≡ x ++ more
bytes_are S named at q u x more h e = sym (ap bytes_of h.text_is ∙ marked_bytes at h.bytes) ∙ e

pub body_goes : (S : Setting) (named : List (List ℕ)) (at w : At) (x content : List ℕ) → Moves S.limits at x content w → AreBytes content
    → Goes S (in_body named at) x (map content_byte content) (in_body named w)
body_goes S named at w x content m are = record {
  residual = record { text = m.marks.text; same = m.marks.same; forth = forth; back = back };
  wrong = m.ends named;
  counts = body_counts S.to_head named at w x content m.marks (map content_byte content) (items-map content);
}
  where
    left : left_out at ≡ left_out w
    left = ap (λ (b : Bool). cond b Nothing Trailers) m.kind

    forth : (q : List Item) (u : Text) (more : List ℕ) → BodyRest S.limits named at q u → bytes_of u ≡ x ++ more
        → HasRest (λ (p : List Item). map content_byte content ++ p) (BodyRest S.limits named w) m.marks.text q u
    forth q u more h e =
        let cut = bytes_are S named at q u x more h e in
        let f = m.rest.forth (h.content, h.trailers) more (subst (Rest S.limits at h.content h.trailers) cut h.completes) in
        let b = f.0 in
        let all : h.content ≡ content ++ b.0 = ap (λ (z : Found). z.0) f.1 in
        let ends : h.trailers ≡ b.1 = ap (λ (z : Found). z.1) f.1 in
        record {
          thing = tail_items b.0 (clean_trailers named b.1) (left_out w) 0;
          rest = marked w more;
          spelled = record {
            content = b.0;
            trailers = b.1;
            bytes = more;
            completes = f.2;
            are = bytes_behind content b.0 (subst AreBytes all h.are);
            fits = subst (λ (ts : List Field). FieldsFit S.limits (clean_trailers named ts)) ends h.fits;
            text_is = refl;
            items_are = refl;
          };
          same = h.items_are ∙ ap (λ (c : List ℕ). tail_items c (clean_trailers named h.trailers) (left_out at) 0) all
              ∙ ap (λ (ts : List Field). tail_items (content ++ b.0) (clean_trailers named ts) (left_out at) 0) ends
              ∙ ap (λ (o : Omitted). tail_items (content ++ b.0) (clean_trailers named b.1) o 0) left
              ∙ rest_items content b.0 (clean_trailers named b.1) (left_out w);
          joined = h.text_is ∙ ap (marked at) cut ∙ m.marks.on more;
        }

    back : (q : List Item) (t : Text) → BodyRest S.limits named w q t → BodyRest S.limits named at (map content_byte content ++ q) (m.marks.text ++ t)
    back q t h = record {
      content = content ++ h.content;
      trailers = h.trailers;
      bytes = x ++ h.bytes;
      completes = m.rest.back (h.content, h.trailers) h.bytes h.completes;
      are = bytes_joined content h.content are h.are;
      fits = h.fits;
      text_is = ap (λ (z : Text). m.marks.text ++ z) h.text_is ∙ sym (m.marks.on h.bytes);
      items_are = ap (λ (p : List Item). map content_byte content ++ p)
          (h.items_are ∙ ap (λ (o : Omitted). tail_items h.content (clean_trailers named h.trailers) o 0) (sym left))
          ∙ sym (rest_items content h.content (clean_trailers named h.trailers) (left_out at));
    }

-- Where no content was given, none of the bytes is any.
pub body_silent : (S : Setting) (named : List (List ℕ)) (at w : At) (x : List ℕ) → AreMarked at x [] w → IsSilent (RestFrom S) (in_body named at) x
body_silent S named at w x m q front back more h e =
    let bytes = bytes_of front in
    let cut : h.bytes ≡ bytes ++ bytes_of back = bytes_are S named at q (front ++ back) bytes (bytes_of back) h (bytes_of-append front back) in
    let one = marked_front at bytes (bytes_of back) in
    let two = marked_front at bytes more in
    let is = shorter front back (marked at bytes) one.0 (h.text_is ∙ ap (marked at) cut ∙ one.1) (omega (arith, bytes-length front, bytes-length (marked at bytes), ap (length {A = ℕ}) (marked_bytes at bytes))) in
    let whole : m.text ++ marked w [] ≡ marked at bytes ++ two.0 = sym (m.on []) ∙ ap (marked at) (append-nil x ∙ e) ∙ two.1 in
    omega (
      arith,
      ap content_in is.1,
      content-append front is.0,
      ap content_in whole,
      content-append m.text [],
      content-append (marked at bytes) two.0,
      m.count,
    )

-- ---- the trailer section

pub trailers_goes : (S : Setting) (named : List (List ℕ)) (at : At) (x : List ℕ) (lines : List Field) → Moves S.limits at x [] (over lines) → FieldsFit S.limits (clean_trailers named lines)
    → Goes S (in_body named at) x (trailer_section (clean_trailers named lines) ∷ []) behind_trailers
trailers_goes S named at x lines m fits = record {
  residual = record { text = m.marks.text; same = m.marks.same; forth = forth; back = back };
  wrong = λ more c h. m.ends named more c (inr (λ no. no fits, h));
  counts = trailers_counts S.to_head named at x lines (trailer_section (clean_trailers named lines) ∷ []) m.marks;
}
  where
    left : left_out at ≡ Nothing
    left = ap (λ (b : Bool). cond b Nothing Trailers) m.kind

    forth : (q : List Item) (u : Text) (more : List ℕ) → BodyRest S.limits named at q u → bytes_of u ≡ x ++ more
        → HasRest (λ (p : List Item). trailer_section (clean_trailers named lines) ∷ p) (RestFrom S behind_trailers) m.marks.text q u
    forth q u more h e =
        let cut = bytes_are S named at q u x more h e in
        let f = m.rest.forth (h.content, h.trailers) more (subst (Rest S.limits at h.content h.trailers) cut h.completes) in
        let over_is = f.2 in
        let none : h.content ≡ [] = ap (λ (z : Found). z.0) f.1 ∙ over_is.0 in
        let ends : h.trailers ≡ lines = ap (λ (z : Found). z.1) f.1 ∙ over_is.1 in
        record {
          thing = ending Nothing 0 ∷ [];
          rest = [];
          spelled = (refl, refl);
          same = h.items_are ∙ ap (λ (c : List ℕ). tail_items c (clean_trailers named h.trailers) (left_out at) 0) none
              ∙ ap (λ (ts : List Field). tail_items [] (clean_trailers named ts) (left_out at) 0) ends
              ∙ ap (λ (o : Omitted). tail_items [] (clean_trailers named lines) o 0) left;
          joined = h.text_is ∙ ap (marked at) cut ∙ m.marks.on more ∙ ap (λ (z : List ℕ). m.marks.text ++ marked (over lines) z) over_is.2;
        }

    back : (q : List Item) (t : Text) → RestFrom S behind_trailers q t → BodyRest S.limits named at (trailer_section (clean_trailers named lines) ∷ q) (m.marks.text ++ t)
    back q t h = record {
      content = [];
      trailers = lines;
      bytes = x;
      completes = subst (Rest S.limits at [] lines) (append-nil x) (m.rest.back ([], lines) [] (refl, refl, refl));
      are = All-nil (λ b. b < 256);
      fits = fits;
      text_is = ap (λ (z : Text). m.marks.text ++ z) h.1 ∙ sym (m.marks.on []) ∙ ap (marked at) (append-nil x);
      items_are = ap (λ (p : List Item). trailer_section (clean_trailers named lines) ∷ p) h.0
          ∙ ap (λ (o : Omitted). tail_items [] (clean_trailers named lines) o 0) (sym left);
    }

-- ---- behind a whole message

pub counted_over : (S : Setting) (named : List (List ℕ)) → IsOver S (in_body named (in_count 0))
counted_over S named = record {
  whole = (
    Trailers,
    0,
    record { content = []; trailers = []; bytes = []; completes = (refl, refl, refl); are = All-nil (λ b. b < 256); fits = nothing_fits S.limits; text_is = refl; items_are = refl },
  );
  extra = λ bytes some. inr (omega arith, inr (λ no. no (nothing_fits S.limits), inl (some, refl)));
}

pub trailers_over : (S : Setting) → IsOver S behind_trailers
trailers_over S = record {
  whole = (Nothing, 0, (refl, refl));
  extra = λ bytes some. inl (some, refl);
}

pub some_piece : (piece : List ℕ) → (length piece == 0) ≡ false → piece ≡ [] → ⊥
some_piece [] e f = false≢true (sym e)
some_piece (byte ∷ piece) e f = absurd (cc)

pub over_needs : (S : Setting) (p : Place) → IsOver S p → NeedsAt S p [] p
over_needs S p h = record {
  goes = goes_here S p;
  passes = inl (ending h.whole.0 h.whole.1 ∷ [], [], h.whole.2);
  before = inl h.whole;
}

pub over_refuses : (S : Setting) (p : Place) (piece : List ℕ) → (piece ≡ [] → ⊥) → IsOver S p → RefusedAt S p piece why.Extra
over_refuses S p [] some h = absurd (some refl)
over_refuses S p (byte ∷ rest) some h = record {
  at = 0;
  inside = omega arith;
  state = p;
  goes = goes_here S p;
  before = inl h.whole;
  wrong = λ after. h.extra (byte ∷ after) (λ e. absurd (cc));
  not_end = λ e. absurd (cc);
}

-- ---- what is wrong in a body

pub body_wrong : (S : Setting) (named : List (List ℕ)) (at : At) (piece : List ℕ) (section : ℕ) (cause : H1Why) → S.limits.section ≡ Some section → IsRefusedFrom section at piece cause
    → RefusedAt S (in_body named at) piece cause
body_wrong S named at piece section cause e h = record {
  at = h.at;
  inside = h.inside;
  state = in_body named h.behind;
  goes = body_goes S named at h.behind (take h.at piece) [] (h.none S.limits e) (All-nil (λ b. b < 256));
  before = inr (rest_lifted S.limits (OfEnd S.limits named) at (take h.at piece) why.Ended (h.before S.limits e));
  wrong = λ after. rest_lifted S.limits (OfEnd S.limits named) at (take (h.at + 1) piece ++ after) cause (h.decided S.limits e after);
  not_end = h.not_end;
}

-- A trailer section is whole, and its own lines don't fit.
pub trailers_wrong : (S : Setting) (named : List (List ℕ)) (at : At) (piece : List ℕ) (section taken : ℕ) (lines : List Field) → S.limits.section ≡ Some section
    → taken ≤ length piece → Moves S.limits at (take taken piece) [] (over lines) → IsEnded section at piece taken lines → (FieldsFit S.limits (clean_trailers named lines) → ⊥)
    → RefusedAt S (in_body named at) piece why.TrailerLimit
trailers_wrong S named at piece section taken lines e inside m h wide = record {
  at = taken - 1;
  inside = omega (arith, h.some, inside);
  state = in_body named h.behind;
  goes = body_goes S named at h.behind (take (taken - 1) piece) [] (h.none S.limits e) (All-nil (λ b. b < 256));
  before = inr (rest_lifted S.limits (OfEnd S.limits named) at (take (taken - 1) piece) why.Ended (h.before S.limits e));
  wrong = λ after. subst (λ (k : ℕ). OfRest S.limits (OfEnd S.limits named) at (take k piece ++ after) why.TrailerLimit) (omega (arith, h.some)) (m.ends named after why.TrailerLimit (inl (wide, refl)));
  not_end = λ f. absurd (cc);
}
