-- Bodies at the front of bytes.
use Rattle.std.proofs.Common.{◌≡◌, ◌<◌, arith, ℕ, List, [], ◌∷◌, ◌++◌, length, codes, refl, sym, ap, subst, ◌∙◌, append_assoc, inl, inr}
use Rattle.std.specs.Prelude.{flat_map}
use Rattle.std.proofs.lemmas.List.{length-append, append_cancel_right}
use Rattle.std.proofs.lemmas.List.Elements.{All-weaker}
use Rattle.bh_spec.specs.Texts.{◌then◌, AreEach}
use Rattle.bh_spec.specs.Bounds.{Bounds}
use Rattle.bh_spec.specs.Messages.{Field}
use Rattle.bh_spec.specs.declared.H1Why.{H1Why}
use Rattle.bh_spec.specs.declared.H1Why.TheVariants as why
use Rattle.h1_spec.specs.declared.Framing1.TheVariants.{Empty, Counted, Chunked, ToEnd}
use Rattle.h1_spec.specs.Grammar.{crlf}
use Rattle.h1_spec.specs.Heads.{IsSection}
use Rattle.h1_spec.specs.Bodies.{IsChunkLine, IsChunk, IsTrailerSection}
use Rattle.h1_spec.specs.BodyCauses.{TrailerEndsAt, OfTrailers, OfNextChunk}
use Rattle.h1_spec.specs.Http1Text.{chunk_text}
use Rattle.h1_spec.specs.Written.{IsPiece, section_text, last_text}
use Rattle.h1_spec.specs.BodyStates.{nothing_behind}
use Rattle.h1_spec.specs.BodyCalls.{OneInFront, NoneBehindBody, WrittenIsBody}
use Rattle.h1_spec.proofs.Fronts.{same_each}
use Rattle.h1_spec.proofs.BodyTexts.{chunk_line_front, chunk_front, chunk_apart, chunked_front}
use Rattle.h1_spec.proofs.Ends.{trailer_ends_once, trailers_end}
use Rattle.h1_spec.proofs.Causes.{when_not, section_found, FoundTrailers, Whole, line_or_cause, chunk_passes}
use Rattle.h1_spec.proofs.Written.{chunks_written, chunk_line_written, section_written}

abbrev IsSome : List ℕ → Type 0
IsSome chunk = 0 < length chunk

abbrev Last : Bounds → List Field → List ℕ → Type 0
Last L fs = IsChunkLine 0 then IsTrailerSection L fs

-- the same with bytes behind
abbrev LastWith : Bounds → List Field → List ℕ → List ℕ → Type 0
LastWith L fs r z = (y : List ℕ) × Last L fs y × (z ≡ y ++ r)

-- ---- nothing is wrong

trailers_behind : (L : Bounds) (fs : List Field) (x r : List ℕ) (c : H1Why) → IsTrailerSection L fs x → OfTrailers L nothing_behind (x ++ r) c → ⊥
trailers_behind L fs x r c h cause =
    let found = section_found (TrailerEndsAt (x ++ r)) L.section x r why.TrailerLimit (FoundTrailers nothing_behind) c (trailer_ends_once (x ++ r)) (trailers_end fs x r h.1) h.0 cause in
    (when_not why.TrailerForm ((trailers : List Field) → IsSection trailers x → ⊥) (Whole nothing_behind x r) c (λ n. n fs h.1) found).2

last_behind : (L : Bounds) (fs : List Field) (x r : List ℕ) (c : H1Why) → Last L fs x → OfNextChunk L nothing_behind (x ++ r) c → ⊥
last_behind L fs x r c h p = by_cause p
  where
    split : x ++ r ≡ h.0 ++ (h.1 ++ r)
    split = ap (λ (z : List ℕ). z ++ r) h.4 ∙ append_assoc h.0 h.1 r

    by_cause : OfNextChunk L nothing_behind (x ++ r) c → ⊥
    by_cause (inl p) = line_or_cause L nothing_behind (x ++ r) h.0 (h.1 ++ r) 0 c split h.2 p
    by_cause (inr p) =
        let both = chunk_line_front 0 p.0 h.0 p.1 (h.1 ++ r) p.2 h.2 p.4 (sym split ∙ p.3) in
        elim p.5 [
          | inl q ↦ omega (arith, both.0, q.0)
          | inr q ↦ trailers_behind L fs h.1 r c h.3 (subst (λ (z : List ℕ). OfTrailers L nothing_behind z c) (sym both.1) q.1)
        ]

chunks_with : (L : Bounds) (fs : List Field) (chunks : List (List ℕ)) (x r : List ℕ) → (AreEach IsChunk chunks then Last L fs) x → (AreEach IsChunk chunks then LastWith L fs r) (x ++ r)
chunks_with L fs chunks x r h = (h.0, h.1 ++ r, h.2, (h.1, h.3, refl), ap (λ (z : List ℕ). z ++ r) h.4 ∙ append_assoc h.0 h.1 r)

line_with : (L : Bounds) (fs : List Field) (r z : List ℕ) → LastWith L fs r z → (IsChunkLine 0 then λ rest. Unit {0}) z
line_with L fs r z h = let p = h.1 in (p.0, p.1 ++ r, p.2, tt, h.2 ∙ ap (λ (y : List ℕ). y ++ r) p.4 ∙ append_assoc p.0 p.1 r)

pub none_behind_body : NoneBehindBody
none_behind_body L Empty c fs x r cause h p = p
none_behind_body L (Counted n) c fs x r cause h (inl p) = omega (arith, p.0, h.0, ap (length {A = ℕ}) h.2, length-append x r)
none_behind_body L (Counted n) c fs x r cause h (inr p) = p.1
none_behind_body L ToEnd c fs x r cause h p = p
none_behind_body L Chunked c fs x r cause h p =
    let S : List ℕ → Type 0 = LastWith L fs r in
    let S' : List ℕ → Type 0 = λ rest. OfNextChunk L nothing_behind rest cause in
    (same_each ⊥ IsSome IsChunk IsChunk S S'
    (record {
      items = λ a b m n. chunk_front a b;
      ends = λ y z f g e. last_behind L fs f.0 r cause f.1 (subst S' (sym e ∙ f.2) g);
      left = λ a n y z s f g e. chunk_passes L nothing_behind a y s cause n f (subst S' (sym e) g);
      right = λ b n y z s f g e. chunk_apart b n z y s (λ rest. Unit {0}) g (line_with L fs r y f) (sym e);
    })
    h.0 p.0 h.2 p.1 (x ++ r) (x ++ r) (chunks_with L fs h.0 x r h.3) p.2 refl).1

-- ---- one body

same_length : (a b r s : List ℕ) → length a ≡ length b → a ++ r ≡ b ++ s → a ≡ b
same_length [] [] r s e f = refl
same_length [] (y ∷ b) r s e f = absurd (omega (arith, e))
same_length (x ∷ a) [] r s e f = absurd (omega (arith, e))
same_length (x ∷ a) (y ∷ b) r s e f =
    let more : a ≡ b = same_length a b r s (omega (arith, e)) cc in
    let head : x ≡ y = cc in
    cc

pub one_in_front : OneInFront
one_in_front L Empty c d fs gs x r y s n h k e = (h.2 ∙ sym k.2, h.0 ∙ sym k.0, h.1 ∙ sym k.1)
one_in_front L (Counted m) c d fs gs x r y s n h k e =
    let same : x ≡ y = same_length x y r s (omega (arith, h.0, k.0, ap (length {A = ℕ}) h.2, ap (length {A = ℕ}) k.2)) e in
    (same, sym h.2 ∙ same ∙ k.2, h.1 ∙ sym k.1)
one_in_front L Chunked c d fs gs x r y s n h k e =
    let both = chunked_front L L c d fs gs x y r s h k e in
    (append_cancel_right x y s (subst (λ (z : List ℕ). x ++ z ≡ y ++ s) both.1 e), both.0.0, both.0.1)
one_in_front L ToEnd c d fs gs x r y s n h k e = absurd (n refl)

-- ---- written

pub written_is_body : WrittenIsBody
written_is_body L chunks trailers pieces fields within = (
  chunks,
  refl,
  All-weaker IsPiece IsSome (λ y p. p.0) chunks pieces,
  (
    flat_map chunk_text chunks,
    last_text trailers,
    chunks_written chunks pieces,
    (codes "0" ++ crlf, section_text trailers, chunk_line_written 0 (omega arith), (within, section_written trailers fields), refl),
    refl,
  ),
)
