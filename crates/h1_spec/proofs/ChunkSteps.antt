-- Content, and the line end behind a chunk.
use Rattle.std.proofs.Common.{◌≡◌, ◌<◌, ◌+◌, arith, ℕ, suc, List, [], ◌∷◌, ◌++◌, length, drop, refl, sym, ap, ap₂, subst, ◌∙◌, append_assoc, inl, inr}
use Rattle.std.proofs.lemmas.List.{length-append}
use Rattle.bh_spec.specs.Bounds.{Bounds}
use Rattle.h1_spec.specs.declared.Framing1.TheVariants.{Counted, Chunked}
use Rattle.bh_spec.specs.declared.H1Why.{H1Why}
use Rattle.bh_spec.specs.declared.H1Why.TheVariants as why
use Rattle.bh_spec.specs.Texts.{◌then◌}
use Rattle.h1_spec.specs.Grammar.{Is, crlf}
use Rattle.h1_spec.specs.Bodies.{IsChunked}
use Rattle.h1_spec.specs.BodyCauses.{OfBody, Behind}
use Rattle.h1_spec.specs.BodyStates.{start, in_count, to_end, in_chunk, behind_chunk, behind_cr, OfExpected, OfRestOfChunk, OfRest, nothing_behind, Moves}
use Rattle.h1_spec.proofs.BodySteps.{moves_by}
use Rattle.h1_spec.proofs.BodyMarks.{chunk_marks, over_marks, count_marks, end_marks, cr_marks, lf_marks}
use Rattle.h1_spec.proofs.BodyStarts.{chunked_to, chunked_from, chunks_from}

-- ---- content

cut : (x : List ℕ) (m : ℕ) (content more y : List ℕ) → length content ≡ length x + m → x ++ more ≡ content ++ y → (later : List ℕ) × (content ≡ x ++ later) × (length later ≡ m) × (more ≡ later ++ y)
cut [] m content more y long e = (content, refl, omega (arith, long), e)
cut (b ∷ x) m [] more y long e = absurd (omega (arith, long))
cut (b ∷ x) m (c ∷ content) more y long e =
    let head : c ≡ b = cc in
    let tail : x ++ more ≡ content ++ y = cc in
    let r = cut x m content more y (omega (arith, long)) tail in
    (r.0, ap₂ (λ (p : ℕ) (q : List ℕ). p ∷ q) head r.1, r.2, r.3)

drop_on : (x : List ℕ) (m : ℕ) (more : List ℕ) → drop (length x + m) (x ++ more) ≡ drop m more
drop_on [] m more = let sum : 0 + m ≡ m = omega arith in ap (λ (n : ℕ). drop n more) sum
drop_on (b ∷ x) m more = let sum : suc (length x) + m ≡ suc (length x + m) = omega arith in ap (λ (n : ℕ). drop n (b ∷ (x ++ more))) sum ∙ drop_on x m more

pub chunk_run : (L : Bounds) (x : List ℕ) (m : ℕ) → Moves L (in_chunk (length x + m)) x x (in_chunk m)
chunk_run L x m = moves_by L (in_chunk (length x + m)) x x (in_chunk m) (record {
  forth = λ found trailers more r.
      let p = r.4 in
      let z = cut x m r.0 more p.1 r.2 (p.4 ∙ ap (λ (c : List ℕ). c ++ p.1) p.2) in
      (z.0 ++ r.1, r.3 ∙ ap (λ (c : List ℕ). c ++ r.1) z.1 ∙ append_assoc x z.0 r.1, (z.0, r.1, z.2, refl, (z.0, p.1, refl, p.3, z.3)));
  back = λ later trailers more r.
      let p = r.4 in (
        x ++ r.0,
        r.1,
        length-append x r.0 ∙ ap (λ (n : ℕ). length x + n) r.2,
        ap (λ (c : List ℕ). x ++ c) r.3 ∙ sym (append_assoc x r.0 r.1),
        (x ++ r.0, p.1, refl, p.3, ap (λ (c : List ℕ). x ++ c) (p.4 ∙ ap (λ (c : List ℕ). c ++ p.1) p.2) ∙ sym (append_assoc x r.0 p.1)),
      );
  causes = causes;
  marks = chunk_marks x m;
  kind = refl;
})
  where
    causes : (behind : Behind) (more : List ℕ) (cause : H1Why) → OfRestOfChunk L behind m more cause → OfRestOfChunk L behind (length x + m) (x ++ more) cause
    causes behind more cause (inl (inl h)) = inl (inl (omega (arith, h.0, length-append x more), h.1))
    causes behind more cause (inl (inr h)) = inl (inr (omega (arith, h.0, length-append x more), subst (λ (z : List ℕ). OfExpected crlf z cause) (sym (drop_on x m more)) h.1))
    causes behind more cause (inr h) =
        let p = h.2 in
        inr (
          x ++ h.0,
          length-append x h.0 ∙ ap (λ (n : ℕ). length x + n) h.1,
          (x ++ h.0, p.1, refl, p.3, ap (λ (c : List ℕ). x ++ c) (p.4 ∙ ap (λ (c : List ℕ). c ++ p.1) p.2) ∙ sym (append_assoc x h.0 p.1)),
        )

nil_of : (x : List ℕ) → length x ≡ 0 → x ≡ []
nil_of [] e = refl
nil_of (b ∷ x) e = absurd (omega (arith, e))

pub chunk_over : (L : Bounds) → Moves L (in_chunk 0) [] [] behind_chunk
chunk_over L = moves_by L (in_chunk 0) [] [] behind_chunk (record {
  forth = λ found trailers more r.
      let p = r.4 in
      let none = nil_of r.0 r.2 in
      let p1 : more ≡ p.1 = p.4 ∙ ap (λ (c : List ℕ). c ++ p.1) (p.2 ∙ none) in
      let same : found ≡ r.1 = r.3 ∙ ap (λ (c : List ℕ). c ++ r.1) none in (
        found,
        refl,
        subst (λ (z : List ℕ). (Is crlf then IsChunked L found trailers) z) (sym p1)
            (subst (λ (z : List ℕ). (Is crlf then IsChunked L z trailers) p.1) (sym same) p.3),
      );
  back = λ later trailers more r. ([], later, refl, refl, ([], more, refl, r, refl));
  causes = causes;
  marks = over_marks;
  kind = refl;
})
  where
    causes : (behind : Behind) (more : List ℕ) (cause : H1Why) → OfRest L behind behind_chunk more cause → OfRestOfChunk L behind 0 more cause
    causes behind more cause (inl h) = inl (inr (omega arith, h))
    causes behind more cause (inr h) = inr ([], refl, ([], more, refl, h, refl))

pub count_run : (L : Bounds) (x : List ℕ) (m : ℕ) → Moves L (in_count (length x + m)) x x (in_count m)
count_run L x m = moves_by L (in_count (length x + m)) x x (in_count m) (record {
  forth = λ found trailers more r. (more, sym r.2, (omega (arith, r.0, ap (length {A = ℕ}) r.2, length-append x more), r.1, refl));
  back = λ later trailers more r. (length-append x later ∙ ap (λ (n : ℕ). length x + n) r.0, r.1, ap (λ (z : List ℕ). x ++ z) r.2);
  causes = causes;
  marks = count_marks x m;
  kind = refl;
})
  where
    causes : (behind : Behind) (more : List ℕ) (cause : H1Why) → OfBody L (Counted m) behind more cause → OfBody L (Counted (length x + m)) behind (x ++ more) cause
    causes behind more cause (inl h) = inl (omega (arith, h.0, length-append x more), h.1)
    causes behind more cause (inr h) = inr (omega (arith, h.0, length-append x more), subst (λ (z : List ℕ). behind [] z cause) (sym (drop_on x m more)) h.1)

pub end_run : (L : Bounds) (x : List ℕ) → Moves L to_end x x to_end
end_run L x = moves_by L to_end x x to_end (record {
  forth = λ found trailers more r. (more, sym r.1, (r.0, refl));
  back = λ later trailers more r. (r.0, ap (λ (z : List ℕ). x ++ z) r.1);
  causes = λ behind more cause h. h;
  marks = end_marks x;
  kind = refl;
})

-- ---- the line end

pub end_cr : (L : Bounds) → Moves L behind_chunk (13 ∷ []) [] behind_cr
end_cr L = moves_by L behind_chunk (13 ∷ []) [] behind_cr (record {
  forth = λ found trailers more r.
      let all : 13 ∷ more ≡ 13 ∷ (10 ∷ r.1) = r.4 ∙ ap (λ (z : List ℕ). z ++ r.1) r.2 in
      (found, refl, (10 ∷ [], r.1, refl, r.3, cc));
  back = λ later trailers more r. (crlf, r.1, refl, r.3, ap (λ (z : List ℕ). 13 ∷ z) (r.4 ∙ ap (λ (z : List ℕ). z ++ r.1) r.2));
  causes = causes;
  marks = cr_marks;
  kind = refl;
})
  where
    causes : (behind : Behind) (more : List ℕ) (cause : H1Why) → OfRest L behind behind_cr more cause → OfRest L behind behind_chunk (13 ∷ more) cause
    causes behind more cause (inl (inl h)) = inl (inl ((h.0.0, h.0.1, ap (λ (z : List ℕ). 13 ∷ z) h.0.2), h.1))
    causes behind more cause (inl (inr h)) = inl (inr ((λ z e. h.0.0 z cc, λ z e. h.0.1 z cc), h.1))
    causes behind more cause (inr r) = inr (crlf, r.1, refl, r.3, ap (λ (z : List ℕ). 13 ∷ z) (r.4 ∙ ap (λ (z : List ℕ). z ++ r.1) r.2))

pub end_lf : (L : Bounds) → Moves L behind_cr (10 ∷ []) [] (start Chunked)
end_lf L = moves_by L behind_cr (10 ∷ []) [] (start Chunked) (record {
  forth = λ found trailers more r.
      let all : 10 ∷ more ≡ 10 ∷ r.1 = r.4 ∙ ap (λ (z : List ℕ). z ++ r.1) r.2 in
      let same : more ≡ r.1 = cc in
      (found, refl, chunked_to L found trailers more (subst (IsChunked L found trailers) (sym same) r.3));
  back = λ later trailers more r. (10 ∷ [], more, refl, chunked_from L later trailers more r, refl);
  causes = λ behind more cause h. inr (10 ∷ [], more, refl, chunks_from L behind more cause h, refl);
  marks = lf_marks;
  kind = refl;
})

-- ---- what is wrong

pub not_cr : (L : Bounds) (b : ℕ) (more : List ℕ) → (b ≡ 13 → ⊥) → OfRest L nothing_behind behind_chunk (b ∷ more) why.ChunkEnd
not_cr L b more n = inl (inr ((λ z e. n cc, λ z e. n cc), refl))

pub not_lf : (L : Bounds) (b : ℕ) (more : List ℕ) → (b ≡ 10 → ⊥) → OfRest L nothing_behind behind_cr (b ∷ more) why.ChunkEnd
not_lf L b more n = inl (inr ((λ z e. n cc, λ z e. n cc), refl))

pub chunk_unended : (L : Bounds) (m : ℕ) → 0 < m → OfRest L nothing_behind (in_chunk m) [] why.Ended
chunk_unended L m h = inl (inl (h, refl))

pub count_unended : (L : Bounds) (m : ℕ) → 0 < m → OfRest L nothing_behind (in_count m) [] why.Ended
count_unended L m h = inl (h, refl)

pub cr_missing : (L : Bounds) → OfRest L nothing_behind behind_chunk [] why.Ended
cr_missing L = inl (inl ((crlf, omega arith, refl), refl))

pub lf_missing : (L : Bounds) → OfRest L nothing_behind behind_cr [] why.Ended
lf_missing L = inl (inl ((10 ∷ [], omega arith, refl), refl))
