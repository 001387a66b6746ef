-- From the start what completes a body is a body, and what is wrong is wrong with it.
use Rattle.std.proofs.Common.{◌≡◌, ◌<◌, ◌+◌, arith, ℕ, List, [], ◌∷◌, ◌++◌, length, take, All, refl, sym, ap, ap₂, subst, ◌∙◌, append_assoc, inl, inr}
use Rattle.std.specs.List.{concat}
use Rattle.std.proofs.lemmas.List.Elements.{All-nil, All-head, All-tail, All-cons}
use Rattle.bh_spec.specs.Bounds.{Bounds}
use Rattle.bh_spec.specs.Messages.{Field}
use Rattle.h1_spec.specs.declared.Framing1.{Framing1}
use Rattle.h1_spec.specs.declared.Framing1.TheVariants.{Empty, Counted, Chunked, ToEnd}
use Rattle.bh_spec.specs.declared.H1Why.{H1Why}
use Rattle.bh_spec.specs.declared.H1Why.TheVariants as why
use Rattle.bh_spec.specs.Texts.{◌then◌, AreEach}
use Rattle.h1_spec.specs.Grammar.{crlf}
use Rattle.h1_spec.specs.Bodies.{IsChunkLine, IsChunk, IsTrailerSection, IsChunked}
use Rattle.h1_spec.specs.BodyCauses.{CanBegin, IsLineOf, IsAnyLine, HasBegun, OfChunkLine, OfNextChunk, OfBody, Behind}
use Rattle.h1_spec.specs.ChunkStates.{in_digits}
use Rattle.h1_spec.proofs.ChunkLines.{line_completes, completes_line}
use Rattle.h1_spec.specs.BodyStates.{start, Rest, RestOfLine, BehindLine, LineFrom, AnyLineFrom, GoesOn, OfLine, OfChunks, OfBehindLine, OfRest, nothing_behind, Starts}
use Rattle.h1_spec.proofs.LineSteps.{when_back}

abbrev IsSome : List ℕ → Type 0
IsSome chunk = 0 < length chunk

-- ---- what completes a body

chunk_shape : (bytes x y x1 x2 line body c l chunk : List ℕ) → bytes ≡ x ++ y → x ≡ x1 ++ x2 → x1 ≡ line ++ body → body ≡ c ++ l → c ≡ chunk → l ≡ crlf
    → bytes ≡ line ++ (chunk ++ (crlf ++ (x2 ++ y)))
chunk_shape bytes x y x1 x2 line body c l chunk e f g h i j =
    e ∙ ap (λ (z : List ℕ). z ++ y) (f ∙ ap (λ (z : List ℕ). z ++ x2) (g ∙ ap (λ (z : List ℕ). line ++ z) (h ∙ ap₂ (λ (a b : List ℕ). a ++ b) i j)))
    ∙ append_assoc (line ++ (chunk ++ crlf)) x2 y ∙ append_assoc line (chunk ++ crlf) (x2 ++ y) ∙ ap (λ (z : List ℕ). line ++ z) (append_assoc chunk crlf (x2 ++ y))

pub chunked_to : (L : Bounds) (content : List ℕ) (trailers : List Field) (bytes : List ℕ) → IsChunked L content trailers bytes → Rest L (start Chunked) content trailers bytes
chunked_to L content trailers bytes h = at h.0 h.1 h.2 h.3
  where
    at : (chunks : List (List ℕ)) → concat chunks ≡ content → All IsSome chunks → (AreEach IsChunk chunks then IsChunkLine 0 then IsTrailerSection L trailers) bytes
        → Rest L (start Chunked) content trailers bytes
    at [] e all p =
        let q = p.3 in
        (0, (q.0, q.1, (q.2.0, line_completes 15 0 q.0 q.2.1), inl (refl, sym e, q.3), p.4 ∙ ap (λ (z : List ℕ). z ++ p.1) p.2 ∙ q.4))
    at (chunk ∷ chunks) e all p =
        let each = p.2 in
        let first = each.2 in
        let body = first.3 in
        let rest : List ℕ = each.1 ++ p.1 in (
          length chunk,
          (
            first.0,
            chunk ++ (crlf ++ rest),
            (first.2.0, line_completes 15 (length chunk) first.0 first.2.1),
            inr (
              All-head IsSome chunk chunks all,
              (
                chunk,
                concat chunks,
                refl,
                sym e,
                (chunk, crlf ++ rest, refl, (crlf, rest, refl, (chunks, refl, All-tail IsSome chunk chunks all, (each.1, p.1, each.3, p.3, refl)), refl), refl),
              ),
            ),
            chunk_shape bytes p.0 p.1 each.0 each.1 first.0 first.1 body.0 body.1 chunk p.4 each.4 first.4 body.4 body.2 body.3,
          ),
        )

shape_back : (bytes line rest chunk c r l r2 each last : List ℕ) → bytes ≡ line ++ rest → rest ≡ c ++ r → c ≡ chunk → r ≡ l ++ r2 → l ≡ crlf → r2 ≡ each ++ last
    → bytes ≡ ((line ++ (chunk ++ crlf)) ++ each) ++ last
shape_back bytes line rest chunk c r l r2 each last e f g h i j =
    e ∙ ap (λ (z : List ℕ). line ++ z) (f ∙ ap₂ (λ (a b : List ℕ). a ++ b) g (h ∙ ap₂ (λ (a b : List ℕ). a ++ b) i j) ∙ sym (append_assoc chunk crlf (each ++ last)))
    ∙ sym (append_assoc line (chunk ++ crlf) (each ++ last)) ∙ sym (append_assoc (line ++ (chunk ++ crlf)) each last)

pub chunked_from : (L : Bounds) (content : List ℕ) (trailers : List Field) (bytes : List ℕ) → Rest L (start Chunked) content trailers bytes → IsChunked L content trailers bytes
chunked_from L content trailers bytes h = at h.0 h.1.0 h.1.1 h.1.2 h.1.3 h.1.4
  where
    at : (size : ℕ) (line rest : List ℕ) → RestOfLine size (in_digits 0 0) 1024 line → BehindLine L size content trailers rest → bytes ≡ line ++ rest → IsChunked L content trailers bytes
    at size line rest l (inl b) e =
        ([], sym b.1, All-nil IsSome, ([], bytes, refl, (line, rest, subst (λ (n : ℕ). IsChunkLine n line) b.0 (l.0, completes_line 15 size line l.1), b.2, e), refl))
    at size line rest l (inr b) e =
        let q = b.1 in
        let chunk = q.0 in
        let p = q.4 in
        let end = p.3 in
        let more = end.3 in
        let ch = more.3 in
        let front : List ℕ = line ++ (chunk ++ crlf) in
        let isline : IsChunkLine (length chunk) line = subst (λ (n : ℕ). IsChunkLine n line) (sym q.2) (l.0, completes_line 15 size line l.1) in (
          chunk ∷ more.0,
          ap (λ (z : List ℕ). chunk ++ z) more.1 ∙ sym q.3,
          All-cons IsSome chunk more.0 (omega (arith, b.0, q.2)) more.2,
          (
            front ++ ch.0,
            ch.1,
            (front, ch.0, (line, chunk ++ crlf, isline, (chunk, crlf, refl, refl, refl), refl), ch.2, refl),
            ch.3,
            shape_back bytes line rest chunk p.0 p.1 end.0 end.1 ch.0 ch.1 e p.4 p.2 end.4 end.2 ch.4,
          ),
        )

-- ---- what is wrong

line_is : (x : List ℕ) → LineFrom 15 (in_digits 0 0) x → IsLineOf 15 x
line_is x h = (h.0, completes_line 15 h.0 x h.1)

is_line : (x : List ℕ) → IsLineOf 15 x → LineFrom 15 (in_digits 0 0) x
is_line x h = (h.0, line_completes 15 h.0 x h.1)

begin_is : (x : List ℕ) → CanBegin (LineFrom 15 (in_digits 0 0)) x → CanBegin (IsLineOf 15) x
begin_is x h = (h.0, line_is (x ++ h.0) h.1)

is_begin : (x : List ℕ) → CanBegin (IsLineOf 15) x → CanBegin (LineFrom 15 (in_digits 0 0)) x
is_begin x h = (h.0, is_line (x ++ h.0) h.1)

begun : (x : List ℕ) → GoesOn (in_digits 0 0) x → HasBegun x
begun x g = (begin_is x g.0, λ l. g.1 (is_line x l))

any_is : (x : List ℕ) → CanBegin (AnyLineFrom (in_digits 0 0)) x → CanBegin IsAnyLine x
any_is x h = (h.0, (h.1.0, (h.1.1.0, completes_line h.1.0 h.1.1.0 (x ++ h.0) h.1.1.1)))

is_any : (x : List ℕ) → CanBegin IsAnyLine x → CanBegin (AnyLineFrom (in_digits 0 0)) x
is_any x h = (h.0, (h.1.0, (h.1.1.0, line_completes h.1.0 h.1.1.0 (x ++ h.0) h.1.1.1)))

of_line : (bytes : List ℕ) (c : H1Why) → OfLine (in_digits 0 0) 1024 bytes c → OfChunkLine bytes c
of_line bytes c (inl h) =
    let d = h.1 in
    let x : List ℕ = take (h.0 + 1) bytes in
    inl (
      h.0,
      record {
        inside = d.inside;
        early = d.early;
        before = begun (take h.0 bytes) d.before;
        after = λ k. d.after (is_begin x k);
      },
      when_back _ _ why.ChunkLine why.ChunkLineLimit c (λ n k. n (is_any x k)) (λ n k. n (any_is x k)) h.2,
    )
of_line bytes c (inr (inl h)) = inr (inl (h.0, begun (take 1024 bytes) h.1, h.2))
of_line bytes c (inr (inr h)) = inr (inr (h.0, begun bytes h.1, h.2))

here : (L : Bounds) (behind : Behind) (bytes : List ℕ) (c : H1Why) → OfNextChunk L behind bytes c → OfChunks L behind c bytes
here L behind bytes c h = ([], All-nil IsSome, ([], bytes, refl, h, refl))

pub chunks_from : (L : Bounds) (behind : Behind) (bytes : List ℕ) (c : H1Why) → OfRest L behind (start Chunked) bytes c → OfChunks L behind c bytes
chunks_from L behind bytes c (inl h) = here L behind bytes c (inl (of_line bytes c h))
chunks_from L behind bytes c (inr h) = at h.0 h.1.0 h.1.1 h.1.2 h.1.3 h.1.4
  where
    at : (size : ℕ) (line rest : List ℕ) → RestOfLine size (in_digits 0 0) 1024 line → OfBehindLine L behind size rest c → bytes ≡ line ++ rest → OfChunks L behind c bytes
    at size line rest l (inl (s, inl h)) e = here L behind bytes c (inr (size, line, rest, e, (l.0, completes_line 15 size line l.1), inl (s, h)))
    at size line rest l (inl (s, inr q)) e =
        let chunk = q.0 in
        let p = q.2 in
        let end = p.3 in
        let more = end.3 in
        let ch = more.2 in
        let front : List ℕ = line ++ (chunk ++ crlf) in
        let isline : IsChunkLine (length chunk) line = subst (λ (n : ℕ). IsChunkLine n line) (sym q.1) (l.0, completes_line 15 size line l.1) in (
          chunk ∷ more.0,
          All-cons IsSome chunk more.0 (omega (arith, s, q.1)) more.1,
          (
            front ++ ch.0,
            ch.1,
            (front, ch.0, (line, chunk ++ crlf, isline, (chunk, crlf, refl, refl, refl), refl), ch.2, refl),
            ch.3,
            shape_back bytes line rest chunk p.0 p.1 end.0 end.1 ch.0 ch.1 e p.4 p.2 end.4 end.2 ch.4,
          ),
        )
    at size line rest l (inr t) e = here L behind bytes c (inr (size, line, rest, e, (l.0, completes_line 15 size line l.1), inr t))

-- whatever is said behind the body
pub starts_causes : (L : Bounds) (framing : Framing1) (behind : Behind) (bytes : List ℕ) (cause : H1Why) → OfRest L behind (start framing) bytes cause → OfBody L framing behind bytes cause
starts_causes L Empty behind bytes cause (inl h) = absurd (omega (arith, h.0))
starts_causes L Empty behind bytes cause (inr h) = h.1
starts_causes L (Counted n) behind bytes cause h = h
starts_causes L Chunked behind bytes cause h = chunks_from L behind bytes cause h
starts_causes L ToEnd behind bytes cause h = h

pub starts : (L : Bounds) (framing : Framing1) → Starts L framing
starts L Empty = record {
  forth = λ content trailers bytes h. (nil_of content h.0, h.1, h.2 ∙ nil_of content h.0);
  back = λ content trailers bytes h. (ap (length {A = ℕ}) h.0, h.1, h.2 ∙ sym h.0);
  causes = starts_causes L Empty nothing_behind;
}
  where
    nil_of : (x : List ℕ) → length x ≡ 0 → x ≡ []
    nil_of [] e = refl
    nil_of (b ∷ x) e = absurd (omega (arith, e))
starts L (Counted n) = record { forth = λ content trailers bytes h. h; back = λ content trailers bytes h. h; causes = starts_causes L (Counted n) nothing_behind }
starts L ToEnd = record { forth = λ content trailers bytes h. h; back = λ content trailers bytes h. h; causes = starts_causes L ToEnd nothing_behind }
starts L Chunked = record { forth = chunked_from L; back = chunked_to L; causes = starts_causes L Chunked nothing_behind }
