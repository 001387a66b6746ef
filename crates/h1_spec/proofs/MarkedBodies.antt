-- The marks of a body by its places are those of its structure.
use Rattle.std.proofs.Common.{◌≡◌, ◌<◌, ◌+◌, ℕ, zero, suc, List, [], ◌∷◌, ◌++◌, length, All, Some, refl, sym, ap, subst, ◌∙◌, arith, append_assoc, append-nil, length-append, inl, inr}
use Rattle.std.proofs.lemmas.List.Elements.{All-head, All-tail}
use Rattle.bh_spec.specs.Bounds.{Bounds}
use Rattle.bh_spec.specs.Messages.{Field}
use Rattle.bh_spec.specs.Texts.{Text, bytes_of, content_in, AreEach}
use Rattle.bh_spec.proofs.Marks.{bytes_of-append, content-append}
use Rattle.h1_spec.specs.declared.Framing1.{Framing1}
use Rattle.h1_spec.specs.declared.Framing1.TheVariants.{Empty, Counted, Chunked, ToEnd}
use Rattle.h1_spec.specs.Grammar.{crlf}
use Rattle.h1_spec.specs.Bodies.{IsChunkLine, IsChunk, IsChunked, IsBody}
use Rattle.h1_spec.specs.ChunkStates.{InLine, in_digits, line_ended, next_state, Completes}
use Rattle.h1_spec.specs.Marks.{as_content, as_framing, IsMarkedChunk, IsMarkedChunked, IsMarkedBody}
use Rattle.h1_spec.specs.BodyStates.{At, start, in_count, to_end, in_line, in_chunk, behind_chunk, behind_cr, in_trailers, over, BehindLine, RestOfChunk, Rest, marked}
use Rattle.h1_spec.proofs.ChunkLines.{step_on, some_state, ends_alone, line_completes}
use Rattle.h1_spec.proofs.LineSteps.{at_behind_line, step_state}
use Rattle.h1_spec.proofs.BodyMarks.{count_on, chunk_on, over_on, end_all, lf_all, end_on, line_on, line_over_on, chunk_begins_on, trailers_all, over_all, framing_bytes, content_bytes, framing_none, content_all, framing-append}
use Rattle.h1_spec.proofs.Marking.{body_count}

-- ---- a line

line_end_all : (size room : ℕ) (y : List ℕ) → marked (in_line (line_ended size) room) y ≡ marked (at_behind_line size) y
line_end_all zero room y = line_over_on room y
line_end_all (suc n) room y = chunk_begins_on n room y

pub line_all : (size : ℕ) (s : InLine) (room : ℕ) (line y : List ℕ) → length line < room + 1 → Completes 15 size s line → marked (in_line s room) (line ++ y) ≡ as_framing line ++ marked (at_behind_line size) y
line_all size s room [] y few h = at_end (ends_alone 15 size (Some s) h)
  where
    at_end : (own : ℕ) × (Some s ≡ Some (line_ended own)) → marked (in_line s room) y ≡ marked (at_behind_line size) y
    at_end e =
        let same : s ≡ line_ended e.0 = cc in
        let own : e.0 ≡ size = (subst (λ (z : InLine). Completes 15 size z []) same h).0 in
        ap (λ (z : InLine). marked (in_line z room) y) same ∙ line_end_all e.0 room y ∙ ap (λ (n : ℕ). marked (at_behind_line n) y) own
line_all size s zero (b ∷ line) y few h = absurd (omega (arith, few))
line_all size s (suc room) (b ∷ line) y few h =
    let next = some_state 15 size (next_state 15 s b) line (step_on 15 size s b line h) in
    let more = line_all size next.0 room line y (omega (arith, few)) (step_state 15 size s b next.0 line next.1 h) in
    line_on s b next.0 room next.1 (line ++ y) ∙ ap (λ (t : Text). as_framing (b ∷ []) ++ t) more

start_line : (size : ℕ) (line y : List ℕ) → IsChunkLine size line → marked (start Chunked) (line ++ y) ≡ as_framing line ++ marked (at_behind_line size) y
start_line size line y h = line_all size (in_digits 0 0) 1024 line y (omega (arith, h.0)) (line_completes 15 size line h.1)

-- ---- chunks

pub chunk_all : (n : ℕ) (chunk y : List ℕ) → length chunk ≡ n → marked (in_chunk n) (chunk ++ (crlf ++ y)) ≡ as_content chunk ++ (as_framing crlf ++ marked (start Chunked) y)
chunk_all n chunk y e =
    let long : n ≡ length chunk + 0 = omega (arith, e) in
    ap (λ (k : ℕ). marked (in_chunk k) (chunk ++ (crlf ++ y))) long ∙ chunk_on chunk 0 (crlf ++ y)
    ∙ ap (λ (t : Text). as_content chunk ++ t) (over_on (crlf ++ y) ∙ end_all y)

behind_some : (n : ℕ) → 0 < n → at_behind_line n ≡ in_chunk n
behind_some zero h = absurd (omega (arith, h))
behind_some (suc n) h = refl

-- a chunk with its line and its line end
pub one_chunk : (chunk line y : List ℕ) → 0 < length chunk → IsChunkLine (length chunk) line
    → marked (start Chunked) (line ++ (chunk ++ (crlf ++ y))) ≡ (as_framing line ++ (as_content chunk ++ as_framing crlf)) ++ marked (start Chunked) y
one_chunk chunk line y some h =
    start_line (length chunk) line (chunk ++ (crlf ++ y)) h
    ∙ ap (λ (t : Text). as_framing line ++ t) (ap (λ (v : At). marked v (chunk ++ (crlf ++ y))) (behind_some (length chunk) some) ∙ chunk_all (length chunk) chunk y refl ∙ sym (append_assoc (as_content chunk) (as_framing crlf) (marked (start Chunked) y)))
    ∙ sym (append_assoc (as_framing line) (as_content chunk ++ as_framing crlf) (marked (start Chunked) y))

last_line : (line y : List ℕ) → IsChunkLine 0 line → marked (start Chunked) (line ++ y) ≡ as_framing (line ++ y)
last_line line y h = start_line 0 line y h ∙ ap (λ (t : Text). as_framing line ++ t) (trailers_all [] y) ∙ sym (framing-append line y)

chunk_join : (line chunk y : List ℕ) → (line ++ (chunk ++ crlf)) ++ y ≡ line ++ (chunk ++ (crlf ++ y))
chunk_join line chunk y = append_assoc line (chunk ++ crlf) y ∙ ap (λ (z : List ℕ). line ++ z) (append_assoc chunk crlf y)

-- all chunks, by their structure
pub marks_chunks : (chunks : List (List ℕ)) (x y : List ℕ) → All (λ chunk. 0 < length chunk) chunks → AreEach IsChunk chunks x
    → (t : Text) × AreEach IsMarkedChunk chunks t × (marked (start Chunked) (x ++ y) ≡ t ++ marked (start Chunked) y)
marks_chunks [] x y some h = ([], refl, ap (λ (z : List ℕ). marked (start Chunked) (z ++ y)) h)
marks_chunks (chunk ∷ chunks) x y some h =
    let first = h.2 in
    let body = first.3 in
    let line = first.0 in
    let more = marks_chunks chunks h.1 y (All-tail (λ (c : List ℕ). 0 < length c) chunk chunks some) h.3 in
    let one : Text = as_framing line ++ (as_content chunk ++ as_framing crlf) in
    let shape : x ++ y ≡ line ++ (chunk ++ (crlf ++ (h.1 ++ y))) =
    ap (λ (z : List ℕ). z ++ y) h.4 ∙ append_assoc h.0 h.1 y
    ∙ ap (λ (z : List ℕ). z ++ (h.1 ++ y)) (first.4 ∙ ap (λ (z : List ℕ). line ++ z) (body.4 ∙ (λ i. body.2 i ++ body.3 i)))
    ∙ chunk_join line chunk (h.1 ++ y) in (
      one ++ more.0,
      (one, more.0, (line, first.2, refl), more.1, refl),
      ap (marked (start Chunked)) shape ∙ one_chunk chunk line (h.1 ++ y) (All-head (λ (c : List ℕ). 0 < length c) chunk chunks some) first.2
          ∙ ap (λ (t : Text). one ++ t) more.2 ∙ sym (append_assoc one more.0 (marked (start Chunked) y)),
    )

pub marks_chunked : (L : Bounds) (content : List ℕ) (trailers : List Field) (bytes : List ℕ) → IsChunked L content trailers bytes → IsMarkedChunked content (marked (start Chunked) bytes)
marks_chunked L content trailers bytes h =
    let p = h.3 in
    let last = p.3 in
    let all = marks_chunks h.0 p.0 p.1 h.2 p.2 in
    record {
      chunks = h.0;
      joined = h.1;
      some = h.2;
      text = all.0;
      marked = all.1;
      behind = p.1;
      last = (last.0, last.1, last.2, (trailers, last.3.1), last.4);
      split = ap (marked (start Chunked)) p.4 ∙ all.2 ∙ ap (λ (t : Text). all.0 ++ t) (ap (marked (start Chunked)) last.4 ∙ last_line last.0 last.1 last.2 ∙ ap as_framing (sym last.4));
    }

-- the marks of a body are those of its places
pub marks_body : (L : Bounds) (f : Framing1) (content : List ℕ) (trailers : List Field) (bytes : List ℕ) → IsBody L f content trailers bytes → IsMarkedBody f content (marked (start f) bytes)
marks_body L Empty content trailers bytes h = ap (marked (in_count 0)) h.2
marks_body L (Counted n) content trailers bytes h =
    let long : n ≡ length content + 0 = omega (arith, h.0) in
    ap (marked (in_count n)) (h.2 ∙ sym (append-nil content)) ∙ ap (λ (k : ℕ). marked (in_count k) (content ++ [])) long ∙ count_on content 0 [] ∙ append-nil (as_content content)
marks_body L Chunked content trailers bytes h = marks_chunked L content trailers bytes h
marks_body L ToEnd content trailers bytes h = ap (marked to_end) (h.1 ∙ sym (append-nil content)) ∙ end_on content [] ∙ append-nil (as_content content)

chunked_content : (L : Bounds) (content : List ℕ) (trailers : List Field) (bytes : List ℕ) → IsChunked L content trailers bytes → content_in (marked (start Chunked) bytes) ≡ length content
chunked_content L content trailers bytes h = body_count L Chunked content trailers bytes (marked (start Chunked) bytes) h (marks_chunked L content trailers bytes h)

chunk_content : (L : Bounds) (missing : ℕ) (content : List ℕ) (trailers : List Field) (bytes : List ℕ) → RestOfChunk L missing content trailers bytes → content_in (marked (in_chunk missing) bytes) ≡ length content
chunk_content L missing content trailers bytes h =
    let chunk = h.0 in
    let p = h.4 in
    let q = p.3 in
    let shape : bytes ≡ chunk ++ (crlf ++ q.1) = p.4 ∙ ap (λ (z : List ℕ). z ++ p.1) p.2 ∙ ap (λ (z : List ℕ). chunk ++ z) (q.4 ∙ ap (λ (z : List ℕ). z ++ q.1) q.2) in
    let rest : Text = as_framing crlf ++ marked (start Chunked) q.1 in
    ap (λ (z : List ℕ). content_in (marked (in_chunk missing) z)) shape ∙ ap content_in (chunk_all missing chunk q.1 h.2)
    ∙ omega (arith, content-append (as_content chunk) rest, content_all chunk, content-append (as_framing crlf) (marked (start Chunked) q.1), framing_none crlf, chunked_content L h.1 trailers q.1 q.3, ap length h.3, length-append chunk h.1)

-- ---- and back: a text that is marked by its structure is marked by its places

chunks_marked : (chunks : List (List ℕ)) (t : Text) (y : List ℕ) → All (λ chunk. 0 < length chunk) chunks → AreEach IsMarkedChunk chunks t → marked (start Chunked) (bytes_of t ++ y) ≡ t ++ marked (start Chunked) y
chunks_marked [] t y some h = ap (λ (z : Text). marked (start Chunked) (bytes_of z ++ y)) h ∙ ap (λ (z : Text). z ++ marked (start Chunked) y) (sym h)
chunks_marked (chunk ∷ chunks) t y some h =
    let first = h.2 in
    let line = first.0 in
    let one : Text = as_framing line ++ (as_content chunk ++ as_framing crlf) in
    let more = chunks_marked chunks h.1 y (All-tail (λ (c : List ℕ). 0 < length c) chunk chunks some) h.3 in
    let same : bytes_of one ≡ line ++ (chunk ++ crlf) =
    bytes_of-append (as_framing line) (as_content chunk ++ as_framing crlf) ∙ (λ i. framing_bytes line i ++ (bytes_of-append (as_content chunk) (as_framing crlf) ∙ (λ j. content_bytes chunk j ++ framing_bytes crlf j)) i) in
    let whole : t ≡ one ++ h.1 = h.4 ∙ ap (λ (z : Text). z ++ h.1) first.2 in
    let shape : bytes_of t ++ y ≡ line ++ (chunk ++ (crlf ++ (bytes_of h.1 ++ y))) =
    ap (λ (z : Text). bytes_of z ++ y) whole ∙ ap (λ (z : List ℕ). z ++ y) (bytes_of-append one h.1) ∙ append_assoc (bytes_of one) (bytes_of h.1) y
    ∙ ap (λ (z : List ℕ). z ++ (bytes_of h.1 ++ y)) same ∙ chunk_join line chunk (bytes_of h.1 ++ y) in
    ap (marked (start Chunked)) shape ∙ one_chunk chunk line (bytes_of h.1 ++ y) (All-head (λ (c : List ℕ). 0 < length c) chunk chunks some) first.1
    ∙ ap (λ (z : Text). one ++ z) more ∙ sym (append_assoc one h.1 (marked (start Chunked) y)) ∙ ap (λ (z : Text). z ++ marked (start Chunked) y) (sym whole)

pub chunked_marked : (content : List ℕ) (t : Text) → IsMarkedChunked content t → marked (start Chunked) (bytes_of t) ≡ t
chunked_marked content t h =
    let last = h.last in
    let bytes : bytes_of t ≡ bytes_of h.text ++ h.behind = ap bytes_of h.split ∙ bytes_of-append h.text (as_framing h.behind) ∙ ap (λ (z : List ℕ). bytes_of h.text ++ z) (framing_bytes h.behind) in
    ap (marked (start Chunked)) bytes ∙ chunks_marked h.chunks h.text h.behind h.some h.marked
    ∙ ap (λ (z : Text). h.text ++ z) (ap (marked (start Chunked)) last.4 ∙ last_line last.0 last.1 last.2 ∙ ap as_framing (sym last.4)) ∙ sym h.split

pub body_marked : (L : Bounds) (f : Framing1) (content : List ℕ) (trailers : List Field) (t : Text) → IsBody L f content trailers (bytes_of t) → IsMarkedBody f content t → marked (start f) (bytes_of t) ≡ t
body_marked L Empty content trailers t b h = ap (λ (z : Text). marked (in_count 0) (bytes_of z)) h ∙ sym h
body_marked L (Counted n) content trailers t b h =
    ap (marked (in_count n)) b.2 ∙ sym (ap (marked (in_count n)) b.2) ∙ marks_body L (Counted n) content trailers (bytes_of t) b ∙ sym h
body_marked L Chunked content trailers t b h = chunked_marked content t h
body_marked L ToEnd content trailers t b h = marks_body L ToEnd content trailers (bytes_of t) b ∙ sym h

-- ---- content

-- The bytes that are marked, of what completes a body from any place, are its content.
pub rest_content : (L : Bounds) (v : At) (content : List ℕ) (trailers : List Field) (bytes : List ℕ) → Rest L v content trailers bytes → content_in (marked v bytes) ≡ length content
rest_content L (in_count n) content trailers bytes h = ap content_in (marks_body L (Counted n) content trailers bytes h) ∙ content_all content
rest_content L to_end content trailers bytes h = ap content_in (marks_body L ToEnd content trailers bytes h) ∙ content_all content
rest_content L (in_line state room) content trailers bytes h =
    let r = h.1 in
    ap (λ (z : List ℕ). content_in (marked (in_line state room) z)) r.4 ∙ ap content_in (line_all h.0 state room r.0 r.1 (omega (arith, r.2.0)) r.2.1)
    ∙ omega (arith, content-append (as_framing r.0) (marked (at_behind_line h.0) r.1), framing_none r.0, behind h.0 r.1 r.3)
  where
    behind : (size : ℕ) (y : List ℕ) → BehindLine L size content trailers y → content_in (marked (at_behind_line size) y) ≡ length content
    behind zero y (inl b) = ap content_in (trailers_all [] y) ∙ framing_none y ∙ ap length (sym b.1)
    behind zero y (inr b) = absurd (omega (arith, b.0))
    behind (suc n) y (inl b) = absurd (omega (arith, b.0))
    behind (suc n) y (inr b) = chunk_content L (suc n) content trailers y b.1
rest_content L (in_chunk missing) content trailers bytes h = chunk_content L missing content trailers bytes h
rest_content L behind_chunk content trailers bytes h =
    ap (λ (z : List ℕ). content_in (marked behind_chunk z)) (h.4 ∙ ap (λ (z : List ℕ). z ++ h.1) h.2) ∙ ap content_in (end_all h.1)
    ∙ omega (arith, content-append (as_framing crlf) (marked (start Chunked) h.1), framing_none crlf, chunked_content L content trailers h.1 h.3)
rest_content L behind_cr content trailers bytes h =
    ap (λ (z : List ℕ). content_in (marked behind_cr z)) (h.4 ∙ ap (λ (z : List ℕ). z ++ h.1) h.2) ∙ ap content_in (lf_all h.1)
    ∙ omega (arith, content-append (as_framing (10 ∷ [])) (marked (start Chunked) h.1), framing_none (10 ∷ []), chunked_content L content trailers h.1 h.3)
rest_content L (in_trailers seen) content trailers bytes h = ap content_in (trailers_all seen bytes) ∙ framing_none bytes ∙ ap length (sym h.0)
rest_content L (over found) content trailers bytes h = ap content_in (over_all found bytes) ∙ framing_none bytes ∙ ap length (sym h.0)
