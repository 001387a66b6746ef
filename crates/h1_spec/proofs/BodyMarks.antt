-- Which bytes of a body are content, from any place of it on.
use Rattle.std.proofs.Common.{◌≡◌, ◌+◌, ℕ, zero, suc, cond, List, [], ◌∷◌, ◌++◌, length, refl, sym, ap, ◌∙◌, arith, append_assoc, Some, Option}
use Rattle.std.proofs.lemmas.List.{length-append}
use Rattle.bh_spec.specs.declared.Part.TheVariants as parts
use Rattle.bh_spec.specs.Texts.{Text, bytes_of, content_in}
use Rattle.bh_spec.proofs.Marks.{bytes_of-append, content-append}
use Rattle.h1_spec.specs.ChunkStates.{InLine, in_digits, in_blanks, in_extension, behind_cr as cr_in_line, line_ended, next_state}
use Rattle.h1_spec.specs.declared.Framing1.TheVariants.{Chunked}
use Rattle.bh_spec.specs.Messages.{Field}
use Rattle.h1_spec.specs.Marks.{as_content, as_framing}
use Rattle.h1_spec.specs.BodyStates.{At, start, in_count, to_end, in_line, in_chunk, behind_chunk, behind_cr, in_trailers, over, takes, step, in_line_behind, marked, AreMarked}

pub framing_bytes : (x : List ℕ) → bytes_of (as_framing x) ≡ x
framing_bytes [] = refl
framing_bytes (b ∷ x) = ap (λ (l : List ℕ). b ∷ l) (framing_bytes x)

pub content_bytes : (x : List ℕ) → bytes_of (as_content x) ≡ x
content_bytes [] = refl
content_bytes (b ∷ x) = ap (λ (l : List ℕ). b ∷ l) (content_bytes x)

pub framing_none : (x : List ℕ) → content_in (as_framing x) ≡ 0
framing_none [] = refl
framing_none (b ∷ x) = omega (arith, framing_none x)

pub content_all : (x : List ℕ) → content_in (as_content x) ≡ length x
content_all [] = refl
content_all (b ∷ x) = omega (arith, content_all x)

-- the bytes are those that were marked
pub marked_bytes : (v : At) (x : List ℕ) → bytes_of (marked v x) ≡ x
marked_bytes v [] = refl
marked_bytes v (b ∷ x) = ap (λ (l : List ℕ). b ∷ l) (marked_bytes (step v b) x)

-- a front is marked for itself
pub marked_front : (v : At) (x more : List ℕ) → (rest : Text) × (marked v (x ++ more) ≡ marked v x ++ rest)
marked_front v [] more = (marked v more, refl)
marked_front v (b ∷ x) more =
    let r = marked_front (step v b) x more in
    (r.0, ap (λ (t : Text). (cond (takes v) parts.Content parts.Framing, b) ∷ t) r.1)

-- ---- steps

pub marks_here : (v : At) → AreMarked v [] [] v
marks_here v = record { text = []; same = refl; count = refl; on = λ more. refl }

pub marks_on : (v w u : At) (x y c d : List ℕ) → AreMarked v x c w → AreMarked w y d u → AreMarked v (x ++ y) (c ++ d) u
marks_on v w u x y c d m n = record {
  text = m.text ++ n.text;
  same = bytes_of-append m.text n.text ∙ (λ i. m.same i ++ n.same i);
  count = omega (arith, content-append m.text n.text, m.count, n.count, length-append c d);
  on = λ more. ap (marked v) (append_assoc x y more) ∙ m.on (y ++ more) ∙ ap (λ (t : Text). m.text ++ t) (n.on more) ∙ sym (append_assoc m.text n.text (marked u more));
}

-- all of it framing, or all of it content
pub marks_framing : (v w : At) (x : List ℕ) → ((more : List ℕ) → marked v (x ++ more) ≡ as_framing x ++ marked w more) → AreMarked v x [] w
marks_framing v w x h = record { text = as_framing x; same = framing_bytes x; count = framing_none x; on = h }

pub marks_content : (v w : At) (x : List ℕ) → ((more : List ℕ) → marked v (x ++ more) ≡ as_content x ++ marked w more) → AreMarked v x x w
marks_content v w x h = record { text = as_content x; same = content_bytes x; count = content_all x; on = h }

pub count_on : (x : List ℕ) (m : ℕ) (more : List ℕ) → marked (in_count (length x + m)) (x ++ more) ≡ as_content x ++ marked (in_count m) more
count_on [] m more = let sum : 0 + m ≡ m = omega arith in ap (λ (n : ℕ). marked (in_count n) more) sum
count_on (b ∷ x) m more =
    let sum : suc (length x) + m ≡ suc (length x + m) = omega arith in
    ap (λ (n : ℕ). marked (in_count n) (b ∷ (x ++ more))) sum ∙ ap (λ (t : Text). (parts.Content, b) ∷ t) (count_on x m more)

pub count_marks : (x : List ℕ) (m : ℕ) → AreMarked (in_count (length x + m)) x x (in_count m)
count_marks x m = marks_content (in_count (length x + m)) (in_count m) x (count_on x m)

pub chunk_on : (x : List ℕ) (m : ℕ) (more : List ℕ) → marked (in_chunk (length x + m)) (x ++ more) ≡ as_content x ++ marked (in_chunk m) more
chunk_on [] m more = let sum : 0 + m ≡ m = omega arith in ap (λ (n : ℕ). marked (in_chunk n) more) sum
chunk_on (b ∷ x) m more =
    let sum : suc (length x) + m ≡ suc (length x + m) = omega arith in
    ap (λ (n : ℕ). marked (in_chunk n) (b ∷ (x ++ more))) sum ∙ ap (λ (t : Text). (parts.Content, b) ∷ t) (chunk_on x m more)

pub chunk_marks : (x : List ℕ) (m : ℕ) → AreMarked (in_chunk (length x + m)) x x (in_chunk m)
chunk_marks x m = marks_content (in_chunk (length x + m)) (in_chunk m) x (chunk_on x m)

pub end_on : (x more : List ℕ) → marked to_end (x ++ more) ≡ as_content x ++ marked to_end more
end_on [] more = refl
end_on (b ∷ x) more = ap (λ (t : Text). (parts.Content, b) ∷ t) (end_on x more)

pub end_marks : (x : List ℕ) → AreMarked to_end x x to_end
end_marks x = marks_content to_end to_end x (end_on x)

pub over_on : (more : List ℕ) → marked (in_chunk 0) more ≡ marked behind_chunk more
over_on [] = refl
over_on (b ∷ more) = refl

pub over_marks : AreMarked (in_chunk 0) [] [] behind_chunk
over_marks = marks_framing (in_chunk 0) behind_chunk [] over_on

pub cr_marks : AreMarked behind_chunk (13 ∷ []) [] behind_cr
cr_marks = marks_framing behind_chunk behind_cr (13 ∷ []) (λ more. refl)

-- the line end behind a chunk
pub end_all : (more : List ℕ) → marked behind_chunk (13 ∷ 10 ∷ more) ≡ as_framing (13 ∷ 10 ∷ []) ++ marked (start Chunked) more
end_all more = refl

pub lf_all : (more : List ℕ) → marked behind_cr (10 ∷ more) ≡ as_framing (10 ∷ []) ++ marked (start Chunked) more
lf_all more = refl

pub lf_marks : AreMarked behind_cr (10 ∷ []) [] (start Chunked)
lf_marks = marks_framing behind_cr (start Chunked) (10 ∷ []) (λ more. refl)

-- one byte of a chunk line
pub line_on : (s : InLine) (b : ℕ) (t : InLine) (room : ℕ) → next_state 15 s b ≡ Some t → (more : List ℕ) → marked (in_line s (suc room)) (b ∷ more) ≡ as_framing (b ∷ []) ++ marked (in_line t room) more
line_on (in_digits count number) b t room e more = ap (λ (o : Option InLine). (parts.Framing, b) ∷ marked (in_line_behind o room) more) e
line_on (in_blanks size) b t room e more = ap (λ (o : Option InLine). (parts.Framing, b) ∷ marked (in_line_behind o room) more) e
line_on (in_extension size) b t room e more = ap (λ (o : Option InLine). (parts.Framing, b) ∷ marked (in_line_behind o room) more) e
line_on (cr_in_line size) b t room e more = ap (λ (o : Option InLine). (parts.Framing, b) ∷ marked (in_line_behind o room) more) e
line_on (line_ended size) b t room e more = absurd (cc)

pub line_marks : (s : InLine) (b : ℕ) (t : InLine) (room : ℕ) → next_state 15 s b ≡ Some t → AreMarked (in_line s (suc room)) (b ∷ []) [] (in_line t room)
line_marks s b t room e = marks_framing (in_line s (suc room)) (in_line t room) (b ∷ []) (line_on s b t room e)

-- and its end
pub line_over_on : (room : ℕ) (more : List ℕ) → marked (in_line (line_ended zero) room) more ≡ marked (in_trailers []) more
line_over_on room [] = refl
line_over_on room (b ∷ more) = refl

pub line_over_marks : (room : ℕ) → AreMarked (in_line (line_ended zero) room) [] [] (in_trailers [])
line_over_marks room = marks_framing (in_line (line_ended zero) room) (in_trailers []) [] (line_over_on room)

pub chunk_begins_on : (size room : ℕ) (more : List ℕ) → marked (in_line (line_ended (suc size)) room) more ≡ marked (in_chunk (suc size)) more
chunk_begins_on size room [] = refl
chunk_begins_on size room (b ∷ more) = refl

pub chunk_begins_marks : (size room : ℕ) → AreMarked (in_line (line_ended (suc size)) room) [] [] (in_chunk (suc size))
chunk_begins_marks size room = marks_framing (in_line (line_ended (suc size)) room) (in_chunk (suc size)) [] (chunk_begins_on size room)

-- behind the content
pub over_all : (found : List Field) (x : List ℕ) → marked (over found) x ≡ as_framing x
over_all found [] = refl
over_all found (b ∷ x) = ap (λ (t : Text). (parts.Framing, b) ∷ t) (over_all [] x)

pub trailers_all : (seen x : List ℕ) → marked (in_trailers seen) x ≡ as_framing x
trailers_all seen [] = refl
trailers_all seen (b ∷ x) = ap (λ (t : Text). (parts.Framing, b) ∷ t) (over_all [] x)

pub framing-append : (x y : List ℕ) → as_framing (x ++ y) ≡ as_framing x ++ as_framing y
framing-append [] y = refl
framing-append (b ∷ x) y = ap (λ (t : Text). (parts.Framing, b) ∷ t) (framing-append x y)

pub trailers_marks : (seen x after : List ℕ) → AreMarked (in_trailers seen) x [] (in_trailers after)
trailers_marks seen x after = marks_framing (in_trailers seen) (in_trailers after) x
    (λ more. trailers_all seen (x ++ more) ∙ framing-append x more ∙ ap (λ (t : Text). as_framing x ++ t) (sym (trailers_all after more)))

pub section_marks : (seen x : List ℕ) (found : List Field) → AreMarked (in_trailers seen) x [] (over found)
section_marks seen x found = marks_framing (in_trailers seen) (over found) x
    (λ more. trailers_all seen (x ++ more) ∙ framing-append x more ∙ ap (λ (t : Text). as_framing x ++ t) (sym (over_all found more)))
