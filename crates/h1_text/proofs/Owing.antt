-- What is due for each item, whatever follows it.
use Rattle.std.proofs.Common.{◌≡◌, ◌<◌, Bool, true, false, cond, not, ◌&&◌, nat_eq, arith, ℕ, suc, List, [], ◌∷◌, ◌++◌, map, flat_map, length, refl, sym, ap, ap₂, ◌∙◌, append_assoc, append-nil, length-append}
use Rattle.std.specs.List.{concat}
use Rattle.std.proofs.lemmas.List.{map-append}
use Rattle.std.proofs.lemmas.Bool.{ne_eqb, and_left}
use Rattle.bh_spec.specs.Messages.{Field, request, response}
use Rattle.bh_spec.specs.Canonical.{cut}
use Rattle.bh_spec.specs.Items.{Item, head, content_byte, trailer_section, Head, of_request, of_response}
use Rattle.bh_spec.proofs.Written.{cut_whole, cut_first}
use Rattle.h1_spec.specs.declared.Framing1.{Framing1}
use Rattle.h1_spec.specs.Grammar.{crlf}
use Rattle.h1_spec.specs.declared.Framing1.TheVariants.{Empty}
use Rattle.h1_spec.specs.Framing.{lengths, is_bodyless}
use Rattle.h1_spec.specs.Http1Text.{hex_within, chunk_text, has_no_body, framing_by, is_bare}
use Rattle.h1_spec.specs.Written.{last_text}
use Rattle.h1_spec.specs.Marks.{as_framing, as_content, marked_chunk}
use Rattle.h1_spec.proofs.BodyMarks.{framing_none, framing_bytes}
use Rattle.h1_spec.proofs.Marking.{chunk_count}
use Rattle.h1_spec.proofs.MarkedTexts.{chunk_bytes, chunked_bytes}
use Rattle.h1_spec.specs.Http1.{start_of}
use Rattle.bh_stream.specs.Outputs.{Output, written, shown_in, weighed, plain, shown}
use Rattle.bh_stream.proofs.Outputs.{weighed_bytes, weighed_content, weighed-append, weighed_plain, weighed_shown, shown-append, written_shown, shown_plain, shown_shown}
use Rattle.bh_stream.specs.Tails.{content_of, trailers_of}
use Rattle.h1_text.specs.Ends.{piece_out}
use Rattle.h1_text.specs.Owed.{chunk_out, body_out, is_chunked, head_front, head_end, final_out, is_none, is_open, says_chunks, framing_left, message_of, head_held, head_waits, in_body, at_start, owed}

-- ---- outputs

pub plain-append : (x y : List ℕ) → plain (x ++ y) ≡ plain x ++ plain y
plain-append x y = map-append (λ (b : ℕ). let z : ℕ × ℕ = (0, b) in z) x y

pub shown-run : (x y : List ℕ) → shown (x ++ y) ≡ shown x ++ shown y
shown-run x y = map-append (λ (b : ℕ). let z : ℕ × ℕ = (1, b) in z) x y

-- ---- the marks of what goes out

pub weighs_framing : (x : List ℕ) → plain x ≡ weighed (as_framing x)
weighs_framing x = sym (weighed_plain (as_framing x) (framing_none x) ∙ ap plain (framing_bytes x))

chunk_weighs : (chunk : List ℕ) → chunk_out chunk ≡ weighed (marked_chunk chunk)
chunk_weighs chunk =
    let line : List ℕ = hex_within 15 (length chunk) ++ crlf in
    ap₂ (λ (a b : Output). a ++ b) (weighs_framing line)
    (ap₂ (λ (a b : Output). a ++ b) (sym (weighed_shown chunk)) (weighs_framing crlf) ∙ sym (weighed-append (as_content chunk) (as_framing crlf)))
    ∙ sym (weighed-append (as_framing line) (as_content chunk ++ as_framing crlf))

chunks_weigh : (chunks : List (List ℕ)) → flat_map chunk_out chunks ≡ weighed (flat_map marked_chunk chunks)
chunks_weigh [] = refl
chunks_weigh (chunk ∷ chunks) =
    ap₂ (λ (a b : Output). a ++ b) (chunk_weighs chunk) (chunks_weigh chunks) ∙ sym (weighed-append (marked_chunk chunk) (flat_map marked_chunk chunks))

pub chunked_weighs : (content : List ℕ) (trailers : List Field)
    → body_out true content trailers ≡ weighed (flat_map marked_chunk (cut 8192 content) ++ as_framing (last_text trailers))
chunked_weighs content trailers =
    let chunks : List (List ℕ) = cut 8192 content in
    ap₂ (λ (a b : Output). a ++ b) (chunks_weigh chunks) (weighs_framing (last_text trailers))
    ∙ sym (weighed-append (flat_map marked_chunk chunks) (as_framing (last_text trailers)))

-- ---- its bytes and its content

-- the bytes of a body
pub body_bytes : (chunked : Bool) (content : List ℕ) (trailers : List Field)
    → written (body_out chunked content trailers) ≡ cond chunked (flat_map chunk_text (cut 8192 content) ++ last_text trailers) content
body_bytes true content trailers =
    ap written (chunked_weighs content trailers) ∙ weighed_bytes (flat_map marked_chunk (cut 8192 content) ++ as_framing (last_text trailers))
    ∙ chunked_bytes content trailers
body_bytes false content trailers = written_shown content

chunk_shows : (chunk : List ℕ) → shown_in (chunk_out chunk) ≡ length chunk
chunk_shows chunk =
    ap shown_in (chunk_weighs chunk) ∙ weighed_content (marked_chunk chunk) ∙ chunk_count chunk (hex_within 15 (length chunk) ++ crlf) (marked_chunk chunk) refl

chunks_show : (chunks : List (List ℕ)) → shown_in (flat_map chunk_out chunks) ≡ length (concat chunks)
chunks_show [] = refl
chunks_show (c ∷ chunks) = omega (arith, shown-append (chunk_out c) (flat_map chunk_out chunks), chunk_shows c, length-append c (concat chunks), chunks_show chunks)

-- all content is in a body
pub body_shows : (chunked : Bool) (content : List ℕ) (trailers : List Field) → shown_in (body_out chunked content trailers) ≡ length content
body_shows true content trailers =
    omega (
      arith,
      shown-append (flat_map chunk_out (cut 8192 content)) (plain (last_text trailers)),
      chunks_show (cut 8192 content),
      ap length (cut_whole (length content) content (omega arith)),
      shown_plain (last_text trailers),
    )
body_shows false content trailers = shown_shown content

-- ---- content

pub piece_shows : (chunked : Bool) (full : List ℕ) → shown_in (piece_out chunked full) ≡ length full
piece_shows true full = chunk_shows full
piece_shows false full = shown_shown full

pub piece_bytes : (chunked : Bool) (full : List ℕ) → written (piece_out chunked full) ≡ cond chunked (chunk_text full) full
piece_bytes true full = ap written (chunk_weighs full) ∙ weighed_bytes (marked_chunk full) ∙ chunk_bytes full
piece_bytes false full = written_shown full

pub piece_first : (chunked : Bool) (full back : List ℕ) (trailers : List Field) → length full ≡ 8192 → body_out chunked (full ++ back) trailers ≡ piece_out chunked full ++ body_out chunked back trailers
piece_first true full back trailers e =
    ap (λ (l : List (List ℕ)). flat_map chunk_out l ++ plain (last_text trailers)) (cut_first 8192 full back (omega arith) e)
    ∙ append_assoc (chunk_out full) (flat_map chunk_out (cut 8192 back)) (plain (last_text trailers))
piece_first false full back trailers e = shown-run full back

-- ---- the end of a body

pub trailers_due : (to_head chunked : Bool) (kept : List ℕ) (fields : List Field) (q : List Item)
    → owed to_head (in_body chunked kept) (trailer_section fields ∷ q) ≡ body_out chunked kept fields ++ []
trailers_due to_head chunked kept fields q = ap (λ (l : List ℕ). body_out chunked l fields) (append-nil kept) ∙ sym (append-nil (body_out chunked kept fields))

-- ---- the head

-- with a length it is counted, and without one it is chunked
pub by_length : (values : List (List ℕ)) → is_chunked (framing_by values false) ≡ is_none values
by_length [] = refl
by_length (value ∷ more) = refl

-- a body goes out behind its head
abbrev behind_head : Framing1 → List ℕ → List ℕ → List Field → Output
behind_head f front content trailers = plain (front ++ head_end (is_chunked f)) ++ body_out (is_chunked f) content trailers

bodied : (values : List (List ℕ)) (front content : List ℕ) (trailers : List Field) → final_out (framing_by values false) front content trailers ≡ behind_head (framing_by values false) front content trailers
bodied [] front content trailers = refl
bodied (value ∷ more) front content trailers = refl

said : (values : List (List ℕ)) (bare : Bool) → is_none values ≡ false → framing_by values bare ≡ framing_by values false
said [] bare h = absurd (cc)
said (value ∷ more) bare h = refl

-- where the head says that there is a body, and which
pub head_due : (to_head : Bool) (of : Head) (fields : List Field) (q : List Item) → has_no_body to_head (start_of of) ≡ false → is_open of fields ≡ false
    → owed to_head at_start (head of fields ∷ q)
    ≡ plain (head_front (start_of of) fields ++ head_end (says_chunks to_head of fields)) ++ owed to_head (in_body (says_chunks to_head of fields) []) q
head_due to_head (of_response status) fields q some shut =
    let front = head_front (response [] status) fields in
    let body = framing_by (lengths fields) false in
    ap (λ (none : Bool). final_out (cond none Empty body) front (content_of q) (trailers_of q)) some ∙ bodied (lengths fields) front (content_of q) (trailers_of q)
    ∙ ap (λ (none : Bool). behind_head (cond none Empty body) front (content_of q) (trailers_of q)) (sym some)
head_due to_head (of_request control) fields q some shut =
    let front = head_front (request control) fields in
    ap (λ (f : Framing1). final_out f front (content_of q) (trailers_of q)) (said (lengths fields) (is_bare (message_of (of_request control) fields q) (request control)) shut)
    ∙ bodied (lengths fields) front (content_of q) (trailers_of q)

-- where there is none the head is all
pub bodyless_due : (to_head : Bool) (status : ℕ) (fields : List Field) (q : List Item) → is_bodyless to_head status ≡ true
    → owed to_head at_start (head (of_response status) fields ∷ q) ≡ owed to_head (head_waits (head_front (response [] status) fields ++ head_end false)) q
bodyless_due to_head status fields q none =
    ap (λ (b : Bool). final_out (cond b Empty (framing_by (lengths fields) false)) (head_front (response [] status) fields) (content_of q) (trailers_of q)) none

bare_is : (content : List ℕ) (trailers : List Field) → framing_by [] (nat_eq (length content) 0 && nat_eq (length trailers) 0) ≡ framing_left content trailers
bare_is [] [] = refl
bare_is [] (line ∷ more) = ap (framing_by []) (ne_eqb (suc (length more)) 0 (λ e. omega (arith, e)))
bare_is (byte ∷ more) trailers = ap (framing_by []) (and_left (nat_eq (suc (length more)) 0) (nat_eq (length trailers) 0) (ne_eqb (suc (length more)) 0 (λ e. omega (arith, e))))

open_by : (values : List (List ℕ)) (bare : Bool) → is_none values ≡ true → framing_by values bare ≡ framing_by [] bare
open_by [] bare h = refl
open_by (value ∷ more) bare h = absurd (cc)

-- where it leaves that open, it is held
pub open_due : (to_head : Bool) (of : Head) (fields : List Field) (q : List Item) → is_open of fields ≡ true
    → owed to_head at_start (head of fields ∷ q) ≡ owed to_head (head_held (head_front (start_of of) fields)) q
open_due to_head (of_response status) fields q h = absurd (cc)
open_due to_head (of_request control) fields q h =
    ap (λ (f : Framing1). final_out f (head_front (request control) fields) (content_of q) (trailers_of q))
    (open_by (lengths fields) (is_bare (message_of (of_request control) fields q) (request control)) h ∙ bare_is (content_of q) (trailers_of q))

-- content shows that there is a body
pub held_due : (to_head : Bool) (front bytes : List ℕ) (q : List Item) → 0 < length bytes
    → owed to_head (head_held front) (map content_byte bytes ++ q) ≡ plain (front ++ head_end true) ++ owed to_head (in_body true []) (map content_byte bytes ++ q)
held_due to_head front [] q some = absurd (omega arith)
held_due to_head front (x ∷ bytes) q some = refl

-- the trailer section shows whether there is one
pub held_trailers_due : (to_head : Bool) (front : List ℕ) (fields : List Field) (q : List Item)
    → owed to_head (head_held front) (trailer_section fields ∷ q) ≡ final_out (framing_left [] fields) front [] fields ++ []
held_trailers_due to_head front fields q = sym (append-nil (final_out (framing_left [] fields) front [] fields))
