-- The text that is written for a message, with its marks.
use Rattle.std.proofs.Common.{◌≡◌, ◌<◌, Bool, ℕ, List, [], ◌∷◌, ◌++◌, length, flat_map, All, codes, refl, sym, ap₂, subst, ◌∙◌, arith, append_assoc}
use Rattle.std.proofs.lemmas.List.Elements.{All-head, All-tail, All-weaker}
use Rattle.bh_spec.specs.Bounds.{Bounds, no_bounds}
use Rattle.bh_spec.specs.Canonical.{cut}
use Rattle.bh_spec.specs.Messages.{Field, Message}
use Rattle.bh_spec.specs.Texts.{bytes_of, AreEach}
use Rattle.bh_spec.proofs.Marks.{bytes_of-append}
use Rattle.bh_spec.proofs.Written.{cut_pieces, cut_whole}
use Rattle.h1_spec.specs.declared.Framing1.{Framing1}
use Rattle.h1_spec.specs.declared.Framing1.TheVariants.{Empty, Counted, Chunked, ToEnd}
use Rattle.h1_spec.specs.declared.Scheme1.{Scheme1}
use Rattle.h1_spec.specs.Grammar.{crlf}
use Rattle.h1_spec.specs.Heads.{IsHeadField}
use Rattle.h1_spec.specs.Cleaning.{clean_message}
use Rattle.h1_spec.specs.Http1.{IsHttp1}
use Rattle.h1_spec.specs.Http1Text.{hex_within, chunk_text, interims_text, head_text, framing_written, body_text}
use Rattle.h1_spec.specs.Written.{IsPiece, section_text, last_text}
use Rattle.h1_spec.specs.Marks.{as_content, as_framing, IsMarkedChunk, IsMarkedChunked, IsMarkedBody, marked_chunk, marked_body, marked_text}
use Rattle.h1_spec.specs.Laws.{MarksTheText, ThereMarked}
use Rattle.h1_spec.proofs.BodyMarks.{framing_bytes, content_bytes}
use Rattle.h1_spec.proofs.Written.{chunk_line_written, section_written}
use Rattle.h1_spec.proofs.Forth.{built_within, no_limits}

-- ---- its bytes

pub chunk_bytes : (chunk : List ℕ) → bytes_of (marked_chunk chunk) ≡ chunk_text chunk
chunk_bytes chunk =
    let line : List ℕ = hex_within 15 (length chunk) ++ crlf in
    bytes_of-append (as_framing line) (as_content chunk ++ as_framing crlf)
    ∙ ap₂ (λ (a b : List ℕ). a ++ b) (framing_bytes line)
    (bytes_of-append (as_content chunk) (as_framing crlf) ∙ ap₂ (λ (a b : List ℕ). a ++ b) (content_bytes chunk) (framing_bytes crlf))
    ∙ append_assoc (hex_within 15 (length chunk)) crlf (chunk ++ crlf)

chunks_bytes : (chunks : List (List ℕ)) → bytes_of (flat_map marked_chunk chunks) ≡ flat_map chunk_text chunks
chunks_bytes [] = refl
chunks_bytes (chunk ∷ chunks) =
    bytes_of-append (marked_chunk chunk) (flat_map marked_chunk chunks) ∙ ap₂ (λ (a b : List ℕ). a ++ b) (chunk_bytes chunk) (chunks_bytes chunks)

pub chunked_bytes : (content : List ℕ) (trailers : List Field)
    → bytes_of (flat_map marked_chunk (cut 8192 content) ++ as_framing (last_text trailers)) ≡ flat_map chunk_text (cut 8192 content) ++ last_text trailers
chunked_bytes content trailers =
    bytes_of-append (flat_map marked_chunk (cut 8192 content)) (as_framing (last_text trailers))
    ∙ ap₂ (λ (a b : List ℕ). a ++ b) (chunks_bytes (cut 8192 content)) (framing_bytes (last_text trailers))

body_bytes : (f : Framing1) (m : Message) → bytes_of (marked_body f m) ≡ body_text f m
body_bytes Empty m = refl
body_bytes (Counted n) m = content_bytes m.content
body_bytes ToEnd m = content_bytes m.content
body_bytes Chunked m = chunked_bytes m.content m.trailers

pub marks_the_text : MarksTheText
marks_the_text to_head m =
    let by : Framing1 = framing_written to_head m in
    let heads : List ℕ = interims_text m.start ++ head_text by m in
    bytes_of-append (as_framing heads) (marked_body by m) ∙ ap₂ (λ (a b : List ℕ). a ++ b) (framing_bytes heads) (body_bytes by m)
    ∙ append_assoc (interims_text m.start) (head_text by m) (body_text by m)

-- ---- its marks

chunks_marked : (chunks : List (List ℕ)) → All IsPiece chunks → AreEach IsMarkedChunk chunks (flat_map marked_chunk chunks)
chunks_marked [] h = refl
chunks_marked (chunk ∷ chunks) h = (
  marked_chunk chunk,
  flat_map marked_chunk chunks,
  (hex_within 15 (length chunk) ++ crlf, chunk_line_written (length chunk) (All-head IsPiece chunk chunks h).1, refl),
  chunks_marked chunks (All-tail IsPiece chunk chunks h),
  refl,
)

chunked_marked : (m : Message) → All IsHeadField m.trailers → IsMarkedChunked m.content (marked_body Chunked m)
chunked_marked m ends =
    let pieces : All IsPiece (cut 8192 m.content) = cut_pieces (length m.content) m.content in
    record {
      chunks = cut 8192 m.content;
      joined = cut_whole (length m.content) m.content (omega arith);
      some = All-weaker IsPiece (λ (chunk : List ℕ). 0 < length chunk) (λ chunk p. p.0) (cut 8192 m.content) pieces;
      text = flat_map marked_chunk (cut 8192 m.content);
      marked = chunks_marked (cut 8192 m.content) pieces;
      behind = last_text m.trailers;
      last = (codes "0" ++ crlf, section_text m.trailers, chunk_line_written 0 (omega arith), (m.trailers, section_written m.trailers ends), refl);
      split = refl;
    }

body_marked : (f : Framing1) (m : Message) → All IsHeadField m.trailers → IsMarkedBody f m.content (marked_body f m)
body_marked Empty m ends = refl
body_marked (Counted n) m ends = refl
body_marked ToEnd m ends = refl
body_marked Chunked m ends = chunked_marked m ends

abbrev with_bytes : (L : Bounds) (scheme : Scheme1) (to_head : Bool) (m : Message) (x y : List ℕ) → y ≡ x → IsHttp1 L scheme to_head m x → IsHttp1 L scheme to_head m y
with_bytes L scheme to_head m x y e h = record {
  head = h.head;
  trailers = h.trailers;
  text = (h.text.0, h.text.1, h.text.2, h.text.3, e ∙ h.text.4);
  start = h.start;
  coded = h.coded;
  counted = h.counted;
  fields = h.fields;
  cleaned = h.cleaned;
  content = h.content;
  fits = h.fits;
}

pub there_marked : ThereMarked
there_marked scheme to_head m valid own_scheme form =
    let n : Message = clean_message m in
    let by : Framing1 = framing_written to_head n in
    let built = built_within no_bounds scheme to_head m valid own_scheme form (no_limits to_head n) in
    record {
      scheme = scheme;
      whole = with_bytes no_bounds scheme to_head n _ (bytes_of (marked_text to_head n)) (marks_the_text to_head n) built.whole;
      heads = interims_text n.start ++ head_text by n;
      body = marked_body by n;
      heads_are = built.heads;
      marked = subst (λ (g : Framing1). IsMarkedBody g n.content (marked_body by n)) (sym built.by) (body_marked by n built.ends);
      split = refl;
    }
