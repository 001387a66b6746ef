-- HTTP/1.1 texts with marks: which of their bytes are content.
use Rattle.std.specs.Prelude.{ℕ, ◌≡◌, ◌<◌, Bool, List, [], ◌++◌, length, flat_map, All}
use Rattle.std.specs.List.{concat}
use Rattle.bh_spec.specs.declared.Part.TheVariants as parts
use Rattle.bh_spec.specs.Bounds.{Bounds}
use Rattle.bh_spec.specs.Messages.{Field, Message}
use Rattle.bh_spec.specs.Canonical.{cut}
use Rattle.bh_spec.specs.Texts.{Text, mark, bytes_of, ◌then◌, AreEach}
use Rattle.h1_spec.specs.declared.Framing1.{Framing1}
use Rattle.h1_spec.specs.declared.Framing1.TheVariants.{Empty, Counted, Chunked, ToEnd}
use Rattle.h1_spec.specs.declared.Scheme1.{Scheme1}
use Rattle.h1_spec.specs.Grammar.{crlf}
use Rattle.h1_spec.specs.Heads.{IsSection}
use Rattle.h1_spec.specs.Framing.{framing}
use Rattle.h1_spec.specs.Bodies.{IsChunkLine}
use Rattle.h1_spec.specs.Http1.{IsInterimHead, IsHeadWithin, interims_of, IsHttp1}
use Rattle.h1_spec.specs.Http1Text.{hex_within, interims_text, head_text, framing_written}
use Rattle.h1_spec.specs.Written.{last_text}

-- HTTP/1.1 has no parts: what isn't content is framing.
abbrev pub as_content : List ℕ → Text
as_content bytes = mark parts.Content bytes

abbrev pub as_framing : List ℕ → Text
as_framing bytes = mark parts.Framing bytes

-- a chunk, with its line and its line end
abbrev pub IsMarkedChunk : List ℕ → Text → Type 0
IsMarkedChunk chunk t = (line : List ℕ) × IsChunkLine (length chunk) line × (t ≡ as_framing line ++ (as_content chunk ++ as_framing crlf))

-- the chunks, none of them empty, and all that stands behind them
pub record IsMarkedChunked (content : List ℕ) (t : Text) : Type 0 where
  pub chunks : List (List ℕ)
  pub joined : concat chunks ≡ content
  pub some : All (λ chunk. 0 < length chunk) chunks
  pub text : Text
  pub marked : AreEach IsMarkedChunk chunks text
  pub behind : List ℕ
  pub last : (IsChunkLine 0 then (λ rest. (trailers : List Field) × IsSection trailers rest)) behind
  pub split : t ≡ text ++ as_framing behind

-- the body of a message
abbrev pub IsMarkedBody : Framing1 → List ℕ → Text → Type 0
IsMarkedBody Empty content t = t ≡ []
IsMarkedBody (Counted n) content t = t ≡ as_content content
IsMarkedBody ToEnd content t = t ≡ as_content content
IsMarkedBody Chunked content t = IsMarkedChunked content t

-- A text of a message, with its marks: the bytes are one, and the content is what its body says.
pub record IsMarked (L : Bounds) (to_head : Bool) (m : Message) (t : Text) : Type 0 where
  pub scheme : Scheme1
  pub whole : IsHttp1 L scheme to_head m (bytes_of t)
  pub heads : List ℕ
  pub body : Text
  pub heads_are : (AreEach (IsInterimHead L) (interims_of m.start) then IsHeadWithin L whole.head) heads
  pub marked : IsMarkedBody (framing to_head whole.head) m.content body
  pub split : t ≡ as_framing heads ++ body

-- a text of some message, for any scheme of the caller
abbrev pub IsSomeMarked : Bounds → Bool → Text → Type 0
IsSomeMarked L to_head t = (m : Message) × IsMarked L to_head m t

-- ---- the text that is written for a message, with its marks

abbrev pub marked_chunk : List ℕ → Text
marked_chunk chunk = as_framing (hex_within 15 (length chunk) ++ crlf) ++ (as_content chunk ++ as_framing crlf)

abbrev pub marked_body : Framing1 → Message → Text
marked_body Empty m = []
marked_body (Counted n) m = as_content m.content
marked_body ToEnd m = as_content m.content
marked_body Chunked m = flat_map marked_chunk (cut 8192 m.content) ++ as_framing (last_text m.trailers)

-- Its heads are framing; of its body the content of each chunk is content.
abbrev pub marked_text : Bool → Message → Text
marked_text to_head m =
    let by = framing_written to_head m in as_framing (interims_text m.start ++ head_text by m) ++ marked_body by m
