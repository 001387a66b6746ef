-- Bodies: counted, chunked or to the end (RFC 9112, sections 6 and 7).
use Rattle.std.specs.Prelude.{ℕ, ◌≡◌, ◌<◌, ◌≤◌, ◌⊎◌, Bool, nat_lt, List, [], ◌∷◌, ◌++◌, length, All, IsTrue}
use Rattle.std.specs.List.{concat}
use Rattle.std.specs.Char.{digit_value}
use Rattle.std.specs.Str.Parse.{digits_value}
use Rattle.bh_spec.specs.Bounds.{Bounds, IsWithin}
use Rattle.bh_spec.specs.Bytes.{is_text_value}
use Rattle.bh_spec.specs.Messages.{Field}
use Rattle.h1_spec.specs.declared.Framing1.{Framing1}
use Rattle.h1_spec.specs.declared.Framing1.TheVariants.{Empty, Counted, Chunked, ToEnd}
use Rattle.bh_spec.specs.Texts.{◌then◌, AreEach}
use Rattle.h1_spec.specs.Grammar.{Is, crlf, Line}
use Rattle.h1_spec.specs.Heads.{AreBlank, IsSection}

-- 0 to 9, A to F, a to f
abbrev pub is_hex : ℕ → Bool
is_hex byte = nat_lt (digit_value byte) 16

-- nothing, or a semicolon and any text, which is read over (RFC 9112, section 7.1.1)
abbrev pub IsExtension : List ℕ → Type 0
IsExtension bytes = (bytes ≡ []) ⊎ ((text : List ℕ) × (bytes ≡ 59 ∷ text) × All (λ byte. IsTrue (is_text_value byte)) text)

-- A size in so many hexadecimal digits at most, blanks, and an extension; what stands before the line end.
pub record IsSize (most : ℕ) (size : ℕ) (line : List ℕ) : Type 0 where
  pub digits : List ℕ
  pub blanks : List ℕ
  pub extension : List ℕ
  pub some : 1 ≤ length digits
  pub few : length digits ≤ most
  pub each : All (λ byte. IsTrue (is_hex byte)) digits
  pub value : digits_value 16 digits ≡ size
  pub blank : AreBlank blanks
  pub read_over : IsExtension extension
  pub written : line ≡ digits ++ (blanks ++ extension)

-- A chunk line: a size of 15 digits at most, and at most 1,024 bytes with its line end (RFC 9112, section 7.1).
abbrev pub IsChunkLine : ℕ → List ℕ → Type 0
IsChunkLine size line = (length line ≤ 1024) × Line (IsSize 15 size) line

-- a chunk: its line, its bytes, and a line end
abbrev pub IsChunk : List ℕ → List ℕ → Type 0
IsChunk chunk = IsChunkLine (length chunk) then Is chunk then Is crlf

-- a trailer section within the limit (RFC 9112, section 7.1.2)
abbrev pub IsTrailerSection : Bounds → List Field → List ℕ → Type 0
IsTrailerSection L trailers bytes = IsWithin L.section (length bytes) × IsSection trailers bytes

-- Chunks that aren't empty, the last chunk line, whose size is 0, and the trailer section.
abbrev pub IsChunked : Bounds → List ℕ → List Field → List ℕ → Type 0
IsChunked L content trailers bytes = (chunks : List (List ℕ)) × (concat chunks ≡ content) × All (λ chunk. 0 < length chunk) chunks
    × (AreEach IsChunk chunks then IsChunkLine 0 then IsTrailerSection L trailers) bytes

-- A body with its content and its trailer section.
abbrev pub IsBody : Bounds → Framing1 → List ℕ → List Field → List ℕ → Type 0
IsBody L Empty content trailers bytes = (content ≡ []) × (trailers ≡ []) × (bytes ≡ [])
IsBody L (Counted n) content trailers bytes = (length content ≡ n) × (trailers ≡ []) × (bytes ≡ content)
IsBody L Chunked content trailers bytes = IsChunked L content trailers bytes
IsBody L ToEnd content trailers bytes = (trailers ≡ []) × (bytes ≡ content)
