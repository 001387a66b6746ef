-- Why bytes are no body (RFC 9112, section 7.1): by the first byte that decides.
use Rattle.std.specs.Prelude.{ℕ, ◌≡◌, ◌<◌, ◌≤◌, ◌+◌, ◌⊎◌, List, [], ◌++◌, length, take, drop, All}
use Rattle.bh_spec.specs.Bounds.{Bounds}
use Rattle.bh_spec.specs.Messages.{Field}
use Rattle.h1_spec.specs.declared.Framing1.{Framing1}
use Rattle.h1_spec.specs.declared.Framing1.TheVariants.{Empty, Counted, Chunked, ToEnd}
use Rattle.bh_spec.specs.declared.H1Why.TheVariants as why
use Rattle.bh_spec.specs.Texts.{◌then◌, AreEach}
use Rattle.h1_spec.specs.Grammar.{crlf, Line}
use Rattle.h1_spec.specs.Heads.{IsSection, EndsAt}
use Rattle.h1_spec.specs.Bodies.{IsSize, IsChunkLine, IsChunk}
use Rattle.h1_spec.specs.Causes.{Causes, ◌when◌else◌, OfSection}

-- ---- chunk lines

-- bytes of the kind begin with these
abbrev pub CanBegin : (List ℕ → Type 0) → List ℕ → Type 0
CanBegin R bytes = (rest : List ℕ) × R (bytes ++ rest)

-- a chunk line of any length, with a size of so many digits at most
abbrev pub IsLineOf : ℕ → List ℕ → Type 0
IsLineOf most line = (size : ℕ) × Line (IsSize most size) line

-- with a size of any number of digits
abbrev pub IsAnyLine : List ℕ → Type 0
IsAnyLine line = (most : ℕ) × IsLineOf most line

-- a chunk line has begun, and isn't whole
abbrev pub HasBegun : List ℕ → Type 0
HasBegun bytes = CanBegin (IsLineOf 15) bytes × (IsLineOf 15 bytes → ⊥)

-- The byte numbered `at` is the first after which no chunk line goes on.
pub record IsDeadAt (bytes : List ℕ) (at : ℕ) : Type 0 where
  pub inside : at < length bytes
  pub early : at < 1024
  pub before : HasBegun (take at bytes)
  pub after : CanBegin (IsLineOf 15) (take (at + 1) bytes) → ⊥

-- By the first byte that decides: a digit too many, or any byte behind the 1,024th, is too much; any other byte breaks the form.
abbrev pub OfChunkLine : List ℕ → Causes
OfChunkLine bytes cause = ((at : ℕ) × IsDeadAt bytes at
    × (why.ChunkLine when (CanBegin IsAnyLine (take (at + 1) bytes) → ⊥) else λ c. c ≡ why.ChunkLineLimit) cause)
    ⊎ (((1024 < length bytes) × HasBegun (take 1024 bytes) × (cause ≡ why.ChunkLineLimit))
    ⊎ ((length bytes ≤ 1024) × HasBegun bytes × (cause ≡ why.Ended)))

-- ---- chunks and bodies

-- the line end behind a chunk is missing, or isn't there
abbrev pub OfLineEnd : List ℕ → Causes
OfLineEnd bytes cause = (((more : List ℕ) × (0 < length more) × (crlf ≡ bytes ++ more)) × (cause ≡ why.Ended))
    ⊎ ((((more : List ℕ) → crlf ≡ bytes ++ more → ⊥) × ((more : List ℕ) → bytes ≡ crlf ++ more → ⊥)) × (cause ≡ why.ChunkEnd))

abbrev pub OfChunk : ℕ → List ℕ → Causes
OfChunk size bytes cause = ((length bytes < size) × (cause ≡ why.Ended)) ⊎ ((size ≤ length bytes) × OfLineEnd (drop size bytes) cause)

-- a trailer section ends with its first line, where that is empty, and else as a head does
abbrev pub EndsAtOnce : List ℕ → Type 0
EndsAtOnce bytes = (rest : List ℕ) × (bytes ≡ crlf ++ rest)

abbrev pub TrailerEndsAt : List ℕ → ℕ → Type 0
TrailerEndsAt bytes many = (EndsAtOnce bytes × (many ≡ 2)) ⊎ ((EndsAtOnce bytes → ⊥) × EndsAt bytes many)

-- What is said where a body is whole: of its trailer section, and of the bytes that follow.
abbrev pub Behind : Type 1
Behind = List Field → List ℕ → Causes

-- Where a trailer section should stand.
abbrev pub OfTrailers : Bounds → Behind → List ℕ → Causes
OfTrailers L behind bytes = OfSection (TrailerEndsAt bytes) L.section bytes why.TrailerLimit (λ section rest.
    why.TrailerForm when ((trailers : List Field) → IsSection trailers section → ⊥) else λ cause. (trailers : List Field)
    × IsSection trailers section
    × behind trailers rest cause)

-- Where a chunk line should stand.
abbrev pub OfNextChunk : Bounds → Behind → List ℕ → Causes
OfNextChunk L behind bytes cause = OfChunkLine bytes cause
    ⊎ ((size : ℕ) × (line rest : List ℕ) × (bytes ≡ line ++ rest) × IsChunkLine size line
    × (((0 < size) × OfChunk size rest cause) ⊎ ((size ≡ 0) × OfTrailers L behind rest cause)))

-- A body with this framing: a cause of its own, by the first byte that decides, or what is said behind it. One that lasts
-- to the end has no cause.
abbrev pub OfBody : Bounds → Framing1 → Behind → List ℕ → Causes
OfBody L Empty behind bytes cause = behind [] bytes cause
OfBody L (Counted n) behind bytes cause = ((length bytes < n) × (cause ≡ why.Ended)) ⊎ ((n ≤ length bytes) × behind [] (drop n bytes) cause)
OfBody L Chunked behind bytes cause = (chunks : List (List ℕ)) × All (λ chunk. 0 < length chunk) chunks
    × (AreEach IsChunk chunks then λ rest. OfNextChunk L behind rest cause) bytes
OfBody L ToEnd behind bytes cause = ⊥
