-- Content that is read in pieces, up to where a trailer section begins: where it stands, and what the answers say.
use Rattle.std.specs.Prelude.{ℕ, zero, suc, ◌≡◌, ◌<◌, ◌≤◌, ◌+◌, ◌⊎◌, cond, List, [], ◌++◌, length, take}
use Rattle.bh_spec.specs.Bounds.{Bounds}
use Rattle.bh_spec.specs.declared.H1Why.{H1Why}
use Rattle.bh_spec.specs.declared.H1Why.TheVariants as why
use Rattle.h1_spec.specs.Bodies.{is_hex}
use Rattle.h1_spec.specs.BodyStates.{At, in_count, to_end, in_line, in_chunk, behind_chunk, behind_cr, in_trailers, over, OfRest, nothing_behind, Moves}
use Rattle.h1_body.specs.Lines.{state_of, IsSmall}
use Rattle.h1_body.specs.declared.line.Line.{Line}
use Rattle.h1_body.specs.declared.line.Line.TheVariants as lines
use Rattle.h1_body.specs.declared.content.Phase.{Phase}
use Rattle.h1_body.specs.declared.content.Phase.TheVariants as phases
use Rattle.h1_body.specs.declared.content.Pushed.{Pushed}
use Rattle.h1_body.specs.declared.content.Pushed.TheVariants as pushed

abbrev pub at_of : Phase → At
at_of (phases.Count missing) = in_count missing
at_of phases.ToEnd = to_end
at_of (phases.Line line room) = in_line (state_of line) room
at_of (phases.Chunk missing) = in_chunk missing
at_of phases.ChunkEnd = behind_chunk
at_of phases.ChunkLf = behind_cr
at_of phases.Trailers = in_trailers []

-- ---- what is known of a phase

abbrev pub NotOver : Line → Type 0
NotOver (lines.Digits count number) = Unit {0}
NotOver (lines.Blanks size) = Unit {0}
NotOver (lines.Extension size) = Unit {0}
NotOver (lines.BehindCr size) = Unit {0}
NotOver (lines.Ended size) = ⊥

abbrev pub IsValid : Phase → Type 0
IsValid (phases.Count missing) = Unit {0}
IsValid phases.ToEnd = Unit {0}
IsValid (phases.Line line room) = IsSmall line × NotOver line
IsValid (phases.Chunk missing) = 0 < missing
IsValid phases.ChunkEnd = Unit {0}
IsValid phases.ChunkLf = Unit {0}
IsValid phases.Trailers = Unit {0}

-- something is still to be read before the trailer section
abbrev pub IsReading : Phase → Type 0
IsReading (phases.Count missing) = 0 < missing
IsReading phases.ToEnd = Unit {0}
IsReading (phases.Line line room) = Unit {0}
IsReading (phases.Chunk missing) = Unit {0}
IsReading phases.ChunkEnd = Unit {0}
IsReading phases.ChunkLf = Unit {0}
IsReading phases.Trailers = ⊥

-- the next byte is none of the content
abbrev pub IsBetween : Phase → Type 0
IsBetween (phases.Count missing) = ⊥
IsBetween phases.ToEnd = ⊥
IsBetween (phases.Line line room) = Unit {0}
IsBetween (phases.Chunk missing) = ⊥
IsBetween phases.ChunkEnd = Unit {0}
IsBetween phases.ChunkLf = Unit {0}
IsBetween phases.Trailers = ⊥

-- chunks are read
abbrev pub IsChunking : Phase → Type 0
IsChunking (phases.Count missing) = ⊥
IsChunking phases.ToEnd = ⊥
IsChunking (phases.Line line room) = Unit {0}
IsChunking (phases.Chunk missing) = Unit {0}
IsChunking phases.ChunkEnd = Unit {0}
IsChunking phases.ChunkLf = Unit {0}
IsChunking phases.Trailers = Unit {0}

-- ---- phases that follow

-- behind one byte more of a chunk line
abbrev pub phase_behind : Line → ℕ → Phase
phase_behind (lines.Digits count number) room = phases.Line (lines.Digits count number) room
phase_behind (lines.Blanks size) room = phases.Line (lines.Blanks size) room
phase_behind (lines.Extension size) room = phases.Line (lines.Extension size) room
phase_behind (lines.BehindCr size) room = phases.Line (lines.BehindCr size) room
phase_behind (lines.Ended zero) room = phases.Trailers
phase_behind (lines.Ended (suc size)) room = phases.Chunk (suc size)

-- so many bytes before the end of a chunk
abbrev pub chunk_behind : ℕ → Phase
chunk_behind zero = phases.ChunkEnd
chunk_behind (suc missing) = phases.Chunk (suc missing)

-- why a byte that no chunk line has there is refused
abbrev pub why_not : Line → ℕ → H1Why
why_not (lines.Digits count number) byte = cond (is_hex byte) why.ChunkLineLimit why.ChunkLine
why_not (lines.Blanks size) byte = why.ChunkLine
why_not (lines.Extension size) byte = why.ChunkLine
why_not (lines.BehindCr size) byte = why.ChunkLine
why_not (lines.Ended size) byte = why.ChunkLine

-- ---- answers

-- within any limits the bytes, with this content, make w of v
abbrev pub Becomes : At → List ℕ → List ℕ → At → Type 0
Becomes v bytes content w = (L : Bounds) → Moves L v bytes content w

-- from v the bytes are too few, and nothing else is wrong with them
abbrev pub AwaitsMore : At → List ℕ → Type 0
AwaitsMore v bytes = (L : Bounds) → OfRest L nothing_behind v bytes why.Ended

-- no content stands next
abbrev pub NoneMissing : At → Type 0
NoneMissing (in_count missing) = missing ≡ 0
NoneMissing to_end = ⊥
NoneMissing (in_line state room) = Unit {0}
NoneMissing (in_chunk missing) = ⊥
NoneMissing behind_chunk = Unit {0}
NoneMissing behind_cr = Unit {0}
NoneMissing (in_trailers seen) = Unit {0}
NoneMissing (over found) = Unit {0}

-- behind content stands more of it, or the line end of a chunk
abbrev pub IsBehindContent : At → Type 0
IsBehindContent (in_count missing) = Unit {0}
IsBehindContent to_end = Unit {0}
IsBehindContent (in_line state room) = ⊥
IsBehindContent (in_chunk missing) = Unit {0}
IsBehindContent behind_chunk = Unit {0}
IsBehindContent behind_cr = ⊥
IsBehindContent (in_trailers seen) = ⊥
IsBehindContent (over found) = ⊥

-- the first bytes of the piece end with these bytes of content, which are as many as there are
pub record IsContent (v : At) (piece : List ℕ) (taken : ℕ) (bytes : List ℕ) (w : At) : Type 0 where
  pub inside : taken ≤ length piece
  pub some : 0 < length bytes
  pub ends : (front : List ℕ) × (take taken piece ≡ front ++ bytes)
  pub becomes : Becomes v (take taken piece) bytes w
  pub all : (taken ≡ length piece) ⊎ NoneMissing w
  pub place : IsBehindContent w

-- a byte of the piece is the first that decides: the bytes before it have no content, they are too few, and nothing else is wrong with
-- them; and with it the cause is this one, whatever follows
pub record IsRefused (v : At) (piece : List ℕ) (cause : H1Why) : Type 0 where
  pub at : ℕ
  pub behind : At
  pub inside : at < length piece
  pub none : Becomes v (take at piece) [] behind
  pub before : AwaitsMore v (take at piece)
  pub decided : (L : Bounds) (after : List ℕ) → OfRest L nothing_behind v (take (at + 1) piece ++ after) cause
  pub not_end : cause ≡ why.Ended → ⊥

abbrev pub Says : At → List ℕ → Pushed → At → Type 0
Says v piece pushed.Need w = Becomes v piece [] w × (((v ≡ to_end) × (piece ≡ [])) ⊎ AwaitsMore v piece)
Says v piece (pushed.Content taken bytes) w = IsContent v piece taken bytes.now w
Says v piece (pushed.Trailers taken) w = (taken ≤ length piece) × (w ≡ in_trailers []) × Becomes v (take taken piece) [] w
Says v piece (pushed.Refused cause) w = IsRefused v piece cause

-- what is known behind an answer
abbrev pub KnownBehind : Pushed → Phase → Type 0
KnownBehind pushed.Need phase = IsValid phase × IsReading phase
KnownBehind (pushed.Content taken bytes) phase = IsValid phase
KnownBehind (pushed.Trailers taken) phase = phase ≡ phases.Trailers
KnownBehind (pushed.Refused cause) phase = Unit {0}

-- a run of content at the front of what there is
pub record IsRun (v : At) (rest bytes : List ℕ) (w : At) : Type 0 where
  pub some : 0 < length bytes
  pub front : (behind : List ℕ) × (rest ≡ bytes ++ behind)
  pub becomes : Becomes v bytes bytes w
  pub all : (length bytes ≡ length rest) ⊎ NoneMissing w
  pub place : IsBehindContent w
