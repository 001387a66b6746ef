-- A reader of a body in the middle of it: where it stands, what completes the body from there, and what is wrong with bytes from there.
use Rattle.std.specs.Prelude.{ℕ, zero, suc, ◌≡◌, ◌<◌, ◌≤◌, ◌+◌, ◌⊎◌, Bool, true, false, cond, nat_eq, List, [], ◌∷◌, ◌++◌, length, take, Option, Some, None}
use Rattle.bh_spec.specs.declared.Part.TheVariants as parts
use Rattle.bh_spec.specs.Bounds.{Bounds}
use Rattle.bh_spec.specs.Messages.{Field}
use Rattle.h1_spec.specs.declared.Framing1.{Framing1}
use Rattle.h1_spec.specs.declared.Framing1.TheVariants.{Empty, Counted, Chunked, ToEnd}
use Rattle.bh_spec.specs.declared.H1Why.{H1Why}
use Rattle.bh_spec.specs.declared.H1Why.TheVariants as why
use Rattle.bh_spec.specs.Texts.{Text, bytes_of, content_in, ◌then◌}
use Rattle.h1_spec.specs.Grammar.{Is, crlf}
use Rattle.h1_spec.specs.Bodies.{IsTrailerSection, IsChunked, IsBody}
use Rattle.h1_spec.specs.Causes.{Causes, ◌when◌else◌}
use Rattle.h1_spec.specs.BodyCauses.{CanBegin, OfChunk, OfTrailers, OfBody, Behind}
use Rattle.h1_spec.specs.Translation.{OfEnd}
use Rattle.h1_spec.specs.ChunkStates.{InLine, in_digits, in_blanks, in_extension, behind_cr as cr_in_line, line_ended, next_state, Completes}
use Rattle.h1_spec.specs.Residuals.{IsResidual}

-- Where a reader stands. A body that is counted out, and one that is over, are whole.
pub data At : Type 0 where
  -- so many bytes are missing
  in_count : ℕ → At
  to_end : At
  -- in a chunk line, of which at most so many bytes are still to come
  in_line : InLine → ℕ → At
  -- in a chunk, of which so many bytes are missing
  in_chunk : ℕ → At
  -- behind the bytes of a chunk, and behind CR there
  behind_chunk : At
  behind_cr : At
  -- in the trailer section, behind these bytes of it
  in_trailers : List ℕ → At
  over : List Field → At

abbrev pub start : Framing1 → At
start Empty = in_count 0
start (Counted n) = in_count n
start Chunked = in_line (in_digits 0 0) 1024
start ToEnd = to_end

-- nothing more belongs to the body
abbrev pub is_whole : At → Bool
is_whole (in_count missing) = nat_eq missing 0
is_whole to_end = false
is_whole (in_line state room) = false
is_whole (in_chunk missing) = false
is_whole behind_chunk = false
is_whole behind_cr = false
is_whole (in_trailers seen) = false
is_whole (over found) = true

-- the bytes may end there
abbrev pub may_end : At → Bool
may_end (in_count missing) = nat_eq missing 0
may_end to_end = true
may_end (in_line state room) = false
may_end (in_chunk missing) = false
may_end behind_chunk = false
may_end behind_cr = false
may_end (in_trailers seen) = false
may_end (over found) = true

-- It is a body of chunks: bytes of it stand for a trailer section.
abbrev pub is_chunked : At → Bool
is_chunked (in_count missing) = false
is_chunked to_end = false
is_chunked (in_line state room) = true
is_chunked (in_chunk missing) = true
is_chunked behind_chunk = true
is_chunked behind_cr = true
is_chunked (in_trailers seen) = true
is_chunked (over found) = true

-- the trailer section that was read
abbrev pub trailers_of : At → List Field
trailers_of (in_count missing) = []
trailers_of to_end = []
trailers_of (in_line state room) = []
trailers_of (in_chunk missing) = []
trailers_of behind_chunk = []
trailers_of behind_cr = []
trailers_of (in_trailers seen) = []
trailers_of (over found) = found

-- ---- what completes a body: its content from there, and its trailers

-- the rest of a line with this size
abbrev pub RestOfLine : ℕ → InLine → ℕ → List ℕ → Type 0
RestOfLine size state room line = (length line ≤ room) × Completes 15 size state line

-- the rest of a chunk, its line end, and more chunks
abbrev pub RestOfChunk : Bounds → ℕ → List ℕ → List Field → List ℕ → Type 0
RestOfChunk L missing content trailers bytes = (chunk more : List ℕ) × (length chunk ≡ missing) × (content ≡ chunk ++ more)
    × (Is chunk then Is crlf then IsChunked L more trailers) bytes

abbrev pub BehindLine : Bounds → ℕ → List ℕ → List Field → List ℕ → Type 0
BehindLine L size content trailers bytes = ((size ≡ 0) × (content ≡ []) × IsTrailerSection L trailers bytes)
    ⊎ ((0 < size) × RestOfChunk L size content trailers bytes)

-- Within the limits the bytes complete the body from there.
abbrev pub Rest : Bounds → At → List ℕ → List Field → List ℕ → Type 0
Rest L (in_count n) content trailers bytes = IsBody L (Counted n) content trailers bytes
Rest L to_end content trailers bytes = IsBody L ToEnd content trailers bytes
Rest L (in_line state room) content trailers bytes = (size : ℕ) × (RestOfLine size state room then BehindLine L size content trailers) bytes
Rest L (in_chunk missing) content trailers bytes = RestOfChunk L missing content trailers bytes
Rest L behind_chunk content trailers bytes = (Is crlf then IsChunked L content trailers) bytes
Rest L behind_cr content trailers bytes = (Is (10 ∷ []) then IsChunked L content trailers) bytes
Rest L (in_trailers seen) content trailers bytes = (content ≡ []) × IsTrailerSection L trailers (seen ++ bytes)
Rest L (over found) content trailers bytes = (content ≡ []) × (trailers ≡ found) × (bytes ≡ [])

-- what a body is: its content and its trailers
abbrev pub Found : Type 0
Found = List ℕ × List Field

abbrev pub RestOf : Bounds → At → Found → List ℕ → Type 0
RestOf L v found bytes = Rest L v found.0 found.1 bytes

-- with these bytes of content before
abbrev pub behind_content : List ℕ → Found → Found
behind_content content found = (content ++ found.0, found.1)

-- ---- what is wrong, by the first byte that decides

-- some line goes on from the state, with a size of so many digits at most
abbrev pub LineFrom : ℕ → InLine → List ℕ → Type 0
LineFrom most state line = (size : ℕ) × Completes most size state line

-- with a size of any number of digits
abbrev pub AnyLineFrom : InLine → List ℕ → Type 0
AnyLineFrom state line = (most : ℕ) × LineFrom most state line

-- a line goes on, and isn't whole
abbrev pub GoesOn : InLine → List ℕ → Type 0
GoesOn state bytes = CanBegin (LineFrom 15 state) bytes × (LineFrom 15 state bytes → ⊥)

-- The byte numbered `at` is the first after which no line goes on.
pub record IsDeadFrom (state : InLine) (room : ℕ) (bytes : List ℕ) (at : ℕ) : Type 0 where
  pub inside : at < length bytes
  pub early : at < room
  pub before : GoesOn state (take at bytes)
  pub after : CanBegin (LineFrom 15 state) (take (at + 1) bytes) → ⊥

-- A digit too many, or any byte behind the last that there is room for, is too much; any other byte breaks the form.
abbrev pub OfLine : InLine → ℕ → List ℕ → Causes
OfLine state room bytes cause = ((at : ℕ) × IsDeadFrom state room bytes at
    × (why.ChunkLine when (CanBegin (AnyLineFrom state) (take (at + 1) bytes) → ⊥) else λ c. c ≡ why.ChunkLineLimit) cause)
    ⊎ (((room < length bytes) × GoesOn state (take room bytes) × (cause ≡ why.ChunkLineLimit))
    ⊎ ((length bytes ≤ room) × GoesOn state bytes × (cause ≡ why.Ended)))

-- these bytes should stand there, and are missing, or others stand there
abbrev pub OfExpected : List ℕ → List ℕ → Causes
OfExpected these bytes cause = (((more : List ℕ) × (0 < length more) × (these ≡ bytes ++ more)) × (cause ≡ why.Ended))
    ⊎ ((((more : List ℕ) → these ≡ bytes ++ more → ⊥) × ((more : List ℕ) → bytes ≡ these ++ more → ⊥)) × (cause ≡ why.ChunkEnd))

-- more chunks, of which one is wrong, or what is said behind the body
abbrev pub OfChunks : Bounds → Behind → H1Why → List ℕ → Type 0
OfChunks L behind cause bytes = OfBody L Chunked behind bytes cause

abbrev pub OfRestOfChunk : Bounds → Behind → ℕ → List ℕ → Causes
OfRestOfChunk L behind missing bytes cause = OfChunk missing bytes cause
    ⊎ ((chunk : List ℕ) × (length chunk ≡ missing) × (Is chunk then Is crlf then OfChunks L behind cause) bytes)

abbrev pub OfBehindLine : Bounds → Behind → ℕ → List ℕ → Causes
OfBehindLine L behind size bytes cause = ((0 < size) × OfRestOfChunk L behind size bytes cause)
    ⊎ ((size ≡ 0) × OfTrailers L behind bytes cause)

-- Of the bytes from there: a cause of their own, or what is said behind a whole body.
abbrev pub OfRest : Bounds → Behind → At → List ℕ → Causes
OfRest L behind (in_count n) bytes cause = OfBody L (Counted n) behind bytes cause
OfRest L behind to_end bytes cause = ⊥
OfRest L behind (in_line state room) bytes cause = OfLine state room bytes cause
    ⊎ ((size : ℕ) × (RestOfLine size state room then λ rest. OfBehindLine L behind size rest cause) bytes)
OfRest L behind (in_chunk missing) bytes cause = OfRestOfChunk L behind missing bytes cause
OfRest L behind behind_chunk bytes cause = OfExpected crlf bytes cause ⊎ (Is crlf then OfChunks L behind cause) bytes
OfRest L behind behind_cr bytes cause = OfExpected (10 ∷ []) bytes cause ⊎ (Is (10 ∷ []) then OfChunks L behind cause) bytes
OfRest L behind (in_trailers seen) bytes cause = OfTrailers L behind (seen ++ bytes) cause
OfRest L behind (over found) bytes cause = behind found bytes cause

-- a body reader says nothing of what follows the body
abbrev pub nothing_behind : Behind
nothing_behind trailers rest cause = ⊥

-- ---- which bytes are content

abbrev pub is_more : ℕ → Bool
is_more zero = false
is_more (suc n) = true

-- the next byte is one of content
abbrev pub takes_in_line : InLine → Bool
takes_in_line (in_digits count number) = false
takes_in_line (in_blanks size) = false
takes_in_line (in_extension size) = false
takes_in_line (cr_in_line size) = false
takes_in_line (line_ended size) = is_more size

abbrev pub takes : At → Bool
takes (in_count missing) = is_more missing
takes to_end = true
takes (in_line state room) = takes_in_line state
takes (in_chunk missing) = is_more missing
takes behind_chunk = false
takes behind_cr = false
takes (in_trailers seen) = false
takes (over found) = false

abbrev pub one_less : ℕ → ℕ
one_less zero = zero
one_less (suc n) = n

-- Where a reader stands behind one byte more. Where no body goes on with it, anywhere behind content.
abbrev pub in_line_behind : Option InLine → ℕ → At
in_line_behind (Some state) room = in_line state room
in_line_behind None room = over []

abbrev pub line_step : InLine → ℕ → ℕ → At
line_step (in_digits count number) room byte = in_line_behind (next_state 15 (in_digits count number) byte) (one_less room)
line_step (in_blanks size) room byte = in_line_behind (next_state 15 (in_blanks size) byte) (one_less room)
line_step (in_extension size) room byte = in_line_behind (next_state 15 (in_extension size) byte) (one_less room)
line_step (cr_in_line size) room byte = in_line_behind (next_state 15 (cr_in_line size) byte) (one_less room)
line_step (line_ended zero) room byte = over []
line_step (line_ended (suc size)) room byte = in_chunk size

abbrev pub step : At → ℕ → At
step (in_count missing) byte = in_count (one_less missing)
step to_end byte = to_end
step (in_line state room) byte = line_step state room byte
step (in_chunk zero) byte = behind_cr
step (in_chunk (suc missing)) byte = in_chunk missing
step behind_chunk byte = behind_cr
step behind_cr byte = start Chunked
step (in_trailers seen) byte = over []
step (over found) byte = over []

-- the bytes from there with their marks
abbrev pub marked : At → List ℕ → Text
marked v [] = []
marked v (byte ∷ rest) = (cond (takes v) parts.Content parts.Framing, byte) ∷ marked (step v byte) rest

-- From v these bytes have this text, with as much content, whatever follows them from w.
pub record AreMarked (v : At) (bytes content : List ℕ) (w : At) : Type 0 where
  pub text : Text
  pub same : bytes_of text ≡ bytes
  pub count : content_in text ≡ length content
  pub on : (more : List ℕ) → marked v (bytes ++ more) ≡ text ++ marked w more

-- ---- steps

-- The bytes, with this content, make w of v: what completes the body from v behind them is what completes it from w, and what is wrong
-- from w is wrong from v, also what a message says behind its body; and so their marks.
pub record Moves (L : Bounds) (v : At) (bytes content : List ℕ) (w : At) : Type 0 where
  pub rest : IsResidual (RestOf L v) bytes (behind_content content) (RestOf L w)
  pub causes : (more : List ℕ) (cause : H1Why) → OfRest L nothing_behind w more cause → OfRest L nothing_behind v (bytes ++ more) cause
  pub ends : (named : List (List ℕ)) (more : List ℕ) (cause : H1Why) → OfRest L (OfEnd L named) w more cause
      → OfRest L (OfEnd L named) v (bytes ++ more) cause
  pub marks : AreMarked v bytes content w
  pub kind : is_chunked v ≡ is_chunked w

-- From the start what completes a body is a body, and what is wrong is wrong with a body.
pub record Starts (L : Bounds) (framing : Framing1) : Type 0 where
  pub forth : (content : List ℕ) (trailers : List Field) (bytes : List ℕ) → Rest L (start framing) content trailers bytes
      → IsBody L framing content trailers bytes
  pub back : (content : List ℕ) (trailers : List Field) (bytes : List ℕ) → IsBody L framing content trailers bytes
      → Rest L (start framing) content trailers bytes
  pub causes : (bytes : List ℕ) (cause : H1Why) → OfRest L nothing_behind (start framing) bytes cause
      → OfBody L framing nothing_behind bytes cause

-- Within limits with this bound of the trailer section, a byte of the piece is the first that decides: the bytes before it have no content,
-- they are too few, and nothing else is wrong with them; and with it this is wrong, whatever follows.
pub record IsRefusedFrom (section : ℕ) (v : At) (piece : List ℕ) (cause : H1Why) : Type 0 where
  pub at : ℕ
  pub behind : At
  pub inside : at < length piece
  pub none : (L : Bounds) → L.section ≡ Some section → Moves L v (take at piece) [] behind
  pub before : (L : Bounds) → L.section ≡ Some section → OfRest L nothing_behind v (take at piece) why.Ended
  pub decided : (L : Bounds) → L.section ≡ Some section → (after : List ℕ) → OfRest L nothing_behind v (take (at + 1) piece ++ after) cause
  pub not_end : cause ≡ why.Ended → ⊥
