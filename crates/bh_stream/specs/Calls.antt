-- How a call that reads a message from a stream ended: `output` is what it writes of a message.
use Rattle.std.specs.Prelude.{◌≡◌, ◌≤◌, ◌+◌, ℕ, true, List, ◌∷◌, [], ◌++◌, length, Option, IfSome}
use Rattle.bh_spec.specs.declared.Omitted.{Omitted}
use Rattle.bh_spec.specs.declared.Summary.{Summary}
use Rattle.bh_spec.specs.declared.Refusal.{Refusal}
use Rattle.bh_spec.specs.declared.Refusal.TheVariants.{Dead, Limit, Ended, TooLong}
use Rattle.bh_spec.specs.Bounds.{Bounds}
use Rattle.bh_spec.specs.Messages.{Message}
use Rattle.bh_spec.specs.Answers.{whole, refused, IsAnswer}
use Rattle.bh_spec.specs.Reports.{summary}
use Rattle.bh_spec.specs.Items.{Item, ending, items}
use Rattle.bh_base.specs.Steps.{Step, Chain, Either, taken, given, met, reads, Asks, EndsReading, IsQuiet, StopsAt, is_bad_read, is_bad_write}
use Rattle.bh_stream.specs.Logs.{ReadsTo}
use Rattle.bh_stream.specs.Decoding.{Rest, Moving}
use Rattle.bh_stream.specs.Points.{one_read}
use Rattle.bh_stream.specs.Messages.{GivesFronts}
use Rattle.bh_stream.specs.declared.streaming.End.{End}
use Rattle.bh_stream.specs.declared.streaming.End.TheVariants as end

-- The bytes taken are a message, this is its summary, and its output was given.
pub record IsWhole (L : Bounds) (output : Message → List ℕ) (s : Summary) (steps : List Step) : Type 0 where
  pub end : met steps ≡ true
  pub message : Message
  pub omitted : Omitted
  pub padding : ℕ
  pub answer : IsAnswer L (taken steps) (whole message omitted padding)
  pub summary_is : s ≡ summary message omitted padding (length (taken steps))
  pub gave : given steps ≡ output message

-- A refused byte is the answer for the bytes taken, whatever follows them, and stops the call in the read that shows it. That the
-- input ends too soon is the answer for the bytes taken, and the end was met.
abbrev pub IsRefusal : Bounds → Refusal → List Step → Type 0
IsRefusal L (Dead at part) steps = ReadsTo at steps × ((more : List ℕ) → IsAnswer L (taken steps ++ more) (refused (Dead at part)))
IsRefusal L (Limit at part) steps = ReadsTo at steps × ((more : List ℕ) → IsAnswer L (taken steps ++ more) (refused (Limit at part)))
IsRefusal L (TooLong at) steps = ReadsTo at steps × ((more : List ℕ) → IsAnswer L (taken steps ++ more) (refused (TooLong at)))
IsRefusal L (Ended at part) steps = (met steps ≡ true) × IsAnswer L (taken steps) (refused (Ended at part))

-- how a call ended; behind a failed call there is none
abbrev pub StreamEnds : Bounds → (Message → List ℕ) → End Summary Refusal → List Step → Type 0
StreamEnds L output (end.Done s) steps = IsQuiet steps × IsWhole L output s steps
StreamEnds L output (end.Refused r) steps = IsQuiet steps × IsRefusal L r steps
StreamEnds L output end.ReadFault steps = StopsAt is_bad_read steps
StreamEnds L output end.WriteFault steps = StopsAt is_bad_write steps

-- What is said of each call over a port, whatever it reads and writes. The port went through these calls, whether it tells a log or not.
-- Each read asked for 1 to 8,192 bytes; there was one read more than there were bytes at most, and one more than the limit of the input.
-- Nothing was asked behind the end. `Gives` says what was given at every point, and `Ends` how the call ended.
pub record PortCall {E : Type 0} (limit : Option ℕ) (Gives : List Step → Type 0) (Ends : E → List Step → Type 0) {S : Type 0}
    (read write : S → Step → S → Type 0) (steps : List Step) (s : S) (r : E) (t : S) : Type 0 where
  pub chain : Chain (Either read write) s steps t
  pub asks : Asks one_read steps
  pub turns : reads steps ≤ length (taken steps) + 1
  pub bound : IfSome limit (λ most. reads steps ≤ most + 1)
  pub none_behind : EndsReading steps
  pub gives : Gives steps
  pub ends : Ends r steps

-- A call that reads a message: at every point of the calls what was given begins the output of every message that continues what was
-- taken.
abbrev pub StreamCall : Bounds → (Message → List ℕ) → {S : Type 0} → (S → Step → S → Type 0) → (S → Step → S → Type 0) → List Step → S
    → End Summary Refusal → S → Type 0
StreamCall L output read write steps s r t = PortCall L.input (GivesFronts L output) (StreamEnds L output) read write steps s r t

-- ---- what has to be known of a decoder at the start

-- the refusal is of a byte, and so many bytes at most stand before it
abbrev pub IsOfByte : ℕ → Refusal → Type 0
IsOfByte before (Dead at part) = before ≤ at
IsOfByte before (Limit at part) = before ≤ at
IsOfByte before (TooLong at) = before ≤ at
IsOfByte before (Ended at part) = ⊥

abbrev pub IsOfEnd : Refusal → Type 0
IsOfEnd (Dead at part) = ⊥
IsOfEnd (Limit at part) = ⊥
IsOfEnd (TooLong at) = ⊥
IsOfEnd (Ended at part) = Unit {0}

-- What it says behind bytes that it took is the answer for the input, however it was cut.
pub record Judges (L : Bounds) {V : Type 0} (rest : Rest V) (moves : Moving V) (refuses : V → List ℕ → Refusal → Type 0) (tells : V
    → Omitted → ℕ → Summary → Type 0)
    (misses : V → Refusal → Type 0) (v : V) : Type 0 where
  pub refused_byte : (w : V) (before piece more : List ℕ) (i : List Item) (r : Refusal) → moves v before i w → refuses w piece r
      → IsAnswer L (before ++ (piece ++ more)) (refused r) × IsOfByte (length before) r
  pub missed_byte : (w : V) (bytes : List ℕ) (i : List Item) (r : Refusal) → moves v bytes i w → misses w r
      → IsAnswer L bytes (refused r) × IsOfEnd r
  pub told : (w : V) (bytes : List ℕ) (i : List Item) (omitted : Omitted) (padding : ℕ) (s : Summary) → moves v bytes i w
      → rest w (ending omitted padding ∷ []) [] → tells w omitted padding s
      → (m : Message) × (items m omitted padding ≡ i ++ ending omitted padding ∷ []) × IsAnswer L bytes (whole m omitted padding)
      × (s ≡ summary m omitted padding (length bytes))
