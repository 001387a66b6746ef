-- What a port tells of a call of the engine. `output` is what the call writes of a message.
use Rattle.std.specs.Prelude.{◌≡◌, ◌≤◌, ◌+◌, ℕ, List, [], length, take, Option, Some, IfSome}
use Rattle.bh_spec.specs.declared.Omitted.{Omitted}
use Rattle.bh_spec.specs.declared.Refusal.{Refusal}
use Rattle.bh_spec.specs.declared.Summary.{Summary}
use Rattle.bh_spec.specs.Bounds.{Bounds}
use Rattle.bh_spec.specs.Messages.{Message}
use Rattle.bh_spec.specs.Pieces.{CanBecome}
use Rattle.bh_spec.specs.Viable.{IsMessageText}
use Rattle.bh_spec.specs.Answers.{Answer, whole, refused, IsAnswer}
use Rattle.bh_spec.specs.Reports.{summary}
use Rattle.bh_base.specs.Steps.{Step, Entry, Meanings, Rose, taken}
use Rattle.bh_push.specs.Pushes.{refused_at}
use Rattle.bh_stream.specs.Logs.{Begins, GivesFront, IsClose}
use Rattle.bh_stream.specs.Messages.{IsTextOf}
use Rattle.bh_stream.specs.Points.{one_read}
use Rattle.bh_stream.specs.Telling.{TellsOf, CompletesAs, AtEveryEntry}
use Rattle.bh_stream.specs.declared.streaming.End.{End}
use Rattle.bh_stream.specs.declared.streaming.End.TheVariants as end
use Rattle.bh_canon.specs.Ends.{IsOutput, end_of}

-- what was sent begins the output of every message that goes on behind these bytes
abbrev pub BeginsAll : Bounds → (Message → List ℕ) → List ℕ → List ℕ → Type 0
BeginsAll L output bytes sent = (m : Message) → CanBecome (IsTextOf L m) bytes → Begins sent (output m)

-- The end that is right for an input, and what was sent with it. Where the input is refused, what was sent begins the output of every
-- message that goes on behind the bytes before the refused one.
abbrev pub IsRight : Bounds → (Message → List ℕ) → End Summary Refusal → List ℕ → List ℕ → Type 0
IsRight L output (end.Done s) input sent = IsOutput L output input s sent
IsRight L output (end.Refused r) input sent = IsAnswer L input (refused r) × BeginsAll L output (take (refused_at r) input) sent
IsRight L output end.ReadFault input sent = Unit {0}
IsRight L output end.WriteFault input sent = Unit {0}

-- What a port that tells what is left tells of a call: the end is right for its input, and what was sent begins the output of the
-- message that the input is, if it is one.
abbrev pub IsTold : Bounds → (Message → List ℕ) → {S : Type 0} → Meanings S → S → End Summary Refusal → S → Type 0
IsTold L output port s r t = TellsOf (IsTextOf L) output L.input (IsRight L output) port s r t

-- Of such a port: the call ended with the answer for its input, where no fault was counted.
abbrev pub IsComplete : Bounds → {S : Type 0} → Meanings S → S → End Summary Refusal → S → Type 0
IsComplete L port s r t = CompletesAs (IsAnswer L) end_of port s r t

-- ---- a source that tells what is left

-- By the whole input: the summary of the message that it is, and then it was read to its end; or why it is refused.
abbrev pub CheckTold : Bounds → End Summary Refusal → List ℕ → Option (List ℕ) → Type 0
CheckTold L (end.Done s) input left = (m : Message) × (omitted : Omitted) × (padding : ℕ) × IsAnswer L input (whole m omitted padding)
    × (s ≡ summary m omitted padding (length input)) × (left ≡ Some [])
CheckTold L (end.Refused r) input left = IsAnswer L input (refused r)
CheckTold L end.ReadFault input left = Unit {0}
CheckTold L end.WriteFault input left = ⊥

abbrev pub SourceTold : Bounds → End Summary Refusal → Option (List ℕ) → Option (List ℕ) → Type 0
SourceTold L r before now = IfSome before (λ input. CheckTold L r input now)

-- Whatever the answer for the input is, the check ended with it where no fault was counted.
abbrev pub SourceCompletes : Bounds → End Summary Refusal → Option (List ℕ) → (reads_before reads_now : ℕ) → Type 0
SourceCompletes L r before reads_before reads_now = IfSome before (λ input. (answer : Answer) → IsAnswer L input answer
    → (Rose reads_before reads_now → ⊥) → r ≡ end_of answer (length input))

-- ---- a port that tells its log

-- At every point of the log what was given begins the output of every message that continues what was taken, and the content taken is
-- at most so many bytes more than the content shown.
pub record KeepsLog (L : Bounds) (output : Message → List ℕ) (Shown : List ℕ → ℕ → Type 0) (most : ℕ) (log : List Entry) : Type 0 where
  pub gives : AtEveryEntry (GivesFront (IsTextOf L) output L.input) log
  pub keeps_up : AtEveryEntry (IsClose (IsMessageText L) Shown most) log

-- Where the input is refused, at most so many bytes were taken in all: those before the refused one, and those of one read.
abbrev pub TakesFew : End Summary Refusal → List Step → Type 0
TakesFew (end.Done s) steps = Unit {0}
TakesFew (end.Refused r) steps = length (taken steps) ≤ refused_at r + one_read
TakesFew end.ReadFault steps = Unit {0}
TakesFew end.WriteFault steps = Unit {0}
