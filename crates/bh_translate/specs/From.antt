-- How a translation from HTTP/1.1 ended, by the calls of its port.
use Rattle.std.specs.Prelude.{◌≡◌, ◌⊎◌, ℕ, Bool, true, List, length, Option, Some, None}
use Rattle.bh_spec.specs.declared.H1Why.{H1Why}
use Rattle.bh_spec.specs.declared.H1Why.TheVariants as why
use Rattle.bh_spec.specs.declared.Omitted.TheVariants.{Nothing}
use Rattle.bh_spec.specs.declared.Summary.{Summary}
use Rattle.bh_spec.specs.Bounds.{Bounds, no_bounds}
use Rattle.bh_spec.specs.Messages.{Message}
use Rattle.bh_spec.specs.Texts.{Text}
use Rattle.bh_spec.specs.Viable.{IsMessageText}
use Rattle.bh_spec.specs.Canonical.{canon}
use Rattle.bh_spec.specs.Reports.{summary}
use Rattle.bh_base.specs.Steps.{Step, Entry, Meanings, taken, given, met, IsQuiet, StopsAt, is_bad_read, is_bad_write}
use Rattle.bh_stream.specs.Logs.{HasBody, IsClose, KeepsUp, GivesFront, ReadsTo}
use Rattle.bh_stream.specs.Formats.{GivesAlways}
use Rattle.bh_stream.specs.Telling.{TellsOf, CompletesAs, AtEveryEntry, PortTells, CalledSo}
use Rattle.bh_stream.specs.Calls.{PortCall}
use Rattle.bh_stream.specs.declared.streaming.End.{End}
use Rattle.bh_stream.specs.declared.streaming.End.TheVariants as end
use Rattle.h1_spec.specs.declared.Scheme1.{Scheme1}
use Rattle.h1_spec.specs.Marks.{IsMarked, IsSomeMarked}
use Rattle.h1_spec.specs.Translation.{FromAnswer, read, broken, IsFromAnswer}
use Rattle.h1_read.specs.Laws.{IsDecidedAt}
use Rattle.bh_translate.specs.declared.from.FromEnd.{FromEnd}
use Rattle.bh_translate.specs.declared.from.FromEnd.TheVariants as ends

-- a text of this message, with the scheme of the caller
abbrev pub IsTextFrom : Bounds → Scheme1 → Bool → Message → Text → Type 0
IsTextFrom L scheme to_head m t = (marked : IsMarked L to_head m t) × (marked.scheme ≡ scheme)

-- The bytes taken are a message, this is its summary, and its canonical text was given. An HTTP/1.1 text leaves nothing out, and has no
-- padding.
pub record IsRead (L : Bounds) (scheme : Scheme1) (to_head : Bool) (s : Summary) (steps : List Step) : Type 0 where
  pub end : met steps ≡ true
  pub message : Message
  pub answer : IsFromAnswer L scheme to_head (taken steps) (read message)
  pub summary_is : s ≡ summary message Nothing 0 (length (taken steps))
  pub gave : given steps ≡ canon message

-- A byte decides, whatever follows it, and not those before it; it stops the call in the read that shows it. Or the end is met, and it is
-- too soon: that alone is `Ended`.
abbrev pub IsBroken : Bounds → Scheme1 → Bool → H1Why → List Step → Type 0
IsBroken L scheme to_head cause steps =
    ((cause ≡ why.Ended → ⊥) × ((at : ℕ) × ReadsTo at steps × IsDecidedAt L scheme to_head (taken steps) at cause))
    ⊎ ((cause ≡ why.Ended) × (met steps ≡ true) × IsFromAnswer L scheme to_head (taken steps) (broken cause))

-- how a call ended; behind a failed call there is none
abbrev pub FromEnds : Bounds → Scheme1 → Bool → End Summary H1Why → List Step → Type 0
FromEnds L scheme to_head (end.Done s) steps = IsQuiet steps × IsRead L scheme to_head s steps
FromEnds L scheme to_head (end.Refused cause) steps = IsQuiet steps × IsBroken L scheme to_head cause steps
FromEnds L scheme to_head end.ReadFault steps = StopsAt is_bad_read steps
FromEnds L scheme to_head end.WriteFault steps = StopsAt is_bad_write steps

-- A call that translates a message: at every point of its calls what was given begins the canonical text of every message whose texts
-- continue what was taken. The content taken is at most 16,383 bytes more than the content given: an open chunk, and one read; and
-- before each read at most 8,191 more. Content is counted in the longest front of the bytes that begins a text of a message: of HTTP/1.1
-- without limits in what was taken, and of Binary HTTP within the limits in what was given.
pub record FromCall (L : Bounds) (scheme : Scheme1) (to_head : Bool) {S : Type 0} (read write : S → Step → S → Type 0) (s : S)
    (r : End Summary H1Why) (t : S) : Type 0 where
  pub steps : List Step
  pub call : PortCall L.input (GivesAlways (IsTextFrom L scheme to_head) canon L.input) (FromEnds L scheme to_head) read write steps s r t
  pub keeps_up : KeepsUp (IsSomeMarked no_bounds to_head) (HasBody (IsMessageText L)) 16383 8191 steps

-- The end that is right for an input, and what was sent with it.
abbrev pub IsRightFrom : Bounds → Scheme1 → Bool → End Summary H1Why → List ℕ → List ℕ → Type 0
IsRightFrom L scheme to_head (end.Done s) input sent = (m : Message) × IsFromAnswer L scheme to_head input (read m)
    × (s ≡ summary m Nothing 0 (length input)) × (sent ≡ canon m)
IsRightFrom L scheme to_head (end.Refused cause) input sent = IsFromAnswer L scheme to_head input (broken cause)
IsRightFrom L scheme to_head end.ReadFault input sent = Unit {0}
IsRightFrom L scheme to_head end.WriteFault input sent = Unit {0}

-- the end that an answer for an input of so many bytes has
abbrev pub from_end_of : FromAnswer → ℕ → End Summary H1Why
from_end_of (read m) bytes = end.Done (summary m Nothing 0 bytes)
from_end_of (broken cause) bytes = end.Refused cause

-- What a port that tells what is left tells of a call: the end is right for its input, and what was sent begins the canonical text of the
-- message that the input is.
abbrev pub FromTold : Bounds → Scheme1 → Bool → {S : Type 0} → Meanings S → S → End Summary H1Why → S → Type 0
FromTold L scheme to_head port s r t = TellsOf (IsTextFrom L scheme to_head) canon L.input (IsRightFrom L scheme to_head) port s r t

-- Whatever the answer for the input is, the call ended with it where no fault was counted.
abbrev pub FromCompletes : Bounds → Scheme1 → Bool → {S : Type 0} → Meanings S → S → End Summary H1Why → S → Type 0
FromCompletes L scheme to_head port s r t = CompletesAs (IsFromAnswer L scheme to_head) from_end_of port s r t

-- What holds at every point of the calls, by their bytes, and so at every point of the log.
pub record FromPoint (L : Bounds) (scheme : Scheme1) (to_head : Bool) (steps : List Step) : Type 0 where
  pub gives : GivesFront (IsTextFrom L scheme to_head) canon L.input steps
  pub keeps_up : IsClose (IsSomeMarked no_bounds to_head) (HasBody (IsMessageText L)) 16383 steps

abbrev pub FromLog : Bounds → Scheme1 → Bool → List Entry → Type 0
FromLog L scheme to_head log = AtEveryEntry (FromPoint L scheme to_head) log

-- all that is said of a call over a port
pub record FromFacts (L : Bounds) (scheme : Scheme1) (to_head : Bool) {S : Type 0} (read write : S → Step → S → Type 0) (port : Meanings S)
    (log : S → Option (List Entry)) (s : S) (r : End Summary H1Why) (t : S) : Type 0 where
  pub call : FromCall L scheme to_head read write s r t
  pub tells : PortTells (IsTextFrom L scheme to_head) canon L.input (FromPoint L scheme to_head) (IsRightFrom L scheme to_head)
      (IsFromAnswer L scheme to_head) from_end_of port log s r t

-- ---- the end of the translator

-- the end over the port, if memory didn't run out before
abbrev pub from_called : FromEnd → Option (End Summary H1Why)
from_called (ends.Done s) = Some (end.Done s)
from_called (ends.Refused cause) = Some (end.Refused cause)
from_called ends.ReadFault = Some end.ReadFault
from_called ends.WriteFault = Some end.WriteFault
from_called ends.NoMemory = None

abbrev pub FromSo : FromEnd → (uncalled : Type 0) → (End Summary H1Why → Type 0) → Type 0
FromSo e uncalled P = CalledSo (from_called e) uncalled P

-- the end of the translator for one of the loop
abbrev pub from_end : End Summary H1Why → FromEnd
from_end (end.Done s) = ends.Done s
from_end (end.Refused cause) = ends.Refused cause
from_end end.ReadFault = ends.ReadFault
from_end end.WriteFault = ends.WriteFault
