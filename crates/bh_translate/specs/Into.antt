-- How a translation to HTTP/1.1 ended, by the calls of its port.
use Rattle.std.specs.Prelude.{◌≡◌, ◌⊎◌, ℕ, Bool, true, false, List, [], ◌∷◌, ◌++◌, length, Option, Some, None}
use Rattle.bh_spec.specs.declared.NoForm.{NoForm}
use Rattle.bh_spec.specs.declared.NoForm.TheVariants as no
use Rattle.bh_spec.specs.declared.Omitted.{Omitted}
use Rattle.bh_spec.specs.declared.Refusal.{Refusal}
use Rattle.bh_spec.specs.declared.Refusal.TheVariants.{Dead, Limit, Ended, TooLong}
use Rattle.bh_spec.specs.declared.Summary.{Summary}
use Rattle.bh_spec.specs.Bounds.{Bounds, IsWithin, no_bounds}
use Rattle.bh_spec.specs.Messages.{Message}
use Rattle.bh_spec.specs.Pieces.{IsText, CanBecome}
use Rattle.bh_spec.specs.Reports.{summary}
use Rattle.bh_spec.specs.Viable.{IsMessageText}
use Rattle.bh_base.specs.Steps.{Step, Entry, Meanings, taken, given, met, IsQuiet, StopsAt, is_bad_read, is_bad_write}
use Rattle.bh_stream.specs.Logs.{Begins, HasBody, IsClose, KeepsUp, AtEvery, GivesFront, ReadsTo}
use Rattle.bh_stream.specs.Messages.{IsTextOf, GivesFronts}
use Rattle.bh_stream.specs.Telling.{TellsOf, CompletesAs, AtEveryEntry, PortTells, CalledSo}
use Rattle.bh_stream.specs.Calls.{PortCall}
use Rattle.bh_stream.specs.declared.streaming.End.{End}
use Rattle.bh_stream.specs.declared.streaming.End.TheVariants as end
use Rattle.h1_spec.specs.Http1Text.{Case, cases_of, http1}
use Rattle.h1_spec.specs.Judging.{NoneIsJudged, IsJudgedAt, IsUnjudged, end_says}
use Rattle.h1_spec.specs.Marks.{IsSomeMarked}
use Rattle.h1_spec.specs.Translation.{IntoAnswer, formed, dead, formless, IsIntoAnswer}
use Rattle.h1_judge.specs.declared.judged.IntoWhy.{IntoWhy}
use Rattle.h1_judge.specs.declared.judged.IntoWhy.TheVariants.{Binary, Form}
use Rattle.bh_translate.specs.declared.into.IntoEnd.{IntoEnd}
use Rattle.bh_translate.specs.declared.into.IntoEnd.TheVariants as ends

-- The bytes taken are a message that has a text, this is its summary, and its text was given.
pub record IsTranslated (L : Bounds) (to_head : Bool) (s : Summary) (steps : List Step) : Type 0 where
  pub end : met steps ≡ true
  pub message : Message
  pub omitted : Omitted
  pub padding : ℕ
  pub answer : IsIntoAnswer L to_head (taken steps) (formed message omitted padding)
  pub summary_is : s ≡ summary message omitted padding (length (taken steps))
  pub gave : given steps ≡ http1 to_head message

-- A refused byte is the answer for the bytes taken, whatever follows them, and stops the call in the read that shows it. That the
-- input ends too soon is the answer for the bytes taken, and the end was met.
abbrev pub IsRefusedBinary : Bounds → Bool → Refusal → List Step → Type 0
IsRefusedBinary L to_head (Dead at part) steps = ReadsTo at steps
    × ((more : List ℕ) → IsIntoAnswer L to_head (taken steps ++ more) (dead (Dead at part)))
IsRefusedBinary L to_head (Limit at part) steps = ReadsTo at steps
    × ((more : List ℕ) → IsIntoAnswer L to_head (taken steps ++ more) (dead (Limit at part)))
IsRefusedBinary L to_head (TooLong at) steps = ReadsTo at steps
    × ((more : List ℕ) → IsIntoAnswer L to_head (taken steps ++ more) (dead (TooLong at)))
IsRefusedBinary L to_head (Ended at part) steps = (met steps ≡ true) × IsIntoAnswer L to_head (taken steps) (dead (Ended at part))

-- The bytes are a message none of whose bytes is judged, and its end is.
abbrev pub IsJudgedAtEnd : Bounds → Bool → List ℕ → NoForm → Type 0
IsJudgedAtEnd L to_head bytes form = (m : Message) × (omitted : Omitted) × (padding : ℕ) × IsUnjudged L to_head bytes m omitted padding
    × (end_says to_head m omitted ≡ Some form)

-- A byte is judged, whatever follows it, and stops the call in the read that shows it; or the end is.
abbrev pub IsFormless : Bounds → Bool → NoForm → List Step → Type 0
IsFormless L to_head form steps =
    ((at : ℕ) × ReadsTo at steps × ((more : List ℕ) → IsJudgedAt L to_head (taken steps ++ more) at form))
    ⊎ ((met steps ≡ true) × IsJudgedAtEnd L to_head (taken steps) form)

-- how a call ended; behind a failed call there is none
abbrev pub IntoEnds : Bounds → Bool → End Summary IntoWhy → List Step → Type 0
IntoEnds L to_head (end.Done s) steps = IsQuiet steps × IsTranslated L to_head s steps
IntoEnds L to_head (end.Refused (Binary r)) steps = IsQuiet steps × IsRefusedBinary L to_head r steps
IntoEnds L to_head (end.Refused (Form form)) steps = IsQuiet steps × IsFormless L to_head form steps
IntoEnds L to_head end.ReadFault steps = StopsAt is_bad_read steps
IntoEnds L to_head end.WriteFault steps = StopsAt is_bad_write steps

-- ---- what was given rests on bytes that were judged

-- The rule speaks of the length of a counted body, which is known behind its content alone.
abbrev pub IsOfLength : NoForm → Type 0
IsOfLength no.Pseudo = ⊥
IsOfLength no.ValueByte = ⊥
IsOfLength no.Host = ⊥
IsOfLength no.Connect = ⊥
IsOfLength no.Scheme = ⊥
IsOfLength no.Switching = ⊥
IsOfLength no.Bodyless = ⊥
IsOfLength no.LengthField = ⊥
IsOfLength (no.LengthDiffers field content) = Unit {0}
IsOfLength no.TrailersCounted = Unit {0}

-- each rule that holds is such a one
abbrev pub LeaveText : List Case → Type 0
LeaveText [] = Unit {0}
LeaveText ((form, holds) ∷ more) = ((holds ≡ false) ⊎ IsOfLength form) × LeaveText more

-- The message has a text, or has one but for the length of its body.
abbrev pub HasText : Bool → Message → Type 0
HasText to_head m = LeaveText (cases_of to_head m)

-- Of what was taken so many bytes were seen. None of them is judged, some message that has a text goes on behind them, and what was given
-- begins the text of every message that does.
pub record RestsOn (L : Bounds) (to_head : Bool) (seen : List ℕ) (steps : List Step) : Type 0 where
  pub begins : Begins seen (taken steps)
  pub within : IsWithin L.input (length seen)
  pub unjudged : NoneIsJudged L to_head seen (length seen)
  pub message : Message
  pub has_text : HasText to_head message
  pub goes_on : CanBecome (IsTextOf L message) seen
  pub gives : (m : Message) → CanBecome (IsTextOf L m) seen → Begins (given steps) (http1 to_head m)

-- The end was met: what was taken is a message that has a text, none of its bytes is judged, and what was given begins its text.
pub record RestsOnAll (L : Bounds) (to_head : Bool) (steps : List Step) : Type 0 where
  pub end : met steps ≡ true
  pub within : IsWithin L.input (length (taken steps))
  pub unjudged : NoneIsJudged L to_head (taken steps) (length (taken steps))
  pub message : Message
  pub has_text : HasText to_head message
  pub whole : IsText (IsTextOf L message) (taken steps)
  pub gives : Begins (given steps) (http1 to_head message)

-- Nothing of a text is given before a byte behind which a message with a text goes on, and before that byte is judged.
abbrev pub GivesJudged : Bounds → Bool → List Step → Type 0
GivesJudged L to_head steps = (given steps ≡ []) ⊎ (((seen : List ℕ) × RestsOn L to_head seen steps) ⊎ RestsOnAll L to_head steps)

-- A call that translates a message: at every point of its calls what was given begins the text of every message that continues what was
-- taken, also of one without a form. The content taken is at most 16,383 bytes more than the content given: an open chunk, and one read;
-- and before each read at most 8,191 more. Content is counted in the longest front of the bytes that begins a text of a message, of
-- Binary HTTP within the limits in what was taken, and of HTTP/1.1 in what was given.
pub record IntoCall (L : Bounds) (to_head : Bool) {S : Type 0} (read write : S → Step → S → Type 0) (s : S) (r : End Summary IntoWhy)
    (t : S) : Type 0 where
  pub steps : List Step
  pub call : PortCall L.input (GivesFronts L (http1 to_head)) (IntoEnds L to_head) read write steps s r t
  pub judged : AtEvery (GivesJudged L to_head) steps
  pub keeps_up : KeepsUp (IsMessageText L) (HasBody (IsSomeMarked no_bounds to_head)) 16383 8191 steps

-- The end that is right for an input, and what was sent with it.
abbrev pub IsRightInto : Bounds → Bool → End Summary IntoWhy → List ℕ → List ℕ → Type 0
IsRightInto L to_head (end.Done s) input sent = (m : Message) × (omitted : Omitted) × (padding : ℕ)
    × IsIntoAnswer L to_head input (formed m omitted padding) × (s ≡ summary m omitted padding (length input)) × (sent ≡ http1 to_head m)
IsRightInto L to_head (end.Refused (Binary r)) input sent = IsIntoAnswer L to_head input (dead r)
IsRightInto L to_head (end.Refused (Form form)) input sent = IsIntoAnswer L to_head input (formless form)
IsRightInto L to_head end.ReadFault input sent = Unit {0}
IsRightInto L to_head end.WriteFault input sent = Unit {0}

-- the end that an answer for an input of so many bytes has
abbrev pub into_end_of : IntoAnswer → ℕ → End Summary IntoWhy
into_end_of (formed m omitted padding) bytes = end.Done (summary m omitted padding bytes)
into_end_of (dead r) bytes = end.Refused (Binary r)
into_end_of (formless form) bytes = end.Refused (Form form)

-- What a port that tells what is left tells of a call: the end is right for its input, and what was sent begins the text of the message
-- that the input is.
abbrev pub IntoTold : Bounds → Bool → {S : Type 0} → Meanings S → S → End Summary IntoWhy → S → Type 0
IntoTold L to_head port s r t = TellsOf (IsTextOf L) (http1 to_head) L.input (IsRightInto L to_head) port s r t

-- Whatever the answer for the input is, the call ended with it where no fault was counted.
abbrev pub IntoCompletes : Bounds → Bool → {S : Type 0} → Meanings S → S → End Summary IntoWhy → S → Type 0
IntoCompletes L to_head port s r t = CompletesAs (IsIntoAnswer L to_head) into_end_of port s r t

-- What holds at every point of the calls, by their bytes, and so at every point of the log.
pub record IntoPoint (L : Bounds) (to_head : Bool) (steps : List Step) : Type 0 where
  pub gives : GivesFront (IsTextOf L) (http1 to_head) L.input steps
  pub judged : GivesJudged L to_head steps
  pub keeps_up : IsClose (IsMessageText L) (HasBody (IsSomeMarked no_bounds to_head)) 16383 steps

abbrev pub IntoLog : Bounds → Bool → List Entry → Type 0
IntoLog L to_head log = AtEveryEntry (IntoPoint L to_head) log

-- all that is said of a call over a port
pub record IntoFacts (L : Bounds) (to_head : Bool) {S : Type 0} (read write : S → Step → S → Type 0) (port : Meanings S)
    (log : S → Option (List Entry)) (s : S) (r : End Summary IntoWhy) (t : S) : Type 0 where
  pub call : IntoCall L to_head read write s r t
  pub tells : PortTells (IsTextOf L) (http1 to_head) L.input (IntoPoint L to_head)
      (IsRightInto L to_head) (IsIntoAnswer L to_head) into_end_of port log s r t

-- the end over the port, if memory didn't run out before
abbrev pub into_called : IntoEnd → Option (End Summary IntoWhy)
into_called (ends.Done s) = Some (end.Done s)
into_called (ends.Refused r) = Some (end.Refused (Binary r))
into_called (ends.Untranslatable form) = Some (end.Refused (Form form))
into_called ends.ReadFault = Some end.ReadFault
into_called ends.WriteFault = Some end.WriteFault
into_called ends.NoMemory = None

abbrev pub IntoSo : IntoEnd → (uncalled : Type 0) → (End Summary IntoWhy → Type 0) → Type 0
IntoSo e uncalled P = CalledSo (into_called e) uncalled P

-- the end of the translator for one of the loop
abbrev pub into_end : End Summary IntoWhy → IntoEnd
into_end (end.Done s) = ends.Done s
into_end (end.Refused (Binary r)) = ends.Refused r
into_end (end.Refused (Form form)) = ends.Untranslatable form
into_end end.ReadFault = ends.ReadFault
into_end end.WriteFault = ends.WriteFault
