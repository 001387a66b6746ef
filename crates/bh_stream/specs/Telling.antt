-- What a port tells of a call: by its input, by what was sent, by its counts of faults, and by its log.
use Rattle.std.specs.Prelude.{◌≡◌, ℕ, List, [], ◌∷◌, ◌++◌, length, Option, Some, None, IfSome}
use Rattle.std.specs.Io.KnownBytes.{Appends}
use Rattle.bh_spec.specs.Bounds.{IsWithin}
use Rattle.bh_spec.specs.Texts.{Text}
use Rattle.bh_spec.specs.Pieces.{IsText}
use Rattle.bh_base.specs.Steps.{Step, Read, Write, Entry, Took, Gave, Meanings, Rose, IsQuiet, StopsAt, is_bad_read, is_bad_write}
use Rattle.bh_stream.specs.Logs.{Begins}
use Rattle.bh_stream.specs.Points.{one_read}
use Rattle.bh_stream.specs.declared.streaming.End.{End}
use Rattle.bh_stream.specs.declared.streaming.End.TheVariants as end

-- ---- a port that tells what is left

-- what was sent begins the output of the thing that the input spells, if it spells one within the limit
abbrev pub BeginsOwn : {M : Type 0} → (M → Text → Type 0) → (M → List ℕ) → Option ℕ → List ℕ → List ℕ → Type 0
BeginsOwn {M} spelled output limit input sent = (m : M) → IsWithin limit (length input) → IsText (spelled m) input → Begins sent (output m)

-- a call that is done has read all of its input
abbrev pub ReadsAll : {A R : Type 0} → End A R → Option (List ℕ) → Type 0
ReadsAll (end.Done a) left = left ≡ Some []
ReadsAll (end.Refused r) left = Unit {0}
ReadsAll end.ReadFault left = Unit {0}
ReadsAll end.WriteFault left = Unit {0}

-- By the whole input, what is left of it, and what was sent before and is sent now: `Right` says which end is right for which input, and
-- with what sent.
pub record Tells {M A R : Type 0} (spelled : M → Text → Type 0) (output : M → List ℕ) (limit : Option ℕ) (Right : End A R → List ℕ → List ℕ
    → Type 0)
    (r : End A R) (input : List ℕ) (left before now : Option (List ℕ)) : Type 0 where
  pub sent : List ℕ
  pub goes : Appends before now sent
  pub right : Right r input sent
  pub begins : BeginsOwn spelled output limit input sent
  pub all : ReadsAll r left

-- A port that tells what is left tells these of a call.
abbrev pub TellsOf : {M A R S : Type 0} → (M → Text → Type 0) → (M → List ℕ) → Option ℕ → (End A R → List ℕ → List ℕ → Type 0) → Meanings S
    → S → End A R → S → Type 0
TellsOf spelled output limit Right port s r t = IfSome (port.left s)
    (λ input. Tells spelled output limit Right r input (port.left t) (port.sent s) (port.sent t))

-- Whatever the answer for the input is, a call with these counts of faults before and now ended with it where no fault was counted.
abbrev pub Completes : {X A R : Type 0} → (List ℕ → X → Type 0) → (X → ℕ → End A R) → End A R → List ℕ
    → (reads_before reads_now writes_before writes_now : ℕ) → Type 0
Completes {X} IsAnswerFor end_of r input reads_before reads_now writes_before writes_now = (answer : X) → IsAnswerFor input answer
    → (Rose reads_before reads_now → ⊥) → (Rose writes_before writes_now → ⊥) → r ≡ end_of answer (length input)

-- So did a call of such a port.
abbrev pub CompletesAs : {X A R S : Type 0} → (List ℕ → X → Type 0) → (X → ℕ → End A R) → Meanings S → S → End A R → S → Type 0
CompletesAs IsAnswerFor end_of port s r t = IfSome (port.left s) (λ input. Completes IsAnswerFor end_of r input
    (port.read_faults s) (port.read_faults t) (port.write_faults s) (port.write_faults t))

-- ---- faults

-- where a failed call stops it
abbrev pub EndStops : {A R : Type 0} → End A R → List Step → Type 0
EndStops (end.Done a) steps = IsQuiet steps
EndStops (end.Refused r) steps = IsQuiet steps
EndStops end.ReadFault steps = StopsAt is_bad_read steps
EndStops end.WriteFault steps = StopsAt is_bad_write steps

-- A fault comes only where its count rose, and no other end leaves a count otherwise than it was: by the ends that say so.
pub record CountsBy {E S : Type 0} (read_fails write_fails : E) (port : Meanings S) (s : S) (r : E) (t : S) : Type 0 where
  pub read_fault : r ≡ read_fails → Rose (port.read_faults s) (port.read_faults t)
  pub write_fault : r ≡ write_fails → Rose (port.write_faults s) (port.write_faults t)
  pub quiet_reads : (r ≡ read_fails → ⊥) → port.read_faults t ≡ port.read_faults s
  pub quiet_writes : (r ≡ write_fails → ⊥) → port.write_faults t ≡ port.write_faults s

abbrev pub CountsAs : {A R S : Type 0} → Meanings S → S → End A R → S → Type 0
CountsAs port s r t = CountsBy end.ReadFault end.WriteFault port s r t

-- ---- a port that tells its log

-- the calls that a log tells: each read had room for a byte, and each write sent its piece
abbrev pub calls_of : List Entry → List Step
calls_of [] = []
calls_of ((Took bytes) ∷ log) = Read one_read bytes ∷ calls_of log
calls_of ((Gave bytes) ∷ log) = Write (length bytes) bytes ∷ calls_of log

-- At every point of the log, P holds of the calls that it tells up to there.
abbrev pub AtEveryEntry : (List Step → Type 0) → List Entry → Type 0
AtEveryEntry P log = (front back : List Entry) → log ≡ front ++ back → P (calls_of front)

-- what was added to the log in the call, where the port tells it
abbrev pub IsLogged : (List Entry → Type 0) → Option (List Entry) → Option (List Entry) → Type 0
IsLogged P before now = IfSome before (λ old. (log : List Entry) × (now ≡ Some (old ++ log)) × P log)

-- ---- all of it

-- What a port tells of a call. `Here` is what holds at every point of the calls, by their bytes.
pub record PortTells {M X A R : Type 0} (spelled : M → Text → Type 0) (output : M → List ℕ) (limit : Option ℕ) (Here : List Step → Type 0)
    (Right : End A R → List ℕ → List ℕ → Type 0) (IsAnswerFor : List ℕ → X → Type 0) (end_of : X → ℕ → End A R)
    {S : Type 0} (port : Meanings S) (log : S → Option (List Entry)) (s : S) (r : End A R) (t : S) : Type 0 where
  pub told : TellsOf spelled output limit Right port s r t
  pub complete : CompletesAs IsAnswerFor end_of port s r t
  pub logged : IsLogged (AtEveryEntry Here) (log s) (log t)
  pub counts : CountsAs port s r t

-- Of a call that takes its memory before: this holds of its end over the port; or memory ran out, there was no such end, and nothing was
-- called.
abbrev pub CalledSo : {E : Type 0} → Option E → (uncalled : Type 0) → (E → Type 0) → Type 0
CalledSo None uncalled P = uncalled
CalledSo (Some r) uncalled P = P r
