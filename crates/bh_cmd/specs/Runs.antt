-- What a run of a command did.
use Rattle.std.specs.Prelude.{◌≡◌, ◌≤◌, ◌⊎◌, ℕ, Bool, List, [], ◌++◌, length, map, Option, Some, None, String, string_bytes}
use Rattle.std.specs.List.{sum}
use Rattle.std.specs.Io.KnownBytes.{Appends}
use Rattle.std.specs.declared.alloc.Global.{Global}
use Rattle.bh_spec.specs.declared.Summary.{Summary}
use Rattle.bh_spec.specs.Bounds.{Bounds, default_bounds}
use Rattle.bh_model.specs.declared.causes.Cause.{Cause}
use Rattle.bh_base.specs.Steps.{Step, Chain, Entry, Meanings, Rose, given, IsQuiet, StopsAt, is_bad_write}
use Rattle.bh_listing.specs.Shown.{Shown}
use Rattle.bh_text.specs.Reports.{trial_line}
use Rattle.bh_spec.specs.declared.Refusal.{Refusal}
use Rattle.bh_spec.specs.Messages.{Message}
use Rattle.bh_spec.specs.Canonical.{canon}
use Rattle.bh_spec.specs.Listing.{show}
use Rattle.bh_spec.specs.Viable.{IsMessageText}
use Rattle.bh_stream.specs.Logs.{HasBody}
use Rattle.bh_stream.specs.Telling.{CountsBy, IsLogged}
use Rattle.bh_stream.specs.declared.streaming.End.{End}
use Rattle.bh_canon.specs.Ends.{IsCanon}
use Rattle.bh_canon.specs.Calls.{CanonCall, ShowCall, SourceCheck}
use Rattle.bh_canon.specs.Telling.{IsTold, IsComplete, KeepsLog, SourceTold, SourceCompletes}
use Rattle.bh_words.specs.declared.commands.Command.{Command}
use Rattle.bh_words.specs.Words.{IsCommand}
use Rattle.bh_cmd.specs.declared.exits.Exit.{Exit}
use Rattle.bh_cmd.specs.declared.exits.Exit.TheVariants.{Done, Refused, Usage, ReadFault, WriteFault, NoMemory, DoorFault, ShelfFault}
use Rattle.bh_words.specs.declared.commands.Command.TheVariants.{Canon, Check, Show, FromHttp1, ToHttp1, Trial}
use Rattle.h1_spec.specs.declared.Scheme1.{Scheme1}
use Rattle.bh_translate.specs.From.{FromCall, FromTold, FromCompletes, FromLog}
use Rattle.bh_translate.specs.Into.{IntoCall, IntoTold, IntoCompletes, IntoLog}
use Rattle.bh_cmd.specs.Exits.{EndsBy, EndsSo, as_binary, as_translation, as_http1}
use Rattle.bh_cmd.specs.Trials.{trial, trial_summary}

-- the words mean the command, and they mean none
abbrev pub Mean : List (String Global) → Command → Type 0
Mean words command = IsCommand (map string_bytes words) command

abbrev pub MeanNothing : List (String Global) → Type 0
MeanNothing words = (command : Command) → Mean words command → ⊥

-- the command is one that words can mean
abbrev pub CanRun : Command → Type 0
CanRun (Canon L) = Unit {0}
CanRun (Check L) = Unit {0}
CanRun (Show L) = Unit {0}
CanRun (FromHttp1 L scheme to_head) = Unit {0}
CanRun (ToHttp1 L to_head) = Unit {0}
CanRun (Trial n) = n ≤ 67108864

-- The line went out whole, and no write failed; or a front of it, and the sink's count of faults rose.
pub record IsPrinted {S : Type 0} (write : S → Step → S → Type 0) (sent : S → Option (List ℕ)) (faults : S → ℕ)
    (line : List ℕ) (s t : S) : Type 0 where
  pub steps : List Step
  pub chain : Chain write s steps t
  pub told : Appends (sent s) (sent t) (given steps)
  pub all : ((given steps ≡ line) × (faults t ≡ faults s)) ⊎ ((rest : List ℕ) × (line ≡ given steps ++ rest) × Rose (faults s) (faults t))

-- What a run of a command over a port did, by the calls of the port, by what it tells, by its log and by its counts of faults. `of` says
-- which causes are refusals of such a command. Where memory ran out, the port is as it was.
pub record PortRun {R : Type 0} (of : Cause → Option R) (Call Told Completes : End Summary R → Type 0) (Logged : Type 0)
    {S : Type 0} (port : Meanings S) (s : S) (exit : Exit) (t : S) : Type 0 where
  pub call : EndsBy of exit (t ≡ s) Call
  pub told : EndsBy of exit (t ≡ s) Told
  pub complete : EndsBy of exit (t ≡ s) Completes
  pub logged : EndsBy of exit (t ≡ s) (λ r. Logged)
  pub counts : CountsBy ReadFault WriteFault port s exit t

-- a command that writes this output of a message, under these limits
abbrev pub WritingRun : Bounds → (Message → List ℕ) → (List ℕ → ℕ → Type 0) → ℕ → {S : Type 0} → (End Summary Refusal → Type 0)
    → Meanings S → (S → Option (List Entry)) → S → Exit → S → Type 0
WritingRun L output Shown most Call port log s exit t = PortRun as_binary Call (λ r. IsTold L output port s r t)
    (λ r. IsComplete L port s r t) (IsLogged (KeepsLog L output Shown most) (log s) (log t)) port s exit t

-- `to-http1`
abbrev pub TranslatingRun : Bounds → Bool → {S : Type 0} → (S → Step → S → Type 0) → (S → Step → S → Type 0) → Meanings S
    → (S → Option (List Entry)) → S → Exit → S → Type 0
TranslatingRun L to_head read write port log s exit t = PortRun as_translation (λ r. IntoCall L to_head read write s r t)
    (λ r. IntoTold L to_head port s r t) (λ r. IntoCompletes L to_head port s r t)
    (IsLogged (IntoLog L to_head) (log s) (log t)) port s exit t

-- `from-http1`
abbrev pub ReadingRun : Bounds → Scheme1 → Bool → {S : Type 0} → (S → Step → S → Type 0) → (S → Step → S → Type 0) → Meanings S
    → (S → Option (List Entry)) → S → Exit → S → Type 0
ReadingRun L scheme to_head read write port log s exit t = PortRun as_http1 (λ r. FromCall L scheme to_head read write s r t)
    (λ r. FromTold L scheme to_head port s r t) (λ r. FromCompletes L scheme to_head port s r t)
    (IsLogged (FromLog L scheme to_head) (log s) (log t)) port s exit t

-- What a run of `check` did. Nothing was sent.
pub record CheckRun (L : Bounds) {S : Type 0} (read : S → Step → S → Type 0) (port : Meanings S) (s : S) (exit : Exit) (t : S)
    : Type 0 where
  pub call : EndsSo exit (t ≡ s) (λ r. SourceCheck L read s r t)
  pub told : EndsSo exit (t ≡ s) (λ r. SourceTold L r (port.left s) (port.left t))
  pub complete : EndsSo exit (t ≡ s) (λ r. SourceCompletes L r (port.left s) (port.read_faults s) (port.read_faults t))
  pub silent : port.sent t ≡ port.sent s
  pub read_fault : exit ≡ ReadFault → Rose (port.read_faults s) (port.read_faults t)
  pub write_fault : exit ≡ WriteFault → ⊥
  pub quiet_reads : (exit ≡ ReadFault → ⊥) → port.read_faults t ≡ port.read_faults s
  pub quiet_writes : port.write_faults t ≡ port.write_faults s

-- The line of a trial whose engine ended with this summary: its four numbers are those of its input and of the canonical text.
pub record IsTrialLine (n : ℕ) (s : Summary) (line : List ℕ) : Type 0 where
  pub text : List ℕ
  pub canonical : IsCanon default_bounds (trial n) s text
  pub is_line : line ≡ trial_line (record { content = n; bytes_in = length (trial n); bytes_out = length text; sum = sum text })

-- What the writes of a trial say of how it ended. Its input is a message, so it isn't refused.
abbrev pub TrialOutcome : ℕ → Exit → List Step → Type 0
TrialOutcome n (Done (Some s)) steps = IsQuiet steps × IsTrialLine n s (given steps)
TrialOutcome n (Done None) steps = ⊥
TrialOutcome n (Refused cause) steps = ⊥
TrialOutcome n Usage steps = ⊥
TrialOutcome n ReadFault steps = ⊥
TrialOutcome n WriteFault steps = StopsAt is_bad_write steps × ((s : Summary) × (unsent : List ℕ) × IsTrialLine n s (given steps ++ unsent))
TrialOutcome n NoMemory steps = steps ≡ []
TrialOutcome n DoorFault steps = ⊥
TrialOutcome n ShelfFault steps = ⊥

-- Where no write was counted as failed, the trial is done, with the summary of its message, or memory ran out.
abbrev pub TrialCompletes : ℕ → Exit → ℕ → ℕ → Type 0
TrialCompletes n exit writes_before writes_now = (Rose writes_before writes_now → ⊥)
    → (exit ≡ Done (Some (trial_summary n))) ⊎ (exit ≡ NoMemory)

-- What a run of `trial` did: the port went through these writes, and nothing was taken from it.
pub record TrialRun (n : ℕ) {S : Type 0} (write : S → Step → S → Type 0) (port : Meanings S) (s : S) (exit : Exit) (t : S)
    : Type 0 where
  pub steps : List Step
  pub chain : Chain write s steps t
  pub same_left : port.left t ≡ port.left s
  pub told : Appends (port.sent s) (port.sent t) (given steps)
  pub outcome : TrialOutcome n exit steps

pub record TrialExitFacts (n : ℕ) {S : Type 0} (write : S → Step → S → Type 0) (port : Meanings S) (s : S) (exit : Exit) (t : S)
    : Type 0 where
  pub run : TrialRun n write port s exit t
  pub complete : TrialCompletes n exit (port.write_faults s) (port.write_faults t)
  pub write_fault : exit ≡ WriteFault → Rose (port.write_faults s) (port.write_faults t)
  pub quiet_reads : port.read_faults t ≡ port.read_faults s
  pub quiet_writes : (exit ≡ WriteFault → ⊥) → port.write_faults t ≡ port.write_faults s

-- A line was told to the port: whole where the exit is this, or a front of it, where it is the fault of a write.
abbrev pub Tells : Exit → Summary → List ℕ → List Step → Type 0
Tells (Done (Some s)) summary line steps = (s ≡ summary) × IsQuiet steps × (given steps ≡ line)
Tells WriteFault summary line steps = StopsAt is_bad_write steps × ((unsent : List ℕ) × (line ≡ given steps ++ unsent))
Tells other summary line steps = ⊥

pub record IsToldLine {S : Type 0} (write : S → Step → S → Type 0) (summary : Summary) (line : List ℕ) (s : S) (exit : Exit)
    (t : S) : Type 0 where
  pub steps : List Step
  pub chain : Chain write s steps t
  pub tells : Tells exit summary line steps

-- What a run of a command did.
abbrev pub Performs : Command → {S : Type 0} → (S → Step → S → Type 0) → (S → Step → S → Type 0) → Meanings S → (S → Option (List Entry))
    → S → Exit → S → Type 0
Performs (Canon L) read write port log s exit t =
    WritingRun L canon (HasBody (IsMessageText L)) 16383 (λ r. CanonCall L read write s r t) port log s exit t
Performs (Check L) read write port log s exit t = CheckRun L read port s exit t
Performs (Show L) read write port log s exit t = WritingRun L show Shown 8223 (λ r. ShowCall L read write s r t) port log s exit t
Performs (FromHttp1 L scheme to_head) read write port log s exit t = ReadingRun L scheme to_head read write port log s exit t
Performs (ToHttp1 L to_head) read write port log s exit t = TranslatingRun L to_head read write port log s exit t
Performs (Trial n) read write port log s exit t = TrialExitFacts n write port s exit t

-- What the words say of a run.
pub record RunFacts (words : List (String Global)) {S : Type 0} (read write : S → Step → S → Type 0) (port : Meanings S)
    (log : S → Option (List Entry)) (s : S) (exit : Exit) (t : S) : Type 0 where
  pub usage : exit ≡ Usage → MeanNothing words
  pub nothing : MeanNothing words → (exit ≡ Usage) ⊎ (exit ≡ NoMemory)
  pub unused : MeanNothing words → t ≡ s
  pub performs : (command : Command) → Mean words command → Performs command read write port log s exit t
  pub read_fault : exit ≡ ReadFault → Rose (port.read_faults s) (port.read_faults t)
  pub write_fault : exit ≡ WriteFault → Rose (port.write_faults s) (port.write_faults t)
  pub quiet_reads : (exit ≡ ReadFault → ⊥) → port.read_faults t ≡ port.read_faults s
  pub quiet_writes : (exit ≡ WriteFault → ⊥) → port.write_faults t ≡ port.write_faults s
  pub no_door : exit ≡ DoorFault → ⊥
  pub no_shelf : exit ≡ ShelfFault → ⊥
