-- A command that ended as a call over a port did.
use Rattle.std.proofs.Common.{◌≡◌, ℕ, List, [], Option, Some, None, MatchOption, refl, sym, subst, ◌∙◌, ap, append-nil, inl, inr}
use Rattle.std.specs.Io.KnownBytes.{Appends}
use Rattle.bh_base.specs.Steps.{Step, Entry, Meanings, Rose, Chain, none, next, Either, ReadLeaves, meanings}
use Rattle.bh_spec.specs.declared.H1Why.{H1Why}
use Rattle.bh_spec.specs.declared.Refusal.{Refusal}
use Rattle.bh_spec.specs.declared.Summary.{Summary}
use Rattle.bh_spec.specs.Bounds.{Bounds}
use Rattle.bh_model.specs.declared.causes.Cause.{Cause}
use Rattle.bh_model.specs.declared.causes.Cause.TheVariants.{Binary, Http1}
use Rattle.bh_stream.specs.Telling.{CalledSo, CountsBy}
use Rattle.bh_stream.specs.declared.streaming.End.{End}
use Rattle.bh_stream.specs.declared.streaming.End.TheVariants as end
use Rattle.bh_canon.specs.declared.engine.CanonEnd.{CanonEnd}
use Rattle.bh_canon.specs.declared.engine.CanonEnd.TheVariants as ends
use Rattle.bh_canon.specs.declared.engine.CheckEnd.{CheckEnd}
use Rattle.bh_canon.specs.declared.engine.CheckEnd.TheVariants as checks
use Rattle.bh_canon.specs.Ends.{ended, checked}
use Rattle.bh_canon.specs.Lending.{NoWrite}
use Rattle.bh_canon.specs.Calls.{SourceCheck}
use Rattle.bh_canon.specs.Telling.{SourceTold, SourceCompletes}
use Rattle.h1_judge.specs.declared.judged.IntoWhy.{IntoWhy}
use Rattle.h1_judge.specs.declared.judged.IntoWhy.TheVariants as why
use Rattle.bh_translate.specs.declared.from.FromEnd.{FromEnd}
use Rattle.bh_translate.specs.declared.from.FromEnd.TheVariants as from_ends
use Rattle.bh_translate.specs.declared.into.IntoEnd.{IntoEnd}
use Rattle.bh_translate.specs.declared.into.IntoEnd.TheVariants as into_ends
use Rattle.bh_translate.specs.From.{FromSo, from_called, from_end}
use Rattle.bh_translate.specs.Into.{IntoSo, into_called, into_end}
use Rattle.bh_cmd.specs.declared.exits.Exit.TheVariants.{ReadFault, WriteFault, NoMemory}
use Rattle.bh_cmd.specs.Exits.{exit_called, exit_of, exit_of_translation, exit_of_reading, cause_of, EndsBy, as_binary, as_translation, as_http1}
use Rattle.bh_cmd.specs.Runs.{PortRun, CheckRun}

-- what is said of a call is said of the exit
ends_by : {R : Type 0} (cause : R → Cause) (of : Cause → Option R) → ((r : R) → of (cause r) ≡ Some r) → (called : Option (End Summary R)) (uncalled : Type 0) (P : End Summary R → Type 0)
    → CalledSo called uncalled P → EndsBy of (exit_called cause called) uncalled P
ends_by cause of back None uncalled P h = h
ends_by cause of back (Some (end.Done summary)) uncalled P h = h
ends_by {R} cause of back (Some (end.Refused r)) uncalled P h = subst (λ (o : Option R). MatchOption o ⊥ (λ x. P (end.Refused x))) (sym (back r)) h
ends_by cause of back (Some end.ReadFault) uncalled P h = h
ends_by cause of back (Some end.WriteFault) uncalled P h = h

is_read_fault : {R : Type 0} (cause : R → Cause) (called : Option (End Summary R)) → exit_called cause called ≡ ReadFault → called ≡ Some end.ReadFault
is_read_fault cause None e = absurd cc
is_read_fault cause (Some (end.Done summary)) e = absurd cc
is_read_fault cause (Some (end.Refused r)) e = absurd cc
is_read_fault cause (Some end.ReadFault) e = refl
is_read_fault cause (Some end.WriteFault) e = absurd cc

is_write_fault : {R : Type 0} (cause : R → Cause) (called : Option (End Summary R)) → exit_called cause called ≡ WriteFault → called ≡ Some end.WriteFault
is_write_fault cause None e = absurd cc
is_write_fault cause (Some (end.Done summary)) e = absurd cc
is_write_fault cause (Some (end.Refused r)) e = absurd cc
is_write_fault cause (Some end.ReadFault) e = absurd cc
is_write_fault cause (Some end.WriteFault) e = refl

-- A call whose end says, by `called`, how it ended over the port, if it was made; `again` is that end.
module _ {R X : Type 0} (cause : R → Cause) (of : Cause → Option R) (back : (r : R) → of (cause r) ≡ Some r) (called : X → Option (End Summary R)) (again : Option (End Summary R) → X)
    (same : (x : X) → again (called x) ≡ x) (reads : called (again (Some end.ReadFault)) ≡ Some end.ReadFault) (writes : called (again (Some end.WriteFault)) ≡ Some end.WriteFault)
    {S : Type 0} {port : Meanings S} {s t : S} {Call Told Completes : End Summary R → Type 0} {Logged : Type 0} where
  ran : (x : X) → CalledSo (called x) (t ≡ s) Call → CalledSo (called x) (t ≡ s) Told → CalledSo (called x) (t ≡ s) Completes → CalledSo (called x) (t ≡ s) (λ r. Logged)
      → CountsBy (again (Some end.ReadFault)) (again (Some end.WriteFault)) port s x t → PortRun of Call Told Completes Logged port s (exit_called cause (called x)) t
  ran x call told complete logged counts = record {
    call = ends_by cause of back (called x) (t ≡ s) Call call;
    told = ends_by cause of back (called x) (t ≡ s) Told told;
    complete = ends_by cause of back (called x) (t ≡ s) Completes complete;
    logged = ends_by cause of back (called x) (t ≡ s) (λ r. Logged) logged;
    counts = record {
      read_fault = λ e. counts.read_fault (sym (same x) ∙ ap again (is_read_fault cause (called x) e));
      write_fault = λ e. counts.write_fault (sym (same x) ∙ ap again (is_write_fault cause (called x) e));
      quiet_reads = λ no. counts.quiet_reads (λ e. no (ap (λ (y : X). exit_called cause (called y)) e ∙ ap (exit_called cause) reads));
      quiet_writes = λ no. counts.quiet_writes (λ e. no (ap (λ (y : X). exit_called cause (called y)) e ∙ ap (exit_called cause) writes));
    };
  }

-- memory ran out, and the port wasn't asked
module _ {R : Type 0} {of : Cause → Option R} {Call Told Completes : End Summary R → Type 0} {Logged S : Type 0} {port : Meanings S} {s : S} where
  pub not_run : PortRun of Call Told Completes Logged port s NoMemory s
  not_run = record {
    call = refl;
    told = refl;
    complete = refl;
    logged = refl;
    counts = record { read_fault = λ e. absurd cc; write_fault = λ e. absurd cc; quiet_reads = λ no. refl; quiet_writes = λ no. refl };
  }

-- ---- the calls

binary_back : (r : Refusal) → as_binary (Binary r) ≡ Some r
binary_back r = refl

abbrev canon_again : Option (End Summary Refusal) → CanonEnd
canon_again None = ends.ReadFault
canon_again (Some (end.Done summary)) = ends.Done summary
canon_again (Some (end.Refused refusal)) = ends.Refused refusal
canon_again (Some end.ReadFault) = ends.ReadFault
canon_again (Some end.WriteFault) = ends.WriteFault

canon_same : (x : CanonEnd) → canon_again (Some (ended x)) ≡ x
canon_same (ends.Done summary) = refl
canon_same (ends.Refused refusal) = refl
canon_same ends.ReadFault = refl
canon_same ends.WriteFault = refl

module _ {S : Type 0} {port : Meanings S} {s t : S} {Call Told Completes : End Summary Refusal → Type 0} {Logged : Type 0} where
  pub wrote : (x : CanonEnd) → Call (ended x) → Told (ended x) → Completes (ended x) → Logged → CountsBy ends.ReadFault ends.WriteFault port s x t
      → PortRun as_binary Call Told Completes Logged port s (exit_of (ended x)) t
  wrote = ran Binary as_binary binary_back (λ x. Some (ended x)) canon_again canon_same refl refl

into_back : (r : IntoWhy) → as_translation (cause_of r) ≡ Some r
into_back (why.Binary refusal) = refl
into_back (why.Form form) = refl

abbrev into_again : Option (End Summary IntoWhy) → IntoEnd
into_again None = into_ends.NoMemory
into_again (Some r) = into_end r

into_same : (x : IntoEnd) → into_again (into_called x) ≡ x
into_same (into_ends.Done summary) = refl
into_same (into_ends.Refused refusal) = refl
into_same (into_ends.Untranslatable form) = refl
into_same into_ends.ReadFault = refl
into_same into_ends.WriteFault = refl
into_same into_ends.NoMemory = refl

module _ {S : Type 0} {port : Meanings S} {s t : S} {Call Told Completes : End Summary IntoWhy → Type 0} {Logged : Type 0} where
  pub translated : (x : IntoEnd) → IntoSo x (t ≡ s) Call → IntoSo x (t ≡ s) Told → IntoSo x (t ≡ s) Completes → IntoSo x (t ≡ s) (λ r. Logged)
      → CountsBy into_ends.ReadFault into_ends.WriteFault port s x t → PortRun as_translation Call Told Completes Logged port s (exit_of_translation x) t
  translated = ran cause_of as_translation into_back into_called into_again into_same refl refl

http1_back : (cause : H1Why) → as_http1 (Http1 cause) ≡ Some cause
http1_back cause = refl

abbrev from_again : Option (End Summary H1Why) → FromEnd
from_again None = from_ends.NoMemory
from_again (Some r) = from_end r

from_same : (x : FromEnd) → from_again (from_called x) ≡ x
from_same (from_ends.Done summary) = refl
from_same (from_ends.Refused cause) = refl
from_same from_ends.ReadFault = refl
from_same from_ends.WriteFault = refl
from_same from_ends.NoMemory = refl

module _ {S : Type 0} {port : Meanings S} {s t : S} {Call Told Completes : End Summary H1Why → Type 0} {Logged : Type 0} where
  pub read_http1 : (x : FromEnd) → FromSo x (t ≡ s) Call → FromSo x (t ≡ s) Told → FromSo x (t ≡ s) Completes → FromSo x (t ≡ s) (λ r. Logged)
      → CountsBy from_ends.ReadFault from_ends.WriteFault port s x t → PortRun as_http1 Call Told Completes Logged port s (exit_of_reading x) t
  read_http1 = ran Http1 as_http1 http1_back from_called from_again from_same refl refl

pub nothing : (o : Option (List ℕ)) → Appends o o []
nothing None = tt
nothing (Some sent) = sym (append-nil sent)

-- ---- a check

check_failed : (x : CheckEnd) → exit_of (checked x) ≡ ReadFault → x ≡ checks.ReadFault
check_failed (checks.Done summary) e = absurd cc
check_failed (checks.Refused refusal) e = absurd cc
check_failed checks.ReadFault e = refl

no_write_failed : (x : CheckEnd) → exit_of (checked x) ≡ WriteFault → ⊥
no_write_failed (checks.Done summary) e = absurd cc
no_write_failed (checks.Refused refusal) e = absurd cc
no_write_failed checks.ReadFault e = absurd cc

module _ {S : Type 0} {read : S → Step → S → Type 0} {sent : S → Option (List ℕ)} {write_faults : S → ℕ} {log : S → Option (List Entry)}
    (leaves : (s t : S) (x : Step) → read s x t → ReadLeaves sent write_faults log s x t) where
  reads_send_nothing : {s t : S} {steps : List Step} → Chain (Either read NoWrite) s steps t → (sent t ≡ sent s) × (write_faults t ≡ write_faults s)
  reads_send_nothing none = (refl, refl)
  reads_send_nothing (next {s = s} {t = t} {x = x} (inl h) more) =
      let rest = reads_send_nothing more in
      let one = leaves s t x h in
      (rest.0 ∙ one.same_sent, rest.1 ∙ one.same_faults)
  reads_send_nothing (next (inr h) more) = absurd h

  module _ {L : Bounds} {left : S → Option (List ℕ)} {read_faults : S → ℕ} {s t : S} where
    pub checked_port : (x : CheckEnd) → SourceCheck L read s (checked x) t → SourceTold L (checked x) (left s) (left t)
        → SourceCompletes L (checked x) (left s) (read_faults s) (read_faults t)
        → (x ≡ checks.ReadFault → Rose (read_faults s) (read_faults t)) → ((x ≡ checks.ReadFault → ⊥) → read_faults t ≡ read_faults s)
        → CheckRun L read (meanings left sent read_faults write_faults) s (exit_of (checked x)) t
    checked_port x call told complete rf qr =
        let same = reads_send_nothing call.call.chain in
        record {
          call = ends_by Binary as_binary binary_back (Some (checked x)) (t ≡ s) (λ r. SourceCheck L read s r t) call;
          told = ends_by Binary as_binary binary_back (Some (checked x)) (t ≡ s) (λ r. SourceTold L r (left s) (left t)) told;
          complete = ends_by Binary as_binary binary_back (Some (checked x)) (t ≡ s) (λ r. SourceCompletes L r (left s) (read_faults s) (read_faults t)) complete;
          silent = same.0;
          read_fault = λ e. rf (check_failed x e);
          write_fault = no_write_failed x;
          quiet_reads = λ no. qr (λ e. no (ap (λ (y : CheckEnd). exit_of (checked y)) e));
          quiet_writes = same.1;
        }

module _ {L : Bounds} {S : Type 0} {read : S → Step → S → Type 0} {port : Meanings S} {s : S} where
  pub not_checked : CheckRun L read port s NoMemory s
  not_checked = record {
    call = refl;
    told = refl;
    complete = refl;
    silent = refl;
    read_fault = λ e. absurd cc;
    write_fault = λ e. absurd cc;
    quiet_reads = λ no. refl;
    quiet_writes = refl;
  }
