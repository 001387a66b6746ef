-- All that is said of a call that writes, by what it did.
use Rattle.std.proofs.Common.{◌≡◌, ℕ, Bool, true, List, Option, refl, ap}
use Rattle.std.specs.Io.KnownBytes.{IsAtEnd}
use Rattle.bh_spec.specs.Bounds.{Bounds}
use Rattle.bh_spec.specs.Messages.{Message}
use Rattle.bh_spec.specs.Viable.{IsMessageText}
use Rattle.bh_base.specs.Steps.{Step, Entry, Rose, Meanings, ReadFacts, WriteFacts, ReadLeaves, WriteLeaves, meanings}
use Rattle.bh_stream.specs.Logs.{KeepsUp}
use Rattle.bh_stream.specs.Calls.{StreamCall}
use Rattle.bh_stream.specs.Telling.{IsLogged}
use Rattle.bh_stream.specs.declared.streaming.End.TheVariants as end
use Rattle.bh_canon.specs.declared.engine.CanonEnd.{CanonEnd}
use Rattle.bh_canon.specs.declared.engine.CanonEnd.TheVariants as ends
use Rattle.bh_canon.specs.Ends.{ended}
use Rattle.bh_canon.specs.Telling.{IsTold, IsComplete, KeepsLog, TakesFew}
use Rattle.bh_canon.proofs.Telling.{facts_of, told_call, counted_call, complete_call}
use Rattle.bh_canon.proofs.LogTelling.{logged, takes_few}

is_read_fault : (x : CanonEnd) → ended x ≡ end.ReadFault → x ≡ ends.ReadFault
is_read_fault (ends.Done s) e = absurd cc
is_read_fault (ends.Refused r) e = absurd cc
is_read_fault ends.ReadFault e = refl
is_read_fault ends.WriteFault e = absurd cc

is_write_fault : (x : CanonEnd) → ended x ≡ end.WriteFault → x ≡ ends.WriteFault
is_write_fault (ends.Done s) e = absurd cc
is_write_fault (ends.Refused r) e = absurd cc
is_write_fault ends.ReadFault e = absurd cc
is_write_fault ends.WriteFault e = refl

pub record WritingFacts (L : Bounds) (output : Message → List ℕ) (Shown : List ℕ → ℕ → Type 0) (most : ℕ) {S : Type 0} (port : Meanings S)
    (log : S → Option (List Entry)) (steps : List Step) (s : S) (x : CanonEnd) (t : S) : Type 0 where
  pub told : IsTold L output port s (ended x) t
  pub complete : IsComplete L port s (ended x) t
  pub log_is : IsLogged (KeepsLog L output Shown most) (log s) (log t)
  pub few : TakesFew (ended x) steps
  pub read_fault : x ≡ ends.ReadFault → Rose (port.read_faults s) (port.read_faults t)
  pub write_fault : x ≡ ends.WriteFault → Rose (port.write_faults s) (port.write_faults t)
  pub quiet_reads : (x ≡ ends.ReadFault → ⊥) → port.read_faults t ≡ port.read_faults s
  pub quiet_writes : (x ≡ ends.WriteFault → ⊥) → port.write_faults t ≡ port.write_faults s

module _ (L : Bounds) (output : Message → List ℕ) (Shown : List ℕ → ℕ → Type 0) (most before : ℕ) {S : Type 0} {read write : S → Step → S → Type 0} {left sent : S → Option (List ℕ)}
    {read_faults write_faults : S → ℕ} {ended_at : S → Bool} {log : S → Option (List Entry)}
    (read_law : (s t : S) (x : Step) → read s x t → ReadFacts left read_faults ended_at s x t)
    (ended_law : (s : S) → ended_at s ≡ true → IsAtEnd (left s))
    (write_law : (s t : S) (x : Step) → write s x t → WriteFacts sent write_faults s x t)
    (read_leaves : (s t : S) (x : Step) → read s x t → ReadLeaves sent write_faults log s x t)
    (write_leaves : (s t : S) (x : Step) → write s x t → WriteLeaves left read_faults ended_at log s x t) where
  pub writing : (s t : S) (x : CanonEnd) (steps : List Step) → StreamCall L output read write steps s (ended x) t → KeepsUp (IsMessageText L) Shown most before steps
      → WritingFacts L output Shown most (meanings left sent read_faults write_faults) log steps s x t
  writing s t x steps call keeps =
      let facts = facts_of L output read_law ended_law write_law read_leaves write_leaves s t (ended x) steps call in
      let counts = counted_call L output read_law ended_law write_law read_leaves write_leaves s t (ended x) steps call in
      record {
        told = told_call L output read_law ended_law write_law read_leaves write_leaves s t (ended x) steps call;
        complete = complete_call L output read_law ended_law write_law read_leaves write_leaves s t (ended x) steps call;
        log_is = logged L output steps call Shown most before keeps (log s) (log t) facts.logs;
        few = takes_few L output steps call facts.fits;
        read_fault = λ e. counts.read_fault (ap ended e);
        write_fault = λ e. counts.write_fault (ap ended e);
        quiet_reads = λ no. counts.quiet_reads (λ e. no (is_read_fault x e));
        quiet_writes = λ no. counts.quiet_writes (λ e. no (is_write_fault x e));
      }
