-- What the words say of a run.
use Rattle.std.proofs.Common.{◌≡◌, ℕ, List, Option, String, Some, None, refl, subst, inl, inr, string_bytes, map}
use Rattle.std.specs.declared.alloc.Global.{Global}
use Rattle.bh_base.specs.Steps.{Step, Meanings, Rose, Entry}
use Rattle.bh_words.specs.declared.commands.Command.{Command}
use Rattle.bh_words.specs.declared.commands.Command.TheVariants.{Canon, Check, Show, FromHttp1, ToHttp1, Trial}
use Rattle.bh_words.specs.Words.{IsCommand}
use Rattle.bh_words.specs.Settings.{Finds}
use Rattle.bh_words.proofs.Meaning.{one_command}
use Rattle.bh_cmd.specs.declared.exits.Exit.{Exit}
use Rattle.bh_cmd.specs.declared.exits.Exit.TheVariants as exits
use Rattle.bh_cmd.proofs.Ended.{not_run, not_checked}
use Rattle.bh_cmd.proofs.Trying.{not_tried}
use Rattle.bh_cmd.specs.Runs.{Mean, MeanNothing, CanRun, TrialExitFacts, Performs, RunFacts}

-- what the reading of the words found
pub found : (words : List (String Global)) (answer : Option Command) (command : Command) → Finds (IsCommand (map string_bytes words)) answer → answer ≡ Some command → Mean words command
found words answer command h e = subst (Finds (IsCommand (map string_bytes words))) e h

pub found_none : (words : List (String Global)) (answer : Option Command) → Finds (IsCommand (map string_bytes words)) answer → answer ≡ None → MeanNothing words
found_none words answer h e = subst (Finds (IsCommand (map string_bytes words))) e h

pub can_run : (words : List (String Global)) (command : Command) → Mean words command → CanRun command
can_run words (Canon L) is = tt
can_run words (Check L) is = tt
can_run words (Show L) is = tt
can_run words (FromHttp1 L scheme to_head) is = tt
can_run words (ToHttp1 L to_head) is = tt
can_run words (Trial n) is = is.meant.most

module _ (S : Type 0) (read write : S → Step → S → Type 0) (port : Meanings S) (log : S → Option (List Entry)) (s t : S) where
  -- a run of the command that the words mean
  not_usage : (command : Command) (exit : Exit) → Performs command read write port log s exit t → exit ≡ exits.Usage → ⊥
  not_usage (Canon L) exits.Usage h e = h.call
  not_usage (Check L) exits.Usage h e = h.call
  not_usage (Show L) exits.Usage h e = h.call
  not_usage (FromHttp1 L scheme to_head) exits.Usage h e = h.call
  not_usage (ToHttp1 L to_head) exits.Usage h e = h.call
  not_usage (Trial n) exits.Usage h e = h.run.outcome
  not_usage command other h e = absurd cc

  not_door : (command : Command) (exit : Exit) → Performs command read write port log s exit t → exit ≡ exits.DoorFault → ⊥
  not_door (Canon L) exits.DoorFault h e = h.call
  not_door (Check L) exits.DoorFault h e = h.call
  not_door (Show L) exits.DoorFault h e = h.call
  not_door (FromHttp1 L scheme to_head) exits.DoorFault h e = h.call
  not_door (ToHttp1 L to_head) exits.DoorFault h e = h.call
  not_door (Trial n) exits.DoorFault h e = h.run.outcome
  not_door command other h e = absurd cc

  not_shelf : (command : Command) (exit : Exit) → Performs command read write port log s exit t → exit ≡ exits.ShelfFault → ⊥
  not_shelf (Canon L) exits.ShelfFault h e = h.call
  not_shelf (Check L) exits.ShelfFault h e = h.call
  not_shelf (Show L) exits.ShelfFault h e = h.call
  not_shelf (FromHttp1 L scheme to_head) exits.ShelfFault h e = h.call
  not_shelf (ToHttp1 L to_head) exits.ShelfFault h e = h.call
  not_shelf (Trial n) exits.ShelfFault h e = h.run.outcome
  not_shelf command other h e = absurd cc

  no_read_fault : (n : ℕ) (exit : Exit) → TrialExitFacts n write port s exit t → exit ≡ exits.ReadFault → ⊥
  no_read_fault n exits.ReadFault h e = h.run.outcome
  no_read_fault n other h e = absurd cc

  read_rises : (command : Command) (exit : Exit) → Performs command read write port log s exit t → exit ≡ exits.ReadFault → Rose (port.read_faults s) (port.read_faults t)
  read_rises (Canon L) exit h e = h.counts.read_fault e
  read_rises (Check L) exit h e = h.read_fault e
  read_rises (Show L) exit h e = h.counts.read_fault e
  read_rises (FromHttp1 L scheme to_head) exit h e = h.counts.read_fault e
  read_rises (ToHttp1 L to_head) exit h e = h.counts.read_fault e
  read_rises (Trial n) exit h e = absurd (no_read_fault n exit h e)

  write_rises : (command : Command) (exit : Exit) → Performs command read write port log s exit t → exit ≡ exits.WriteFault → Rose (port.write_faults s) (port.write_faults t)
  write_rises (Canon L) exit h = h.counts.write_fault
  write_rises (Check L) exit h = λ e. absurd (h.write_fault e)
  write_rises (Show L) exit h = h.counts.write_fault
  write_rises (FromHttp1 L scheme to_head) exit h = h.counts.write_fault
  write_rises (ToHttp1 L to_head) exit h = h.counts.write_fault
  write_rises (Trial n) exit h = h.write_fault

  reads_stay : (command : Command) (exit : Exit) → Performs command read write port log s exit t → (exit ≡ exits.ReadFault → ⊥) → port.read_faults t ≡ port.read_faults s
  reads_stay (Canon L) exit h still = h.counts.quiet_reads still
  reads_stay (Check L) exit h still = h.quiet_reads still
  reads_stay (Show L) exit h still = h.counts.quiet_reads still
  reads_stay (FromHttp1 L scheme to_head) exit h still = h.counts.quiet_reads still
  reads_stay (ToHttp1 L to_head) exit h still = h.counts.quiet_reads still
  reads_stay (Trial n) exit h still = h.quiet_reads

  writes_stay : (command : Command) (exit : Exit) → Performs command read write port log s exit t → (exit ≡ exits.WriteFault → ⊥) → port.write_faults t ≡ port.write_faults s
  writes_stay (Canon L) exit h = h.counts.quiet_writes
  writes_stay (Check L) exit h = λ still. h.quiet_writes
  writes_stay (Show L) exit h = h.counts.quiet_writes
  writes_stay (FromHttp1 L scheme to_head) exit h = h.counts.quiet_writes
  writes_stay (ToHttp1 L to_head) exit h = h.counts.quiet_writes
  writes_stay (Trial n) exit h = h.quiet_writes

  pub obeyed : (words : List (String Global)) (command : Command) → Mean words command → (exit : Exit) → Performs command read write port log s exit t
      → RunFacts words read write port log s exit t
  obeyed words command mean exit h = record {
    usage = λ e. absurd (not_usage command exit h e);
    nothing = λ none. absurd (none command mean);
    unused = λ none. absurd (none command mean);
    performs = λ other is. subst (λ (one : Command). Performs one read write port log s exit t) (one_command (map string_bytes words) command other mean is) h;
    read_fault = read_rises command exit h;
    write_fault = write_rises command exit h;
    quiet_reads = reads_stay command exit h;
    quiet_writes = writes_stay command exit h;
    no_door = not_door command exit h;
    no_shelf = not_shelf command exit h;
  }

-- where nothing was run
module _ (S : Type 0) (read write : S → Step → S → Type 0) (port : Meanings S) (log : S → Option (List Entry)) (s : S) (words : List (String Global)) where
  pub nothing_meant : MeanNothing words → RunFacts words read write port log s exits.Usage s
  nothing_meant none = record {
    usage = λ e. none;
    nothing = λ none. inl refl;
    unused = λ none. refl;
    performs = λ command is. absurd (none command is);
    read_fault = λ e. absurd cc;
    write_fault = λ e. absurd cc;
    quiet_reads = λ no. refl;
    quiet_writes = λ no. refl;
    no_door = λ e. absurd cc;
    no_shelf = λ e. absurd cc;
  }

  not_begun : (command : Command) → Performs command read write port log s exits.NoMemory s
  not_begun (Canon L) = not_run
  not_begun (Check L) = not_checked
  not_begun (Show L) = not_run
  not_begun (FromHttp1 L scheme to_head) = not_run
  not_begun (ToHttp1 L to_head) = not_run
  not_begun (Trial n) = not_tried n

  pub not_read : RunFacts words read write port log s exits.NoMemory s
  not_read = record {
    usage = λ e. absurd cc;
    nothing = λ none. inr refl;
    unused = λ none. refl;
    performs = λ command is. not_begun command;
    read_fault = λ e. absurd cc;
    write_fault = λ e. absurd cc;
    quiet_reads = λ no. refl;
    quiet_writes = λ no. refl;
    no_door = λ e. absurd cc;
    no_shelf = λ e. absurd cc;
  }
