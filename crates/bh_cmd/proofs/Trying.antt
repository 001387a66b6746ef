-- A trial, and how it ended.
use Rattle.std.proofs.Common.{◌≡◌, ◌≤◌, ◌∙◌, ◌%◌, ◌^◌, ℕ, Bool, true, List, [], ◌++◌, length, Option, Some, None, refl, sym, ap, subst, arith, append-nil, inl, inr}
use Rattle.std.specs.List.{sum, list_any}
use Rattle.bh_spec.specs.declared.Summary.{Summary}
use Rattle.bh_spec.specs.declared.Refusal.{Refusal}
use Rattle.bh_spec.specs.Bounds.{Bounds, default_bounds}
use Rattle.bh_spec.specs.declared.Omitted.TheVariants.{Nothing}
use Rattle.bh_spec.specs.Answers.{Answer, whole, IsAnswer}
use Rattle.bh_base.specs.Steps.{Step, none, Meanings, Rose, taken, given, fails, is_bad_write, WriteFacts, WriteLeaves, IsQuiet, Entry, meanings}
use Rattle.bh_base.specs.StepLaws.{stops_fails, bad_writes_fail, stayed, rose}
use Rattle.bh_base.specs.SureLaws.{added_is}
use Rattle.bh_base.proofs.Chains.{write_chain, writes_leave, chain_facts}
use Rattle.bh_text.specs.Reports.{trial_line}
use Rattle.bh_canon.specs.declared.engine.CanonEnd.{CanonEnd}
use Rattle.bh_stream.specs.declared.streaming.End.{End}
use Rattle.bh_stream.specs.declared.streaming.End.TheVariants as end
use Rattle.bh_canon.specs.Ends.{IsCanon, ended, end_of}
use Rattle.bh_canon.specs.Calls.{CanonCall}
use Rattle.bh_canon.specs.Telling.{IsComplete}
use Rattle.bh_cmd.specs.declared.exits.Exit.{Exit}
use Rattle.bh_cmd.specs.declared.exits.Exit.TheVariants.{Done, Refused, Usage, ReadFault, WriteFault, NoMemory, DoorFault, ShelfFault}
use Rattle.bh_cmd.specs.Exits.{exit_of}
use Rattle.bh_cmd.specs.Trials.{TrialView, TrialRead, TrialWrite, trial, trial_message, new_trial, trial_left, untold_bytes, no_faults}
use Rattle.bh_cmd.specs.TrialLaws.{trial_read_law, trial_read_leaves, trial_write_law, trial_write_leaves, trial_at_end, trial_counted}
use Rattle.bh_cmd.specs.Runs.{IsTrialLine, TrialOutcome, TrialCompletes, TrialExitFacts, Tells, IsToldLine}
use Rattle.std.proofs.Math.Nat.{mod-eq_of_lt}
use Rattle.bh_cmd.proofs.Ended.{nothing}
use Rattle.bh_cmd.proofs.Short.{text_few, sum_few}
use Rattle.bh_cmd.proofs.TrialText.{trial_is_message}

abbrev trial_means : Meanings TrialView
trial_means = meanings trial_left untold_bytes no_faults no_faults

-- What the engine says of its call, when its port counted what was written.
module _ (n : ℕ) (w : TrialView) where
  pub engine_completes : (r : End Summary Refusal) → IsComplete default_bounds trial_means (new_trial n) r w
      → (answer : Answer) → IsAnswer default_bounds (trial n) answer → r ≡ end_of answer (length (trial n))
  engine_completes r complete answer is = complete answer is (λ r. omega (arith, r)) (λ r. omega (arith, r))

  pub engine_done : (summary : Summary) → CanonCall default_bounds TrialRead TrialWrite (new_trial n) (end.Done summary) w
      → IsTrialLine n summary (trial_line (record { content = n; bytes_in = summary.bytes; bytes_out = w.written; sum = w.sum }))
  engine_done summary run =
      let steps = run.wrote.steps in
      let call = run.wrote.call in
      let whole = call.ends.1 in
      let facts = chain_facts trial_read_law trial_read_leaves trial_write_law trial_write_leaves call.chain in
      let rest : w.left ≡ [] = trial_at_end w (facts.end whole.end) in
      let all : taken steps ≡ trial n = sym (facts.comes ∙ ap (λ (l : List ℕ). taken steps ++ l) rest ∙ append-nil (taken steps)) in
      let canonical : IsCanon default_bounds (trial n) summary (given steps) = subst (λ (bytes : List ℕ). IsCanon default_bounds bytes summary (given steps)) all (record {
        message = whole.message;
        omitted = whole.omitted;
        padding = whole.padding;
        answer = whole.answer;
        summary_is = whole.summary_is;
        text_is = whole.gave;
      }) in
      let counted = trial_counted call.chain (omega arith) in
      let bytes : summary.bytes ≡ length (trial n) = ap (λ (s : Summary). s.bytes) canonical.summary_is in
      let few = text_few (trial n) summary (given steps) canonical in
      let written : w.written ≡ length (given steps) = counted.written ∙ ap (λ (k : ℕ). k % 2 ^ 64) (omega arith) ∙ mod-eq_of_lt (omega (arith, few)) in
      let summed : w.sum ≡ sum (given steps) = counted.sum ∙ added_is 0 (given steps) (omega arith) ∙ ap (λ (k : ℕ). k % 2 ^ 64) (omega arith)
      ∙ mod-eq_of_lt (sum_few (given steps) counted.bytes few) in
      record { text = given steps; canonical = canonical; is_line = rw (bytes, written, summed) refl }

-- The same of the values that a call has.
module _ (n : ℕ) (L : Bounds) (v w : TrialView) (result : CanonEnd) (r : End Summary Refusal) (limits : L ≡ default_bounds) (begun : v ≡ new_trial n) (is : ended result ≡ r) where
  pub run_of : CanonCall L TrialRead TrialWrite v (ended result) w → CanonCall default_bounds TrialRead TrialWrite (new_trial n) r w
  run_of h = subst (λ (x : End Summary Refusal). CanonCall default_bounds TrialRead TrialWrite (new_trial n) x w) is
      (subst (λ (x : TrialView). CanonCall default_bounds TrialRead TrialWrite x (ended result) w) begun (subst (λ (x : Bounds). CanonCall x TrialRead TrialWrite v (ended result) w) limits h))

  pub complete_of : IsComplete L trial_means v (ended result) w → IsComplete default_bounds trial_means (new_trial n) r w
  complete_of h = subst (λ (x : End Summary Refusal). IsComplete default_bounds trial_means (new_trial n) x w) is
      (subst (λ (x : TrialView). IsComplete default_bounds trial_means x (ended result) w) begun (subst (λ (x : Bounds). IsComplete x trial_means v (ended result) w) limits h))

abbrev EndsWith : ℕ → End Summary Refusal → Type 0
EndsWith n r = (answer : Answer) → IsAnswer default_bounds (trial n) answer → r ≡ end_of answer (length (trial n))

module _ {S : Type 0} {write : S → Step → S → Type 0} {port : Meanings S} where
  pub not_tried : {s : S} (n : ℕ) → TrialExitFacts n write port s NoMemory s
  not_tried {s = s} n = record {
    run = record { steps = []; chain = none; same_left = refl; told = nothing (port.sent s); outcome = refl };
    complete = λ quiet. inr refl;
    write_fault = λ e. absurd cc;
    quiet_reads = refl;
    quiet_writes = λ no. refl;
  }

-- its input is a message, so it isn't refused
pub never_refused : (n : ℕ) → n ≤ 67108864 → (refusal : Refusal) → EndsWith n (end.Refused refusal) → ⊥
never_refused n few refusal complete = let e = complete (whole (trial_message n) Nothing 0) (trial_is_message n few) in absurd cc

module _ (n : ℕ) (summary : Summary) (line : List ℕ) where
  module _ (is_line : IsTrialLine n summary line) where
    pub outcome : (exit : Exit) (steps : List Step) → Tells exit summary line steps → TrialOutcome n exit steps
    outcome (Done (Some done)) steps h = (h.1, subst (λ (text : List ℕ). IsTrialLine n done text) (sym h.2) (subst (λ (one : Summary). IsTrialLine n one line) (sym h.0) is_line))
    outcome WriteFault steps h = (h.0, (summary, h.1.0, subst (IsTrialLine n summary) h.1.1 is_line))
    outcome (Done None) steps h = h
    outcome (Refused cause) steps h = absurd h
    outcome Usage steps h = h
    outcome ReadFault steps h = h
    outcome NoMemory steps h = absurd h
    outcome DoorFault steps h = h
    outcome ShelfFault steps h = h

  bad : (exit : Exit) (steps : List Step) → Tells exit summary line steps → exit ≡ WriteFault → list_any fails steps ≡ true
  bad WriteFault steps h e = stops_fails is_bad_write fails steps bad_writes_fail h.0
  bad (Done (Some done)) steps h e = absurd cc
  bad (Done None) steps h e = absurd h
  bad (Refused cause) steps h e = absurd h
  bad Usage steps h e = absurd h
  bad ReadFault steps h e = absurd h
  bad NoMemory steps h e = absurd h
  bad DoorFault steps h e = absurd h
  bad ShelfFault steps h e = absurd h

  good : (exit : Exit) (steps : List Step) → Tells exit summary line steps → (exit ≡ WriteFault → ⊥) → IsQuiet steps
  good WriteFault steps h other = absurd (other refl)
  good (Done (Some done)) steps h other = h.1
  good (Done None) steps h other = absurd h
  good (Refused cause) steps h other = absurd h
  good Usage steps h other = absurd h
  good ReadFault steps h other = absurd h
  good NoMemory steps h other = absurd h
  good DoorFault steps h other = absurd h
  good ShelfFault steps h other = absurd h

  module _ (few : n ≤ 67108864) (complete : EndsWith n (end.Done summary)) where
    completes : (exit : Exit) (steps : List Step) → Tells exit summary line steps → (before now : ℕ) → (exit ≡ WriteFault → Rose before now) → TrialCompletes n exit before now
    completes (Done (Some done)) steps h before now rises quiet =
        inl (ap (λ (one : Summary). Done (Some one)) h.0 ∙ ap exit_of (complete (whole (trial_message n) Nothing 0) (trial_is_message n few)))
    completes WriteFault steps h before now rises quiet = absurd (quiet (rises refl))
    completes (Done None) steps h before now rises quiet = absurd h
    completes (Refused cause) steps h before now rises quiet = absurd h
    completes Usage steps h before now rises quiet = absurd h
    completes ReadFault steps h before now rises quiet = absurd h
    completes NoMemory steps h before now rises quiet = absurd h
    completes DoorFault steps h before now rises quiet = absurd h
    completes ShelfFault steps h before now rises quiet = absurd h

module _ {S : Type 0} {write : S → Step → S → Type 0} {left sent : S → Option (List ℕ)} {read_faults write_faults : S → ℕ} {ended : S → Bool} {log : S → Option (List Entry)}
    (law : (s t : S) (x : Step) → write s x t → WriteFacts sent write_faults s x t) (leaves : (s t : S) (x : Step) → write s x t → WriteLeaves left read_faults ended log s x t)
    (n : ℕ) (summary : Summary) (line : List ℕ) (is_line : IsTrialLine n summary line)
    (few : n ≤ 67108864) (complete : EndsWith n (end.Done summary)) {s t : S} where
  pub trial_told : (exit : Exit) → IsToldLine write summary line s exit t → TrialExitFacts n write (meanings left sent read_faults write_faults) s exit t
  trial_told exit h =
      let facts = write_chain law h.chain in
      let same = writes_leave leaves h.chain in
      let rises : exit ≡ WriteFault → Rose (write_faults s) (write_faults t) = λ e. rose (list_any fails h.steps) (write_faults s) (write_faults t) (bad n summary line exit h.steps h.tells e) facts.counts in
      record {
        run = record { steps = h.steps; chain = h.chain; same_left = same.0; told = facts.goes; outcome = outcome n summary line is_line exit h.steps h.tells };
        complete = completes n summary line few complete exit h.steps h.tells (write_faults s) (write_faults t) rises;
        write_fault = rises;
        quiet_reads = same.1;
        quiet_writes = λ no. stayed (list_any fails h.steps) (write_faults s) (write_faults t) (good n summary line exit h.steps h.tells no) facts.counts;
      }
