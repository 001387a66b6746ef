-- A check over a lent source is a check of the source.
use Rattle.std.proofs.Common.{◌≡◌, ◌⊎◌, ℕ, true, List, [], ◌∷◌, ◌++◌, refl, ◌∙◌, subst, inl, inr}
use Rattle.bh_spec.specs.declared.Summary.{Summary}
use Rattle.bh_spec.specs.declared.Refusal.{Refusal}
use Rattle.bh_spec.specs.Bounds.{Bounds}
use Rattle.bh_base.specs.Steps.{Step, Read, Write, BadRead, BadWrite, Chain, none, next, Either, OnlyReads, AreWithinRoom, is_bad_write}
use Rattle.bh_stream.specs.declared.streaming.End.{End}
use Rattle.bh_stream.specs.declared.streaming.End.TheVariants as end
use Rattle.bh_stream.specs.Calls.{StreamCall}
use Rattle.bh_reading.specs.Checks.{CheckCall}
use Rattle.bh_canon.proofs.LogTelling.{takes_few}
use Rattle.bh_canon.specs.Lending.{FailedWrite, NoWrite}
use Rattle.bh_canon.specs.Calls.{SourceCheck}

-- a call that only reads didn't fail at a write
pub no_write_fault : {L : Bounds} {S : Type 0} {read write : S → Step → S → Type 0} {s t : S} (r : End Summary Refusal) → CheckCall L read write s r t → r ≡ end.WriteFault → ⊥
no_write_fault (end.Done a) h e = absurd cc
no_write_fault (end.Refused why) h e = absurd cc
no_write_fault end.ReadFault h e = absurd cc
no_write_fault end.WriteFault h e = last_reads h.call.ends.front h.call.ends.last (subst OnlyReads h.call.ends.split h.only_reads) h.call.ends.bad_last
  where
    last_reads : (front : List Step) (x : Step) → OnlyReads (front ++ x ∷ []) → is_bad_write x ≡ true → ⊥
    last_reads [] (Read room bytes) only e = absurd cc
    last_reads [] (Write size bytes) only e = absurd cc
    last_reads [] (BadRead room) only e = absurd cc
    last_reads [] (BadWrite size) only e = only
    last_reads ((Read room bytes) ∷ front) x only e = last_reads front x only e
    last_reads ((Write size bytes) ∷ front) x only e = only
    last_reads ((BadRead room) ∷ front) x only e = last_reads front x only e
    last_reads ((BadWrite size) ∷ front) x only e = only

module _ {S T N : Type 0} (view : S → T) (name : S → N) (faults : S → ℕ) (read : T → Step → T → Type 0) where
  abbrev LentRead : S → Step → S → Type 0
  LentRead s x t = (name t ≡ name s) × (faults t ≡ faults s) × read (view s) x (view t)

  abbrev LentWrite : S → Step → S → Type 0
  LentWrite s x t = (name t ≡ name s) × (view t ≡ view s) × FailedWrite (faults s) x (faults t)

  no_write : (x : Step) (steps : List Step) → OnlyReads (x ∷ steps) → (size : ℕ) → x ≡ BadWrite size → ⊥
  no_write (Read room bytes) steps only size e = absurd cc
  no_write (Write size bytes) steps only other e = only
  no_write (BadRead room) steps only size e = absurd cc
  no_write (BadWrite size) steps only other e = only

  later : (x : Step) (steps : List Step) → OnlyReads (x ∷ steps) → OnlyReads steps
  later (Read room bytes) steps only = only
  later (Write size bytes) steps only = absurd only
  later (BadRead room) steps only = only
  later (BadWrite size) steps only = absurd only

  through : {s t : S} {steps : List Step} → Chain (Either LentRead LentWrite) s steps t → OnlyReads steps → (name t ≡ name s) × Chain (Either read NoWrite) (view s) steps (view t)
  through none only = (refl, none)
  through (next {s = s} {t = t} {x = x} {steps = steps} one more) only =
      let f = through more (later x steps only) in
      by_kind f one
    where
      by_kind : {u : S} {xs : List Step} → (name u ≡ name t) × Chain (Either read NoWrite) (view t) xs (view u) → LentRead s x t ⊎ LentWrite s x t
          → (name u ≡ name s) × Chain (Either read NoWrite) (view s) (x ∷ xs) (view u)
      by_kind f (inl h) = (f.0 ∙ h.0, next (inl h.2) f.1)
      by_kind f (inr h) = absurd (no_write x steps only h.2.size h.2.call)

  pub check_through : (L : Bounds) (s t : S) (last : T) (r : End Summary Refusal) → CheckCall L LentRead LentWrite s r t → (name t ≡ name s → view t ≡ last)
      → ((s t : T) (steps : List Step) → Chain (Either read NoWrite) s steps t → AreWithinRoom steps) → SourceCheck L read (view s) r last
  check_through L s t last r h back room =
      let f = through h.call.chain h.only_reads in
      let call : StreamCall L (λ m. []) read NoWrite h.steps (view s) r (view t) = record {
        chain = f.1;
        asks = h.call.asks;
        turns = h.call.turns;
        bound = h.call.bound;
        none_behind = h.call.none_behind;
        gives = h.call.gives;
        ends = h.call.ends;
      } in
      subst (λ (x : T). SourceCheck L read (view s) r x) (back f.0) (record {
        steps = h.steps;
        call = call;
        only_reads = h.only_reads;
        few = takes_few L (λ m. []) h.steps call (room (view s) (view t) h.steps f.1);
      })
