-- What a port's log tells of a call, and how many bytes a refused call took.
use Rattle.std.proofs.Common.{◌≤◌, ◌+◌, ℕ, List, length, Option, arith}
use Rattle.bh_spec.specs.declared.Refusal.{Refusal}
use Rattle.bh_spec.specs.declared.Refusal.TheVariants.{Dead, Limit, Ended, TooLong}
use Rattle.bh_spec.specs.declared.Summary.{Summary}
use Rattle.bh_spec.specs.Bounds.{Bounds}
use Rattle.bh_spec.specs.Messages.{Message}
use Rattle.bh_spec.specs.Viable.{IsMessageText}
use Rattle.bh_base.specs.Steps.{Step, Entry, entries, taken, AreWithinRoom, Logs}
use Rattle.bh_push.specs.Pushes.{refused_at}
use Rattle.bh_stream.specs.Logs.{IsClose, GivesFront, KeepsUp}
use Rattle.bh_stream.specs.Messages.{IsTextOf}
use Rattle.bh_stream.specs.Calls.{IsRefusal, StreamEnds, StreamCall}
use Rattle.bh_stream.specs.Points.{one_read}
use Rattle.bh_stream.specs.Telling.{IsLogged}
use Rattle.bh_stream.specs.declared.streaming.End.{End}
use Rattle.bh_stream.specs.declared.streaming.End.TheVariants as end
use Rattle.bh_stream.proofs.ReadLaws.{few_in_all}
use Rattle.bh_stream.proofs.Telling.{front_alike, close_alike, at_entries, logged_as}
use Rattle.bh_canon.specs.Telling.{KeepsLog, TakesFew}

module _ (L : Bounds) (output : Message → List ℕ) {S : Type 0} {read write : S → Step → S → Type 0} {s t : S} {r : End Summary Refusal} (steps : List Step) (call : StreamCall L output read write steps s r t) where
  module _ (Shown : List ℕ → ℕ → Type 0) (most before : ℕ) (keeps : KeepsUp (IsMessageText L) Shown most before steps) where
    keeps_log : KeepsLog L output Shown most (entries steps)
    keeps_log = record {
      gives = at_entries (GivesFront (IsTextOf L) output L.input) front_alike steps call.asks call.gives;
      keeps_up = at_entries (IsClose (IsMessageText L) Shown most) (close_alike (IsMessageText L) Shown most) steps call.asks keeps.always;
    }

    pub logged : (old now : Option (List Entry)) → Logs old now (entries steps) → IsLogged (KeepsLog L output Shown most) old now
    logged old now h = logged_as (KeepsLog L output Shown most) steps old now h keeps_log

  -- how many bytes were taken
  pub takes_few : AreWithinRoom steps → TakesFew r steps
  takes_few room = by_end r call.ends
    where
      of_refusal : (why : Refusal) → IsRefusal L why steps → length (taken steps) ≤ refused_at why + one_read
      of_refusal (Dead at part) h = few_in_all at one_read steps h.0 call.asks room
      of_refusal (Limit at part) h = few_in_all at one_read steps h.0 call.asks room
      of_refusal (TooLong at) h = few_in_all at one_read steps h.0 call.asks room
      of_refusal (Ended at part) h = omega (arith, h.1.long)

      by_end : (r : End Summary Refusal) → StreamEnds L output r steps → TakesFew r steps
      by_end (end.Done a) h = tt
      by_end (end.Refused why) h = of_refusal why h.1
      by_end end.ReadFault h = tt
      by_end end.WriteFault h = tt
