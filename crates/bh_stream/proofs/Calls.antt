-- How a call ended, from what its loop did.
use Rattle.std.proofs.Common.{◌≡◌, ◌≤◌, ◌+◌, ◌⊎◌, ℕ, Bool, true, List, [], ◌++◌, length, Option, Some, None, IfSome, sym, ◌∙◌, ap, subst, arith, append_assoc, inl, inr}
use Rattle.bh_spec.specs.declared.Omitted.{Omitted}
use Rattle.bh_spec.specs.declared.Summary.{Summary}
use Rattle.bh_spec.specs.declared.Refusal.{Refusal}
use Rattle.bh_spec.specs.declared.Refusal.TheVariants.{Dead, Limit, Ended, TooLong}
use Rattle.bh_spec.specs.Bounds.{Bounds}
use Rattle.bh_spec.specs.Messages.{Message}
use Rattle.bh_spec.specs.Answers.{refused, IsAnswer}
use Rattle.bh_spec.specs.Items.{Item}
use Rattle.bh_base.specs.Steps.{Step, taken, met, reads}
use Rattle.bh_stream.specs.Outputs.{written}
use Rattle.bh_stream.specs.Logs.{ReadsTo}
use Rattle.bh_stream.specs.Decoding.{Rest, Moving, DecoderLaws}
use Rattle.bh_stream.specs.Jobs.{Owing}
use Rattle.bh_stream.specs.Runs.{Streams, CallEnds, IsDone, IsMissing, IsRefusedIn}
use Rattle.bh_stream.specs.Messages.{KnowsMessages}
use Rattle.bh_stream.specs.Calls.{IsWhole, IsRefusal, StreamEnds, PortCall, StreamCall, IsOfByte, IsOfEnd, Judges}
use Rattle.bh_stream.specs.declared.streaming.End.{End}
use Rattle.bh_stream.specs.declared.streaming.End.TheVariants as end
use Rattle.bh_stream.proofs.Formats.{gives_always}
use Rattle.bh_stream.proofs.Messages.{gives_messages}

pub reads_sooner : (n at : ℕ) (steps : List Step) → n ≤ at → ReadsTo n steps → ReadsTo at steps
reads_sooner n at steps h r = record { front = r.front; last = r.last; back = r.back; split = r.split; is_read = r.is_read; behind = r.behind; few = omega (arith, r.few, h) }

of_byte : (L : Bounds) (r : Refusal) (n : ℕ) (steps : List Step) → IsOfByte n r → ReadsTo n steps → ((more : List ℕ) → IsAnswer L (taken steps ++ more) (refused r)) → IsRefusal L r steps
of_byte L (Dead at part) n steps h r a = (reads_sooner n at steps h r, a)
of_byte L (Limit at part) n steps h r a = (reads_sooner n at steps h r, a)
of_byte L (TooLong at) n steps h r a = (reads_sooner n at steps h r, a)
of_byte L (Ended at part) n steps h r a = absurd h

of_end : (L : Bounds) (r : Refusal) (steps : List Step) → IsOfEnd r → met steps ≡ true → IsAnswer L (taken steps) (refused r) → IsRefusal L r steps
of_end L (Dead at part) steps h e a = absurd h
of_end L (Limit at part) steps h e a = absurd h
of_end L (TooLong at) steps h e a = absurd h
of_end L (Ended at part) steps h e a = (e, a)

bound_in : (o : Option ℕ) (room n : ℕ) → o ≡ Some room → n ≤ room + 1 → IfSome o (λ limit. n ≤ limit + 1)
bound_in (Some limit) room n e h = let same : limit ≡ room = cc in omega (arith, same, h)
bound_in None room n e h = absurd (cc)

-- what is said of every call, from what the loop did
pub port_call : {E A R V : Type 0} {limit : Option ℕ} {Gives : List Step → Type 0} {rest : Rest V} {room : V → ℕ} {moves : Moving V} {refuses : V → List ℕ → R → Type 0}
    {tells : V → Omitted → ℕ → A → Type 0} {misses : V → R → Type 0} {v : V} {owed : Owing} {writes : Bool} {most : ℕ} {S : Type 0} {read write : S → Step → S → Type 0} {s t : S} {r : End A R} {e : E}
    (Ends : E → List Step → Type 0) → limit ≡ Some (room v) → (h : Streams rest room moves refuses tells misses writes most read write v owed s r t) → Gives h.steps → Ends e h.steps
    → PortCall limit Gives Ends read write h.steps s e t
port_call {limit = limit} {room = room} {v = v} Ends limit_is h gives ends = record {
  chain = h.chain;
  asks = h.asks;
  turns = h.turns;
  bound = bound_in limit (room v) (reads h.steps) limit_is h.bound;
  none_behind = h.none_behind;
  gives = gives;
  ends = ends;
}

module _ (L : Bounds) (output : Message → List ℕ) {V : Type 0} {rest : Rest V} {room : V → ℕ} {moves : Moving V} {ready : V → Type 0} {refuses : V → List ℕ → Refusal → Type 0}
    {tells : V → Omitted → ℕ → Summary → Type 0} {misses : V → Refusal → Type 0} (v : V) (owed : Owing) (laws : DecoderLaws rest room moves ready)
    (knows : KnowsMessages L output rest room v owed) (judges : Judges L rest moves refuses tells misses v) where
  -- a message, and its output
  is_whole : (s : Summary) (steps : List Step) → IsDone rest moves tells v owed s steps → IsWhole L output s steps
  is_whole s steps h =
      let t = judges.told h.state (taken steps) h.items h.omitted h.padding s h.moved h.whole h.told in
      record {
        end = h.end;
        message = t.0;
        omitted = h.omitted;
        padding = h.padding;
        answer = t.2;
        summary_is = t.3;
        gave = h.gave ∙ sym (ap (λ (q : List Item). written (owed q)) t.1) ∙ knows.owes (record { message = t.0; omitted = h.omitted; padding = h.padding }) t.2.1.text t.2.1.spelled;
      }

  refused_as : (r : Refusal) (steps : List Step) → IsMissing moves misses v r steps ⊎ IsRefusedIn moves refuses v r steps → IsRefusal L r steps
  refused_as r steps (inl h) = let m = judges.missed_byte h.state (taken steps) h.items r h.moved h.missing in of_end L r steps m.1 h.end m.0
  refused_as r steps (inr h) =
      let s = h.stopped in
      of_byte L r (length s.before) steps (judges.refused_byte s.state s.before s.others [] s.items r s.moved s.refused).1 h.read_to
      (λ more. subst (λ (l : List ℕ). IsAnswer L l (refused r)) (sym (ap (λ (l : List ℕ). l ++ more) s.split ∙ append_assoc s.before s.others more))
      (judges.refused_byte s.state s.before s.others more s.items r s.moved s.refused).0)

  ends_as : (r : End Summary Refusal) (steps : List Step) → CallEnds rest moves refuses tells misses v owed r steps → StreamEnds L output r steps
  ends_as (end.Done a) steps h = (h.0, is_whole a steps h.1)
  ends_as (end.Refused r) steps h = (h.0, refused_as r steps h.1)
  ends_as end.ReadFault steps h = h
  ends_as end.WriteFault steps h = h

  module _ {writes : Bool} {most : ℕ} {S : Type 0} {read write : S → Step → S → Type 0} {s t : S} where
    pub stream_call : (r : End Summary Refusal) → (h : Streams rest room moves refuses tells misses writes most read write v owed s r t) → StreamCall L output read write h.steps s r t
    stream_call r h = port_call (StreamEnds L output) knows.limit_is h (gives_messages L output h.steps (gives_always knows laws h)) (ends_as r h.steps h.outcome)
