-- All that is said of a translation from HTTP/1.1, by what the loop did: for a decoder that knows HTTP/1.1, and a job that owes canonical
-- texts.
use Rattle.std.proofs.Common.{◌≡◌, ◌+◌, ◌⊎◌, arith, ℕ, Bool, true, List, [], ◌∷◌, ◌++◌, length, take, drop, take-append-drop, replicate, Option, Some, refl, sym, ap, subst, ◌∙◌, append-nil, append_assoc, length-append, inl, inr}
use Rattle.std.proofs.lemmas.List.{length-replicate}
use Rattle.std.specs.Io.KnownBytes.{IsAtEnd}
use Rattle.bh_spec.specs.declared.H1Why.{H1Why}
use Rattle.bh_spec.specs.declared.H1Why.TheVariants as why
use Rattle.bh_spec.specs.declared.Omitted.TheVariants.{Nothing}
use Rattle.bh_spec.specs.declared.Summary.{Summary}
use Rattle.bh_spec.specs.Bounds.{Bounds, IsWithin, no_bounds}
use Rattle.bh_spec.specs.Messages.{Message}
use Rattle.bh_spec.specs.Texts.{Text, bytes_of}
use Rattle.bh_spec.specs.Pieces.{SomeOf}
use Rattle.bh_spec.specs.Viable.{IsMessageText}
use Rattle.bh_spec.specs.Canonical.{canon}
use Rattle.bh_spec.specs.Reports.{summary}
use Rattle.bh_spec.specs.Items.{Item, ending}
use Rattle.bh_base.specs.Steps.{Step, Entry, taken, given, met, ReadFacts, WriteFacts, ReadLeaves, WriteLeaves, meanings}
use Rattle.bh_model.specs.Ranges.{AreLimits}
use Rattle.bh_stream.specs.Outputs.{written}
use Rattle.bh_stream.specs.Logs.{HasBody}
use Rattle.bh_stream.specs.Messages.{Spelled, items_in}
use Rattle.bh_stream.specs.Jobs.{Owing}
use Rattle.bh_stream.specs.Formats.{Knows, ShowsContent, GivesAlways}
use Rattle.bh_stream.specs.Calls.{PortCall}
use Rattle.bh_stream.specs.Runs.{Streams, CallEnds, IsDone, IsMissing, IsRefusedIn}
use Rattle.bh_stream.specs.Telling.{EndStops}
use Rattle.bh_stream.specs.declared.streaming.End.{End}
use Rattle.bh_stream.specs.declared.streaming.End.TheVariants as end
use Rattle.bh_stream.proofs.Calls.{port_call, reads_sooner}
use Rattle.bh_stream.proofs.Formats.{gives_always, gives_for}
use Rattle.bh_stream.proofs.Telling.{AreAlike, front_alike, close_alike, port_tells}
use Rattle.h1_spec.specs.declared.Scheme1.{Scheme1}
use Rattle.h1_spec.specs.Http1.{IsHttp1}
use Rattle.h1_spec.specs.Translation.{FromAnswer, read, broken, OfFirst, IsFromAnswer}
use Rattle.h1_spec.specs.BodyStates.{start as body_start}
use Rattle.h1_spec.specs.Framing.{framing}
use Rattle.h1_spec.specs.Marks.{IsSomeMarked}
use Rattle.h1_spec.proofs.OneAnswer.{one_from}
use Rattle.h1_read.specs.Places.{left_out}
use Rattle.h1_read.specs.Readings.{View, rest, room, Moved, Refuses, misses, tells}
use Rattle.h1_read.specs.ReadingLaws.{http1_reading_laws}
use Rattle.h1_read.specs.Laws.{IsHttp1Text, IsDecidedAt, JudgesFrom}
use Rattle.bh_translate.proofs.FromLag.{CountsAnyway, keeps_up_anyway}
use Rattle.bh_translate.specs.From.{IsTextFrom, IsRead, IsBroken, FromEnds, IsRightFrom, from_end_of, FromPoint, FromFacts, from_called, from_end}

-- ---- one end is right

stops : (L : Bounds) (scheme : Scheme1) (to_head : Bool) (r : End Summary H1Why) (steps : List Step) → FromEnds L scheme to_head r steps → EndStops r steps
stops L scheme to_head (end.Done s) steps h = h.0
stops L scheme to_head (end.Refused cause) steps h = h.0
stops L scheme to_head end.ReadFault steps h = h
stops L scheme to_head end.WriteFault steps h = h

-- the end is right for every input that begins with what was taken
right : (L : Bounds) (scheme : Scheme1) (to_head : Bool) (r : End Summary H1Why) (steps : List Step) (more : List ℕ) → (met steps ≡ true → more ≡ []) → FromEnds L scheme to_head r steps
    → IsRightFrom L scheme to_head r (taken steps ++ more) (given steps)
right L scheme to_head (end.Done s) steps more none h =
    let w = h.1 in
    let same : taken steps ≡ taken steps ++ more = sym (ap (λ (l : List ℕ). taken steps ++ l) (none w.end) ∙ append-nil (taken steps)) in (
      w.message,
      subst (λ (l : List ℕ). IsFromAnswer L scheme to_head l (read w.message)) same w.answer,
      subst (λ (l : List ℕ). s ≡ summary w.message Nothing 0 (length l)) same w.summary_is,
      w.gave,
    )
right L scheme to_head (end.Refused cause) steps more none h = by_place h.1
  where
    by_place : IsBroken L scheme to_head cause steps → IsFromAnswer L scheme to_head (taken steps ++ more) (broken cause)
    by_place (inl b) =
        let at = b.1.0 in
        subst (λ (l : List ℕ). IsFromAnswer L scheme to_head l (broken cause))
        (sym (append_assoc (take (at + 1) (taken steps)) (drop (at + 1) (taken steps)) more) ∙ ap (λ (l : List ℕ). l ++ more) (take-append-drop (at + 1) (taken steps)))
        (b.1.2.answer (drop (at + 1) (taken steps) ++ more))
    by_place (inr e) =
        subst (λ (l : List ℕ). IsFromAnswer L scheme to_head l (broken cause)) (sym (ap (λ (l : List ℕ). taken steps ++ l) (none e.1) ∙ append-nil (taken steps))) e.2
right L scheme to_head end.ReadFault steps more none h = tt
right L scheme to_head end.WriteFault steps more none h = tt

done : (L : Bounds) (scheme : Scheme1) (to_head : Bool) (s : Summary) (steps : List Step) → FromEnds L scheme to_head (end.Done s) steps → met steps ≡ true
done L scheme to_head s steps h = h.1.end

one : (L : Bounds) (scheme : Scheme1) (to_head : Bool) (r : End Summary H1Why) (answer : FromAnswer) (input out : List ℕ) → IsFromAnswer L scheme to_head input answer
    → IsRightFrom L scheme to_head r input out → (r ≡ end.ReadFault → ⊥) → (r ≡ end.WriteFault → ⊥) → r ≡ from_end_of answer (length input)
one L scheme to_head (end.Done s) answer input out is h no_read no_write =
    ap end.Done h.2 ∙ ap (λ (a : FromAnswer). from_end_of a (length input)) (one_from L scheme to_head input (read h.0) answer h.1 is)
one L scheme to_head (end.Refused cause) answer input out is h no_read no_write =
    ap (λ (a : FromAnswer). from_end_of a (length input)) (one_from L scheme to_head input (broken cause) answer h is)
one L scheme to_head end.ReadFault answer input out is h no_read no_write = absurd (no_read refl)
one L scheme to_head end.WriteFault answer input out is h no_read no_write = absurd (no_write refl)

-- what holds at every point holds of calls that are alike
point_alike : (L : Bounds) (scheme : Scheme1) (to_head : Bool) (xs ys : List Step) → AreAlike xs ys → FromPoint L scheme to_head xs → FromPoint L scheme to_head ys
point_alike L scheme to_head xs ys a h = record {
  gives = front_alike xs ys a h.gives;
  keeps_up = close_alike (IsSomeMarked no_bounds to_head) (HasBody (IsMessageText L)) 16383 xs ys a h.keeps_up;
}

-- ---- what a byte decides

-- Behind a byte that decides more bytes may follow than the limit allows, and of those `Ended` isn't said.
never_ended : (L : Bounds) (limits : AreLimits L) (scheme : Scheme1) (to_head : Bool) (front : List ℕ) → ((more : List ℕ) → IsFromAnswer L scheme to_head (front ++ more) (broken why.Ended)) → ⊥
never_ended L limits scheme to_head front h = by_length (h long)
  where
    long : List ℕ
    long = replicate (limits.input + 1) 0

    too_many : IsWithin L.input (length (front ++ long)) → ⊥
    too_many w = absurd (omega (arith, subst (λ (K : Bounds). IsWithin K.input (length (front ++ long))) limits.same w, length-append front long, length-replicate {A = ℕ} (limits.input + 1) 0))

    by_length : IsFromAnswer L scheme to_head (front ++ long) (broken why.Ended) → ⊥
    by_length (inl a) = too_many a.0
    by_length (inr a) = by_first a.2
      where
        by_first : OfFirst L scheme to_head (take a.0 (front ++ long)) why.Ended → ⊥
        by_first (inl b) = b.0 refl
        by_first (inr b) = let two = b.0 in absurd cc

same_message : (m n : Message) → read m ≡ read n → m ≡ n
same_message m n e = cc

module _ (L : Bounds) (limits : AreLimits L) (scheme : Scheme1) (to_head : Bool) (v : View) (owed : Owing)
    (knows : Knows (IsHttp1Text L scheme to_head) items_in (λ s. canon s.message) L.input rest room v owed) (judges : JudgesFrom L scheme to_head v) where
  spelled : (m : Message) (t : Text) → IsTextFrom L scheme to_head m t → (s : Spelled) × IsHttp1Text L scheme to_head s t × (canon s.message ≡ canon m)
  spelled m t h = (
    record { message = m; omitted = left_out (body_start (framing to_head h.0.whole.head)); padding = 0 },
    record { marked = h.0; scheme_is = h.1; omitted = refl; padding = refl },
    refl,
  )

  some_text : (t : Text) → SomeOf (IsHttp1Text L scheme to_head) t → SomeOf (IsTextFrom L scheme to_head) t
  some_text t h = let s = h.0 in (s.message, (h.1.marked, h.1.scheme_is))

  -- what was given behind a whole message is its canonical text
  is_read : (s : Summary) (steps : List Step) → IsDone rest Moved tells v owed s steps → IsRead L scheme to_head s steps
  is_read s steps h =
      let told = judges.told h.state (taken steps) h.items h.omitted h.padding s h.moved h.whole h.told in
      let residual = (http1_reading_laws.leads v h.state (taken steps) h.items h.moved).residual in
      let text = residual.text ++ [] in
      let own = knows.alone (h.items ++ ending h.omitted h.padding ∷ []) text (residual.back (ending h.omitted h.padding ∷ []) [] h.whole) in
      let bytes : bytes_of text ≡ taken steps = ap bytes_of (append-nil residual.text) ∙ residual.same in
      let whole : IsHttp1 L scheme to_head own.0.message (taken steps) =
      subst (λ (l : List ℕ). IsHttp1 L scheme to_head own.0.message l) bytes (subst (λ (c : Scheme1). IsHttp1 L c to_head own.0.message (bytes_of text)) own.2.scheme_is own.2.marked.whole) in
      let same = same_message told.0 own.0.message (one_from L scheme to_head (taken steps) (read told.0) (read own.0.message) told.2 (told.2.0, whole)) in
      record {
        end = h.end;
        message = told.0;
        answer = told.2;
        summary_is = told.3;
        gave = h.gave ∙ ap (λ (q : List Item). written (owed q)) own.1 ∙ knows.owes own.0 text own.2 ∙ ap canon (sym same);
      }

  is_broken : (cause : H1Why) (steps : List Step) → IsMissing Moved misses v cause steps ⊎ IsRefusedIn Moved Refuses v cause steps → IsBroken L scheme to_head cause steps
  is_broken cause steps (inl h) = let m = judges.missed h.state (taken steps) h.items cause h.moved h.missing in inr (m.0, h.end, m.1)
  is_broken cause steps (inr h) =
      let s = h.stopped in
      let d = judges.refused s.state s.before s.others s.items cause s.moved s.refused in
      let here : IsDecidedAt L scheme to_head (taken steps) d.0 cause = subst (λ (l : List ℕ). IsDecidedAt L scheme to_head l d.0 cause) (sym s.split) d.2 in
      inl (
        (λ e. never_ended L limits scheme to_head (take (d.0 + 1) (taken steps)) (λ more. subst (λ (c : H1Why). IsFromAnswer L scheme to_head (take (d.0 + 1) (taken steps) ++ more) (broken c)) e (here.answer more))),
        (d.0, reads_sooner (length s.before) d.0 steps d.1 h.read_to, here),
      )

  ends_as : (r : End Summary H1Why) (steps : List Step) → CallEnds rest Moved Refuses tells misses v owed r steps → FromEnds L scheme to_head r steps
  ends_as (end.Done s) steps h = (h.0, is_read s steps h.1)
  ends_as (end.Refused cause) steps h = (h.0, is_broken cause steps h.1)
  ends_as end.ReadFault steps h = h
  ends_as end.WriteFault steps h = h

  module _ (nothing : owed [] ≡ []) (anyway : CountsAnyway to_head v) (shows : ShowsContent (IsHttp1Text L scheme to_head) items_in (HasBody (IsMessageText L)) owed)
      {S : Type 0} {read_step write_step : S → Step → S → Type 0} {left sent : S → Option (List ℕ)} {read_faults write_faults : S → ℕ} {ended : S → Bool} {log : S → Option (List Entry)}
      (read_law : (s t : S) (x : Step) → read_step s x t → ReadFacts left read_faults ended s x t)
      (ended_law : (s : S) → ended s ≡ true → IsAtEnd (left s))
      (write_law : (s t : S) (x : Step) → write_step s x t → WriteFacts sent write_faults s x t)
      (read_leaves : (s t : S) (x : Step) → read_step s x t → ReadLeaves sent write_faults log s x t)
      (write_leaves : (s t : S) (x : Step) → write_step s x t → WriteLeaves left read_faults ended log s x t) where
    pub from_facts : (s t : S) (r : End Summary H1Why) → Streams rest room Moved Refuses tells misses true 8191 read_step write_step v owed s r t
        → FromFacts L scheme to_head read_step write_step (meanings left sent read_faults write_faults) log s r t
    from_facts s t r h =
        let gives = gives_for (IsTextFrom L scheme to_head) canon spelled some_text h.steps (gives_always knows http1_reading_laws h) in
        let keeps = keeps_up_anyway L scheme to_head v owed nothing knows shows anyway h in
        let call : PortCall L.input (GivesAlways (IsTextFrom L scheme to_head) canon L.input) (FromEnds L scheme to_head) read_step write_step h.steps s r t =
        port_call (FromEnds L scheme to_head) knows.limit_is h gives (ends_as r h.steps h.outcome) in
        record {
          call = record { steps = h.steps; call = call; keeps_up = keeps };
          tells = port_tells (IsTextFrom L scheme to_head) canon L.input (IsRightFrom L scheme to_head) (stops L scheme to_head) (right L scheme to_head) (done L scheme to_head)
              read_law ended_law write_law read_leaves write_leaves s t r h.steps call (FromPoint L scheme to_head) (point_alike L scheme to_head)
              (λ front back e. record { gives = gives front back e; keeps_up = keeps.always front back e })
              (IsFromAnswer L scheme to_head) from_end_of (one L scheme to_head r);
        }

-- ---- the end of the translator

pub from_back : (r : End Summary H1Why) → from_called (from_end r) ≡ Some r
from_back (end.Done s) = refl
from_back (end.Refused cause) = refl
from_back end.ReadFault = refl
from_back end.WriteFault = refl
