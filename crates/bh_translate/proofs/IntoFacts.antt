-- All that is said of a translation to HTTP/1.1, by what the loop did.
use Rattle.std.proofs.Common.{◌≡◌, ◌+◌, ℕ, Bool, true, List, [], ◌++◌, length, Option, Some, refl, sym, ap, subst, ◌∙◌, append-nil, inl, inr}
use Rattle.std.specs.Io.KnownBytes.{IsAtEnd}
use Rattle.bh_spec.specs.declared.Refusal.TheVariants.{Dead, Limit, Ended, TooLong}
use Rattle.bh_spec.specs.declared.Summary.{Summary}
use Rattle.bh_spec.specs.Bounds.{Bounds, no_bounds}
use Rattle.bh_spec.specs.Reports.{summary}
use Rattle.bh_spec.specs.Viable.{IsMessageText}
use Rattle.bh_base.specs.Steps.{Step, Entry, taken, given, met, ReadFacts, WriteFacts, ReadLeaves, WriteLeaves, meanings}
use Rattle.bh_model.specs.Ranges.{AreLimits}
use Rattle.bh_stream.specs.Logs.{HasBody, AtEvery}
use Rattle.bh_stream.specs.Messages.{IsTextOf}
use Rattle.bh_stream.specs.Points.{one_read}
use Rattle.bh_stream.specs.Runs.{Streams}
use Rattle.bh_stream.specs.Telling.{EndStops}
use Rattle.bh_stream.specs.declared.streaming.End.{End}
use Rattle.bh_stream.specs.declared.streaming.End.TheVariants as end
use Rattle.bh_stream.proofs.Calls.{port_call}
use Rattle.bh_stream.proofs.Formats.{gives_always, keeps_so_far}
use Rattle.bh_stream.proofs.Messages.{gives_messages, keeps_messages}
use Rattle.bh_stream.proofs.Telling.{AreAlike, front_alike, close_alike, port_tells}
use Rattle.h1_spec.specs.Translation.{IntoAnswer, formed, dead, formless, IsIntoAnswer}
use Rattle.h1_spec.proofs.Answering.{one_into}
use Rattle.h1_judge.specs.declared.judged.IntoWhy.{IntoWhy}
use Rattle.h1_judge.specs.declared.judged.IntoWhy.TheVariants.{Binary, Form}
use Rattle.h1_judge.specs.Views.{JudgedView, Moved, rest, room, IsAtStart, IsRefused, Tells, misses}
use Rattle.h1_judge.specs.JudgedLaws.{judged_laws}
use Rattle.h1_text.specs.Owed.{at_start, owed}
use Rattle.h1_text.specs.Writers as writing
use Rattle.h1_text.specs.Writers.{Writing, owes}
use Rattle.h1_spec.specs.Http1Text.{http1}
use Rattle.h1_spec.specs.Marks.{IsSomeMarked}
use Rattle.bh_translate.specs.Into.{IsFormless, IntoEnds, GivesJudged, IsRightInto, IntoPoint, into_end_of, IntoFacts, into_called, into_end}
use Rattle.bh_translate.proofs.Starting.{knows_clean}
use Rattle.bh_translate.proofs.Showing.{shows_so_far}
use Rattle.bh_translate.proofs.IntoEnding.{ended_in}
use Rattle.bh_translate.proofs.Resting.{judged_at, judged_alike}

stops : (L : Bounds) (to_head : Bool) (r : End Summary IntoWhy) (steps : List Step) → IntoEnds L to_head r steps → EndStops r steps
stops L to_head (end.Done s) steps h = h.0
stops L to_head (end.Refused (Binary r)) steps h = h.0
stops L to_head (end.Refused (Form form)) steps h = h.0
stops L to_head end.ReadFault steps h = h
stops L to_head end.WriteFault steps h = h

-- the end is right for every input that begins with what was taken
right : (L : Bounds) (to_head : Bool) (r : End Summary IntoWhy) (steps : List Step) (more : List ℕ) → (met steps ≡ true → more ≡ []) → IntoEnds L to_head r steps
    → IsRightInto L to_head r (taken steps ++ more) (given steps)
right L to_head (end.Done s) steps more none h =
    let w = h.1 in
    let same : taken steps ≡ taken steps ++ more = sym (ap (λ (l : List ℕ). taken steps ++ l) (none w.end) ∙ append-nil (taken steps)) in (
      w.message,
      w.omitted,
      w.padding,
      subst (λ (l : List ℕ). IsIntoAnswer L to_head l (formed w.message w.omitted w.padding)) same w.answer,
      subst (λ (l : List ℕ). s ≡ summary w.message w.omitted w.padding (length l)) same w.summary_is,
      w.gave,
    )
right L to_head (end.Refused (Binary (Dead at part))) steps more none h = h.1.1 more
right L to_head (end.Refused (Binary (Limit at part))) steps more none h = h.1.1 more
right L to_head (end.Refused (Binary (TooLong at))) steps more none h = h.1.1 more
right L to_head (end.Refused (Binary (Ended at part))) steps more none h =
    subst (λ (l : List ℕ). IsIntoAnswer L to_head l (dead (Ended at part))) (sym (ap (λ (l : List ℕ). taken steps ++ l) (none h.1.0) ∙ append-nil (taken steps))) h.1.1
right L to_head (end.Refused (Form form)) steps more none h = by_place h.1
  where
    by_place : IsFormless L to_head form steps → IsIntoAnswer L to_head (taken steps ++ more) (formless form)
    by_place (inl j) = inl (j.0, j.2 more)
    by_place (inr e) = subst (λ (l : List ℕ). IsIntoAnswer L to_head l (formless form)) (sym (ap (λ (l : List ℕ). taken steps ++ l) (none e.0) ∙ append-nil (taken steps))) (inr e.1)
right L to_head end.ReadFault steps more none h = tt
right L to_head end.WriteFault steps more none h = tt

done : (L : Bounds) (to_head : Bool) (s : Summary) (steps : List Step) → IntoEnds L to_head (end.Done s) steps → met steps ≡ true
done L to_head s steps h = h.1.end

-- one end is right
one : (L : Bounds) (to_head : Bool) (r : End Summary IntoWhy) (answer : IntoAnswer) (input out : List ℕ) → IsIntoAnswer L to_head input answer → IsRightInto L to_head r input out
    → (r ≡ end.ReadFault → ⊥) → (r ≡ end.WriteFault → ⊥) → r ≡ into_end_of answer (length input)
one L to_head (end.Done s) answer input out is h no_read no_write =
    ap end.Done h.4 ∙ ap (λ (a : IntoAnswer). into_end_of a (length input)) (one_into L to_head input (formed h.0 h.1 h.2) answer h.3 is)
one L to_head (end.Refused (Binary r)) answer input out is h no_read no_write = ap (λ (a : IntoAnswer). into_end_of a (length input)) (one_into L to_head input (dead r) answer h is)
one L to_head (end.Refused (Form form)) answer input out is h no_read no_write = ap (λ (a : IntoAnswer). into_end_of a (length input)) (one_into L to_head input (formless form) answer h is)
one L to_head end.ReadFault answer input out is h no_read no_write = absurd (no_read refl)
one L to_head end.WriteFault answer input out is h no_read no_write = absurd (no_write refl)

-- what holds at every point holds of calls that are alike
point_alike : (L : Bounds) (to_head : Bool) (xs ys : List Step) → AreAlike xs ys → IntoPoint L to_head xs → IntoPoint L to_head ys
point_alike L to_head xs ys a h = record {
  gives = front_alike xs ys a h.gives;
  judged = judged_alike L to_head xs ys a h.judged;
  keeps_up = close_alike (IsMessageText L) (HasBody (IsSomeMarked no_bounds to_head)) 16383 xs ys a h.keeps_up;
}

module _ (L : Bounds) (limits : AreLimits L) (to_head : Bool) (v : JudgedView) (start : IsAtStart L to_head v)
    {S : Type 0} {read write : S → Step → S → Type 0} {left sent : S → Option (List ℕ)} {read_faults write_faults : S → ℕ} {ended : S → Bool} {log : S → Option (List Entry)}
    (read_law : (s t : S) (x : Step) → read s x t → ReadFacts left read_faults ended s x t)
    (ended_law : (s : S) → ended s ≡ true → IsAtEnd (left s))
    (write_law : (s t : S) (x : Step) → write s x t → WriteFacts sent write_faults s x t)
    (read_leaves : (s t : S) (x : Step) → read s x t → ReadLeaves sent write_faults log s x t)
    (write_leaves : (s t : S) (x : Step) → write s x t → WriteLeaves left read_faults ended log s x t) where
  pub into_facts : (s t : S) (r : End Summary IntoWhy) → Streams rest room Moved IsRefused Tells misses true 8191 read write v (owed to_head at_start) s r t
      → IntoFacts L to_head read write (meanings left sent read_faults write_faults) log s r t
  into_facts s t r h =
      let knows = knows_clean L limits to_head v start in
      let shown : List ℕ → ℕ → Type 0 = HasBody (IsSomeMarked no_bounds to_head) in
      let keeps = keeps_messages L shown 16383 8191 h.steps (keeps_so_far knows judged_laws shown (shows_so_far L limits to_head v start) h) in
      let call = port_call (IntoEnds L to_head) knows.limit_is h (gives_messages L (http1 to_head) h.steps (gives_always knows judged_laws h))
      (ended_in L limits to_head v start r h.steps h.outcome) in
      let judged : AtEvery (GivesJudged L to_head) h.steps = λ front back e. judged_at L limits to_head v start (8191 + one_read) front (h.points front back e) in
      record {
        call = record { steps = h.steps; call = call; judged = judged; keeps_up = keeps };
        tells = port_tells (IsTextOf L) (http1 to_head) L.input (IsRightInto L to_head) (stops L to_head) (right L to_head) (done L to_head) read_law ended_law write_law read_leaves write_leaves s t r h.steps call
            (IntoPoint L to_head) (point_alike L to_head) (λ front back e. record { gives = call.gives front back e; judged = judged front back e; keeps_up = keeps.always front back e }) (IsIntoAnswer L to_head) into_end_of (one L to_head r);
      }

  -- the writer at the start owes the text
  pub into_at : (w : Writing) → writing.IsAtStart L to_head w → (s t : S) (r : End Summary IntoWhy)
      → Streams rest room Moved IsRefused Tells misses true 8191 read write v (owes w) s r t
      → IntoFacts L to_head read write (meanings left sent read_faults write_faults) log s r t
  into_at w at s t r h = into_facts s t r (subst (λ (x : Writing). Streams rest room Moved IsRefused Tells misses true 8191 read write v (owes x) s r t) at.4 h)

-- ---- the end of the translator

pub into_back : (r : End Summary IntoWhy) → into_called (into_end r) ≡ Some r
into_back (end.Done s) = refl
into_back (end.Refused (Binary why)) = refl
into_back (end.Refused (Form form)) = refl
into_back end.ReadFault = refl
into_back end.WriteFault = refl
