-- What a port tells of a call, by what the call did.
use Rattle.std.proofs.Common.{◌≡◌, ◌≤◌, ◌<◌, ◌+◌, ◌⊎◌, ℕ, zero, suc, Bool, true, false, ◌||◌, List, [], ◌∷◌, ◌++◌, length, take, Option, Some, None, refl, sym, ◌∙◌, ap, subst, append-nil, length-append, inl, inr, arith}
use Rattle.std.specs.Io.KnownBytes.{IsAtEnd}
use Rattle.std.proofs.lemmas.List.{take_all, take-append-le}
use Rattle.std.proofs.lemmas.List.Folds.{list_any-append}
use Rattle.bh_spec.specs.declared.Refusal.{Refusal}
use Rattle.bh_spec.specs.declared.Summary.{Summary}
use Rattle.bh_spec.specs.Reports.{summary}
use Rattle.bh_spec.specs.declared.Refusal.TheVariants.{Dead, Limit, Ended, TooLong}
use Rattle.bh_spec.specs.Bounds.{Bounds, IsWithin}
use Rattle.bh_spec.specs.Messages.{Message}
use Rattle.bh_spec.specs.Pieces.{SomeOf, IsText, CanBecome}
use Rattle.bh_spec.specs.Viable.{IsMessageText, IsViable}
use Rattle.bh_spec.proofs.Viable.{viable_less}
use Rattle.bh_spec.proofs.Pieces.{next_becomes}
use Rattle.bh_spec.specs.Answers.{Answer, whole, refused, IsAnswer, IsRefusedAt}
use Rattle.bh_base.specs.Steps.{Step, Read, Write, BadRead, BadWrite, taken, given, met, meets_end, EndsReading, OnlyReads, OnlyWrites, ReadFacts, WriteFacts, ReadLeaves, WriteLeaves, ChainFacts, Entry, Meanings, meanings}
use Rattle.bh_base.specs.StepLaws.{taken-append, writes_take_nothing}
use Rattle.bh_decode.proofs.Answered.{one_answer}
use Rattle.bh_push.specs.Pushes.{refused_at}
use Rattle.bh_stream.specs.Logs.{IsLongest, ReadsTo}
use Rattle.bh_stream.specs.Messages.{IsTextOf, GivesFronts}
use Rattle.bh_stream.specs.Calls.{IsRefusal, StreamEnds, StreamCall, PortCall}
use Rattle.bh_stream.specs.Telling.{EndStops, CountsAs}
use Rattle.bh_stream.specs.declared.streaming.End.{End}
use Rattle.bh_stream.specs.declared.streaming.End.TheVariants as end
use Rattle.bh_stream.proofs.Telling as telling
use Rattle.bh_canon.specs.Ends.{end_of}
use Rattle.bh_canon.specs.Telling.{BeginsAll, IsRight, IsTold, IsComplete}

-- ---- the longest front of what was taken that goes on

some_text : (L : Bounds) (bytes : List ℕ) → IsViable L bytes → CanBecome (SomeOf (IsTextOf L)) bytes
some_text L bytes h = record { text = h.text; after = h.after; spelled = (h.spelled.0, (h.spelled.1, h.spelled.2, h.spelled.3)); begins = h.begins }

is_viable : (L : Bounds) (bytes : List ℕ) → CanBecome (SomeOf (IsTextOf L)) bytes → IsViable L bytes
is_viable L bytes h = record { text = h.text; after = h.after; spelled = (h.spelled.0, h.spelled.1.0, h.spelled.1.1, h.spelled.1.2); begins = h.begins }

-- the bytes before a refused one are the longest front
before_refused : (L : Bounds) (bytes : List ℕ) (at : ℕ) → at < length bytes → IsWithin L.input at → IsViable L (take at bytes)
    → (IsWithin L.input (at + 1) → IsViable L (take (at + 1) bytes) → ⊥) → IsLongest (SomeOf (IsTextOf L)) L.input bytes at
before_refused L bytes at inside within before after = record {
  inside = omega (arith, inside);
  within = within;
  viable = some_text L (take at bytes) before;
  most = most;
}
  where
    less : (o : Option ℕ) (n k : ℕ) → n ≤ k → IsWithin o k → IsWithin o n
    less None n k low h = tt
    less (Some limit) n k low h = omega (arith, low, h)

    most : (n : ℕ) → n ≤ length bytes → IsWithin L.input n → CanBecome (SomeOf (IsTextOf L)) (take n bytes) → n ≤ at
    most n low few h = by_order n at (λ more. after (less L.input (at + 1) n more few) (viable_less L (at + 1) n bytes more (is_viable L (take n bytes) h)))
      where
        by_order : (n at : ℕ) → (at + 1 ≤ n → ⊥) → n ≤ at
        by_order n at h = grind (arith, h)

within_less : (o : Option ℕ) (at : ℕ) → IsWithin o (at + 1) → IsWithin o at
within_less None at h = tt
within_less (Some limit) at h = omega (arith, h)

refused_longest : (L : Bounds) (bytes : List ℕ) (at : ℕ) (part : _) → IsRefusedAt L bytes at part → IsLongest (SomeOf (IsTextOf L)) L.input bytes at
refused_longest L bytes at part h = before_refused L bytes at h.first.inside (within_less L.input at h.seen) (next_becomes (IsMessageText L) (take at bytes) part h.first.next) (λ within v. h.first.after v)

answer_longest : (L : Bounds) (bytes : List ℕ) (r : Refusal) → IsAnswer L bytes (refused r) → IsLongest (SomeOf (IsTextOf L)) L.input bytes (refused_at r)
answer_longest L bytes (Dead at part) h = refused_longest L bytes at part h.0
answer_longest L bytes (Limit at part) h = refused_longest L bytes at part h.0
answer_longest L bytes (TooLong at) h =
    before_refused L bytes at h.more (subst (λ (o : Option ℕ). IsWithin o at) (sym h.limit) (omega arith)) h.viable
    (λ within v. over (subst (λ (o : Option ℕ). IsWithin o (at + 1)) h.limit within))
  where
    over : at + 1 ≤ at → ⊥
    over h = absurd (omega (arith, h))
answer_longest L bytes (Ended at part) h =
    let all : take at bytes ≡ bytes = take_all at bytes (omega (arith, h.long)) in
    record {
      inside = omega (arith, h.long);
      within = h.seen;
      viable = some_text L (take at bytes) (subst (IsViable L) (sym all) h.viable);
      most = λ n low few v. omega (arith, low, h.long);
    }

-- ---- a refused byte comes before the end

only_read : (x : Step) → OnlyReads (x ∷ []) → (ys : List Step) → OnlyWrites (x ∷ ys) → ⊥
only_read (Read room bytes) h ys w = w
only_read (Write size bytes) h ys w = absurd h
only_read (BadRead room) h ys w = w
only_read (BadWrite size) h ys w = absurd h

-- where a read comes behind calls, none of them met the end
none_before : (front : List Step) (x : Step) (back : List Step) → OnlyReads (x ∷ []) → EndsReading (front ++ x ∷ back) → met front ≡ false
none_before [] x back h ends = refl
none_before (y ∷ front) x back h ends = by_end (meets_end y) (none_before front x back h ends.1) refl
  where
    behind : (front : List Step) → OnlyWrites (front ++ x ∷ back) → ⊥
    behind [] w = only_read x h back w
    behind ((Read room bytes) ∷ front) w = w
    behind ((Write size bytes) ∷ front) w = behind front w
    behind ((BadRead room) ∷ front) w = w
    behind ((BadWrite size) ∷ front) w = behind front w

    by_end : (b : Bool) → met front ≡ false → meets_end y ≡ b → (b || met front) ≡ false
    by_end true rest e = absurd (behind front (ends.0 e))
    by_end false rest e = rest

taken_end : (x : Step) → meets_end x ≡ true → taken (x ∷ []) ≡ []
taken_end (Read zero bytes) e = absurd cc
taken_end (Read (suc room) []) e = refl
taken_end (Read (suc room) (b ∷ bytes)) e = absurd cc
taken_end (Write size bytes) e = absurd cc
taken_end (BadRead room) e = refl
taken_end (BadWrite size) e = refl

-- a refused byte among those that were taken
not_met : (at : ℕ) (steps : List Step) → EndsReading steps → ReadsTo at steps → at < length (taken steps) → met steps ≡ false
not_met at steps ends r more = by_last (meets_end r.last) refl
  where
    whole : met steps ≡ (met r.front || (meets_end r.last || met r.back))
    whole = ap met r.split ∙ list_any-append meets_end r.front (r.last ∷ r.back)

    nothing : met r.front ≡ false
    nothing = none_before r.front r.last r.back r.is_read (subst EndsReading r.split ends)

    back : (taken r.back ≡ []) × (met r.back ≡ false)
    back = let w = writes_take_nothing r.back r.behind in (w.0, w.2)

    all_taken : taken steps ≡ taken r.front ++ (taken (r.last ∷ []) ++ taken r.back)
    all_taken = ap taken r.split ∙ taken-append r.front (r.last ∷ r.back) ∙ ap (λ (l : List ℕ). taken r.front ++ (l ++ taken r.back)) (sym (append-nil _))

    by_last : (b : Bool) → meets_end r.last ≡ b → met steps ≡ false
    by_last true e = absurd (omega (
      arith,
      more,
      r.few,
      ap length all_taken,
      length-append (taken r.front) (taken (r.last ∷ []) ++ taken r.back),
      length-append (taken (r.last ∷ [])) (taken r.back),
      ap length (taken_end r.last e),
      ap length back.0,
    ))
    by_last false e = whole ∙ rw (nothing, e, back.1) refl

-- ---- the end is right

module _ (L : Bounds) (output : Message → List ℕ) where
  -- how a call ended, with what it asked and gave
  abbrev Ends : End Summary Refusal → List Step → Type 0
  Ends r steps = EndsReading steps × GivesFronts L output steps × StreamEnds L output r steps

  stops : (r : End Summary Refusal) (steps : List Step) → Ends r steps → EndStops r steps
  stops (end.Done s) steps h = h.2.0
  stops (end.Refused why) steps h = h.2.0
  stops end.ReadFault steps h = h.2
  stops end.WriteFault steps h = h.2

  done : (s : Summary) (steps : List Step) → Ends (end.Done s) steps → met steps ≡ true
  done s steps h = h.2.1.end

  -- what was given begins the output of each message behind a refused byte
  begins_all : (r : Refusal) (steps : List Step) (rest : List ℕ) → GivesFronts L output steps → (met steps ≡ false) ⊎ (IsText (SomeOf (IsTextOf L)) (taken steps) → ⊥)
      → IsAnswer L (taken steps) (refused r) → refused_at r ≤ length (taken steps) → BeginsAll L output (take (refused_at r) (taken steps ++ rest)) (given steps)
  begins_all r steps rest gives unmet answer inside m h =
      (gives steps [] (sym (append-nil steps))).so_far unmet (refused_at r) (answer_longest L (taken steps) r answer) m
      (subst (CanBecome (IsTextOf L m)) (take-append-le (refused_at r) (taken steps) rest inside) h)

  module _ (steps : List Step) (rest : List ℕ) (none : met steps ≡ true → rest ≡ []) (reading : EndsReading steps) (gives : GivesFronts L output steps) where
    -- the end was met, and all was taken
    all_taken : met steps ≡ true → taken steps ≡ taken steps ++ rest
    all_taken e = sym (ap (λ (l : List ℕ). taken steps ++ l) (none e) ∙ append-nil (taken steps))

    right_byte : (r : Refusal) → ReadsTo (refused_at r) steps → ((more : List ℕ) → IsAnswer L (taken steps ++ more) (refused r)) → refused_at r < length (taken steps ++ [])
        → IsRight L output (end.Refused r) (taken steps ++ rest) (given steps)
    right_byte r reads answer more =
        let inside : refused_at r < length (taken steps) = omega (arith, more, ap length (append-nil (taken steps))) in
        let own = subst (λ (l : List ℕ). IsAnswer L l (refused r)) (append-nil (taken steps)) (answer []) in
        (answer rest, begins_all r steps rest gives (inl (not_met (refused_at r) steps reading reads inside)) own (omega (arith, inside)))

    right_refused : (r : Refusal) → IsRefusal L r steps → IsRight L output (end.Refused r) (taken steps ++ rest) (given steps)
    right_refused (Dead at part) h = right_byte (Dead at part) h.0 h.1 (h.1 []).0.first.inside
    right_refused (Limit at part) h = right_byte (Limit at part) h.0 h.1 (h.1 []).0.first.inside
    right_refused (TooLong at) h = right_byte (TooLong at) h.0 h.1 (h.1 []).more
    right_refused (Ended at part) h = (
      subst (λ (l : List ℕ). IsAnswer L l (refused (Ended at part))) (all_taken h.0) h.1,
      begins_all (Ended at part) steps rest gives (inr (λ x. h.1.unfinished x.spelled.0 x.spelled.1.0 x.spelled.1.1 (record { text = x.text; spelled = x.spelled.1.2; same = x.same }))) h.1 (omega (arith, h.1.long)),
    )

    right_end : (r : End Summary Refusal) → StreamEnds L output r steps → IsRight L output r (taken steps ++ rest) (given steps)
    right_end (end.Done s) h =
        let w = h.1 in
        let same = all_taken w.end in
        record {
          message = w.message;
          omitted = w.omitted;
          padding = w.padding;
          answer = subst (λ (l : List ℕ). IsAnswer L l (whole w.message w.omitted w.padding)) same w.answer;
          summary_is = subst (λ (l : List ℕ). s ≡ summary w.message w.omitted w.padding (length l)) same w.summary_is;
          text_is = w.gave;
        }
    right_end (end.Refused r) h = right_refused r h.1
    right_end end.ReadFault h = tt
    right_end end.WriteFault h = tt

  right : (r : End Summary Refusal) (steps : List Step) (rest : List ℕ) → (met steps ≡ true → rest ≡ []) → Ends r steps → IsRight L output r (taken steps ++ rest) (given steps)
  right r steps rest none h = right_end steps rest none h.0 h.1 r h.2

  -- one end is right
  one : (r : End Summary Refusal) (answer : Answer) (input out : List ℕ) → IsAnswer L input answer → IsRight L output r input out
      → (r ≡ end.ReadFault → ⊥) → (r ≡ end.WriteFault → ⊥) → r ≡ end_of answer (length input)
  one (end.Done s) a input out v h no_read no_write =
      ap end.Done h.summary_is ∙ ap (λ (b : Answer). end_of b (length input)) (one_answer L input (whole h.message h.omitted h.padding) a h.answer v)
  one (end.Refused r) a input out v h no_read no_write = ap (λ (b : Answer). end_of b (length input)) (one_answer L input (refused r) a h.0 v)
  one end.ReadFault a input out v h no_read no_write = absurd (no_read refl)
  one end.WriteFault a input out v h no_read no_write = absurd (no_write refl)

-- ---- the clauses

module _ (L : Bounds) (output : Message → List ℕ) {S : Type 0} {read write : S → Step → S → Type 0} {left sent : S → Option (List ℕ)} {read_faults write_faults : S → ℕ} {ended : S → Bool} {log : S → Option (List Entry)}
    (read_law : (s t : S) (x : Step) → read s x t → ReadFacts left read_faults ended s x t)
    (ended_law : (s : S) → ended s ≡ true → IsAtEnd (left s))
    (write_law : (s t : S) (x : Step) → write s x t → WriteFacts sent write_faults s x t)
    (read_leaves : (s t : S) (x : Step) → read s x t → ReadLeaves sent write_faults log s x t)
    (write_leaves : (s t : S) (x : Step) → write s x t → WriteLeaves left read_faults ended log s x t)
    (s t : S) (r : End Summary Refusal) (steps : List Step) (call : StreamCall L output read write steps s r t) where
  abbrev means : Meanings S
  means = meanings left sent read_faults write_faults

  call_with : PortCall L.input (GivesFronts L output) (Ends L output) read write steps s r t
  call_with = record {
    chain = call.chain;
    asks = call.asks;
    turns = call.turns;
    bound = call.bound;
    none_behind = call.none_behind;
    gives = call.gives;
    ends = (call.none_behind, call.gives, call.ends);
  }

  pub facts_of : ChainFacts left sent read_faults write_faults ended log s steps t
  facts_of = telling.facts (IsTextOf L) output L.input (IsRight L output) (stops L output) (right L output) (done L output) read_law ended_law write_law read_leaves write_leaves s t r steps call_with

  pub told_call : IsTold L output means s r t
  told_call = telling.tells_of (IsTextOf L) output L.input (IsRight L output) (stops L output) (right L output) (done L output) read_law ended_law write_law read_leaves write_leaves s t r steps call_with

  pub counted_call : CountsAs means s r t
  counted_call = telling.counted_as (IsTextOf L) output L.input (IsRight L output) (stops L output) (right L output) (done L output) read_law ended_law write_law read_leaves write_leaves s t r steps call_with

  pub complete_call : IsComplete L means s r t
  complete_call = telling.completes_as (IsTextOf L) output L.input (IsRight L output) (stops L output) (right L output) (done L output) read_law ended_law write_law read_leaves write_leaves s t r steps call_with
      (IsAnswer L) end_of (one L output r)
