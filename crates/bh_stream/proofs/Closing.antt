-- The end of a call, behind the end of the input.
use Rattle.std.proofs.Common.{◌≡◌, ◌≤◌, ◌<◌, ◌+◌, ℕ, zero, suc, Bool, true, false, ◌||◌, List, [], ◌∷◌, ◌++◌, length, Option, Result, Ok, Err, refl, sym, ◌∙◌, ap, subst, arith, append_assoc, append-nil, inl, inr}
use Rattle.std.proofs.lemmas.List.Folds.{list_any-append}
use Rattle.bh_base.specs.declared.failed.Failed.{Failed}
use Rattle.bh_base.specs.Steps.{Step, Read, Write, BadRead, BadWrite, meets_end, taken, given, met, reads, Asks, EndsReading, OnlyReads, IsQuiet, is_bad_write, OnlyWrites, WriteFacts, Chain, Either}
use Rattle.bh_base.specs.StepLaws.{taken-append, given-append, reads-append, OnlyReads-append, Asks-append, EndsReading-append, ends_reading, quiet_on, stops_on, writes_take_nothing, writes_ask_nothing}
use Rattle.bh_base.proofs.Chains.{one_step, joined, write_chain, writes_are_chain}
use Rattle.bh_spec.specs.declared.Omitted.{Omitted}
use Rattle.bh_spec.specs.Items.{Item, ending}
use Rattle.bh_stream.specs.Outputs.{Output, written}
use Rattle.bh_stream.specs.Logs.{Begins, AtEvery, BeforeReads}
use Rattle.bh_stream.specs.Decoding.{Rest, Moving, Passing, DecoderLaws}
use Rattle.bh_stream.specs.Jobs.{Owing, SendsRest}
use Rattle.bh_stream.specs.Points.{one_read, LastPoint, EachPoint, ReadPoint}
use Rattle.bh_stream.specs.Runs.{Streams}
use Rattle.bh_stream.specs.declared.streaming.End.TheVariants as end
use Rattle.bh_stream.proofs.Outputs.{written-append, shown-append, front_of, begins_more}
use Rattle.bh_stream.proofs.Fronts.{at_more, reads_then_writes}
use Rattle.bh_stream.proofs.Passings.{pass_moved}
use Rattle.bh_stream.proofs.Turns.{CallSo, points_read, reads_here, few_reads}

-- a read that answers 0
pub empty_read : {S : Type 0} (read : S → Step → S → Type 0) (t u : S) (size : ℕ) (now : List ℕ) (n : ℕ) → n ≡ 0 → read t (Read size (Rattle.std.proofs.Common.take n now)) u → read t (Read size []) u
empty_read read t u size now n e h = subst (λ (k : ℕ). read t (Read size (Rattle.std.proofs.Common.take k now)) u) e h

met_end : (size : ℕ) → 0 < size → meets_end (Read size []) ≡ true
met_end zero h = absurd (omega arith)
met_end (suc size) h = refl

or_second : (a b : Bool) → b ≡ true → (a || (b || false)) ≡ true
or_second true b e = refl
or_second false true e = refl
or_second false false e = absurd (cc)

module _ {V A R : Type 0} {rest : Rest V} {room : V → ℕ} {moves : Moving V} {ready : V → Type 0} (refuses : V → List ℕ → R → Type 0) (tells : V → Omitted → ℕ → A → Type 0) (misses : V → R → Type 0)
    (laws : DecoderLaws rest room moves ready) (writes : Bool) (most : ℕ) {S : Type 0} {read write : S → Step → S → Type 0} {sent : S → Option (List ℕ)} {faults : S → ℕ}
    (write_law : (s t : S) (x : Step) → write s x t → WriteFacts sent faults s x t)
    (v : V) (owed : Owing) (s : S) (w : V) (owes : Owing) (holds : ℕ) (taking : List Item → Type 0) (t : S) (so : CallSo rest room moves ready writes most read write v owed s w owes holds taking t)
    (u : S) (size : ℕ) (some : 0 < size) (few : size ≤ one_read) (got : read t (Read size []) u) where
  abbrev x : Step
  x = Read size []

  abbrev closed : List Step
  closed = so.steps ++ x ∷ []

  chain_closed : Chain (Either read write) s closed u
  chain_closed = joined so.chain (one_step (inl got))

  quiet_closed : IsQuiet closed
  quiet_closed = quiet_on so.steps (x ∷ []) so.quiet refl

  met_closed : met closed ≡ true
  met_closed = list_any-append meets_end so.steps (x ∷ []) ∙ or_second (met so.steps) (meets_end x) (met_end size some)

  taken_closed : taken closed ≡ taken so.steps
  taken_closed = taken-append so.steps (x ∷ []) ∙ append-nil (taken so.steps)

  given_closed : given closed ≡ given so.steps
  given_closed = given-append so.steps (x ∷ []) ∙ append-nil (given so.steps)

  asks_closed : Asks one_read closed
  asks_closed = Asks-append one_read so.steps (x ∷ []) so.asks (some, few, tt)

  turns_closed : reads closed ≤ length (taken closed) + 1
  turns_closed = omega (arith, reads-append so.steps (x ∷ []), so.turns, ap length taken_closed)

  bound_closed : reads closed ≤ room v + 1
  bound_closed = omega (arith, reads-append so.steps (x ∷ []), few_reads refuses tells misses laws writes most write_law v owed s w owes holds taking t so)

  only_reads_closed : writes ≡ false → OnlyReads closed
  only_reads_closed e = OnlyReads-append so.steps (x ∷ []) (so.only_reads e) tt

  none_behind_closed : EndsReading closed
  none_behind_closed = ends_reading so.steps x so.open_end

  points_closed : AtEvery (EachPoint rest (Passing rest moves) writes v owed (most + one_read)) closed
  points_closed = points_read refuses tells misses laws writes most write_law v owed s w owes holds taking t so x [] refl refl (omega arith)

  reads_closed : BeforeReads (ReadPoint (Passing rest moves) writes v owed most) closed
  reads_closed = reads_here refuses tells misses laws writes most write_law v owed s w owes holds taking t so x

  -- too soon
  pub call_ended : (r : R) → misses w r → Streams rest room moves refuses tells misses writes most read write v owed s (end.Refused r) u
  call_ended r h = record {
    steps = closed;
    chain = chain_closed;
    asks = asks_closed;
    turns = turns_closed;
    bound = bound_closed;
    none_behind = none_behind_closed;
    only_reads = only_reads_closed;
    points = points_closed;
    at_reads = reads_closed;
    outcome = (
      quiet_closed,
      inl (record { end = met_closed; items = so.through.items; state = w; moved = subst (λ (l : List ℕ). moves v l so.through.items w) (sym taken_closed) (pass_moved laws so.through.moved); missing = h }),
    );
  }

  module _ (omitted : Omitted) (padding : ℕ) (whole : rest w (ending omitted padding ∷ []) []) where
    abbrev last_items : List Item
    last_items = ending omitted padding ∷ []

    -- a point in the last writes
    last_point : (gone : List ℕ) → Begins gone (written (owes last_items)) → LastPoint rest (Passing rest moves) writes v owed (most + one_read) (taken so.steps) (given so.steps ++ gone)
    last_point gone begins =
        let f = front_of (owes last_items) gone begins.rest begins.split in
        record {
          items = so.through.items;
          omitted = omitted;
          padding = padding;
          state = w;
          moved = so.through.moved;
          whole = whole;
          front = so.through.text ++ f.0;
          gave = written-append so.through.text f.0 ∙ (λ i. so.through.gave i ++ f.3 i);
          due = record { rest = f.1; split = so.through.due last_items ∙ ap (λ (l : Output). so.through.text ++ l) f.2 ∙ sym (append_assoc so.through.text f.0 f.1) };
          enough = omega (arith, shown-append so.through.text f.0, so.through.counts, so.through.few);
        }

    module _ (u' : S) (r : Result (Unit {0}) Failed) (sends : SendsRest write writes (owes last_items) u r u') where
      abbrev all : List Step
      all = closed ++ sends.steps

      only : OnlyWrites sends.steps
      only = (write_chain write_law sends.chain).only

      taken_all : (ys : List Step) → OnlyWrites ys → taken (closed ++ ys) ≡ taken so.steps
      taken_all ys k = taken-append closed ys ∙ (λ i. taken_closed i ++ (writes_take_nothing ys k).0 i) ∙ append-nil (taken so.steps)

      given_all : (ys : List Step) → given (closed ++ ys) ≡ given so.steps ++ given ys
      given_all ys = given-append closed ys ∙ ap (λ (l : List ℕ). l ++ given ys) given_closed

      front_writes : (xs back : List Step) → sends.steps ≡ xs ++ back → OnlyWrites xs
      front_writes xs back e = by_front xs (subst OnlyWrites e only)
        where
          by_front : (xs : List Step) → OnlyWrites (xs ++ back) → OnlyWrites xs
          by_front [] k = tt
          by_front ((Read n b) ∷ xs) k = absurd k
          by_front ((Write n b) ∷ xs) k = by_front xs k
          by_front ((BadRead n) ∷ xs) k = absurd k
          by_front ((BadWrite n) ∷ xs) k = by_front xs k

      points_all : Begins (given sends.steps) (written (owes last_items)) → AtEvery (EachPoint rest (Passing rest moves) writes v owed (most + one_read)) all
      points_all begins = at_more (EachPoint rest (Passing rest moves) writes v owed (most + one_read)) closed sends.steps points_closed
          (λ xs back e. inr (
            list_any-append meets_end closed xs ∙ ap (λ (b : Bool). b || met xs) met_closed,
            subst (λ (l : List ℕ). LastPoint rest (Passing rest moves) writes v owed (most + one_read) l (given (closed ++ xs))) (sym (taken_all xs (front_writes xs back e)))
                (subst (λ (l : List ℕ). LastPoint rest (Passing rest moves) writes v owed (most + one_read) (taken so.steps) l) (sym (given_all xs))
                (last_point (given xs) (begins_more (given xs) (given sends.steps) (written (owes last_items)) (record { rest = given back; split = ap given e ∙ given-append xs back }) begins))),
          ))

      reads_all : BeforeReads (ReadPoint (Passing rest moves) writes v owed most) all
      reads_all = reads_then_writes (ReadPoint (Passing rest moves) writes v owed most) closed sends.steps reads_closed only

      chain_all : Chain (Either read write) s all u'
      chain_all = joined chain_closed (writes_are_chain read write sends.chain)

      asks_all : Asks one_read all
      asks_all = Asks-append one_read closed sends.steps asks_closed (writes_ask_nothing one_read sends.steps only)

      reads_same : reads all ≡ reads closed
      reads_same = omega (arith, reads-append closed sends.steps, (writes_take_nothing sends.steps only).1)

      turns_all : reads all ≤ length (taken all) + 1
      turns_all = omega (arith, reads_same, turns_closed, ap length taken_closed, ap length (taken_all sends.steps only))

      bound_all : reads all ≤ room v + 1
      bound_all = omega (arith, reads_same, bound_closed)

      only_reads_all : writes ≡ false → OnlyReads all
      only_reads_all e = OnlyReads-append closed sends.steps (only_reads_closed e) (subst OnlyReads (sym (sends.alone e)) tt)

      none_behind_all : EndsReading all
      none_behind_all = EndsReading-append closed sends.steps none_behind_closed only

      met_all : met all ≡ true
      met_all = list_any-append meets_end closed sends.steps ∙ ap (λ (b : Bool). b || met sends.steps) met_closed

    pub call_done : (u' : S) → SendsRest write writes (owes last_items) u (Ok tt) u' → (summary : A) → tells w omitted padding summary
        → Streams rest room moves refuses tells misses writes most read write v owed s (end.Done summary) u'
    call_done u' sends summary told = record {
      steps = all u' (Ok tt) sends;
      chain = chain_all u' (Ok tt) sends;
      asks = asks_all u' (Ok tt) sends;
      turns = turns_all u' (Ok tt) sends;
      bound = bound_all u' (Ok tt) sends;
      none_behind = none_behind_all u' (Ok tt) sends;
      only_reads = only_reads_all u' (Ok tt) sends;
      points = points_all u' (Ok tt) sends (record { rest = []; split = sym sends.whole.1 ∙ sym (append-nil (given sends.steps)) });
      at_reads = reads_all u' (Ok tt) sends;
      outcome = (
        quiet_on closed sends.steps quiet_closed sends.whole.0,
        record {
          end = met_all u' (Ok tt) sends;
          items = so.through.items;
          omitted = omitted;
          padding = padding;
          state = w;
          moved = subst (λ (l : List ℕ). moves v l so.through.items w) (sym (taken_all u' (Ok tt) sends sends.steps (only u' (Ok tt) sends))) (pass_moved laws so.through.moved);
          whole = whole;
          told = told;
          gave = given_all u' (Ok tt) sends sends.steps ∙ (λ i. (sym so.through.gave) i ++ sends.whole.1 i) ∙ sym (written-append so.through.text (owes last_items)) ∙ ap written (sym (so.through.due last_items));
        },
      );
    }

    pub call_stopped : (u' : S) (e : Failed) → SendsRest write writes (owes last_items) u (Err e) u' → Streams rest room moves refuses tells misses writes most read write v owed s end.WriteFault u'
    call_stopped u' e sends = record {
      steps = all u' (Err e) sends;
      chain = chain_all u' (Err e) sends;
      asks = asks_all u' (Err e) sends;
      turns = turns_all u' (Err e) sends;
      bound = bound_all u' (Err e) sends;
      none_behind = none_behind_all u' (Err e) sends;
      only_reads = only_reads_all u' (Err e) sends;
      points = points_all u' (Err e) sends sends.part.1;
      at_reads = reads_all u' (Err e) sends;
      outcome = stops_on is_bad_write closed sends.steps quiet_closed sends.part.0;
    }
