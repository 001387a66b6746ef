-- A call, read by read.
use Rattle.std.proofs.Common.{◌≡◌, ◌≤◌, ◌<◌, ◌+◌, ℕ, zero, suc, Bool, true, false, ◌||◌, List, [], ◌∷◌, ◌++◌, length, Option, refl, sym, ◌∙◌, ap, subst, arith, append_assoc, append-nil, length-append, inl, inr}
use Rattle.std.proofs.lemmas.List.Folds.{list_any-append}
use Rattle.bh_base.specs.Steps.{Step, Read, BadRead, is_empty, meets_end, taken, given, met, reads, Asks, EndsReading, OnlyReads, IsQuiet, StopsAt, is_bad_read, is_bad_write, OnlyWrites, WriteFacts, Chain, Either, none}
use Rattle.bh_base.specs.StepLaws.{taken-append, given-append, reads-append, OnlyReads-append, Asks-append, EndsReading-append, ends_reading, quiet_on, stops_on, writes_take_nothing, writes_ask_nothing}
use Rattle.bh_base.proofs.Chains.{one_step, joined, write_chain, writes_are_chain}
use Rattle.bh_spec.specs.declared.Omitted.{Omitted}
use Rattle.bh_spec.specs.Items.{Item}
use Rattle.bh_stream.specs.Outputs.{Output}
use Rattle.bh_stream.specs.Logs.{AtEvery, BeforeReads}
use Rattle.bh_stream.specs.Decoding.{Rest, Moving, Passing, DecoderLaws}
use Rattle.bh_stream.specs.Jobs.{Owing, Fits}
use Rattle.bh_stream.specs.Points.{one_read, Point, EachPoint, ReadPoint, Through}
use Rattle.bh_stream.specs.Runs.{Feeds, PieceEnds, Streams}
use Rattle.bh_stream.specs.declared.feeding.Fed.{Fed}
use Rattle.bh_stream.specs.declared.feeding.Fed.TheVariants as fed
use Rattle.bh_stream.specs.declared.streaming.End.TheVariants as end
use Rattle.bh_stream.proofs.Outputs.{written-append, shown-append}
use Rattle.bh_stream.proofs.Fronts.{at_none, at_more, at_both, reads_none, reads_one, reads_then_writes}
use Rattle.bh_stream.proofs.Moving.{counted-append, counted-few}
use Rattle.bh_stream.proofs.Passings.{pass_stays, pass_moved, pass_on}

-- What was taken was decoded, and what is due for it was written. No call failed, none met the end, and each read took a byte.
pub record CallSo {V : Type 0} (rest : Rest V) (room : V → ℕ) (moves : Moving V) (ready : V → Type 0) (writes : Bool) (most : ℕ) {S : Type 0} (read write : S → Step → S → Type 0) (v : V) (owed : Owing)
    (s : S) (w : V) (owes : Owing) (holds : ℕ) (taking : List Item → Type 0) (t : S) : Type 0 where
  pub steps : List Step
  pub chain : Chain (Either read write) s steps t
  pub quiet : IsQuiet steps
  pub open_end : met steps ≡ false
  pub asks : Asks one_read steps
  pub only_reads : writes ≡ false → OnlyReads steps
  pub turns : reads steps ≤ length (taken steps)
  pub points : AtEvery (EachPoint rest (Passing rest moves) writes v owed (most + one_read)) steps
  pub at_reads : BeforeReads (ReadPoint (Passing rest moves) writes v owed most) steps
  pub through : Through (Passing rest moves) writes most v owed 0 (taken steps) (given steps) w owes holds
  pub is_ready : ready w
  pub fits : Fits rest moves w taking

busy : (size : ℕ) (bytes : List ℕ) → 0 < size → meets_end (Read size bytes) ≡ is_empty bytes
busy zero bytes h = absurd (omega arith)
busy (suc size) bytes h = refl

some_bytes : (bytes : List ℕ) → 0 < length bytes → is_empty bytes ≡ false
some_bytes [] h = absurd (omega arith)
some_bytes (x ∷ bytes) h = refl

or_two : (a b c : Bool) → a ≡ false → b ≡ c → (a || b) ≡ c
or_two false b c e f = f
or_two true b c e f = absurd (cc)

or_false : (b : Bool) → (b || false) ≡ b
or_false true = refl
or_false false = refl

module _ {V : Type 0} {rest : Rest V} {room : V → ℕ} {moves : Moving V} {ready : V → Type 0} (laws : DecoderLaws rest room moves ready) (writes : Bool) (most : ℕ) where
  -- a point of a call, from one of its parts
  module _ (v : V) (owed : Owing) (bytes gone : List ℕ) (w : V) (owes : Owing) (holds : ℕ) (through : Through (Passing rest moves) writes most v owed 0 bytes gone w owes holds) where
    pub point_on : (slack : ℕ) (piece more : List ℕ) → slack ≤ one_read → Point (Passing rest moves) writes w owes slack piece more → Point (Passing rest moves) writes v owed (most + one_read) (bytes ++ piece) (gone ++ more)
    point_on slack piece more small p = record {
      done = bytes ++ p.done;
      pending = p.pending;
      split = ap (λ (l : List ℕ). bytes ++ l) p.split ∙ sym (append_assoc bytes p.done p.pending);
      items = through.items ++ p.items;
      state = p.state;
      moved = pass_on laws v w p.state bytes p.done through.items p.items through.moved p.moved;
      front = through.text ++ p.front;
      gave = written-append through.text p.front ∙ (λ i. through.gave i ++ p.gave i);
      due = λ q. record {
        rest = (p.due q).rest;
        split = ap owed (append_assoc through.items p.items q) ∙ through.due (p.items ++ q) ∙ ap (λ (l : Output). through.text ++ l) (p.due q).split ∙ sym (append_assoc through.text p.front (p.due q).rest);
      };
      enough = omega (arith, counted-append writes through.items p.items, shown-append through.text p.front, through.counts, through.few, p.enough, small);
    }

    -- nothing was read since
    pub point_here : (slack : ℕ) → most ≤ slack → Point (Passing rest moves) writes v owed slack bytes gone
    point_here slack small = record {
      done = bytes;
      pending = [];
      split = sym (append-nil bytes);
      items = through.items;
      state = w;
      moved = through.moved;
      front = through.text;
      gave = through.gave;
      due = λ q. record { rest = owes q; split = through.due q };
      enough = omega (arith, through.counts, through.few, small);
    }

    -- a piece was read, and nothing of it decoded yet
    pub point_read : (piece : List ℕ) → length piece ≤ one_read → Point (Passing rest moves) writes v owed (most + one_read) (bytes ++ piece) gone
    point_read piece small = record {
      done = bytes;
      pending = piece;
      split = refl;
      items = through.items;
      state = w;
      moved = through.moved;
      front = through.text;
      gave = through.gave;
      due = λ q. record { rest = owes q; split = through.due q };
      enough = omega (arith, through.counts, through.few, small);
    }

module _ {V A R : Type 0} {rest : Rest V} {room : V → ℕ} {moves : Moving V} {ready : V → Type 0} (refuses : V → List ℕ → R → Type 0) (tells : V → Omitted → ℕ → A → Type 0) (misses : V → R → Type 0)
    (laws : DecoderLaws rest room moves ready) (writes : Bool) (most : ℕ) {S : Type 0} {read write : S → Step → S → Type 0} {sent : S → Option (List ℕ)} {faults : S → ℕ}
    (write_law : (s t : S) (x : Step) → write s x t → WriteFacts sent faults s x t) where
  pub call_start : (v : V) (owed : Owing) (held : ℕ) (s : S) → held ≡ 0 → ready v → (taking : List Item → Type 0) → Fits rest moves v taking
      → CallSo rest room moves ready writes most read write v owed s v owed held taking s
  call_start v owed held s none_held alive taking fits =
      let through : Through (Passing rest moves) writes most v owed 0 [] [] v owed held = record { items = []; moved = pass_stays laws v alive; text = []; gave = refl; due = λ q. refl; counts = omega (arith, none_held, counted-few writes []); few = omega (arith, none_held) } in
      record {
        steps = [];
        chain = none;
        quiet = refl;
        open_end = refl;
        asks = tt;
        only_reads = λ e. tt;
        turns = omega arith;
        points = at_none (EachPoint rest (Passing rest moves) writes v owed (most + one_read)) (inl (point_here laws writes most v owed [] [] v owed held through (most + one_read) (omega arith)));
        at_reads = reads_none (ReadPoint (Passing rest moves) writes v owed most);
        through = through;
        is_ready = alive;
        fits = fits;
      }

  module _ (v : V) (owed : Owing) (s : S) (w : V) (owes : Owing) (holds : ℕ) (taking : List Item → Type 0) (t : S) (so : CallSo rest room moves ready writes most read write v owed s w owes holds taking t) where
    abbrev behind : Step → List Step
    behind x = so.steps ++ x ∷ []

    taken_on : (x : Step) → taken (behind x) ≡ taken so.steps ++ taken (x ∷ [])
    taken_on x = taken-append so.steps (x ∷ [])

    given_on : (x : Step) → given (x ∷ []) ≡ [] → given (behind x) ≡ given so.steps
    given_on x e = given-append so.steps (x ∷ []) ∙ ap (λ (l : List ℕ). given so.steps ++ l) e ∙ append-nil (given so.steps)

    -- no more reads than there was room for bytes
    pub few_reads : reads so.steps ≤ room v
    few_reads = omega (arith, so.turns, (laws.leads v w (taken so.steps) so.through.items (pass_moved laws so.through.moved)).room_left)

    -- the point behind a read of these bytes
    read_point : (x : Step) (piece : List ℕ) → taken (x ∷ []) ≡ piece → given (x ∷ []) ≡ [] → length piece ≤ one_read → EachPoint rest (Passing rest moves) writes v owed (most + one_read) (behind x)
    read_point x piece e f small =
        inl (subst (λ (l : List ℕ). Point (Passing rest moves) writes v owed (most + one_read) l (given (behind x))) (sym (taken_on x ∙ ap (λ (l : List ℕ). taken so.steps ++ l) e))
        (subst (λ (l : List ℕ). Point (Passing rest moves) writes v owed (most + one_read) (taken so.steps ++ piece) l) (sym (given_on x f))
        (point_read laws writes most v owed (taken so.steps) (given so.steps) w owes holds so.through piece small)))

    pub points_read : (x : Step) (piece : List ℕ) → taken (x ∷ []) ≡ piece → given (x ∷ []) ≡ [] → length piece ≤ one_read → AtEvery (EachPoint rest (Passing rest moves) writes v owed (most + one_read)) (behind x)
    points_read x piece e f small = at_more (EachPoint rest (Passing rest moves) writes v owed (most + one_read)) so.steps (x ∷ []) so.points
        (at_both (λ front. EachPoint rest (Passing rest moves) writes v owed (most + one_read) (so.steps ++ front)) x
        (subst (EachPoint rest (Passing rest moves) writes v owed (most + one_read)) (sym (append-nil so.steps)) (so.points so.steps [] (sym (append-nil so.steps))))
        (read_point x piece e f small))

    pub reads_here : (x : Step) → BeforeReads (ReadPoint (Passing rest moves) writes v owed most) (behind x)
    reads_here x = reads_one (ReadPoint (Passing rest moves) writes v owed most) so.steps x so.at_reads (point_here laws writes most v owed (taken so.steps) (given so.steps) w owes holds so.through most (omega arith))

    -- a failed read
    pub call_fault : (u : S) (size : ℕ) → 0 < size → size ≤ one_read → read t (BadRead size) u → Streams rest room moves refuses tells misses writes most read write v owed s end.ReadFault u
    call_fault u size some few h =
        let x : Step = BadRead size in
        record {
          steps = behind x;
          chain = joined so.chain (one_step (inl h));
          asks = Asks-append one_read so.steps (x ∷ []) so.asks (some, few, tt);
          turns = omega (arith, reads-append so.steps (x ∷ []), so.turns, ap length (taken_on x), length-append (taken so.steps) (taken (x ∷ [])));
          bound = omega (arith, reads-append so.steps (x ∷ []), few_reads);
          none_behind = ends_reading so.steps x so.open_end;
          only_reads = λ e. OnlyReads-append so.steps (x ∷ []) (so.only_reads e) tt;
          points = points_read x [] refl refl (omega arith);
          at_reads = reads_here x;
          outcome = record { front = so.steps; last = x; split = refl; quiet = so.quiet; bad_last = refl };
        }

    -- a read of some bytes, and the writes for them
    module _ (u : S) (size : ℕ) (some_room : 0 < size) (few_room : size ≤ one_read) (piece : List ℕ) (some : 0 < length piece) (small : length piece ≤ one_read) (got : read t (Read size piece) u)
        (r : Fed R) (w' : V) (owes' : Owing) (holds' : ℕ) (taking' : List Item → Type 0) (u' : S) (f : Feeds rest moves refuses writes most write w owes holds piece u r w' owes' holds' taking' u') where
      abbrev x : Step
      x = Read size piece

      abbrev all : List Step
      all = behind x ++ f.steps

      only : OnlyWrites f.steps
      only = (write_chain write_law f.chain).only

      took : taken (behind x) ≡ taken so.steps ++ piece
      took = taken_on x ∙ ap (λ (l : List ℕ). taken so.steps ++ l) (append-nil piece)

      taken_all : (ys : List Step) → OnlyWrites ys → taken (behind x ++ ys) ≡ taken so.steps ++ piece
      taken_all ys h = taken-append (behind x) ys ∙ (λ i. took i ++ (writes_take_nothing ys h).0 i) ∙ append-nil (taken so.steps ++ piece)

      given_all : (ys : List Step) → given (behind x ++ ys) ≡ given so.steps ++ given ys
      given_all ys = given-append (behind x) ys ∙ ap (λ (l : List ℕ). l ++ given ys) (given_on x refl)

      front_writes : (xs back : List Step) → f.steps ≡ xs ++ back → OnlyWrites xs
      front_writes xs back e = by_front xs (subst OnlyWrites e only)
        where
          by_front : (xs : List Step) → OnlyWrites (xs ++ back) → OnlyWrites xs
          by_front [] h = tt
          by_front ((Read n b) ∷ xs) h = absurd h
          by_front ((Rattle.bh_base.specs.Steps.Write n b) ∷ xs) h = by_front xs h
          by_front ((BadRead n) ∷ xs) h = absurd h
          by_front ((Rattle.bh_base.specs.Steps.BadWrite n) ∷ xs) h = by_front xs h

      chain_all : Chain (Either read write) s all u'
      chain_all = joined (joined so.chain (one_step (inl got))) (writes_are_chain read write f.chain)

      asks_all : Asks one_read all
      asks_all = Asks-append one_read (behind x) f.steps (Asks-append one_read so.steps (x ∷ []) so.asks (some_room, few_room, tt)) (writes_ask_nothing one_read f.steps only)

      length_all : length (taken all) ≡ length (taken so.steps) + length piece
      length_all = ap length (taken_all f.steps only) ∙ length-append (taken so.steps) piece

      reads_more : reads all ≡ reads so.steps + 1
      reads_more = omega (arith, reads-append (behind x) f.steps, reads-append so.steps (x ∷ []), (writes_take_nothing f.steps only).1)

      turns_all : reads all ≤ length (taken all)
      turns_all = omega (arith, length_all, reads_more, so.turns, some)

      bound_all : reads all ≤ room v + 1
      bound_all = omega (arith, reads_more, few_reads)

      only_reads_all : writes ≡ false → OnlyReads all
      only_reads_all e = OnlyReads-append (behind x) f.steps (OnlyReads-append so.steps (x ∷ []) (so.only_reads e) tt) (subst OnlyReads (sym (f.alone e)) tt)

      none_behind_all : EndsReading all
      none_behind_all = EndsReading-append (behind x) f.steps (ends_reading so.steps x so.open_end) only

      points_all : AtEvery (EachPoint rest (Passing rest moves) writes v owed (most + one_read)) all
      points_all = at_more (EachPoint rest (Passing rest moves) writes v owed (most + one_read)) (behind x) f.steps (points_read x piece (append-nil piece) refl small)
          (λ xs back e. inl (subst (λ (l : List ℕ). Point (Passing rest moves) writes v owed (most + one_read) l (given (behind x ++ xs))) (sym (taken_all xs (front_writes xs back e)))
          (subst (λ (l : List ℕ). Point (Passing rest moves) writes v owed (most + one_read) (taken so.steps ++ piece) l) (sym (given_all xs))
          (point_on laws writes most v owed (taken so.steps) (given so.steps) w owes holds so.through (length piece) piece (given xs) small (f.points xs back e)))))

      reads_all : BeforeReads (ReadPoint (Passing rest moves) writes v owed most) all
      reads_all = reads_then_writes (ReadPoint (Passing rest moves) writes v owed most) (behind x) f.steps (reads_here x) only

      quiet_read : IsQuiet (behind x)
      quiet_read = quiet_on so.steps (x ∷ []) so.quiet refl

      pub call_on : r ≡ fed.All → CallSo rest room moves ready writes most read write v owed s w' owes' holds' taking' u'
      call_on is =
          let o = subst (λ (y : Fed R). PieceEnds rest moves refuses writes most w owes holds piece y w' owes' holds' taking' f.steps) is f.outcome in
          let two = o.1 in
          record {
            steps = all;
            chain = chain_all;
            quiet = quiet_on (behind x) f.steps quiet_read o.0;
            open_end = list_any-append meets_end (behind x) f.steps
                ∙ or_two (met (behind x)) (met f.steps) false
                (list_any-append meets_end so.steps (x ∷ []) ∙ or_two (met so.steps) (met (x ∷ [])) false so.open_end (or_false (meets_end x) ∙ busy size piece some_room ∙ some_bytes piece some))
                (writes_take_nothing f.steps only).2;
            asks = asks_all;
            only_reads = only_reads_all;
            turns = turns_all;
            points = points_all;
            at_reads = reads_all;
            through = subst (λ (l : List ℕ). Through (Passing rest moves) writes most v owed 0 l (given all) w' owes' holds') (sym (taken_all f.steps only))
                (subst (λ (l : List ℕ). Through (Passing rest moves) writes most v owed 0 (taken so.steps ++ piece) l w' owes' holds') (sym (given_all f.steps)) (record {
                  items = so.through.items ++ two.items;
                  moved = pass_on laws v w w' (taken so.steps) piece so.through.items two.items so.through.moved two.moved;
                  text = so.through.text ++ two.text;
                  gave = written-append so.through.text two.text ∙ (λ i. so.through.gave i ++ two.gave i);
                  due = λ q. ap owed (append_assoc so.through.items two.items q) ∙ so.through.due (two.items ++ q) ∙ ap (λ (l : Output). so.through.text ++ l) (two.due q) ∙ sym (append_assoc so.through.text two.text (owes' q));
                  counts = omega (arith, shown-append so.through.text two.text, counted-append writes so.through.items two.items, so.through.counts, two.counts);
                  few = two.few;
                }));
            is_ready = laws.is_ready w w' piece two.items so.is_ready (pass_moved laws two.moved);
            fits = o.2;
          }

      pub call_cut : r ≡ fed.WriteFault → Streams rest room moves refuses tells misses writes most read write v owed s end.WriteFault u'
      call_cut is =
          let o = subst (λ (y : Fed R). PieceEnds rest moves refuses writes most w owes holds piece y w' owes' holds' taking' f.steps) is f.outcome in
          record {
            steps = all;
            chain = chain_all;
            asks = asks_all;
            turns = omega (arith, turns_all);
            bound = bound_all;
            none_behind = none_behind_all;
            only_reads = only_reads_all;
            points = points_all;
            at_reads = reads_all;
            outcome = stops_on is_bad_write (behind x) f.steps quiet_read o;
          }

      pub call_refused : (why : R) → r ≡ fed.Refused why → Streams rest room moves refuses tells misses writes most read write v owed s (end.Refused why) u'
      call_refused why is =
          let o = subst (λ (y : Fed R). PieceEnds rest moves refuses writes most w owes holds piece y w' owes' holds' taking' f.steps) is f.outcome in
          let bad = o.1 in
          record {
            steps = all;
            chain = chain_all;
            asks = asks_all;
            turns = omega (arith, turns_all);
            bound = bound_all;
            none_behind = none_behind_all;
            only_reads = only_reads_all;
            points = points_all;
            at_reads = reads_all;
            outcome = (
              quiet_on (behind x) f.steps quiet_read o.0,
              inr (record {
                stopped = record {
                  before = taken so.steps ++ bad.before;
                  others = bad.others;
                  split = taken_all f.steps only ∙ ap (λ (l : List ℕ). taken so.steps ++ l) bad.split ∙ sym (append_assoc (taken so.steps) bad.before bad.others);
                  items = so.through.items ++ bad.items;
                  state = bad.state;
                  moved = laws.goes_on v w bad.state (taken so.steps) bad.before so.through.items bad.items (pass_moved laws so.through.moved) bad.moved;
                  refused = bad.refused;
                };
                read_to = record { front = so.steps; last = x; back = f.steps; split = append_assoc so.steps (x ∷ []) f.steps; is_read = tt; behind = only; few = omega (arith, length-append (taken so.steps) bad.before) };
              }),
            );
          }
