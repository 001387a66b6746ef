-- A piece, item by item.
use Rattle.std.proofs.Common.{◌≡◌, ◌≤◌, ◌⊎◌, inr, ◌-◌, ℕ, Bool, false, List, [], ◌∷◌, ◌++◌, length, take, drop, Ok, Err, refl, sym, ◌∙◌, ap, subst, arith, append_assoc, append-nil, length-append, take-append-drop, length-drop}
use Rattle.std.proofs.lemmas.List.{take_all}
use Rattle.bh_base.specs.declared.failed.Failed.{Failed}
use Rattle.bh_base.specs.Steps.{Step, Chain, none, given, IsQuiet, is_bad_write}
use Rattle.bh_base.specs.StepLaws.{given-append, quiet_on, stops_on}
use Rattle.bh_base.proofs.Chains.{joined}
use Rattle.bh_spec.specs.Items.{Item}
use Rattle.bh_stream.specs.Outputs.{Output, written}
use Rattle.bh_stream.specs.Logs.{Begins, AtEvery}
use Rattle.bh_stream.specs.Decoding.{Rest, Moving, IsAlive, IsSilent, Leads, DecoderLaws, Took, Passing}
use Rattle.bh_stream.specs.Jobs.{Owing, Sends, Fits}
use Rattle.bh_stream.specs.Points.{Point, Through}
use Rattle.bh_stream.specs.Runs.{Feeds}
use Rattle.bh_stream.specs.declared.feeding.Fed.TheVariants as fed
use Rattle.bh_stream.proofs.Outputs.{written-append, shown-append, front_of, begins_more}
use Rattle.bh_stream.proofs.Coming.{fits_on}
use Rattle.bh_stream.proofs.Fronts.{at_none, at_more}
use Rattle.bh_stream.proofs.Moving.{counted-append, counted-few}
use Rattle.bh_stream.proofs.Passings.{pass_stays, pass_moved, pass_on, pass_need, pass_took, pass_few, silent_none}

-- A front of the piece was decoded, and what is due for it was written; no write failed.
pub record FedSo {V : Type 0} (rest : Rest V) (moves : Moving V) (ready : V → Type 0) (writes : Bool) (most : ℕ) {S : Type 0} (step : S → Step → S → Type 0) (v : V) (owed : Owing) (held : ℕ)
    (piece : List ℕ) (s : S) (left : List ℕ) (w : V) (owes : Owing) (holds : ℕ) (taking : List Item → Type 0) (t : S) : Type 0 where
  pub front : List ℕ
  pub split : piece ≡ front ++ left
  pub steps : List Step
  pub chain : Chain step s steps t
  pub quiet : IsQuiet steps
  pub alone : writes ≡ false → steps ≡ []
  pub points : AtEvery (λ xs. Point (Passing rest moves) writes v owed (length piece) piece (given xs)) steps
  pub through : Through (Passing rest moves) writes most v owed held front (given steps) w owes holds
  pub is_ready : ready w
  pub fits : Fits rest moves w taking

module _ {V : Type 0} {rest : Rest V} {room : V → ℕ} {moves : Moving V} {ready : V → Type 0} (laws : DecoderLaws rest room moves ready) (writes : Bool) where
  -- the point before the first call
  first_point : (v : V) (owed : Owing) (piece : List ℕ) → ready v → Point (Passing rest moves) writes v owed (length piece) piece []
  first_point v owed piece alive = record {
    done = [];
    pending = piece;
    split = refl;
    items = [];
    state = v;
    moved = pass_stays laws v alive;
    front = [];
    gave = refl;
    due = λ q. record { rest = owed q; split = refl };
    enough = omega (arith, counted-few writes []);
  }

module _ {V R : Type 0} {rest : Rest V} {room : V → ℕ} {moves : Moving V} {ready : V → Type 0} (refuses : V → List ℕ → R → Type 0) (laws : DecoderLaws rest room moves ready)
    (writes : Bool) (most : ℕ) {S : Type 0} {step : S → Step → S → Type 0} where
  pub fed_start : (v : V) (owed : Owing) (held : ℕ) (piece : List ℕ) (s : S) → ready v → held ≤ most
      → (taking : List Item → Type 0) → Fits rest moves v taking → FedSo rest moves ready writes most step v owed held piece s piece v owed held taking s
  fed_start v owed held piece s alive few taking fits = record {
    front = [];
    split = refl;
    steps = [];
    chain = none;
    quiet = refl;
    alone = λ e. refl;
    points = at_none (λ xs. Point (Passing rest moves) writes v owed (length piece) piece (given xs)) (first_point laws writes v owed piece alive);
    through = record { items = []; moved = pass_stays laws v alive; text = []; gave = refl; due = λ q. refl; counts = omega (arith, counted-few writes []); few = few };
    is_ready = alive;
    fits = fits;
  }

  module _ (v : V) (owed : Owing) (held : ℕ) (piece : List ℕ) (s : S) (left : List ℕ) (w : V) (owes : Owing) (holds : ℕ) (taking : List Item → Type 0) (t : S)
      (so : FedSo rest moves ready writes most step v owed held piece s left w owes holds taking t) where
    -- what the front and some bytes more led to
    module _ (n : ℕ) (items : List Item) (u : V) (took : Took rest moves w left n items u) where
      abbrev all_items : List Item
      all_items = so.through.items ++ items

      abbrev all_bytes : List ℕ
      all_bytes = so.front ++ take n left

      both_moved : Passing rest moves v all_bytes all_items u
      both_moved = pass_on laws v w u so.front (take n left) so.through.items items so.through.moved (pass_took laws so.is_ready took)

      took_leads : Leads rest room w (take n left) items u
      took_leads = laws.leads w u (take n left) items took.moved

      -- the items may come
      pub may_come : (q : List Item) × taking (items ++ q)
      may_come = so.fits.so_far (take n left) items u took.moved took.alive

      both_split : piece ≡ all_bytes ++ drop n left
      both_split = so.split ∙ ap (λ (l : List ℕ). so.front ++ l) (sym (take-append-drop n left)) ∙ sym (append_assoc so.front (take n left) (drop n left))

      -- a point in the writes for these items
      point_in : (text : Output) → ((q : List Item) → Begins text (owes (items ++ q))) → (gone : List ℕ) → Begins gone (written text) → Point (Passing rest moves) writes v owed (length piece) piece (given so.steps ++ gone)
      point_in text due gone begins =
          let f = front_of text gone begins.rest begins.split in
          record {
            done = all_bytes;
            pending = drop n left;
            split = both_split;
            items = all_items;
            state = u;
            moved = both_moved;
            front = so.through.text ++ f.0;
            gave = written-append so.through.text f.0 ∙ (λ i. so.through.gave i ++ f.3 i);
            due = λ q. record {
              rest = f.1 ++ (due q).rest;
              split = ap owed (append_assoc so.through.items items q) ∙ so.through.due (items ++ q)
                  ∙ ap (λ (l : Output). so.through.text ++ l) ((due q).split ∙ ap (λ (l : Output). l ++ (due q).rest) f.2 ∙ append_assoc f.0 f.1 (due q).rest)
                  ∙ sym (append_assoc so.through.text f.0 (f.1 ++ (due q).rest));
            };
            enough = omega (arith, counted-few writes all_items, pass_few laws both_moved, ap length both_split, length-append all_bytes (drop n left));
          }

      -- the points of the writes
      points_in : (steps : List Step) (text : Output) → ((q : List Item) → Begins text (owes (items ++ q))) → Begins (given steps) (written text)
          → AtEvery (λ xs. Point (Passing rest moves) writes v owed (length piece) piece (given xs)) (so.steps ++ steps)
      points_in steps text due begins = at_more (λ xs. Point (Passing rest moves) writes v owed (length piece) piece (given xs)) so.steps steps so.points
          (λ xs back e. subst (λ (l : List ℕ). Point (Passing rest moves) writes v owed (length piece) piece l) (sym (given-append so.steps xs))
          (point_in text due (given xs) (begins_more (given xs) (given steps) (written text) (record { rest = given back; split = ap given e ∙ given-append xs back }) begins)))

      pub fed_on : (owes' : Owing) (holds' : ℕ) (taking' : List Item → Type 0) (t' : S) → Sends step writes most owes owes' holds holds' taking taking' items t (Ok tt) t'
          → FedSo rest moves ready writes most step v owed held piece s (take (length left - n) (drop n left)) u owes' holds' taking' t'
      fed_on owes' holds' taking' t' sends =
          let slice : take (length left - n) (drop n left) ≡ drop n left = take_all (length left - n) (drop n left) (omega (arith, length-drop n left)) in
          let whole = sends.whole in
          record {
            front = all_bytes;
            split = both_split ∙ ap (λ (l : List ℕ). all_bytes ++ l) (sym slice);
            steps = so.steps ++ sends.steps;
            chain = joined so.chain sends.chain;
            quiet = quiet_on so.steps sends.steps so.quiet whole.0;
            alone = λ e. λ i. so.alone e i ++ sends.alone e i;
            points = points_in sends.steps sends.text sends.due (record { rest = []; split = sym whole.1 ∙ sym (append-nil (given sends.steps)) });
            through = record {
              items = all_items;
              moved = both_moved;
              text = so.through.text ++ sends.text;
              gave = written-append so.through.text sends.text ∙ (λ i. so.through.gave i ++ (sym whole.1) i) ∙ sym (given-append so.steps sends.steps);
              due = λ q. ap owed (append_assoc so.through.items items q) ∙ so.through.due (items ++ q) ∙ ap (λ (l : Output). so.through.text ++ l) (whole.2 q) ∙ sym (append_assoc so.through.text sends.text (owes' q));
              counts = omega (arith, shown-append so.through.text sends.text, counted-append writes so.through.items items, so.through.counts, whole.3);
              few = whole.4;
            };
            is_ready = laws.is_ready w u (take n left) items so.is_ready took.moved;
            fits = fits_on laws w u (take n left) items took.moved taking taking' whole.5 so.fits;
          }

      pub fed_cut : (e : Failed) (owes' : Owing) (holds' : ℕ) (taking' : List Item → Type 0) (t' : S) → Sends step writes most owes owes' holds holds' taking taking' items t (Err e) t'
          → Feeds rest moves refuses writes most step v owed held piece s fed.WriteFault u owes' holds' taking' t'
      fed_cut e owes' holds' taking' t' sends = record {
        steps = so.steps ++ sends.steps;
        chain = joined so.chain sends.chain;
        alone = λ e. λ i. so.alone e i ++ sends.alone e i;
        points = points_in sends.steps sends.text sends.due sends.part.1;
        outcome = stops_on is_bad_write so.steps sends.steps so.quiet sends.part.0;
      }

    -- all of it
    pub fed_need : (u : V) → moves w left [] u → IsAlive rest u ⊎ IsSilent rest w left → Feeds rest moves refuses writes most step v owed held piece s fed.All u owes holds taking t
    fed_need u moved silent = record {
      steps = so.steps;
      chain = so.chain;
      alone = so.alone;
      points = so.points;
      outcome = (
        so.quiet,
        record {
          items = so.through.items;
          moved = subst (λ (l : List ℕ). Passing rest moves v l so.through.items u) (sym so.split)
              (subst (λ (i : List Item). Passing rest moves v (so.front ++ left) i u) (append-nil so.through.items)
              (pass_on laws v w u so.front left so.through.items [] so.through.moved (pass_need laws so.is_ready moved silent)));
          text = so.through.text;
          gave = so.through.gave;
          due = so.through.due;
          counts = so.through.counts;
          few = so.through.few;
        },
        fits_on laws w u left [] moved taking taking (λ q k. k) so.fits,
      );
    }

    pub fed_empty : length left ≡ 0 → Feeds rest moves refuses writes most step v owed held piece s fed.All w owes holds taking t
    fed_empty e = fed_need w (subst (λ (l : List ℕ). moves w l [] w) (sym (empty left e)) (laws.stays w so.is_ready)) (inr (subst (IsSilent rest w) (sym (empty left e)) (silent_none rest w)))
      where
        empty : (l : List ℕ) → length l ≡ 0 → l ≡ []
        empty [] h = refl
        empty (x ∷ l) h = absurd (omega arith)

    pub fed_refused : (u : V) (r : R) (owes' : Owing) (holds' : ℕ) (taking' : List Item → Type 0) → refuses w left r → Feeds rest moves refuses writes most step v owed held piece s (fed.Refused r) u owes' holds' taking' t
    fed_refused u r owes' holds' taking' bad = record {
      steps = so.steps;
      chain = so.chain;
      alone = so.alone;
      points = so.points;
      outcome = (so.quiet, record { before = so.front; others = left; split = so.split; items = so.through.items; state = w; moved = pass_moved laws so.through.moved; refused = bad });
    }
