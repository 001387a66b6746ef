-- How bytes led on: quietly, or by a state from which something completes the message.
use Rattle.std.proofs.Common.{◌≡◌, ◌≤◌, ◌⊎◌, ℕ, List, [], ◌∷◌, ◌++◌, length, take, refl, sym, ◌∙◌, ap, subst, arith, append_assoc, append-nil, length-append, inl, inr}
use Rattle.std.proofs.lemmas.List.{append_cancel_left}
use Rattle.bh_spec.specs.Texts.{bytes_of, content_in}
use Rattle.bh_spec.specs.Residuals.{IsResidual}
use Rattle.bh_spec.specs.Items.{Item}
use Rattle.bh_spec.proofs.Marks.{bytes_of-append, content-append}
use Rattle.bh_spec.proofs.Residuals.{residual_here}
use Rattle.bh_stream.specs.Decoding.{content_items, Rest, Moving, IsAlive, IsSilent, DecoderLaws, Quietly, Passing, Took}
use Rattle.bh_stream.proofs.Moving.{few_items, front_of_two, bytes-length, shorter}

-- no bytes
pub silent_none : {V : Type 0} (rest : Rest V) (v : V) → IsSilent rest v []
silent_none rest v q [] back more h e = refl
silent_none rest v q (b ∷ front) back more h e = absurd (cc)

-- a front that is longer than the bytes before
pub silent_behind : {V : Type 0} (rest : Rest V) (s w : V) (p y : List ℕ) → IsResidual (rest s) p (λ q. q) (rest w) → IsSilent rest s p → IsSilent rest w y
    → IsSilent rest s (p ++ y)
silent_behind rest s w p y residual a b q front back more h e = by_case (front_of_two p y (bytes_of front) more e)
  where
    by_case : ((m : List ℕ) × (p ≡ bytes_of front ++ m)) ⊎ ((mid : List ℕ) × (bytes_of front ≡ p ++ mid) × (y ≡ mid ++ more)) → content_in front ≡ 0
    by_case (inl c) = a q front back c.0 h c.1
    by_case (inr c) =
        let one = residual.forth q (front ++ back) (c.0 ++ bytes_of back) h (bytes_of-append front back ∙ ap (λ (l : List ℕ). l ++ bytes_of back) c.1 ∙ append_assoc p c.0 (bytes_of back)) in
        let text = residual.text in
        let few : length text ≤ length front = omega (arith, bytes-length text, bytes-length front, ap length residual.same, ap length c.1, length-append p c.0) in
        let cut = shorter text one.rest front back (sym one.joined) few in
        let same : p ++ bytes_of cut.0 ≡ p ++ c.0 = ap (λ (l : List ℕ). l ++ bytes_of cut.0) (sym residual.same) ∙ sym (bytes_of-append text cut.0) ∙ sym (ap bytes_of cut.1) ∙ c.1 in
        let mid : bytes_of cut.0 ≡ c.0 = append_cancel_left p (bytes_of cut.0) c.0 same in
        let first : content_in text ≡ 0 = a q text one.rest [] (subst (rest s q) one.joined h) (sym residual.same ∙ sym (append-nil (bytes_of text))) in
        let second : content_in cut.0 ≡ 0 = b one.thing cut.0 back more (subst (rest w one.thing) cut.2 one.spelled) (c.2 ∙ ap (λ (l : List ℕ). l ++ more) (sym mid)) in
        omega (arith, ap content_in cut.1, content-append text cut.0, first, second)

-- Of bytes behind a state from which something completes the message: those up to the last such state, and the quiet ones behind it.
pub record Stood {V : Type 0} (rest : Rest V) (v : V) (bytes : List ℕ) (items : List Item) : Type 0 where
  pub done : List ℕ
  pub quiet : List ℕ
  pub split : bytes ≡ done ++ quiet
  pub state : V
  pub residual : IsResidual (rest v) done (λ q. items ++ q) (rest state)
  pub alive : IsAlive rest state
  pub silent : IsSilent rest state quiet

module _ {V : Type 0} {rest : Rest V} {room : V → ℕ} {moves : Moving V} {ready : V → Type 0} (laws : DecoderLaws rest room moves ready) where
  quiet_on : (s w u : V) (p y : List ℕ) (j : List Item) → Quietly rest moves s p [] w → Quietly rest moves w y j u → Quietly rest moves s (p ++ y) [] u
  quiet_on s w u p y j a b = record {
    none = refl;
    moved = laws.goes_on s w u p y [] [] a.moved b.moved;
    silent = silent_behind rest s w p y (laws.leads s w p [] a.moved).residual a.silent b.silent;
  }

  quiet_here : (v : V) → ready v → Quietly rest moves v [] [] v
  quiet_here v alive = record { none = refl; moved = laws.stays v alive; silent = silent_none rest v }

  pub pass_stays : (v : V) → ready v → Passing rest moves v [] [] v
  pass_stays v alive = inr (quiet_here v alive)

  pub pass_moved : {v w : V} {x : List ℕ} {i : List Item} → Passing rest moves v x i w → moves v x i w
  pass_moved {v} {w} {x} {i} (inl a) = subst (λ (l : List ℕ). moves v l i w) (sym a.split)
      (subst (λ (k : List Item). moves v (a.done ++ a.quiet) k w) (append-nil i) (laws.goes_on v a.state w a.done a.quiet i [] a.moved a.on.moved))
  pass_moved {v} {w} {x} {i} (inr a) = subst (λ (k : List Item). moves v x k w) (sym a.none) a.moved

  -- behind any bytes, to a state from which something completes the message
  pub pass_alive : {v w : V} {x : List ℕ} {i : List Item} → ready w → moves v x i w → IsAlive rest w → Passing rest moves v x i w
  pass_alive {v} {w} {x} {i} ready moved alive = inl (record { done = x; quiet = []; split = sym (append-nil x); state = w; moved = moved; alive = alive; on = quiet_here w ready })

  pub pass_need : {v w : V} {x : List ℕ} → ready v → moves v x [] w → IsAlive rest w ⊎ IsSilent rest v x → Passing rest moves v x [] w
  pass_need {v} {w} {x} ready moved (inl alive) = pass_alive (laws.is_ready v w x [] ready moved) moved alive
  pass_need {v} {w} {x} ready moved (inr silent) = inr (record { none = refl; moved = moved; silent = silent })

  pub pass_took : {v w : V} {piece : List ℕ} {n : ℕ} {i : List Item} → ready v → Took rest moves v piece n i w → Passing rest moves v (take n piece) i w
  pass_took {v} {w} {piece} {n} {i} ready took = pass_alive (laws.is_ready v w (take n piece) i ready took.moved) took.moved took.alive

  pub pass_on : (v w u : V) (x y : List ℕ) (i j : List Item) → Passing rest moves v x i w → Passing rest moves w y j u → Passing rest moves v (x ++ y) (i ++ j) u
  pass_on v w u x y i j a (inl b) = inl (record {
    done = x ++ b.done;
    quiet = b.quiet;
    split = ap (λ (l : List ℕ). x ++ l) b.split ∙ sym (append_assoc x b.done b.quiet);
    state = b.state;
    moved = laws.goes_on v w b.state x b.done i j (pass_moved a) b.moved;
    alive = b.alive;
    on = b.on;
  })
  pass_on v w u x y i j (inl a) (inr b) = inl (record {
    done = a.done;
    quiet = a.quiet ++ y;
    split = ap (λ (l : List ℕ). l ++ y) a.split ∙ append_assoc a.done a.quiet y;
    state = a.state;
    moved = subst (λ (k : List Item). moves v a.done k a.state) (sym (ap (λ (k : List Item). i ++ k) b.none ∙ append-nil i)) a.moved;
    alive = a.alive;
    on = quiet_on a.state w u a.quiet y j a.on b;
  })
  pass_on v w u x y i j (inr a) (inr b) =
      let none : i ++ j ≡ [] = ap (λ (k : List Item). i ++ k) b.none ∙ append-nil i ∙ a.none in
      let first : Quietly rest moves v x [] w = record { none = refl; moved = a.moved; silent = a.silent } in
      let both = quiet_on v w u x y j first b in
      inr (record { none = none; moved = both.moved; silent = both.silent })

  -- no more content was handed out than there were bytes
  pub pass_few : {v w : V} {x : List ℕ} {i : List Item} → Passing rest moves v x i w → content_items i ≤ length x
  pass_few {v} {w} {x} {i} (inl a) = omega (arith, few_items laws.content (laws.leads v a.state a.done i a.moved) a.alive, ap length a.split, length-append a.done a.quiet)
  pass_few {v} {w} {x} {i} (inr a) = omega (arith, ap content_items a.none)

  pub stood : {v w : V} {x : List ℕ} {i : List Item} → IsAlive rest v → Passing rest moves v x i w → Stood rest v x i
  stood {v} {w} {x} {i} alive (inl a) = record { done = a.done; quiet = a.quiet; split = a.split; state = a.state; residual = (laws.leads v a.state a.done i a.moved).residual; alive = a.alive; silent = a.on.silent }
  stood {v} {w} {x} {i} alive (inr a) = record {
    done = [];
    quiet = x;
    split = refl;
    state = v;
    residual = subst (λ (k : List Item). IsResidual (rest v) [] (λ q. k ++ q) (rest v)) (sym a.none) (residual_here (rest v));
    alive = alive;
    silent = a.silent;
  }
