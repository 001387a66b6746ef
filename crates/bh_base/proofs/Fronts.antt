-- Writes of a piece, front first.
use Rattle.std.proofs.Common.{◌≡◌, ◌-◌, ◌<◌, ◌≤◌, ◌⊎◌, inl, inr, min, ℕ, List, [], ◌∷◌, ◌++◌, length, take, drop, Ok, Err, refl, sym, ◌∙◌, ap, subst, arith, append_assoc, append-nil, take-append-drop, length-drop}
use Rattle.std.proofs.lemmas.List.{take_all, drop_all, length-take}
use Rattle.bh_base.specs.declared.failed.Failed.{Failed}
use Rattle.bh_base.specs.Steps.{Step, Write, BadWrite, given, writes, TakesAll, IsQuiet, write_of, Chain, none, WroteAll}
use Rattle.bh_base.specs.StepLaws.{given-append, quiet_on, TakesAll-append}
use Rattle.bh_base.proofs.Chains.{one_step, joined}

-- a front of the piece went out, and no write failed
pub record WroteFront {S : Type 0} (step : S → Step → S → Type 0) (s : S) (piece rest : List ℕ) (t : S) : Type 0 where
  pub steps : List Step
  pub chain : Chain step s steps t
  pub split : piece ≡ given steps ++ rest
  pub quiet : IsQuiet steps
  pub few : TakesAll steps → ((steps ≡ []) × (rest ≡ piece)) ⊎ ((rest ≡ []) × (writes steps ≡ 1) × (0 < length piece))

-- A write of all that is left is the first one, and nothing is left behind it.
once : (steps : List Step) (piece rest : List ℕ) (n : ℕ) → 0 < length rest
    → ((steps ≡ []) × (rest ≡ piece)) ⊎ ((rest ≡ []) × (writes steps ≡ 1) × (0 < length piece)) → length (take n rest) ≡ length rest
    → (drop n rest ≡ []) × (writes (steps ++ Write (length rest) (take n rest) ∷ []) ≡ 1) × (0 < length piece)
once [] piece rest n some (inl h) all = (drop_all n rest (omega (arith, all, length-take n rest)), refl, subst (λ (l : List ℕ). 0 < length l) h.1 some)
once [] piece [] n some (inr h) all = absurd (omega arith)
once [] piece (x ∷ rest) n some (inr h) all = absurd (let no = h.0 in cc)
once (y ∷ steps) piece [] n some few all = absurd (omega arith)
once (y ∷ steps) piece (x ∷ rest) n some (inl h) all = absurd (let no = h.0 in cc)
once (y ∷ steps) piece (x ∷ rest) n some (inr h) all = absurd (let no = h.0 in cc)

one_at_most : (steps : List Step) (piece : List ℕ) → ((steps ≡ []) × (◌≡◌ {A = List ℕ} [] piece)) ⊎ ((◌≡◌ {A = List ℕ} [] []) × (writes steps ≡ 1) × (0 < length piece))
    → writes steps ≤ min 1 (length piece)
one_at_most steps piece (inl h) = rw (h.0) (omega arith)
one_at_most steps piece (inr h) = omega (arith, h.1, h.2)

module _ {S : Type 0} {step : S → Step → S → Type 0} where
  pub started : (s : S) (piece : List ℕ) → WroteFront step s piece piece s
  started s piece = record { steps = []; chain = none; split = refl; quiet = refl; few = λ all. inl (refl, refl) }

  pub goes_on : (s t u : S) (piece rest : List ℕ) (n : ℕ) → 0 < length rest → WroteFront step s piece rest t
      → step t (write_of rest (Ok n)) u → WroteFront step s piece (take (length rest - n) (drop n rest)) u
  goes_on s t u piece rest n some w h =
      let after : take (length rest - n) (drop n rest) ≡ drop n rest = take_all (length rest - n) (drop n rest) (omega (arith, length-drop n rest)) in
      let last : List Step = Write (length rest) (take n rest) ∷ [] in
      let gone : given (w.steps ++ last) ≡ given w.steps ++ take n rest = given-append w.steps last ∙ ap (λ (l : List ℕ). given w.steps ++ l) (append-nil (take n rest)) in
      record {
        steps = w.steps ++ last;
        chain = joined w.chain (one_step h);
        split = w.split
            ∙ ap (λ (l : List ℕ). given w.steps ++ l) (sym (take-append-drop n rest))
            ∙ sym (append_assoc (given w.steps) (take n rest) (drop n rest))
            ∙ ap (λ (l : List ℕ). l ++ drop n rest) (sym gone)
            ∙ ap (λ (l : List ℕ). given (w.steps ++ last) ++ l) (sym after);
        quiet = quiet_on w.steps last w.quiet refl;
        few = λ all.
            let parts = TakesAll-append w.steps last all in
            let one = once w.steps piece rest n some (w.few parts.0) parts.1.0 in
            inr (after ∙ one.0, one.1, one.2);
      }

  pub part_went : (s t u : S) (piece rest : List ℕ) (e : Failed) → WroteFront step s piece rest t
      → step t (write_of rest (Err e)) u → WroteAll step s piece (Err e) u
  part_went s t u piece rest e w h =
      let last : List Step = BadWrite (length rest) ∷ [] in
      let gone : given (w.steps ++ last) ≡ given w.steps = given-append w.steps last ∙ append-nil (given w.steps) in
      record {
        steps = w.steps ++ last;
        chain = joined w.chain (one_step h);
        whole = tt;
        part = (rest, w.split ∙ ap (λ (l : List ℕ). l ++ rest) (sym gone), record { front = w.steps; last = BadWrite (length rest); split = refl; quiet = w.quiet; bad_last = refl });
        few = λ all. absurd (TakesAll-append w.steps last all).1;
      }

  pub whole_went : (s t : S) (piece rest : List ℕ) → length rest ≡ 0 → WroteFront step s piece rest t → WroteAll step s piece (Ok tt) t
  whole_went s t piece [] gone w = record { steps = w.steps; chain = w.chain; whole = (sym (w.split ∙ append-nil (given w.steps)), w.quiet); part = tt; few = λ all. one_at_most w.steps piece (w.few all) }
  whole_went s t piece (x ∷ rest) gone w = absurd (omega arith)
