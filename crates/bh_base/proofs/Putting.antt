-- Texts that are put in a batch, one behind the other, and what flushing it sends.
use Rattle.std.proofs.Common.{◌≡◌, ◌+◌, ℕ, List, [], ◌∷◌, ◌++◌, take, Option, Some, slice_get, Result, Ok, Err, is_err, Bool, true, false, sym, ap, subst, ◌∙◌, append_assoc, append-nil}
use Rattle.std.specs.List.{flat_map}
use Rattle.std.proofs.lemmas.List.{take_more}
use Rattle.std.proofs.lemmas.Option.{slice_get_within, get_or_from_slice_get}
use Rattle.std.proofs.lemmas.Grind.{flat_map-append}
use Rattle.bh_base.specs.Steps.{Step, WriteFacts, Counts, fails, is_bad_write}
use Rattle.bh_base.specs.StepLaws.{stops_fails, bad_writes_fail}
use Rattle.bh_base.specs.Batches.{BatchView, no_bytes, Batched, Puts, Writes, Flushes}
use Rattle.bh_base.proofs.Chains.{write_chain}
use Rattle.bh_base.proofs.Batching.{begun}

module _ {S : Type 0} {step : S → Step → S → Type 0} where
  -- nothing, one text behind the other, and an equal text
  pub puts_none : {s : S} {b : BatchView} → Puts step s b [] s b
  puts_none {s = s} {b = b} = λ from text h. subst (λ (l : List ℕ). Batched step from l s b) (sym (append-nil text)) h

  pub puts_on : {s t u : S} {b c d : BatchView} {x y : List ℕ} → Puts step s b x t c → Puts step t c y u d → Puts step s b (x ++ y) u d
  puts_on {u = u} {d = d} {x = x} {y = y} p q = λ from text h.
      subst (λ (l : List ℕ). Batched step from l u d) (append_assoc text x y) (q from (text ++ x) (p from text h))

  pub puts_as : {s t : S} {b c : BatchView} {x y : List ℕ} → x ≡ y → Puts step s b x t c → Puts step s b y t c
  puts_as {s = s} {t = t} {b = b} {c = c} e p = subst (λ (l : List ℕ). Puts step s b l t c) e p

  -- What was put in a batch that was new goes out when it is flushed.
  pub flushes : {A E : Type 0} {s t u : S} {b c : BatchView} {text : List ℕ} {r : Result A E} → b ≡ no_bytes → Puts step s b text t c
      → Flushes step t c r u → Writes step s text r u
  flushes {s = s} {text = text} e p f = f s text (p s [] (subst (Batched step s [] s) (sym e) (begun s)))

  -- A batch that was new, and is flushed, sends what was put.
  pub sends : {A B E F : Type 0} {s t u : S} {b c : BatchView} {text : List ℕ} {x : A} {y : B} → b ≡ no_bytes → Puts step s b text t c
      → Flushes {A = A} {E = E} step t c (Ok x) u → Writes {A = B} {E = F} step s text (Ok y) u
  sends {s = s} {text = text} e p f =
      let w = f s text (p s [] (subst (Batched step s [] s) (sym e) (begun s))) in
      record { steps = w.steps; chain = w.chain; whole = w.whole; part = tt; few = w.few }

  pub sends_in_part : {A B E F : Type 0} {s t u : S} {b c : BatchView} {text : List ℕ} {x : E} {y : F} → b ≡ no_bytes → Puts step s b text t c
      → Flushes {A = A} {E = E} step t c (Err x) u → Writes {A = B} {E = F} step s text (Err y) u
  sends_in_part {s = s} {text = text} e p f =
      let w = f s text (p s [] (subst (Batched step s [] s) (sym e) (begun s))) in
      record { steps = w.steps; chain = w.chain; whole = tt; part = w.part; few = w.few }

-- A count of faults stays where no write failed, and rises with one that did.
module _ {S : Type 0} {step : S → Step → S → Type 0} {sent : S → Option (List ℕ)} {faults : S → ℕ} (law : (s t : S) (x : Step) → step s x t → WriteFacts sent faults s x t) where
  pub none_counted : {A E : Type 0} {s t u : S} {b c : BatchView} {text : List ℕ} {x : A} → b ≡ no_bytes → Puts step s b text t c
      → Flushes {A = A} {E = E} step t c (Ok x) u → Counts false (faults s) (faults u)
  none_counted {s = s} {u = u} {text = text} e p f =
      let w = f s text (p s [] (subst (Batched step s [] s) (sym e) (begun s))) in
      subst (λ (b : Bool). Counts b (faults s) (faults u)) w.whole.1 (write_chain law w.chain).counts

  pub one_counted : {A E : Type 0} {s t u : S} {b c : BatchView} {text : List ℕ} {x : E} → b ≡ no_bytes → Puts step s b text t c
      → Flushes {A = A} {E = E} step t c (Err x) u → Counts true (faults s) (faults u)
  one_counted {s = s} {u = u} {text = text} e p f =
      let w = f s text (p s [] (subst (Batched step s [] s) (sym e) (begun s))) in
      subst (λ (b : Bool). Counts b (faults s) (faults u)) (stops_fails is_bad_write fails w.steps bad_writes_fail w.part.2) (write_chain law w.chain).counts

  pub all_counted : {A E : Type 0} {s t u : S} {b c : BatchView} {text : List ℕ} (r : Result A E) → b ≡ no_bytes → Puts step s b text t c
      → Flushes step t c r u → Counts (is_err r) (faults s) (faults u)
  all_counted (Ok x) e p f = none_counted e p f
  all_counted (Err x) e p f = one_counted e p f

-- one thing more of a list, and its text
pub take_one : {A : Type 0} (xs : List A) (i : ℕ) (x : A) → slice_get xs i ≡ Some x → take (i + 1) xs ≡ take i xs ++ x ∷ []
take_one {A} xs i x got = take_more xs i x (slice_get_within xs i x got) ∙ ap (λ (y : A). take i xs ++ y ∷ []) (get_or_from_slice_get xs i x x got)

pub text_more : {A : Type 0} (text : A → List ℕ) (xs : List A) (i : ℕ) (x : A) → slice_get xs i ≡ Some x
    → flat_map text (take i xs) ++ text x ≡ flat_map text (take (i + 1) xs)
text_more text xs i x got =
    sym (ap (flat_map text) (take_one xs i x got) ∙ flat_map-append text (take i xs) (x ∷ [])
    ∙ ap (λ (l : List ℕ). flat_map text (take i xs) ++ l) (append-nil (text x)))
