-- Lines that are gathered, and put when there is no room for the next.
use Rattle.std.proofs.Common.{◌≡◌, ℕ, List, [], ◌++◌, sym, ap, ◌∙◌, append_assoc, append-nil}
use Rattle.bh_base.specs.Steps.{Step}
use Rattle.bh_base.specs.Batches.{BatchView, Puts}
use Rattle.bh_encode.specs.Gathering.{Gathers}
use Rattle.bh_base.proofs.Putting.{puts_on, puts_as}

module _ {S : Type 0} {step : S → Step → S → Type 0} where
  -- What is gathered is put, and then the bytes.
  pub put_whole : {s t u : S} {b c d : BatchView} {gathered bytes empty left : List ℕ} → Puts step s b gathered t c → empty ≡ [] → left ≡ empty
      → Puts step t c bytes u d → Gathers step s b gathered bytes u d left
  put_whole {gathered = gathered} {bytes = bytes} p e k q =
      (gathered ++ bytes, ap (λ (x : List ℕ). (gathered ++ bytes) ++ x) (k ∙ e) ∙ append-nil (gathered ++ bytes), puts_on p q)

  -- one behind the other
  pub gathers_on : {s t u : S} {b c d : BatchView} (x y z left more : List ℕ) → x ++ y ≡ z → Gathers step s b [] x t c left → Gathers step t c left y u d more
      → Gathers step s b [] z u d more
  gathers_on x y z left more e p q =
      (p.0 ++ q.0, append_assoc p.0 q.0 more ∙ ap (λ (l : List ℕ). p.0 ++ l) q.1 ∙ sym (append_assoc p.0 left y) ∙ ap (λ (l : List ℕ). l ++ y) p.1 ∙ e, puts_on p.2 q.2)

  -- At the end the rest is put.
  pub all_put : {s t u : S} {b c d : BatchView} {x left : List ℕ} → Gathers step s b [] x t c left → Puts step t c left u d → Puts step s b x u d
  all_put p q = puts_as p.1 (puts_on p.2 q)
