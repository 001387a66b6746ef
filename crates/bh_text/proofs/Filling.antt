-- Content lines that are filled, one behind the other.
use Rattle.std.proofs.Common.{◌≡◌, ◌<◌, ◌+◌, ◌*◌, ℕ, suc, List, [], ◌∷◌, ◌++◌, length, take, drop, refl, sym, ap, ap₂, ◌∙◌, append_assoc, take-append-drop, arith}
use Rattle.std.proofs.lemmas.List.{length-append}
use Rattle.bh_spec.specs.Listing.{Line, content, content_lines, joined}
use Rattle.bh_base.specs.Steps.{Step}
use Rattle.bh_base.specs.Batches.{BatchView, Puts}
use Rattle.bh_base.proofs.Putting.{puts_none, puts_on, puts_as}
use Rattle.bh_text.specs.Showing.{filled, unfilled}
use Rattle.bh_text.proofs.Sections.{joined-append}
use Rattle.bh_text.proofs.Cutting.{one_line, lines_on, parts}

-- The lines of what stands before were put; these bytes wait, and the rest is to come.
pub record FilledSo {S : Type 0} (step : S → Step → S → Type 0) (s : S) (b : BatchView) (bytes waiting rest : List ℕ) (t : S) (c : BatchView) : Type 0 where
  pub done : List ℕ
  pub turns : ℕ
  pub size : length done ≡ turns * 32
  pub split : bytes ≡ done ++ (waiting ++ rest)
  pub few : length waiting < 32
  pub put : Puts step s b (joined (content_lines done)) t c

module _ {S : Type 0} {step : S → Step → S → Type 0} where
  pub filling_starts : (s : S) (b : BatchView) (waiting bytes : List ℕ) → length waiting < 32 → FilledSo step s b (waiting ++ bytes) waiting bytes s b
  filling_starts s b waiting bytes few = record { done = []; turns = 0; size = refl; split = refl; few = few; put = puts_none }

  pub filled_on : {s t u : S} {b c d : BatchView} {bytes waiting rest : List ℕ} (n : ℕ) (front back line none : List ℕ) → front ≡ take n rest → back ≡ drop n rest → line ≡ waiting ++ front
      → length line ≡ 32 → none ≡ [] → Puts step t c (joined (content line ∷ [])) u d → FilledSo step s b bytes waiting rest t c → FilledSo step s b bytes none back u d
  filled_on {waiting = waiting} {rest = rest} n front back line none p q w long e put so = record {
    done = so.done ++ line;
    turns = suc so.turns;
    size = omega (arith, length-append so.done line, so.size, long);
    split = so.split
        ∙ ap (λ (l : List ℕ). so.done ++ l) (ap (λ (l : List ℕ). waiting ++ l) (sym (take-append-drop n rest) ∙ ap₂ (λ (k l : List ℕ). k ++ l) (sym p) (sym q)) ∙ sym (append_assoc waiting front back) ∙ ap (λ (l : List ℕ). l ++ back) (sym w))
        ∙ sym (append_assoc so.done line back) ∙ ap (λ (l : List ℕ). (so.done ++ line) ++ (l ++ back)) (sym e);
    few = omega (arith, ap length e);
    put = puts_as (sym (joined-append (content_lines so.done) (content line ∷ [])) ∙ ap (λ (l : List Line). joined (content_lines so.done ++ l)) (sym (one_line line (omega (arith, long)) (omega (arith, long)))) ∙ ap joined (sym (lines_on so.turns so.done line so.size)))
        (puts_on so.put put);
  }

  pub filling_ends : {s t : S} {b c : BatchView} {bytes waiting rest : List ℕ} → length waiting + length rest < 32 → FilledSo step s b bytes waiting rest t c
      → Puts step s b (joined (content_lines (filled bytes))) t c × (waiting ++ rest ≡ unfilled bytes)
  filling_ends {bytes = bytes} {waiting = waiting} {rest = rest} few so =
      let p = parts so.turns bytes so.done (waiting ++ rest) so.split so.size (omega (arith, length-append waiting rest, few)) in
      (puts_as (ap (λ (l : List ℕ). joined (content_lines l)) p.0) so.put, p.1)
