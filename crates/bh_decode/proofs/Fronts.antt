-- What stands at the front of bytes, and what stands behind it.
use Rattle.std.proofs.Common.{◌≡◌, ◌≤◌, ◌+◌, ℕ, List, [], ◌++◌, length, take, drop, refl, sym, ap₂, ◌∙◌, arith, take-append-drop}
use Rattle.std.proofs.Math.Seq.{take-append-add}
use Rattle.std.proofs.lemmas.List.{length-take, length-drop}
use Rattle.bh_spec.specs.Texts.{Text, ◌then◌}
use Rattle.bh_spec.proofs.Marks.{bytes_of-append}
use Rattle.bh_spec.specs.Pieces.{Ends}

pub length_front : (bytes : List ℕ) (n : ℕ) → n ≤ length bytes → length (take n bytes) ≡ n
length_front bytes n h = omega (arith, length-take n bytes, h)

pub split_more : (bytes : List ℕ) (n k : ℕ) → n ≤ length bytes → take (n + k) bytes ≡ take n bytes ++ take k (drop n bytes)
split_more bytes n k h =
    ap₂ (λ (m : ℕ) (xs : List ℕ). take (m + k) xs) (sym (length_front bytes n h)) (sym (take-append-drop n bytes)) ∙ take-append-add (take n bytes) (drop n bytes) k

pub ends_same : (R S : Text → Type 0) → ((t : Text) → R t → S t) → (bytes : List ℕ) (n : ℕ) → Ends R [] bytes n → Ends S [] bytes n
ends_same R S on bytes n h = record {
  within = h.within;
  whole = record { text = h.whole.text; spelled = on h.whole.text h.whole.spelled; same = h.whole.same };
}

pub ends_then : (R S : Text → Type 0) (bytes : List ℕ) (n k : ℕ) → Ends R [] bytes n → Ends S [] (drop n bytes) k → Ends (R then S) [] bytes (n + k)
ends_then R S bytes n k h g = record {
  within = omega (arith, h.within, g.within, length-drop n bytes);
  whole = record {
    text = h.whole.text ++ g.whole.text;
    spelled = (h.whole.text, g.whole.text, h.whole.spelled, g.whole.spelled, refl);
    same = bytes_of-append h.whole.text g.whole.text ∙ ap₂ (λ (x y : List ℕ). x ++ y) h.whole.same g.whole.same ∙ sym (split_more bytes n k h.within);
  };
}
