-- Prefixes of viable bytes.
use Rattle.std.proofs.Common.{◌≡◌, ◌≤◌, ◌+◌, ◌-◌, ℕ, List, ◌++◌, take, drop, sym, ap, subst, ◌∙◌, refl, take-append-drop, arith}
use Rattle.std.proofs.Math.Seq.{take-add}
use Rattle.bh_spec.specs.Bounds.{Bounds}
use Rattle.bh_spec.specs.Viable.{IsViable, IsMessageText}
use Rattle.bh_spec.proofs.Pieces.{front_becomes}

pub prefixes_are_viable : (L : Bounds) (front back : List ℕ) → IsViable L (front ++ back) → IsViable L front
prefixes_are_viable L front back h = front_becomes (IsMessageText L) front back (front ++ back) refl h

-- the first bytes of the first bytes
take_less : (m n : ℕ) (bytes : List ℕ) → m ≤ n → take n bytes ≡ take m bytes ++ take (n - m) (drop m bytes)
take_less m n bytes h =
    let sum : n ≡ m + (n - m) = omega arith in
    ap (λ (k : ℕ). take k bytes) sum ∙ take-add m (n - m) bytes

pub viable_less : (L : Bounds) (m n : ℕ) (bytes : List ℕ) → m ≤ n → IsViable L (take n bytes) → IsViable L (take m bytes)
viable_less L m n bytes h v = prefixes_are_viable L (take m bytes) (take (n - m) (drop m bytes)) (subst (IsViable L) (take_less m n bytes h) v)

pub viable_take : (L : Bounds) (m : ℕ) (bytes : List ℕ) → IsViable L bytes → IsViable L (take m bytes)
viable_take L m bytes v = prefixes_are_viable L (take m bytes) (drop m bytes) (subst (IsViable L) (sym (take-append-drop m bytes)) v)
