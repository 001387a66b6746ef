-- The first bytes of a piece.
use Rattle.std.proofs.Common.{◌≡◌, ◌≤◌, ◌<◌, ℕ, List, length, length-take, take, drop, min, arith, sym}
use Rattle.std.proofs.lemmas.List.{take-append-drop}
use Rattle.h1_judge.specs.Judges.{IsFront}

pub front_of : (piece : List ℕ) (n : ℕ) → 1 ≤ n → IsFront piece (take (min n (length piece)) piece)
front_of piece n some =
    let k = min n (length piece) in
    record {
      after = drop k piece;
      split = sym (take-append-drop k piece);
      some = λ h. simp length-take (omega (arith, some, h));
    }
