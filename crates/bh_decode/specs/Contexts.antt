-- What may follow behind bytes that were read.
use Rattle.std.specs.Prelude.{ℕ, ◌≤◌, List, ◌++◌, length}
use Rattle.bh_spec.specs.declared.Part.{Part}
use Rattle.bh_spec.specs.Texts.{Text}
use Rattle.bh_spec.specs.Pieces.{IsText, CanBecome, IsNext}

-- Behind the bytes done, the rest of a text of M is a text of R, where the rest has so many bytes at least.
pub record Context (M R : Text → Type 0) (done : List ℕ) (least : ℕ) : Type 0 where
  pub into : (x : List ℕ) → CanBecome R x → CanBecome M (done ++ x)
  pub out : (x : List ℕ) → CanBecome M (done ++ x) → CanBecome R x
  pub next : (x : List ℕ) (part : Part) → IsNext R x part → IsNext M (done ++ x) part
  pub text : (x : List ℕ) → least ≤ length x → IsText M (done ++ x) → IsText R x
