-- What is shown.
use Rattle.std.specs.Prelude.{◌≡◌, ℕ, List, length}
use Rattle.bh_spec.specs.Messages.{Message, IsValid}
use Rattle.bh_spec.specs.Listing.{show}
use Rattle.bh_listing.specs.Shown.{Shown}

-- All bytes show some number of bytes of content, and one alone.
abbrev pub SomeShown : Type 0
SomeShown = (bytes : List ℕ) → (count : ℕ) × Shown bytes count

abbrev pub ShownOnce : Type 0
ShownOnce = (bytes : List ℕ) (m n : ℕ) → Shown bytes m → Shown bytes n → m ≡ n

-- A whole listing shows all of the content.
abbrev pub AllShown : Type 0
AllShown = (m : Message) → IsValid m → Shown (show m) (length m.content)
