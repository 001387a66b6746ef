-- Lines that are gathered before a batch gets them.
use Rattle.std.specs.Prelude.{◌≡◌, ◌+◌, ◌<◌, ◌≤◌, ℕ, List, ◌++◌, length}
use Rattle.bh_base.specs.Steps.{Step}
use Rattle.bh_base.specs.Batches.{BatchView, Puts}

-- how many bytes are gathered at most
abbrev pub gathered_room : ℕ
gathered_room = 512

-- The lengths of a line have one byte each, and there is room for it behind what is gathered.
abbrev pub IsGathered : List ℕ → List ℕ → List ℕ → Type 0
IsGathered gathered name value = (length name < 64) × (length value < 64)
    × (length gathered + (2 + length name + length value) ≤ gathered_room)

-- A text was put behind any that stood before. With what is gathered now it is what was gathered, and the bytes.
abbrev pub Gathers : {S : Type 0} → (S → Step → S → Type 0) → S → BatchView → List ℕ → List ℕ → S → BatchView → List ℕ → Type 0
Gathers step s b gathered bytes t c left = (text : List ℕ) × (text ++ left ≡ gathered ++ bytes) × Puts step s b text t c
