-- Laws of the answer for an input.
use Rattle.std.specs.Prelude.{ℕ, ◌≡◌, ◌<◌, ◌+◌, List, ◌++◌, length, take}
use Rattle.bh_spec.specs.declared.Part.{Part}
use Rattle.bh_spec.specs.declared.Refusal.TheVariants.{Dead, Limit}
use Rattle.bh_spec.specs.Bounds.{Bounds}
use Rattle.bh_spec.specs.Viable.{IsViable}
use Rattle.bh_spec.specs.Answers.{Answer, refused, IsAnswer}

-- Where bytes are viable, so are those before any of them.
abbrev pub PrefixesAreViable : Type 0
PrefixesAreViable = (L : Bounds) (front back : List ℕ) → IsViable L (front ++ back) → IsViable L front

-- An input has one answer.
abbrev pub OneAnswer : Type 0
OneAnswer = (L : Bounds) (bytes : List ℕ) (a b : Answer) → IsAnswer L bytes a → IsAnswer L bytes b → a ≡ b

-- No input is without an answer.
abbrev pub SomeAnswer : Type 0
SomeAnswer = (L : Bounds) (bytes : List ℕ) → ((a : Answer) → IsAnswer L bytes a → ⊥) → ⊥

-- Whatever follows a refused byte, the answer is the same.
abbrev pub FirstRefusedByte : Type 0
FirstRefusedByte = (L : Bounds) (bytes others : List ℕ) (at : ℕ) (part : Part) → at < length others
    → take (at + 1) others ≡ take (at + 1) bytes
    → (IsAnswer L bytes (refused (Dead at part)) → IsAnswer L others (refused (Dead at part)))
    × (IsAnswer L bytes (refused (Limit at part)) → IsAnswer L others (refused (Limit at part)))
