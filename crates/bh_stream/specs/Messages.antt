-- Binary messages as a format: its things are the spellings of messages.
use Rattle.std.specs.Prelude.{ℕ, List}
use Rattle.bh_spec.specs.declared.Omitted.{Omitted}
use Rattle.bh_spec.specs.Bounds.{Bounds}
use Rattle.bh_spec.specs.Messages.{Message}
use Rattle.bh_spec.specs.Texts.{Text}
use Rattle.bh_spec.specs.Spelling.{Spells}
use Rattle.bh_spec.specs.Items.{Item, items}
use Rattle.bh_base.specs.Steps.{Step}
use Rattle.bh_stream.specs.Decoding.{Rest}
use Rattle.bh_stream.specs.Jobs.{Owing}
use Rattle.bh_stream.specs.Formats.{Knows, ShowsContent, GivesAlways}

-- a message, what is left out of it, and its padding
pub record Spelled : Type 0 where
  pub message : Message
  pub omitted : Omitted
  pub padding : ℕ

abbrev pub IsSpelled : Bounds → Spelled → Text → Type 0
IsSpelled L s t = Spells L s.message s.omitted s.padding t

abbrev pub items_in : Spelled → List Item
items_in s = items s.message s.omitted s.padding

-- a text of this message, with any omission and padding
abbrev pub IsTextOf : Bounds → Message → Text → Type 0
IsTextOf L m t = (omitted : Omitted) × (padding : ℕ) × Spells L m omitted padding t

-- a decoder and a job that know messages, where the output is of the message alone
abbrev pub KnowsMessages : Bounds → (Message → List ℕ) → {V : Type 0} → Rest V → (V → ℕ) → V → Owing → Type 0
KnowsMessages L output rest room v owed = Knows (IsSpelled L) items_in (λ s. output s.message) L.input rest room v owed

-- Of what is owed for a message, each front shows as much content as it has.
abbrev pub ShowsMessages : Bounds → (List ℕ → ℕ → Type 0) → Owing → Type 0
ShowsMessages L Shown owed = ShowsContent (IsSpelled L) items_in Shown owed

-- At every point of the calls what was given begins the output of every message that continues what was taken.
abbrev pub GivesFronts : Bounds → (Message → List ℕ) → List Step → Type 0
GivesFronts L output steps = GivesAlways (IsTextOf L) output L.input steps
