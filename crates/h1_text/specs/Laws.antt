-- What is written for the items of a message is its text.
use Rattle.std.specs.Prelude.{ℕ, ◌≡◌, Bool}
use Rattle.bh_spec.specs.declared.Omitted.{Omitted}
use Rattle.bh_spec.specs.Messages.{Message}
use Rattle.bh_spec.specs.Items.{items}
use Rattle.h1_spec.specs.Marks.{marked_text}
use Rattle.h1_spec.specs.Laws.{LeavesOut}
use Rattle.bh_stream.specs.Outputs.{weighed}
use Rattle.h1_text.specs.Owed.{at_start, owed}

-- At the start the text of the message is owed, with its marks, whatever it leaves out and however long its padding is.
abbrev pub OwesTheText : Type 0
OwesTheText = (to_head : Bool) (m : Message) (omitted : Omitted) (padding : ℕ) → LeavesOut m omitted
    → owed to_head at_start (items m omitted padding) ≡ weighed (marked_text to_head m)
