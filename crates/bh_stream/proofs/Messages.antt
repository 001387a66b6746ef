-- Binary messages as a format: one reading; what a call says of messages by what it says of spellings; and texts of messages that begin
-- with the same bytes have the same content there.
use Rattle.std.proofs.Common.{◌≡◌, ◌≤◌, ℕ, List, ◌++◌, refl}
use Rattle.bh_spec.specs.Bounds.{Bounds}
use Rattle.bh_spec.specs.Messages.{Message}
use Rattle.bh_spec.specs.Texts.{Text, bytes_of}
use Rattle.bh_spec.specs.Pieces.{SomeOf}
use Rattle.bh_spec.specs.Viable.{IsMessageText}
use Rattle.bh_spec.specs.Items.{items}
use Rattle.bh_spec.proofs.Whole.{one_next, one_reading}
use Rattle.bh_stream.specs.Outputs.{Output, written, shown_in, weighed}
use Rattle.bh_base.specs.Steps.{Step}
use Rattle.bh_stream.specs.Logs.{HasBody, KeepsUp}
use Rattle.bh_stream.specs.Formats.{GivesAlways}
use Rattle.bh_stream.specs.Messages.{Spelled, IsSpelled, items_in, IsTextOf, GivesFronts}
use Rattle.bh_stream.proofs.SameMarks.{same_marks, shows_text}
use Rattle.bh_stream.proofs.Formats.{gives_for, keeps_same}

-- texts of the same bytes are of one message
pub one_spelling : (L : Bounds) (m n : Spelled) (t u : Text) → IsSpelled L m t → IsSpelled L n u → bytes_of t ≡ bytes_of u → items_in m ≡ items_in n
one_spelling L m n t u a b e =
    let same = one_reading L L m.message n.message m.omitted n.omitted m.padding n.padding (bytes_of u) (record { text = t; spelled = a; same = e }) (record { text = u; spelled = b; same = refl }) in
    λ i. items (same.0 i) (same.1 i) (same.2 i)

some_spelled : (L : Bounds) (t : Text) → IsMessageText L t → SomeOf (IsSpelled L) t
some_spelled L t h = (record { message = h.0; omitted = h.1; padding = h.2 }, h.3)

some_message : (L : Bounds) (t : Text) → SomeOf (IsSpelled L) t → IsMessageText L t
some_message L t h = let s = h.0 in (s.message, s.omitted, s.padding, h.1)

-- What was given begins the output, by the spelling of each message.
pub gives_messages : (L : Bounds) (output : Message → List ℕ) (steps : List Step) → GivesAlways (IsSpelled L) (λ s. output s.message) L.input steps → GivesFronts L output steps
gives_messages L output steps gives = gives_for (IsTextOf L) output (λ m t h. (record { message = m; omitted = h.0; padding = h.1 }, h.2, refl)) (λ t h. let s = h.0 in (s.message, (s.omitted, s.padding, h.1))) steps gives

-- The content shown keeps up with that of messages.
pub keeps_messages : (L : Bounds) (Shown : List ℕ → ℕ → Type 0) (most before : ℕ) (steps : List Step) → KeepsUp (SomeOf (IsSpelled L)) Shown most before steps → KeepsUp (IsMessageText L) Shown most before steps
keeps_messages L Shown most before steps h = keeps_same (IsMessageText L) (SomeOf (IsSpelled L)) (some_spelled L) (some_message L) Shown most before steps h

-- Each front of an output that is a text of a message shows the content that it has.
pub shows_front : (L : Bounds) (out : Output) (x : Text) → out ≡ weighed x → IsMessageText L x → (front more : Output) → out ≡ front ++ more → (n : ℕ) → HasBody (IsMessageText L) (written front) n
    → shown_in front ≤ n
shows_front L = shows_text (IsMessageText L) (same_marks (IsMessageText L) (one_next L L))
