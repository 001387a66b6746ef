-- Pieces that are pushed one after the other, and the answer for the input that they are cut from.
use Rattle.std.specs.Prelude.{ℕ, ◌≡◌, Option, List, [], ◌∷◌, ◌++◌, take}
use Rattle.bh_spec.specs.declared.Omitted.{Omitted}
use Rattle.bh_spec.specs.declared.Refusal.{Refusal}
use Rattle.bh_spec.specs.Answers.{whole, refused, IsAnswer}
use Rattle.bh_spec.specs.Bounds.{Bounds}
use Rattle.bh_spec.specs.Items.{Item, ending, items}
use Rattle.bh_spec.specs.Messages.{Field, Message}
use Rattle.bh_push.specs.declared.decoder.Pushed.TheVariants.{Refused}
use Rattle.bh_push.specs.Pushes.{DecoderView, Finishes, Fails}
use Rattle.bh_push.specs.Hands.{Held, start_held, Handed, Hands}

-- A piece that was pushed: how many bytes of it were taken, what they yielded, and the decoder behind them. Bytes that weren't taken
-- are the front of the next piece.
pub record Push : Type 0 where
  pub piece : List ℕ
  pub taken : ℕ
  pub yields : List Item
  pub behind : Held

-- one behind the other, and nothing was refused
abbrev pub ArePushed : Held → List Push → Type 0
ArePushed v [] = Unit {0}
ArePushed v (p ∷ pushes) = Handed v p.piece p.taken p.yields p.behind × ArePushed p.behind pushes

-- the bytes that were taken, what they yielded, and the decoder behind them
abbrev pub bytes_pushed : List Push → List ℕ
bytes_pushed [] = []
bytes_pushed (p ∷ pushes) = take p.taken p.piece ++ bytes_pushed pushes

abbrev pub items_pushed : List Push → List Item
items_pushed [] = []
items_pushed (p ∷ pushes) = p.yields ++ items_pushed pushes

abbrev pub held_behind : Held → List Push → Held
held_behind v [] = v
held_behind v (p ∷ pushes) = held_behind p.behind pushes

-- What the decoder says behind the pieces is the answer for the input that they are cut from: a refusal of the next piece, whatever
-- follows it, and what the end makes of it. At the end of a message its items are those that were handed out.
pub record AnswersAnyPieces (L : Bounds) (pushes : List Push) (v : Held) : Type 0 where
  pub refuses : (piece after : List ℕ) (r : Refusal) (w : Held) → Hands v piece (Refused r) w
      → IsAnswer L (bytes_pushed pushes ++ (piece ++ after)) (refused r)
  pub ends : (omitted : Omitted) (padding : ℕ) (w : DecoderView) → Finishes v.decoder omitted padding w
      → (m : Message) × (items m omitted padding ≡ items_pushed pushes ++ ending omitted padding ∷ [])
      × IsAnswer L (bytes_pushed pushes) (whole m omitted padding)
  pub fails : (r : Refusal) (w : DecoderView) → Fails v.decoder.refusal v.decoder r w → IsAnswer L (bytes_pushed pushes) (refused r)

-- However an input is cut into pieces, the decoder's answer for them is the answer for the input.
abbrev pub OneAnswerForAnyPieces : Type 0
OneAnswerForAnyPieces = (L : Bounds) (lines : Option (List Field)) (pushes : List Push) → ArePushed (start_held L lines) pushes
    → AnswersAnyPieces L pushes (held_behind (start_held L lines) pushes)
