-- A decoder over pieces, by what completes a message from each of its states.
use Rattle.std.specs.Prelude.{ℕ, ◌≡◌, ◌<◌, ◌≤◌, ◌+◌, List, [], ◌∷◌, ◌++◌, length, take, Some}
use Rattle.bh_spec.specs.declared.Part.{Part}
use Rattle.bh_spec.specs.declared.Omitted.{Omitted}
use Rattle.bh_spec.specs.declared.Refusal.TheVariants.{Dead, Limit, Ended, TooLong}
use Rattle.bh_spec.specs.Bounds.{Bounds, IsWithin, no_bounds}
use Rattle.bh_spec.specs.Messages.{Message}
use Rattle.bh_spec.specs.Texts.{Text}
use Rattle.bh_spec.specs.Pieces.{SomeOf, IsText, CanBecome, IsNext, IsDead, IsLimit}
use Rattle.bh_spec.specs.Answers.{whole, refused, IsAnswer}
use Rattle.bh_spec.specs.Residuals.{IsResidual}
use Rattle.bh_spec.specs.Items.{Item, ending, items, MessageOf}

-- `Rest L v q t`: within the limits L the text t completes a message from the state v, and yields the items q.

-- Of the piece so many bytes are taken from v, and yield the items, to w: what completes a message from v are those bytes and
-- items and then what completes it from w. Something does so within the limits.
pub record Takes {V : Type 0} (Rest : Bounds → V → List Item → Text → Type 0) (L : Bounds) (v : V) (piece : List ℕ) (taken : ℕ)
    (yields : List Item) (w : V) : Type 0 where
  pub inside : taken ≤ length piece
  pub within : IsResidual (Rest L v) (take taken piece) (λ q. yields ++ q) (Rest L w)
  pub anyway : IsResidual (Rest no_bounds v) (take taken piece) (λ q. yields ++ q) (Rest no_bounds w)
  pub goes_on : CanBecome (SomeOf (Rest L w)) []

-- a call with a piece, and the state behind it
pub record Call (V : Type 0) : Type 0 where
  pub piece : List ℕ
  pub taken : ℕ
  pub yields : List Item
  pub behind : V

-- the bytes that the calls took, joined; and what they yielded
abbrev pub bytes_taken : {V : Type 0} → List (Call V) → List ℕ
bytes_taken [] = []
bytes_taken (call ∷ calls) = take call.taken call.piece ++ bytes_taken calls

abbrev pub items_yielded : {V : Type 0} → List (Call V) → List Item
items_yielded [] = []
items_yielded (call ∷ calls) = call.yields ++ items_yielded calls

abbrev pub state_behind : {V : Type 0} → V → List (Call V) → V
state_behind v [] = v
state_behind v (call ∷ calls) = state_behind call.behind calls

-- the calls were made one after the other, and refused nothing
abbrev pub AreTaken : {V : Type 0} → (Bounds → V → List Item → Text → Type 0) → Bounds → V → List (Call V) → Type 0
AreTaken Rest L v [] = Unit {0}
AreTaken Rest L v (call ∷ calls) = Takes Rest L v call.piece call.taken call.yields call.behind × AreTaken Rest L call.behind calls

-- from the state v whole messages are read
pub record IsMessageStart {V : Type 0} (Rest : Bounds → V → List Item → Text → Type 0) (v : V) : Type 0 where
  pub forth : (L : Bounds) (q : List Item) (t : Text) → Rest L v q t → MessageOf L q t
  pub back : (L : Bounds) (q : List Item) (t : Text) → MessageOf L q t → Rest L v q t

-- what may come from a state, within limits
abbrev pub Any : {V : Type 0} → (Bounds → V → List Item → Text → Type 0) → Bounds → V → Text → Type 0
Any Rest L v = SomeOf (Rest L v)

-- ---- the laws

-- What was yielded begins the items of each message that continues the bytes taken, and what completes it is what the state says.
abbrev pub ItemsOfAMessage : {V : Type 0} → (Bounds → V → List Item → Text → Type 0) → Bounds → V → List (Call V) → Type 0
ItemsOfAMessage Rest L v calls = IsResidual (MessageOf L) (bytes_taken calls) (λ q. items_yielded calls ++ q)
    (Rest L (state_behind v calls))

-- However the input was cut into calls, what is said in the end is the answer for it: of a refused byte, whatever follows it; of
-- an end; and of an input that is longer than its limit.
pub record ExactPlace {V : Type 0} (Rest : Bounds → V → List Item → Text → Type 0) (L : Bounds) (v : V) (calls : List (Call V))
    : Type 0 where
  pub dead : (piece after : List ℕ) (offset : ℕ) (part : Part) → IsWithin L.input (length (bytes_taken calls) + offset + 1)
      → IsDead (Any Rest L (state_behind v calls)) (Any Rest no_bounds (state_behind v calls)) [] piece offset part
      → IsAnswer L (bytes_taken calls ++ (piece ++ after)) (refused (Dead (length (bytes_taken calls) + offset) part))
  pub limit : (piece after : List ℕ) (offset : ℕ) (part : Part) → IsWithin L.input (length (bytes_taken calls) + offset + 1)
      → IsLimit (Any Rest L (state_behind v calls)) (Any Rest no_bounds (state_behind v calls)) [] piece offset part
      → IsAnswer L (bytes_taken calls ++ (piece ++ after)) (refused (Limit (length (bytes_taken calls) + offset) part))
  pub too_long : (after : List ℕ) → L.input ≡ Some (length (bytes_taken calls)) → 0 < length after
      → CanBecome (Any Rest L (state_behind v calls)) []
      → IsAnswer L (bytes_taken calls ++ after) (refused (TooLong (length (bytes_taken calls))))
  pub ended : (part : Part) → IsWithin L.input (length (bytes_taken calls)) → (IsText (Any Rest L (state_behind v calls)) [] → ⊥)
      → IsNext (Any Rest L (state_behind v calls)) [] part
      → IsAnswer L (bytes_taken calls) (refused (Ended (length (bytes_taken calls)) part))
  pub finished : (omitted : Omitted) (padding : ℕ) → IsWithin L.input (length (bytes_taken calls))
      → Rest L (state_behind v calls) (ending omitted padding ∷ []) []
      → (m : Message) × (items m omitted padding ≡ items_yielded calls ++ ending omitted padding ∷ [])
      × IsAnswer L (bytes_taken calls) (whole m omitted padding)
