-- Which items may come from a decoder that keeps limits: those of a valid message within them. It is what a job may rely on.
use Rattle.std.specs.Prelude.{ℕ, ◌≡◌, ◌≤◌, Bool, true, false, List, [], ◌∷◌}
use Rattle.bh_spec.specs.declared.Omitted.TheVariants.{Nothing}
use Rattle.bh_spec.specs.Bounds.{Bounds}
use Rattle.bh_spec.specs.Messages.{Field, IsControl, IsInterim, AreHeaders, AreTrailers}
use Rattle.bh_spec.specs.Canonical.{FieldsFit, ControlFits}
use Rattle.bh_spec.specs.Items.{Item, interim_response, head, content_byte, trailer_section, ending, Head, of_request, of_response}

-- an interim response
pub record InterimComes (L : Bounds) (status : ℕ) (fields : List Field) : Type 0 where
  pub valid : IsInterim (record { status = status; fields = fields })
  pub fits : FieldsFit L fields

-- the control data of a request, or the status of a response
abbrev pub StartComes : Bounds → Head → Type 0
StartComes L (of_request control) = IsControl control × ControlFits L control
StartComes L (of_response status) = (200 ≤ status) × (status ≤ 599)

-- a head; that of a request comes first
pub record HeadComes (L : Bounds) (begun : Bool) (of : Head) (fields : List Field) : Type 0 where
  pub start : StartComes L of
  pub first : (control : _) → of ≡ of_request control → begun ≡ false
  pub valid : AreHeaders fields
  pub fits : FieldsFit L fields

pub record TrailersCome (L : Bounds) (fields : List Field) : Type 0 where
  pub valid : AreTrailers fields
  pub fits : FieldsFit L fields

-- behind the trailer section: the ending of a message that has one
abbrev pub EndComes : List Item → Type 0
EndComes q = (padding : ℕ) × (q ≡ ending Nothing padding ∷ [])

-- behind the head: content, and the trailer section, if it isn't left out
abbrev pub TailComes : Bounds → List Item → Type 0
TailComes L [] = ⊥
TailComes L ((interim_response status fields) ∷ q) = ⊥
TailComes L ((head of fields) ∷ q) = ⊥
TailComes L ((content_byte x) ∷ q) = TailComes L q
TailComes L ((trailer_section fields) ∷ q) = TrailersCome L fields × EndComes q
TailComes L ((ending omitted padding) ∷ q) = (omitted ≡ Nothing → ⊥) × (q ≡ [])

-- before the head, where an interim response came, or none did
abbrev pub MessageComes : Bounds → Bool → List Item → Type 0
MessageComes L begun [] = ⊥
MessageComes L begun ((interim_response status fields) ∷ q) = InterimComes L status fields × MessageComes L true q
MessageComes L begun ((head of fields) ∷ q) = HeadComes L begun of fields × TailComes L q
MessageComes L begun ((content_byte x) ∷ q) = ⊥
MessageComes L begun ((trailer_section fields) ∷ q) = ⊥
MessageComes L begun ((ending omitted padding) ∷ q) = ⊥
