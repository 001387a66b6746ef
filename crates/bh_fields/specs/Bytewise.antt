-- What a byte makes of what may follow, within any limits. `R L fields t`: within L, t may follow, and the fields are then these.
use Rattle.std.specs.Prelude.{ℕ, List, ◌∷◌}
use Rattle.bh_spec.specs.declared.Form.{Form}
use Rattle.bh_spec.specs.declared.Part.{Part}
use Rattle.bh_spec.specs.Bounds.{Bounds}
use Rattle.bh_spec.specs.Messages.{Field}
use Rattle.bh_spec.specs.Texts.{Text}
use Rattle.bh_model.specs.declared.field.Place.{Place}
use Rattle.bh_spec.specs.Residuals.{IsResidual}
use Rattle.bh_fields.specs.Sections.{SectionOf}

-- behind the byte exactly S follows
pub record Steps (R S : Bounds → List Field → Text → Type 0) (part : Part) (byte : ℕ) : Type 0 where
  pub forth : (L : Bounds) (fields : List Field) (t : Text) → R L fields ((part, byte) ∷ t) → S L fields t
  pub back : (L : Bounds) (fields : List Field) (t : Text) → S L fields t → R L fields ((part, byte) ∷ t)

-- the same follows, in other words
pub record AreSame (R S : Bounds → List Field → Text → Type 0) : Type 0 where
  pub forth : (L : Bounds) (fields : List Field) (t : Text) → R L fields t → S L fields t
  pub back : (L : Bounds) (fields : List Field) (t : Text) → S L fields t → R L fields t

-- nothing with the byte follows
abbrev pub HasNone : (Bounds → List Field → Text → Type 0) → Bounds → Part → ℕ → Type 0
HasNone R L part byte = (fields : List Field) (t : Text) → R L fields ((part, byte) ∷ t) → ⊥

-- something with the byte follows
pub record HasSome (R : Bounds → List Field → Text → Type 0) (L : Bounds) (part : Part) (byte : ℕ) : Type 0 where
  pub fields : List Field
  pub after : Text
  pub rest : R L fields ((part, byte) ∷ after)

-- something of the part follows
abbrev pub HasFirst : (Bounds → List Field → Text → Type 0) → Bounds → Part → Type 0
HasFirst R L part = (byte : ℕ) × HasSome R L part byte

-- R is what is left of sections behind some bytes
abbrev pub IsLeft : Form → Place → (Bounds → List Field → Text → Type 0) → Type 0
IsLeft form place R = (bytes : List ℕ) × ((L : Bounds) → IsResidual (SectionOf L form place) bytes (λ fields. fields) (R L))
