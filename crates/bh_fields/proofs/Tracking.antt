-- Sections of a place have one form, and a reader that knows what may follow knows what a byte makes of it.
use Rattle.std.proofs.Common.{◌≡◌, ℕ, List, [], ◌∷◌, ◌++◌, All, refl, sym, subst, ◌∙◌}
use Rattle.bh_spec.specs.declared.Form.{Form}
use Rattle.bh_spec.specs.declared.Part.{Part}
use Rattle.bh_spec.specs.Bounds.{Bounds}
use Rattle.bh_spec.specs.Messages.{Field}
use Rattle.bh_spec.specs.Texts.{Text, bytes_of}
use Rattle.bh_spec.specs.Pieces.{SomeOf, CanBecome, IsNext}
use Rattle.bh_spec.proofs.Meeting.{Meets, meets_map, meets_one}
use Rattle.bh_spec.proofs.Agreement.{Agree}
use Rattle.bh_spec.proofs.Pieces.{IsOnce, one_next}
use Rattle.bh_spec.proofs.Sections.{IsNamed, section_agrees}
use Rattle.bh_spec.proofs.Whole.{headers_named, trailers_named}
use Rattle.bh_model.specs.declared.field.Place.{Place}
use Rattle.bh_model.specs.declared.field.Place.TheVariants.{Header, Trailer}
use Rattle.bh_model.specs.Rules.{AreLines}
use Rattle.bh_spec.specs.Residuals.{IsResidual}
use Rattle.bh_spec.proofs.Residuals.{residual_step, residual_on, same_of, once_behind}
use Rattle.bh_fields.specs.Sections.{SectionOf, IsSectionText}
use Rattle.bh_fields.specs.Laws.{OneSection, OneNextPart}
use Rattle.bh_fields.specs.Bytewise.{Steps, HasNone, HasSome, HasFirst, IsLeft}

pub lines_named : (place : Place) (fields : List Field) → AreLines place fields → All IsNamed fields
lines_named Header fields h = headers_named fields h
lines_named Trailer fields h = trailers_named fields h

pub sections_meet : (K L : Bounds) (form : Form) (place : Place) (fs gs : List Field) (t u : Text) → SectionOf K form place fs t → SectionOf L form place gs u
    → Meets ⊥ (fs ≡ gs) t u
sections_meet K L form place fs gs t u a b =
    section_agrees K L form fs gs (lines_named place fs a.1) (lines_named place gs b.1) t u a.0 b.0

pub sections_once : (K L : Bounds) (form : Form) (place : Place) → Agree ⊥ (Unit {0}) (IsSectionText K form place) (IsSectionText L form place)
sections_once K L form place t u a b = meets_map ⊥ (a.0 ≡ b.0) (Unit {0}) t u (λ e. tt) (sections_meet K L form place a.0 b.0 t u a.1 b.1)

-- ---- what is left of sections

-- no text of what is left begins another
pub left_once : (form : Form) (place : Place) (R : Bounds → List Field → Text → Type 0) → IsLeft form place R → (L : Bounds) → IsOnce (SomeOf (R L))
left_once form place R h L = once_behind (SectionOf L form place) h.0 (λ fields. fields) (R L) (h.1 L) (sections_once L L form place)

first_next : (form : Form) (place : Place) (R : Bounds → List Field → Text → Type 0) (h : IsLeft form place R) (L : Bounds) (part : Part) (fields : List Field) (byte : ℕ) (t : Text)
    → R L fields ((part, byte) ∷ t) → IsNext (IsSectionText L form place) (h.0 ++ []) part
first_next form place R h L part fields byte t r =
    ((same_of (SectionOf L form place) h.0 (λ fields. fields) (R L) (h.1 L)).next [] part).1
    (record { before = []; byte = byte; after = t; spelled = (fields, r); begins = refl })

-- whatever the limits, the first byte of what is left has one part
pub left_part : (form : Form) (place : Place) (R : Bounds → List Field → Text → Type 0) → IsLeft form place R → (K : Bounds) (part : Part) → HasFirst R K part
    → (L : Bounds) (byte : ℕ) (fields : List Field) (other : Part) (t : Text) → R L fields ((other, byte) ∷ t) → other ≡ part
left_part form place R h K part first L byte fields other t r =
    one_next (Unit {0}) (IsSectionText L form place) (IsSectionText K form place) (sections_once L K form place) (h.0 ++ []) other part
    (first_next form place R h L other fields byte t r)
    (first_next form place R h K part first.1.fields first.0 first.1.after first.1.rest)

pub steps_leave : (form : Form) (place : Place) (R S : Bounds → List Field → Text → Type 0) → IsLeft form place R → (K : Bounds) (part : Part) (byte : ℕ) → HasFirst R K part
    → Steps R S part byte → (L : Bounds) → IsResidual (R L) (byte ∷ []) (λ fields. fields) (S L)
steps_leave form place R S h K part byte first s L =
    residual_step (R L) part byte (λ fields. fields) (S L)
    (record {
      part_is = λ fields other t r. left_part form place R h K part first L byte fields other t r;
      forth = λ fields t r. (fields, refl, s.forth L fields t r);
      back = λ fields t r. s.back L fields t r;
    })

pub left_step : (form : Form) (place : Place) (R S : Bounds → List Field → Text → Type 0) → IsLeft form place R → (K : Bounds) (part : Part) (byte : ℕ) → HasFirst R K part
    → Steps R S part byte → IsLeft form place S
left_step form place R S h K part byte first s = (
  h.0 ++ byte ∷ [],
  λ L. residual_on (SectionOf L form place) h.0 (λ fields. fields) (R L) (byte ∷ []) (λ fields. fields) (S L) (h.1 L) (steps_leave form place R S h K part byte first s L),
)

-- a byte that nothing continues, and one that something does
pub none_goes_on : (form : Form) (place : Place) (R : Bounds → List Field → Text → Type 0) → IsLeft form place R → (K : Bounds) (part : Part) (byte : ℕ) → HasFirst R K part
    → (L : Bounds) → HasNone R L part byte → CanBecome (SomeOf (R L)) (byte ∷ []) → ⊥
none_goes_on form place R h K part byte first L none c = at c.text c.spelled.1 c.begins
  where
    at : (t : Text) → R L c.spelled.0 t → bytes_of t ≡ (byte ∷ []) ++ c.after → ⊥
    at [] r e = absurd cc
    at ((other, value) ∷ t) r e =
        let same : value ≡ byte = cc in
        let here : R L c.spelled.0 ((other, byte) ∷ t) = subst (λ (v : ℕ). R L c.spelled.0 ((other, v) ∷ t)) same r in
        let named : other ≡ part = left_part form place R h K part first L byte c.spelled.0 other t here in
        none c.spelled.0 t (subst (λ (p : Part). R L c.spelled.0 ((p, byte) ∷ t)) named here)

pub some_goes_on : (R : Bounds → List Field → Text → Type 0) (L : Bounds) (part : Part) (byte : ℕ) → HasSome R L part byte → CanBecome (SomeOf (R L)) (byte ∷ [])
some_goes_on R L part byte s = record { text = (part, byte) ∷ s.after; after = bytes_of s.after; spelled = (s.fields, s.rest); begins = refl }

-- ---- the laws of sections as a whole

pub one_section : OneSection
one_section K L form place fields others bytes g h =
    meets_one ⊥ (fields ≡ others) g.text h.text (sections_meet K L form place fields others g.text h.text g.spelled h.spelled) (g.same ∙ sym h.same)

pub one_next_part : OneNextPart
one_next_part K L form place bytes p q g h =
    one_next (Unit {0}) (IsSectionText K form place) (IsSectionText L form place) (sections_once K L form place) bytes p q g h
