-- A response up to its final status (RFC 9292, section 3.5).
use Rattle.std.specs.Prelude.{ℕ, ◌≡◌, ◌<◌, ◌≤◌, List, [], length, All, None}
use Rattle.bh_spec.specs.declared.Form.{Form}
use Rattle.bh_spec.specs.declared.Part.TheVariants as parts
use Rattle.bh_spec.specs.Bounds.{Bounds, IsWithin}
use Rattle.bh_spec.specs.Messages.{Interim, IsInterim, IsFinalStatus}
use Rattle.bh_spec.specs.Texts.{Text, IsNumber, ◌then◌, AreEach}
use Rattle.bh_spec.specs.Spelling.{IsInterimText}
use Rattle.bh_model.specs.declared.field.Place.TheVariants.{Header}
use Rattle.bh_fields.specs.Sections.{SectionOf}
use Rattle.bh_spec.specs.Pieces.{Ends}
use Rattle.bh_control.specs.Statuses.{StatusOf}
use Rattle.bh_decode.specs.declared.opening.ResponsePart.{ResponsePart}
use Rattle.bh_decode.specs.declared.opening.ResponsePart.TheVariants as found
use Rattle.bh_decode.specs.Grammar.{status_left}

-- what was read behind so many interim responses: one more, or the final status
abbrev pub ResponsePartIs : Bounds → Form → ℕ → List ℕ → ResponsePart → Type 0
ResponsePartIs L form before bytes (found.Interim interim taken) = (interim.status < 200) × (interim.fields.making ≡ None)
    × Ends (StatusOf (status_left L.interims before) interim.status then SectionOf L form Header interim.fields.lines) [] bytes taken
ResponsePartIs L form before bytes (found.Final status taken) = (200 ≤ status)
    × Ends (StatusOf (status_left L.interims before) status) [] bytes taken

-- these interim responses, and this final status
pub record OpeningOf (L : Bounds) (form : Form) (interims : List Interim) (status : ℕ) (t : Text) : Type 0 where
  pub each : All IsInterim interims
  pub few : IsWithin L.interims (length interims)
  pub final : IsFinalStatus status
  pub spelled : (AreEach (IsInterimText L form) interims then IsNumber parts.Status status) t
