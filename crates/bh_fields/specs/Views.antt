-- What a contract sees of a reader of sections, and what is known of it.
use Rattle.std.specs.Prelude.{ℕ, ◌≡◌, List, [], ◌∷◌, None}
use Rattle.bh_spec.specs.Bounds.{Bounds, no_bounds}
use Rattle.bh_fields.specs.declared.walk.Walk.{Walk}
use Rattle.bh_fields.specs.declared.walk.Phase.{Phase}
use Rattle.bh_spec.specs.declared.Judged.{Judged}
use Rattle.bh_spec.specs.declared.Judged.TheVariants as judged
use Rattle.bh_spec.specs.Pieces.{SomeOf, CanBecome}
use Rattle.bh_spec.specs.Residuals.{IsResidual}
use Rattle.bh_spec.specs.Readings.{reading, whole, refused}
use Rattle.bh_fields.specs.Middle.{SectionView, Rest, stage_of, line_begun}
use Rattle.bh_fields.specs.Bytewise.{IsLeft}
use Rattle.bh_fields.specs.Points.{Point, point_of, RestOf, IsSized}
use Rattle.bh_fields.specs.States.{ReadingAt}

abbrev pub view_at : Phase → Point → SectionView
view_at phase p = record {
  limits = p.limits;
  form = p.form;
  place = p.place;
  stage = stage_of phase;
  phase = phase;
  total = p.total;
  used = p.used;
  number = p.number;
  lines = p.fields.lines;
  line = line_begun p.fields.making;
}

abbrev pub view_of : Walk → SectionView
view_of w = view_at w.phase (point_of w)

-- Some bytes lead to what is stored: what completes it is what is left of sections behind them. No reader keeps them.
pub record IsSoundAt (phase : Phase) (p : Point) : Type 0 where
  pub sized : IsSized p
  pub known : stage_of phase ≡ reading → ReadingAt phase p
  pub idle : stage_of phase ≡ whole → p.fields.making ≡ None
  pub left : stage_of phase ≡ reading → IsLeft p.form p.place (RestOf phase p)

abbrev pub IsSound : Walk → Type 0
IsSound w = IsSoundAt w.phase (point_of w)

-- the limits, the form and the place stay
pub record IsSameSection (v w : SectionView) : Type 0 where
  pub limits : w.limits ≡ v.limits
  pub form : w.form ≡ v.form
  pub place : w.place ≡ v.place

-- behind the bytes exactly what completes w completes v, within any limits
abbrev pub Leads : SectionView → List ℕ → SectionView → Type 0
Leads v bytes w = (L : Bounds) → IsResidual (Rest L v) bytes (λ fields. fields) (Rest L w)

abbrev pub GoesOnWith : Bounds → SectionView → ℕ → Type 0
GoesOnWith L v byte = CanBecome (SomeOf (Rest L v)) (byte ∷ [])

-- what a byte makes of a reader
abbrev pub Takes : Judged → SectionView → ℕ → SectionView → Type 0
Takes judged.More v byte w = IsSameSection v w × (w.stage ≡ reading) × Leads v (byte ∷ []) w
Takes judged.Whole v byte w = IsSameSection v w × (w.stage ≡ whole) × Leads v (byte ∷ []) w × Rest w.limits w w.lines []
Takes judged.Limit v byte w = IsSameSection v w × (w.stage ≡ refused) × (GoesOnWith v.limits v byte → ⊥) × GoesOnWith no_bounds v byte
Takes judged.Dead v byte w = IsSameSection v w × (w.stage ≡ refused) × (GoesOnWith v.limits v byte → ⊥) × (GoesOnWith no_bounds v byte → ⊥)
