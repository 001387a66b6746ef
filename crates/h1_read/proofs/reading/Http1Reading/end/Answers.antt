use Rattle.std.proofs.Common.{◌≡◌, ℕ, [], ◌∷◌, refl, subst}
use Rattle.bh_spec.specs.declared.Omitted.{Omitted}
use Rattle.bh_spec.specs.declared.Omitted.TheVariants.{Nothing}
use Rattle.bh_spec.specs.declared.Summary.{Summary}
use Rattle.bh_spec.specs.Items.{ending}
use Rattle.h1_read.specs.Readings.{View, rest, tells}
use Rattle.h1_read.proofs.reading.Http1Reading.end.Goals as goal

pub returns : goal.returns
returns c =
    let i = c.self.inside in
    let s : Summary = record { kind = i.kind; bytes = i.taken; lines = i.lines; content = i.content; padding = 0; omitted = Nothing } in
    let whole = c.may_end.ensures.whole c.if-not-may_end.false in
    subst (λ (u : View). (omitted : Omitted) × (padding : ℕ) × rest u (ending omitted padding ∷ []) [] × tells u omitted padding s) c.self.view_is
    (whole.0, whole.1, whole.2, refl)
