-- What fits the limits of a reader has lengths that integers can hold.
use Rattle.std.proofs.Common.{ℕ, List, subst, arith}
use Rattle.bh_spec.specs.Bounds.{Bounds}
use Rattle.bh_spec.specs.Messages.{Field, Control, Start, request, response, Message}
use Rattle.bh_spec.specs.Canonical.{integers, Fits, FieldsFit, ControlFits, StartFits}
use Rattle.bh_model.specs.Ranges.{bounds_of, AreInRange, AreLimits}

-- four numbers in their ranges
module _ (part section interims input : ℕ) (range : AreInRange part section interims input) where
  abbrev L : Bounds
  L = bounds_of part section interims input

  fields_fit : (fields : List Field) → FieldsFit L fields → FieldsFit integers fields
  fields_fit fields h = record {
    names = λ k d within. omega (arith, h.names k d within, range.part_high);
    values = λ k d within. omega (arith, h.values k d within, range.part_high);
    total = omega (arith, h.total, range.section_high);
  }

  control_fits : (c : Control) → ControlFits L c → ControlFits integers c
  control_fits c h = record {
    method = omega (arith, h.method, range.part_high);
    scheme = omega (arith, h.scheme, range.part_high);
    authority = omega (arith, h.authority, range.part_high);
    path = omega (arith, h.path, range.part_high);
  }

module _ (L : Bounds) (limits : AreLimits L) where
  pub fields_held : (fields : List Field) → FieldsFit L fields → FieldsFit integers fields
  fields_held fields h = fields_fit limits.part limits.section limits.interims limits.input limits.range fields (subst (λ (K : Bounds). FieldsFit K fields) limits.same h)

  pub control_held : (c : Control) → ControlFits L c → ControlFits integers c
  control_held c h = control_fits limits.part limits.section limits.interims limits.input limits.range c (subst (λ (K : Bounds). ControlFits K c) limits.same h)

  start_held : (a : Start) → StartFits L a → StartFits integers a
  start_held (request c) h = control_held c h
  start_held (response interims status) h = (tt, λ k d within. fields_held _ (h.1 k d within))

  pub message_held : (m : Message) → Fits L m → Fits integers m
  message_held m h = record { start = start_held m.start h.start; fields = fields_held m.fields h.fields; trailers = fields_held m.trailers h.trailers }
