-- Lines within limits, line by line.
use Rattle.std.proofs.Common.{◌≡◌, ◌≤◌, ◌<◌, ◌+◌, ◌↔◌, ℕ, Bool, IsTrue, Option, Some, None, List, [], ◌∷◌, ◌++◌, length, drop, slice_get, ap, subst, sym, arith}
use Rattle.std.specs.List.{All}
use Rattle.std.proofs.lemmas.List.{length-append, drop_all}
use Rattle.std.proofs.lemmas.List.Elements.{All-head, All-tail, All-cons, All-nil}
use Rattle.bh_spec.specs.Bounds.{Bounds, IsWithin}
use Rattle.bh_spec.specs.Messages.{Field, Control}
use Rattle.bh_spec.specs.Canonical.{FieldsFit, ControlFits, string, line, lines}
use Rattle.h1_rules.specs.declared.targets.TargetParts.{TargetParts}
use Rattle.h1_rules.specs.Targeted.{control_by}
use Rattle.h1_rules.proofs.Values.{drop_line}

-- a limit that is a number
pub within_at : (o : Option ℕ) (limit n : ℕ) → o ≡ Some limit → IsWithin o n → n ≤ limit
within_at (Some k) limit n e h = let same : k ≡ limit = cc in omega (arith, h, same)
within_at None limit n e h = absurd (cc)

-- within a limit of parts, and with so much room for all
pub record FitIn (part : Option ℕ) (room : ℕ) (fields : List Field) : Type 0 where
  pub names : All (λ (field : Field). IsWithin part (length field.name)) fields
  pub values : All (λ (field : Field). IsWithin part (length field.value)) fields
  pub total : length (lines fields) ≤ room

abbrev NameFits : Option ℕ → Field → Type 0
NameFits part field = IsWithin part (length field.name)

abbrev ValueFits : Option ℕ → Field → Type 0
ValueFits part field = IsWithin part (length field.value)

pub fit_start : (L : Bounds) (room : ℕ) (fields : List Field) → L.section ≡ Some room → FieldsFit L fields ↔ FitIn L.part room fields
fit_start L room fields e =
    let Total : Option ℕ → Type 0 = λ s. IsWithin s (length (lines fields)) in (
      λ h. record { names = h.names; values = h.values; total = subst Total e h.total },
      λ h. record { names = h.names; values = h.values; total = subst Total (sym e) h.total },
    )

long : (field : Field) (rest : List Field) → length (lines (field ∷ rest)) ≡ length (string field.name) + length (string field.value) + length (lines rest)
long field rest = omega (arith, length-append (line field) (lines rest), length-append (string field.name) (string field.value))

-- a line that doesn't fit, or for which there is no room
pub unfit : (part : Option ℕ) (room : ℕ) (fields : List Field) (i : ℕ) (field : Field) → slice_get fields i ≡ Some field
    → (IsWithin part (length field.name) × IsWithin part (length field.value) → ⊥) → FitIn part room (drop i fields) → ⊥
unfit part room fields i field at none h =
    let fit = subst (FitIn part room) (drop_line fields i field at) h in
    none (All-head (NameFits part) field (drop (i + 1) fields) fit.names, All-head (ValueFits part) field (drop (i + 1) fields) fit.values)

pub over : (part : Option ℕ) (room : ℕ) (fields : List Field) (i : ℕ) (field : Field) → slice_get fields i ≡ Some field
    → room < length (string field.name) + length (string field.value) → FitIn part room (drop i fields) → ⊥
over part room fields i field at more h =
    let fit = subst (FitIn part room) (drop_line fields i field at) h in
    omega (arith, fit.total, long field (drop (i + 1) fields))

-- a line that fits
pub fits_on : (part : Option ℕ) (room left : ℕ) (fields : List Field) (i : ℕ) (field : Field) → slice_get fields i ≡ Some field
    → IsWithin part (length field.name) × IsWithin part (length field.value) → left + (length (string field.name) + length (string field.value)) ≡ room
    → FitIn part room (drop i fields) ↔ FitIn part left (drop (i + 1) fields)
fits_on part room left fields i field at both e =
    let rest = drop (i + 1) fields in (
      λ h. let fit = subst (FitIn part room) (drop_line fields i field at) h in record {
        names = All-tail (NameFits part) field rest fit.names;
        values = All-tail (ValueFits part) field rest fit.values;
        total = omega (arith, fit.total, long field rest);
      },
      λ h. subst (FitIn part room) (sym (drop_line fields i field at)) (record {
        names = All-cons (NameFits part) field rest both.0 h.names;
        values = All-cons (ValueFits part) field rest both.1 h.values;
        total = omega (arith, h.total, long field rest);
      }),
    )

-- no line is left
pub none_left : (part : Option ℕ) (room : ℕ) (fields : List Field) (i : ℕ) → length fields ≤ i → FitIn part room (drop i fields)
none_left part room fields i h =
    subst (FitIn part room) (sym (drop_all i fields h)) (record { names = All-nil (NameFits part); values = All-nil (ValueFits part); total = omega arith })

-- ---- control data

pub record PartsFit (part : Option ℕ) (method : List ℕ) (parts : TargetParts) : Type 0 where
  pub method_fits : IsWithin part (length method)
  pub scheme_fits : IsWithin part (length parts.scheme.now)
  pub authority_fits : IsWithin part (length parts.authority.now)
  pub path_fits : IsWithin part (length parts.front.now + length parts.rest.now)

pub control_fit : (L : Bounds) (method : List ℕ) (parts : TargetParts) → PartsFit L.part method parts ↔ ControlFits L (control_by method parts)
control_fit L method parts =
    let Path : ℕ → Type 0 = λ n. IsWithin L.part n in
    let same = length-append parts.front.now parts.rest.now in (
      λ h. record { method = h.method_fits; scheme = h.scheme_fits; authority = h.authority_fits; path = subst Path (sym same) h.path_fits },
      λ h. record { method_fits = h.method; scheme_fits = h.scheme; authority_fits = h.authority; path_fits = subst Path same h.path },
    )
