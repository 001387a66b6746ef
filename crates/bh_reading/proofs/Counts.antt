-- How many field lines a message has that was read within limits, and how much content.
use Rattle.std.proofs.Common.{◌≤◌, ◌^◌, ℕ, List, [], ◌∷◌, length, All, subst, arith}
use Rattle.std.proofs.lemmas.List.{length-append}
use Rattle.std.proofs.lemmas.List.Sums.{sum_by-le}
use Rattle.bh_spec.specs.declared.Omitted.{Omitted}
use Rattle.bh_spec.specs.Bounds.{Bounds, IsWithin}
use Rattle.bh_spec.specs.Integers.{int}
use Rattle.bh_spec.specs.Messages.{Field, Interim, Start, request, response, Message}
use Rattle.bh_spec.specs.Answers.{whole, IsAnswer}
use Rattle.bh_spec.specs.Canonical.{string, line, lines, Fits, FieldsFit, StartFits}
use Rattle.bh_spec.specs.Reports.{interim_lines, line_count}
use Rattle.bh_spec.proofs.Fitting.{fits_where_spelled}
use Rattle.bh_spec.proofs.Contents.{content_long}
use Rattle.bh_spec.proofs.Widths.{int_some}
use Rattle.bh_model.specs.Ranges.{bounds_of, AreInRange, AreLimits}

count_lines : (fields : List Field) → length fields ≤ length (lines fields)
count_lines [] = omega arith
count_lines (f ∷ fields) =
    omega (
      arith,
      count_lines fields,
      length-append (line f) (lines fields),
      length-append (string f.name) (string f.value),
      length-append (int (length f.name)) f.name,
      int_some (length f.name),
    )

-- four numbers in their ranges
module _ (part section interims input : ℕ) (range : AreInRange part section interims input) where
  abbrev L : Bounds
  L = bounds_of part section interims input

  few : (fields : List Field) → FieldsFit L fields → length fields ≤ 1048576
  few fields h = omega (arith, count_lines fields, h.total, range.section_high)

  few_each : (is : List Interim) → All (λ i. FieldsFit L i.fields) is → All (λ i. length i.fields ≤ 1048576) is
  few_each is h = λ k d within. few _ (h k d within)

  few_before : (a : Start) → StartFits L a → interim_lines a ≤ 267386880
  few_before (request c) h = omega arith
  few_before (response is status) h =
      omega (arith, sum_by-le (λ (i : Interim). length i.fields) 1048576 is (few_each is h.1), h.0, range.interims_high)

  few_lines : (m : Message) → Fits L m → line_count m ≤ 2 ^ 40
  few_lines m h = omega (arith, few_before m.start h.start, few m.fields h.fields, few m.trailers h.trailers)

pub few_where_fits : (L : Bounds) → AreLimits L → (m : Message) → Fits L m → line_count m ≤ 2 ^ 40
few_where_fits L limits m h =
    few_lines limits.part limits.section limits.interims limits.input limits.range m (subst (λ (K : Bounds). Fits K m) limits.same h)

pub few_counts : (L : Bounds) → AreLimits L → (m : Message) (o : Omitted) (z : ℕ) (bytes : List ℕ) → IsAnswer L bytes (whole m o z) → (line_count m ≤ 2 ^ 40) × (length m.content ≤ 2 ^ 40)
few_counts L limits m o z bytes answer =
    let short : length bytes ≤ limits.input = subst (λ (K : Bounds). IsWithin K.input (length bytes)) limits.same answer.0 in (
      few_where_fits L limits m (fits_where_spelled L m o z answer.1.text answer.1.spelled),
      omega (arith, content_long L m o z bytes answer.1, short, limits.range.input_high),
    )
