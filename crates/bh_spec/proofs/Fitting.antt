-- What is spelled within limits fits them.
use Rattle.std.proofs.Common.{◌≡◌, ◌≤◌, arith, ℕ, List, [], ◌∷◌, length, All, sym, ap, subst}
use Rattle.std.proofs.lemmas.List.{length-append, length-map}
use Rattle.std.proofs.lemmas.List.Elements.{All-nil, All-cons}
use Rattle.bh_spec.specs.declared.Part.{Part}
use Rattle.bh_spec.specs.declared.Part.TheVariants as parts
use Rattle.bh_spec.specs.declared.Form.{Form}
use Rattle.bh_spec.specs.declared.Form.TheVariants.{Known, Indeterminate}
use Rattle.bh_spec.specs.declared.Omitted.{Omitted}
use Rattle.bh_spec.specs.declared.Omitted.TheVariants.{Nothing, Trailers, Both}
use Rattle.bh_spec.specs.Integers.{vi, int, least_width}
use Rattle.bh_spec.specs.Bounds.{Bounds}
use Rattle.bh_spec.specs.Bytes.{lower}
use Rattle.bh_spec.specs.Messages.{Field, Interim, Start, request, response, Message}
use Rattle.bh_spec.specs.Texts.{Text, IsNumber, AreEach, IsString}
use Rattle.bh_spec.specs.Sections.{IsLine, IsLinesWithin, IsSection}
use Rattle.bh_spec.specs.Tails.{IsTail}
use Rattle.bh_spec.specs.Spelling.{IsInterimText, IsStartText}
use Rattle.bh_spec.specs.Canonical.{string, line, lines, FieldsFit, StartFits}
use Rattle.bh_spec.specs.Laws.{FitsWhereSpelled}
use Rattle.bh_spec.proofs.Widths.{least_is_least, length-vi}
use Rattle.bh_spec.proofs.Marks.{length-mark}
use Rattle.bh_spec.proofs.Within.{zero_within, within_less}

number_least : (part : Part) (n : ℕ) (t : Text) → IsNumber part n t → length (int n) ≤ length t
number_least part n t h =
    omega (arith, ap length h.spelled, length-mark part (vi n h.width), length-vi n h.width, length-vi n (least_width n), least_is_least h.width n h.fits)

string_least : (long part : Part) (x : List ℕ) (t : Text) → IsString long part x t → length (string x) ≤ length t
string_least long part x t h =
    omega (arith, ap length h.4, length-append h.0 h.1, number_least long (length x) h.0 h.2, ap length h.3, length-mark part x, length-append (int (length x)) x)

same_long : (x y : List ℕ) → lower x ≡ y → length (string x) ≡ length (string y)
same_long x y e =
    let n : length x ≡ length y = simp length-map at (ap length e) in
    omega (arith, length-append (int (length x)) x, length-append (int (length y)) y, ap (λ (k : ℕ). length (int k)) n, n)

line_least : (f : Field) (t : Text) → IsLine f t → length (line f) ≤ length t
line_least f t h =
    omega (
      arith,
      ap length h.2.4,
      length-append h.2.0 h.2.1,
      string_least parts.NameLength parts.Name h.0 h.2.0 h.2.2,
      string_least parts.ValueLength parts.Value f.value h.2.1 h.2.3,
      same_long h.0 f.name h.1,
      length-append (string f.name) (string f.value),
    )

lines_least : (fs : List Field) (t : Text) → AreEach IsLine fs t → length (lines fs) ≤ length t
lines_least [] t h = omega (arith, ap length h)
lines_least (f ∷ fs) t h =
    omega (arith, ap length h.4, length-append h.0 h.1, line_least f h.0 h.2, lines_least fs h.1 h.3, length-append (line f) (lines fs))

lines_fit : (L : Bounds) (fs : List Field) (t : Text) → IsLinesWithin L fs t → FieldsFit L fs
lines_fit L fs t h = record { names = h.names; values = h.values; total = within_less L.section (length (lines fs)) (length t) (lines_least fs t h.lines) h.total }

section_fits : (L : Bounds) (form : Form) (fs : List Field) (t : Text) → IsSection L form fs t → FieldsFit L fs
section_fits L Known fs t h = lines_fit L fs h.0 h.1
section_fits L Indeterminate fs t h = lines_fit L fs h.0 h.2

interims_fit : (L : Bounds) (form : Form) (is : List Interim) (t : Text) → AreEach (IsInterimText L form) is t → All (λ i. FieldsFit L i.fields) is
interims_fit L form [] t h = All-nil (λ i. FieldsFit L i.fields)
interims_fit L form (i ∷ is) t h =
    All-cons (λ j. FieldsFit L j.fields) i is (section_fits L form i.fields h.2.1 h.2.3) (interims_fit L form is h.1 h.3)

start_fits : (L : Bounds) (form : Form) (a : Start) (t : Text) → IsStartText L form a t → StartFits L a
start_fits L form (request c) t h = record { method = h.method_within; scheme = h.scheme_within; authority = h.authority_within; path = h.path_within }
start_fits L form (response is s) t h = (h.0, interims_fit L form is h.1.0 h.1.2)

empty_fits : (L : Bounds) (fs : List Field) → fs ≡ [] → FieldsFit L fs
empty_fits L fs e = subst (FieldsFit L) (sym e) record { names = All-nil _; values = All-nil _; total = zero_within L.section }

trailers_fit : (L : Bounds) (form : Form) (m : Message) (o : Omitted) (z : ℕ) (t : Text) → IsTail L form m.content m.trailers o z t → FieldsFit L m.trailers
trailers_fit L form m Nothing z t h = section_fits L form m.trailers h.3.0 h.3.2
trailers_fit L form m Trailers z t h = empty_fits L m.trailers h.0
trailers_fit L form m Both z t h = empty_fits L m.trailers h.1

pub fits_where_spelled : FitsWhereSpelled
fits_where_spelled L m o z t h =
    let after = h.text.3 in
    record {
      start = start_fits L h.form m.start after.0 after.2;
      fields = section_fits L h.form m.fields after.3.0 after.3.2;
      trailers = trailers_fit L h.form m o z after.3.1 after.3.3;
    }
