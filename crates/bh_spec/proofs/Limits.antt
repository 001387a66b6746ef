-- Without limits everything is still spelled.
use Rattle.std.proofs.Common.{ℕ, List, [], ◌∷◌}
use Rattle.bh_spec.specs.declared.Form.{Form}
use Rattle.bh_spec.specs.declared.Form.TheVariants.{Known, Indeterminate}
use Rattle.bh_spec.specs.declared.Omitted.{Omitted}
use Rattle.bh_spec.specs.declared.Omitted.TheVariants.{Nothing, Trailers, Both}
use Rattle.bh_spec.specs.Bounds.{Bounds, no_bounds}
use Rattle.bh_spec.specs.Messages.{Field, Control, Interim, Start, request, response}
use Rattle.bh_spec.specs.Texts.{Text, AreEach}
use Rattle.bh_spec.specs.Sections.{IsLinesWithin, IsSection}
use Rattle.bh_spec.specs.Tails.{IsTail}
use Rattle.bh_spec.specs.Spelling.{IsRequestControl, IsInterimText, IsStartText}
use Rattle.bh_spec.specs.Laws.{WithoutLimits}

lines_anyway : (L : Bounds) (fs : List Field) (t : Text) → IsLinesWithin L fs t → IsLinesWithin no_bounds fs t
lines_anyway L fs t h = record { lines = h.lines; total = tt; names = λ k d i. tt; values = λ k d i. tt }

pub section_anyway : (L : Bounds) (form : Form) (fs : List Field) (t : Text) → IsSection L form fs t → IsSection no_bounds form fs t
section_anyway L Known fs t h = (h.0, lines_anyway L fs h.0 h.1, h.2)
section_anyway L Indeterminate fs t h = (h.0, h.1, lines_anyway L fs h.0 h.2, h.3, h.4)

interims : (L : Bounds) (form : Form) (is : List Interim) (t : Text) → AreEach (IsInterimText L form) is t → AreEach (IsInterimText no_bounds form) is t
interims L form [] t h = h
interims L form (i ∷ is) t h =
    (h.0, h.1, (h.2.0, h.2.1, h.2.2, section_anyway L form i.fields h.2.1 h.2.3, h.2.4), interims L form is h.1 h.3, h.4)

pub request_anyway : (L : Bounds) (c : Control) (t : Text) → IsRequestControl L c t → IsRequestControl no_bounds c t
request_anyway L c t h = record {
  scheme = h.scheme;
  same_scheme = h.same_scheme;
  text = h.text;
  method_within = tt;
  scheme_within = tt;
  authority_within = tt;
  path_within = tt;
}

start : (L : Bounds) (form : Form) (a : Start) (t : Text) → IsStartText L form a t → IsStartText no_bounds form a t
start L form (request c) t h = request_anyway L c t h
start L form (response is s) t h = (tt, (h.1.0, h.1.1, interims L form is h.1.0 h.1.2, h.1.3, h.1.4))

tail : (L : Bounds) (form : Form) (c : List ℕ) (fs : List Field) (o : Omitted) (z : ℕ) (t : Text) → IsTail L form c fs o z t → IsTail no_bounds form c fs o z t
tail L form c fs Nothing z t h = (h.0, h.1, h.2, (h.3.0, h.3.1, section_anyway L form fs h.3.0 h.3.2, h.3.3, h.3.4), h.4)
tail L form c fs Trailers z t h = h
tail L form c fs Both z t h = h

pub without_limits : WithoutLimits
without_limits L m o z t h =
    let a = h.text.3 in
    let b = a.3 in
    record {
      valid = h.valid;
      form = h.form;
      text = (
        h.text.0,
        h.text.1,
        h.text.2,
        (
          a.0,
          a.1,
          start L h.form m.start a.0 a.2,
          (b.0, b.1, section_anyway L h.form m.fields b.0 b.2, tail L h.form m.content m.trailers o z b.1 b.3, b.4),
          a.4,
        ),
        h.text.4,
      );
    }
