-- A section, line by line.
use Rattle.std.proofs.Common.{◌≡◌, ◌<◌, ◌≤◌, ◌+◌, ◌-◌, arith, ℕ, List, [], ◌∷◌, ◌++◌, length, refl, sym, ap, ◌∙◌, append_assoc}
use Rattle.std.proofs.lemmas.List.{length-append}
use Rattle.bh_spec.specs.Bounds.{Bounds}
use Rattle.bh_spec.specs.Messages.{Field}
use Rattle.bh_spec.specs.Texts.{Text, bytes_of, AreEach}
use Rattle.bh_spec.specs.Sections.{IsLine}
use Rattle.bh_spec.specs.Alive.{SectionRest, LineStep}
use Rattle.bh_spec.proofs.Marks.{bytes_of-append}
use Rattle.bh_spec.proofs.Meeting.{meets_front}
use Rattle.bh_spec.proofs.Sections.{line_agrees, line_nonempty}

nothing_left : (t : Text) (after : List ℕ) → 0 < length t → [] ≡ bytes_of t ++ after → ⊥
nothing_left [] after h e = omega arith
nothing_left (b ∷ t) after h e = cc

-- the lines that are still to come begin with this one
forth : (L : Bounds) (done : List Field) (left : ℕ) (fields : List Field) (f : Field) (t : Text) (after : List ℕ) → IsLine f t
    → (more : List Field) (text : Text) → AreEach IsLine more text → length text ≡ left → bytes_of text ≡ bytes_of t ++ after → fields ≡ done ++ more
    → SectionRest L done left fields (bytes_of t ++ after) → (length t ≤ left) × SectionRest L (done ++ (f ∷ [])) (left - length t) fields after
forth L done left fields f t after line [] text lines fill spelled whole h =
    absurd (nothing_left t after (line_nonempty f t line) (sym (ap bytes_of lines) ∙ spelled))
forth L done left fields f t after line (g ∷ gs) text lines fill spelled whole h =
    let one = meets_front (f ≡ g) t lines.0 after (bytes_of lines.1) (line_agrees f g t lines.0 line lines.2)
    (sym spelled ∙ ap bytes_of lines.4 ∙ bytes_of-append lines.0 lines.1) in
    let long : length text ≡ length lines.0 + length lines.1 = ap length lines.4 ∙ length-append lines.0 lines.1 in
    let same : length t ≡ length lines.0 = ap length one.1 in (
      omega arith,
      record {
        more = gs;
        text = lines.1;
        whole = whole ∙ ap (λ (x : Field). done ++ (x ∷ gs)) (sym one.0) ∙ sym (append_assoc done (f ∷ []) gs);
        lines = lines.3;
        fill = omega arith;
        spelled = sym one.2;
        valid = h.valid;
        names = h.names;
        values = h.values;
      },
    )

back : (L : Bounds) (done : List Field) (left : ℕ) (fields : List Field) (f : Field) (t : Text) (after : List ℕ) → IsLine f t → length t ≤ left
    → SectionRest L (done ++ (f ∷ [])) (left - length t) fields after → SectionRest L done left fields (bytes_of t ++ after)
back L done left fields f t after line room h = record {
  more = f ∷ h.more;
  text = t ++ h.text;
  whole = h.whole ∙ append_assoc done (f ∷ []) h.more;
  lines = (t, h.text, line, h.lines, refl);
  fill = omega (arith, length-append t h.text, h.fill);
  spelled = bytes_of-append t h.text ∙ ap (λ (x : List ℕ). bytes_of t ++ x) h.spelled;
  valid = h.valid;
  names = h.names;
  values = h.values;
}

pub line_step : LineStep
line_step L done left fields f t after line = (
  λ h. forth L done left fields f t after line h.more h.text h.lines h.fill h.spelled h.whole h,
  λ h. back L done left fields f t after line h.0 h.1,
)
