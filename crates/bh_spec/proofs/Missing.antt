-- An input that ends where its header section begins.
use Rattle.std.proofs.Common.{◌≡◌, ◌<◌, arith, ℕ, List, [], ◌∷◌, ◌++◌, length, refl, sym, ap, subst, ◌∙◌}
use Rattle.bh_spec.specs.declared.Part.TheVariants as parts
use Rattle.bh_spec.specs.declared.Form.{Form}
use Rattle.bh_spec.specs.declared.Form.TheVariants.{Known}
use Rattle.bh_spec.specs.declared.Kind.TheVariants.{Request}
use Rattle.bh_spec.specs.declared.Omitted.{Omitted}
use Rattle.bh_spec.specs.declared.Omitted.TheVariants.{Both}
use Rattle.bh_spec.specs.Messages.{Message, kind_of}
use Rattle.bh_spec.specs.Texts.{Text, mark, bytes_of}
use Rattle.bh_spec.specs.Sections.{IsSection}
use Rattle.bh_spec.specs.Tails.{IsTail}
use Rattle.bh_spec.specs.Spelling.{IsStartText, framing}
use Rattle.bh_spec.specs.Viable.{SpellsBytes, IsViable, NextPart}
use Rattle.bh_spec.specs.Cases.{get, get_bytes, HeaderSectionMissing}
use Rattle.bh_spec.proofs.Meeting.{meets_front}
use Rattle.bh_spec.proofs.Numbers.{number_meets}
use Rattle.bh_spec.proofs.Sections.{section_nonempty, then_nonempty}
use Rattle.bh_spec.proofs.Whole.{framing_is, start_agrees}
use Rattle.bh_spec.proofs.Marks.{bytes_of-append}
use Rattle.bh_spec.proofs.Within.{no_headers}
use Rattle.bh_spec.proofs.Cases.{valid, one, request_text, request_spelled, get_text, get_spelled}
use Rattle.bh_spec.specs.Bounds.{default_bounds}

abbrev cut : List ℕ
cut = 0x00 ∷ get_bytes

viable : IsViable default_bounds cut
viable = record {
  text = get_text;
  after = 0x00 ∷ [];
  spelled = (get [], Both, 0, get_spelled);
  begins = refl;
}

next : NextPart default_bounds cut parts.SectionLength
next = record {
  before = mark parts.Framing (0x00 ∷ []) ++ request_text;
  byte = 0x00;
  after = [];
  spelled = (get [], Both, 0, get_spelled);
  begins = refl;
}

split : (t x y : Text) → t ≡ x ++ y → bytes_of t ≡ bytes_of x ++ bytes_of y
split t x y e = ap bytes_of e ∙ bytes_of-append x y

no_bytes : (t : Text) → [] ≡ bytes_of t → 0 < length t → ⊥
no_bytes [] e h = omega arith
no_bytes (a ∷ t) e h = cc

unfinished : (m : Message) (o : Omitted) (z : ℕ) → SpellsBytes default_bounds m o z cut → ⊥
unfinished m o z h =
    let u = h.spelled.text in
    let k = framing (kind_of m.start) h.spelled.form in
    let first = mark parts.Framing (0x00 ∷ []) in
    let a = meets_front (0 ≡ k) first u.0 get_bytes (bytes_of u.1) (number_meets parts.Framing 0 k first u.0 (one parts.Framing 0 (omega arith)) u.2) (sym h.same ∙ split h.text u.0 u.1 u.4) in
    let same = framing_is Request (kind_of m.start) Known h.spelled.form a.0 in
    let s = u.3 in
    let start = subst (λ (f : Form). IsStartText default_bounds f m.start s.0) (sym same.1) s.2 in
    let b = meets_front ((get []).start ≡ m.start) request_text s.0 [] (bytes_of s.1)
    (start_agrees default_bounds default_bounds Known (get []).start m.start same.0 (valid [] no_headers).start h.spelled.valid.start request_text s.0 request_spelled start)
    (a.2 ∙ split u.1 s.0 s.1 s.4) in
    no_bytes s.1 b.2
    (then_nonempty (IsSection default_bounds h.spelled.form m.fields) (IsTail default_bounds h.spelled.form m.content m.trailers o z) s.1 (section_nonempty default_bounds h.spelled.form m.fields) s.3)

pub header_section_missing : HeaderSectionMissing
header_section_missing = record { long = refl; seen = omega arith; viable = viable; unfinished = unfinished; next = next }
