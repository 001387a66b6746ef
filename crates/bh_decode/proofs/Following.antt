-- Something may follow whatever was read; and what is spelled within the limits is spelled without.
use Rattle.std.proofs.Common.{◌≡◌, ◌<◌, ◌-◌, ℕ, suc, List, [], ◌∷◌, ◌++◌, length, Option, Some, None, IsTrue, refl, ap, arith, inl, inr}
use Rattle.std.proofs.lemmas.Bool.{cases_lt}
use Rattle.std.proofs.lemmas.List.Elements.{All-nil, All-cons}
use Rattle.bh_spec.specs.declared.Part.TheVariants as parts
use Rattle.bh_spec.specs.declared.Form.{Form}
use Rattle.bh_spec.specs.declared.Kind.TheVariants.{Request, Response}
use Rattle.bh_spec.specs.Bounds.{Bounds, IsWithin, no_bounds}
use Rattle.bh_spec.specs.Bytes.{is_token, is_scheme}
use Rattle.bh_spec.specs.Messages.{Field, Control, IsControl, IsWebPath}
use Rattle.bh_spec.specs.Texts.{Text}
use Rattle.bh_control.specs.Control.{ControlOf}
use Rattle.bh_control.specs.Statuses.{StatusOf}
use Rattle.bh_decode.specs.Grammar.{IsRestText, IsAfterStart, IsResponseText, IsAfterFraming, IsFramed, status_left, AfterStatus, IsPaddingText, IsAfterContent, BodyOf}
use Rattle.bh_decode.proofs.Contexts.{Follows}
use Rattle.bh_spec.proofs.Within.{zero_within}
use Rattle.bh_spec.proofs.Limits.{section_anyway, request_anyway}
use Rattle.bh_spec.proofs.Cases.{a_string}
use Rattle.bh_decode.proofs.Grammars.{some_headers, some_rest, some_after_start, some_response}
use Rattle.bh_decode.proofs.Rests.{some_padding}
use Rattle.bh_model.specs.declared.field.Place.TheVariants.{Header, Trailer}
use Rattle.bh_model.specs.declared.field.Place.{Place}
use Rattle.bh_fields.specs.Sections.{SectionOf}
use Rattle.bh_spec.specs.Pieces.{IsText}

-- ---- within the limits, and so without

pub sections_anyway : (L : Bounds) (form : Form) (place : Place) (fields : List Field) (t : Text) → SectionOf L form place fields t → SectionOf no_bounds form place fields t
sections_anyway L form place fields t h = (section_anyway L form fields t h.0, h.1)

pub section_text_anyway : (L : Bounds) (form : Form) (place : Place) (fields : List Field) (bytes : List ℕ) → IsText (SectionOf L form place fields) bytes
    → IsText (SectionOf no_bounds form place fields) bytes
section_text_anyway L form place fields bytes h = record { text = h.text; spelled = sections_anyway L form place fields h.text h.spelled; same = h.same }

pub control_anyway : (L : Bounds) (c : Control) (t : Text) → ControlOf L c t → ControlOf no_bounds c t
control_anyway L c t h = record {
  valid = h.valid;
  spelled = request_anyway L c t h.spelled;
}

pub status_anyway : (left : Option ℕ) (status : ℕ) (t : Text) → StatusOf left status t → StatusOf None status t
status_anyway left status t h = record {
  valid = record { low = h.valid.low; high = h.valid.high; interim = λ e. absurd cc };
  spelled = h.spelled;
}

-- ---- what may follow

-- a request with a method and a scheme of one letter
abbrev least_control : Control
least_control = record { method = 65 ∷ []; scheme = 97 ∷ []; authority = []; path = [] }

least_is_valid : IsControl least_control
least_is_valid = record {
  method = record { nonempty = omega arith; each = All-cons (λ (byte : ℕ). IsTrue (is_token byte)) 65 [] refl (All-nil _) };
  scheme = record {
    letter = (97, [], refl, refl);
    each = All-cons (λ (byte : ℕ). IsTrue (is_scheme byte)) 97 [] refl (All-nil _);
    lower_case = refl;
  };
  authority = All-nil _;
  path = record { each = All-nil _; web = λ w. not_web w };
}
  where
    not_web : IsWebPath least_control least_control.path
    not_web (inl e) = absurd (omega (arith, ap length e))
    not_web (inr e) = absurd (omega (arith, ap length e))

some_control : (L : Bounds) → IsWithin L.part 1 → (t : Text) × ControlOf L least_control t
some_control L one = (
  _,
  record {
    valid = least_is_valid;
    spelled = record {
      scheme = 97 ∷ [];
      same_scheme = refl;
      text = (
        _,
        _,
        a_string parts.MethodLength parts.Method (65 ∷ []) (omega arith),
        (
          _,
          _,
          a_string parts.SchemeLength parts.Scheme (97 ∷ []) (omega arith),
          (
            _,
            _,
            a_string parts.AuthorityLength parts.Authority [] (omega arith),
            a_string parts.PathLength parts.Path [] (omega arith),
            refl,
          ),
          refl,
        ),
        refl,
      );
      method_within = one;
      scheme_within = one;
      authority_within = zero_within L.part;
      path_within = zero_within L.part;
    };
  },
)

pub after_framing : (L : Bounds) → IsWithin L.part 1 → Follows IsFramed (IsAfterFraming L)
after_framing L one (Request, form) t h =
    let c = some_control L one in
    let s = some_after_start L form in
    (c.0 ++ s.0, (least_control, (c.0, s.0, c.1, s.1, refl)))
after_framing L one (Response, form) t h = some_response L form 0 (zero_within L.interims)

pub after_control : (L : Bounds) (form : Form) → Follows (ControlOf L) (λ (c : Control). IsAfterStart L form)
after_control L form c t h = some_after_start L form

pub after_headers : (L : Bounds) (form : Form) → Follows (SectionOf L form Header) (λ (fields : List Field). IsRestText L form)
after_headers L form fields t h = ([], some_rest L form)

pub after_interim : (L : Bounds) (form : Form) (k : ℕ) → IsWithin L.interims (suc k) → Follows (SectionOf L form Header) (λ (fields : List Field). IsResponseText L form (suc k))
after_interim L form k within fields t h = some_response L form (suc k) within

-- an interim status leaves room for its response
pub one_left : (most : Option ℕ) (k status : ℕ) (t : Text) → StatusOf (status_left most k) status t → status < 200 → IsWithin most (suc k)
one_left None k status t h small = tt
one_left (Some most) k status t h small = elim (cases_lt k most) [
  | inl lt ↦ omega (arith, lt)
  | inr ge ↦
      let none : most - k ≡ 0 = omega (arith, ge) in
      let left : status_left (Some most) k ≡ Some 0 = ap (λ (x : ℕ). let y : Option ℕ = Some x in y) none in
      absurd (omega (arith, h.valid.interim left, small))
]

pub after_status : (L : Bounds) (form : Form) (k : ℕ) → Follows (StatusOf (status_left L.interims k)) (AfterStatus L form k)
after_status L form k status t h = elim (cases_lt status 200) [
  | inl small ↦
      let s = some_headers L form in
      let r = some_response L form (suc k) (one_left L.interims k status t h small) in
      (s.0 ++ r.0, inl (small, ([], (s.0, r.0, s.1, r.1, refl))))
  | inr large ↦ let s = some_after_start L form in (s.0, inr (large, s.1))
]

pub after_body : (L : Bounds) (form : Form) → Follows (BodyOf form) (λ (content : List ℕ). IsAfterContent L form)
after_body L form content t h = ([], inl refl)

pub after_trailers : (L : Bounds) (form : Form) → Follows (SectionOf L form Trailer) (λ (fields : List Field). IsPaddingText)
after_trailers L form fields t h = ([], some_padding)
