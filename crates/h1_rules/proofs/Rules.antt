-- The first rule that holds, rule by rule, and the rules of a section, line by line.
use Rattle.std.proofs.Common.{◌≡◌, ◌↔◌, ◌+◌, ℕ, Bool, true, false, not, ◌||◌, ◌&&◌, nat_eq, IsTrue, Option, Some, None, option_map, List, [], ◌∷◌, ◌++◌, codes, bytes_eq, drop, slice_get, length, ap, sym, ◌∙◌, refl, arith}
use Rattle.std.specs.List.{All, list_any, list_all, find}
use Rattle.std.proofs.lemmas.Bool.{cond-true, cond-false, eqb-true}
use Rattle.std.proofs.lemmas.List.Sums.{AllPass-from_list_all, list_all-from_AllPass}
use Rattle.bh_spec.specs.Bytes.{is_authority, is_text_value}
use Rattle.bh_spec.specs.Messages.{Field, Start, request, response}
use Rattle.bh_spec.specs.declared.NoForm.{NoForm}
use Rattle.bh_spec.specs.declared.NoForm.TheVariants as no
use Rattle.h1_spec.specs.Cleaning.{values_of}
use Rattle.h1_spec.specs.Framing.{lengths}
use Rattle.h1_spec.specs.Http1Text.{Case, is_host, is_length, is_web, of_fields, of_head, has_bad_value}
use Rattle.h1_spec.specs.Moments.{first_of, alone}
use Rattle.h1_rules.proofs.HopLemmas.{same_answer}
use Rattle.h1_rules.proofs.Values.{drop_line}

-- ---- rules

pub here : (form : NoForm) (holds : Bool) (more : List Case) → holds ≡ true → Some form ≡ first_of ((form, holds) ∷ more)
here form holds more e = sym (ap (option_map (λ (c : Case). c.0)) (cond-true holds (Some (form, holds)) (find (λ (c : Case). c.1) more) e))

pub later : (form : NoForm) (holds : Bool) (more : List Case) → holds ≡ false → first_of more ≡ first_of ((form, holds) ∷ more)
later form holds more e = sym (ap (option_map (λ (c : Case). c.0)) (cond-false holds (Some (form, holds)) (find (λ (c : Case). c.1) more) e))

-- ---- lines

pub any_here : (p : Field → Bool) (lines : List Field) (i : ℕ) (line : Field) → slice_get lines i ≡ Some line → p line ≡ true → list_any p (drop i lines) ≡ true
any_here p lines i line at e = ap (list_any p) (drop_line lines i line at) ∙ ap (λ (b : Bool). b || list_any p (drop (i + 1) lines)) e

pub any_later : (p : Field → Bool) (lines : List Field) (i : ℕ) (line : Field) → slice_get lines i ≡ Some line → p line ≡ false
    → list_any p (drop i lines) ≡ list_any p (drop (i + 1) lines)
any_later p lines i line at e = ap (list_any p) (drop_line lines i line at) ∙ ap (λ (b : Bool). b || list_any p (drop (i + 1) lines)) e

abbrev is_text : Field → Bool
is_text field = list_all is_text_value field.value

pub bad_here : (lines : List Field) (i : ℕ) (line : Field) → slice_get lines i ≡ Some line → is_text line ≡ false → has_bad_value (drop i lines) ≡ true
bad_here lines i line at e = ap has_bad_value (drop_line lines i line at) ∙ ap (λ (b : Bool). not (b && list_all is_text (drop (i + 1) lines))) e

pub bad_later : (lines : List Field) (i : ℕ) (line : Field) → slice_get lines i ≡ Some line → is_text line ≡ true
    → has_bad_value (drop i lines) ≡ has_bad_value (drop (i + 1) lines)
bad_later lines i line at e = ap has_bad_value (drop_line lines i line at) ∙ ap (λ (b : Bool). not (b && list_all is_text (drop (i + 1) lines))) e

-- ---- hosts

-- a host line alone
pub host_alone : (authority value : List ℕ) (b : Bool) → nat_eq (length authority) 0 ≡ true → IsTrue b ↔ All (λ byte. IsTrue (is_authority byte)) value
    → b ≡ is_host authority (value ∷ [])
host_alone [] value b e h =
    same_answer b (list_all is_authority value) (λ t. list_all-from_AllPass is_authority value (h.0 t)) (λ t. h.1 (AllPass-from_list_all is_authority value t))
host_alone (byte ∷ rest) value b e h =
    let none = eqb-true (length (byte ∷ rest)) 0 e in
    absurd (omega arith)

-- ---- what holds where no rule does

rest_free : (form : NoForm) (holds : Bool) (more : List Case) → first_of ((form, holds) ∷ more) ≡ None → (holds ≡ false) × (first_of more ≡ None)
rest_free form true more e = absurd cc
rest_free form false more e = (refl, e)

none_not : (b : Bool) → not b ≡ false → b ≡ true
none_not true e = refl
none_not false e = absurd (cc)

last_free : (front : List Case) (form : NoForm) (holds : Bool) → first_of (front ++ (form, holds) ∷ []) ≡ None → holds ≡ false
last_free [] form holds e = (rest_free form holds [] e).0
last_free (one ∷ front) form holds e = last_free front form holds (rest_free one.0 one.1 (front ++ (form, holds) ∷ []) e).1

-- the content length of a head that may be written
pub length_free : (start : Start) (fields : List Field) → first_of (of_head (alone start) fields) ≡ None → IsTrue (is_length (lengths fields))
length_free (request c) fields e =
    none_not (is_length (lengths fields)) (last_free ((no.Connect, bytes_eq c.method (codes "CONNECT")) ∷ (no.Scheme, not (is_web c.scheme))
    ∷ (of_fields (request c) fields ++ (no.Host, not (is_host c.authority (values_of (codes "host") fields))) ∷ []))
    no.LengthField (not (is_length (lengths fields))) e)
length_free (response interims status) fields e =
    none_not (is_length (lengths fields)) (last_free (of_fields (response [] status) fields) no.LengthField (not (is_length (lengths fields))) e)
