-- The body by the answers about the coding and the length.
use Rattle.std.proofs.Common.{◌≡◌, ◌≤◌, ℕ, Bool, true, false, cond, IsTrue, ◌&&◌, Option, Some, None, is_some, ◌⊎◌, leb, List, [], ◌∷◌, length, ap, ap₂, sym, ◌∙◌, refl, inl, inr, arith}
use Rattle.std.proofs.lemmas.Bool.{false≢true, leb-true}
use Rattle.std.specs.List.{list_all}
use Rattle.std.specs.Str.Parse.{digits_value}
use Rattle.std.proofs.lemmas.Bool.{cond-true, cond-false}
use Rattle.std.proofs.lemmas.List.Sums.{AllPass-from_list_all}
use Rattle.bh_spec.specs.Bytes.{is_digit}
use Rattle.bh_spec.specs.Messages.{Field, Start, request, response}
use Rattle.bh_model.specs.Values.{status_in}
use Rattle.h1_spec.specs.declared.Framing1.{Framing1}
use Rattle.h1_spec.specs.declared.Framing1.TheVariants.{Empty, Counted, Chunked, ToEnd}
use Rattle.h1_spec.specs.Heads.{StartLine, request_line, status_line}
use Rattle.h1_spec.specs.Framing.{codings, lengths, IsLength, IsCounted, is_bodyless, body_by, framing}
use Rattle.h1_spec.specs.Http1Text.{is_length, framing_by}
use Rattle.h1_spec.specs.Moments.{announced}
use Rattle.h1_spec.proofs.Cases.{length_test}
use Rattle.h1_rules.specs.Framed.{IsCodingAnswer, IsLengthAnswer, status_said, is_empty_by, unsaid, said_by}

-- ---- what a head says

pub body_said : (f : Framing1) (fields : List Field) (coded : Bool) (many : Option ℕ) → IsCodingAnswer fields (Some coded) → IsLengthAnswer fields (Some many)
    → said_by f coded many ≡ body_by f (codings fields) (lengths fields)
body_said f fields true many c l = ap (λ (cs : List (List ℕ)). body_by f cs (lengths fields)) (sym c.1.1)
body_said f fields false (Some n) c l =
    ap Counted l.3 ∙ ap₂ (λ (cs ls : List (List ℕ)). body_by f cs ls) (sym c) (sym l.1)
body_said f fields false None c l = ap₂ (λ (cs ls : List (List ℕ)). body_by f cs ls) (sym c) (sym l)

pub framed_empty : (to_head : Bool) (start : StartLine) (fields : List Field) (status : Option ℕ) → status_said start ≡ status → is_empty_by to_head status ≡ true
    → Empty ≡ framing to_head (record { start = start; fields = fields })
framed_empty to_head (request_line method target) fields status e h = absurd (false≢true (ap (is_empty_by to_head) e ∙ h))
framed_empty to_head (status_line s) fields status e h = sym (cond-true (is_bodyless to_head s) _ _ (ap (is_empty_by to_head) e ∙ h))

pub framed : (to_head : Bool) (start : StartLine) (fields : List Field) (status : Option ℕ) (coded : Bool) (many : Option ℕ) → status_said start ≡ status
    → is_empty_by to_head status ≡ false → IsCodingAnswer fields (Some coded) → IsLengthAnswer fields (Some many)
    → said_by (unsaid status) coded many ≡ framing to_head (record { start = start; fields = fields })
framed to_head (request_line method target) fields status coded many e h c l =
    ap (λ (s : Option ℕ). said_by (unsaid s) coded many) (sym e) ∙ body_said Empty fields coded many c l
framed to_head (status_line s) fields status coded many e h c l =
    ap (λ (o : Option ℕ). said_by (unsaid o) coded many) (sym e) ∙ body_said ToEnd fields coded many c l
    ∙ sym (cond-false (is_bodyless to_head s) _ _ (ap (is_empty_by to_head) e ∙ h))

-- ---- what a head announces

pub announced_empty : (to_head : Bool) (start : Start) (fields : List Field) (status : Option ℕ) → status_in start ≡ status → is_empty_by to_head status ≡ true
    → Empty ≡ announced to_head start fields
announced_empty to_head (request control) fields status e h = absurd (false≢true (ap (is_empty_by to_head) e ∙ h))
announced_empty to_head (response interims s) fields status e h = sym (cond-true (is_bodyless to_head s) _ _ (ap (is_empty_by to_head) e ∙ h))

not_empty : (to_head : Bool) (start : Start) (fields : List Field) (status : Option ℕ) → status_in start ≡ status → is_empty_by to_head status ≡ false
    → framing_by (lengths fields) false ≡ announced to_head start fields
not_empty to_head (request control) fields status e h = refl
not_empty to_head (response interims s) fields status e h = sym (cond-false (is_bodyless to_head s) _ _ (ap (is_empty_by to_head) e ∙ h))

pub announced_counted : (to_head : Bool) (start : Start) (fields : List Field) (status : Option ℕ) (n : ℕ) → status_in start ≡ status → is_empty_by to_head status ≡ false
    → IsLengthAnswer fields (Some (Some n)) → Counted n ≡ announced to_head start fields
announced_counted to_head start fields status n e h l =
    ap Counted l.3 ∙ ap (λ (ls : List (List ℕ)). framing_by ls false) (sym l.1) ∙ not_empty to_head start fields status e h

pub announced_chunked : (to_head : Bool) (start : Start) (fields : List Field) (status : Option ℕ) → status_in start ≡ status → is_empty_by to_head status ≡ false
    → lengths fields ≡ [] → Chunked ≡ announced to_head start fields
announced_chunked to_head start fields status e h l = ap (λ (ls : List (List ℕ)). framing_by ls false) (sym l) ∙ not_empty to_head start fields status e h

-- ---- a length, by its test

and_parts : (a b : Bool) → a && b ≡ true → (a ≡ true) × (b ≡ true)
and_parts true b e = (refl, e)
and_parts false b e = absurd (false≢true e)

pub tested : (value : List ℕ) → is_length (value ∷ []) ≡ true → IsLength value
tested value e =
    let some = and_parts (leb 1 (length value)) (leb (length value) 18 && list_all is_digit value) e in
    let few = and_parts (leb (length value) 18) (list_all is_digit value) some.1 in
    record { some = leb-true 1 (length value) some.0; few = leb-true (length value) 18 few.0; each = AllPass-from_list_all is_digit value few.1 }

counted : (values : List (List ℕ)) → is_length values ≡ true → (values ≡ []) ⊎ ((value : List ℕ) × (values ≡ value ∷ []) × IsLength value)
counted [] e = inl refl
counted (value ∷ []) e = inr (value, refl, tested value e)
counted (value ∷ other ∷ more) e = absurd (false≢true e)

-- where the test holds, there is an answer
pub some_length : (fields : List Field) → IsTrue (is_length (lengths fields)) → IsLengthAnswer fields None → ⊥
some_length fields e h = h (counted (lengths fields) e)

pub length_says : (fields : List Field) (answer : Option (Option ℕ)) → IsLengthAnswer fields answer → is_some answer ≡ is_length (lengths fields)
length_says fields None h = by_test (is_length (lengths fields)) refl
  where
    by_test : (b : Bool) → is_length (lengths fields) ≡ b → false ≡ is_length (lengths fields)
    by_test true e = absurd (some_length fields e h)
    by_test false e = sym e
length_says fields (Some None) h = sym (ap is_length h)
length_says fields (Some (Some n)) h = sym (ap is_length h.1 ∙ length_test h.0 h.2)
