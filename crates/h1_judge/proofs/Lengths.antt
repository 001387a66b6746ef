-- The length of a body that a head without a fault announces.
use Rattle.std.proofs.Common.{◌≡◌, ◌<◌, ◌≤◌, ℕ, Bool, true, false, cond, not, IsTrue, codes, bytes_eq, Option, Some, None, List, [], ◌∷◌, ◌++◌, refl, sym, subst, arith}
use Rattle.bh_spec.specs.declared.NoForm.{NoForm}
use Rattle.bh_spec.specs.declared.NoForm.TheVariants as no
use Rattle.bh_spec.specs.Messages.{Field, Start, request, response}
use Rattle.bh_spec.specs.Items.{Head, of_request, of_response}
use Rattle.bh_model.specs.Values.{status_in}
use Rattle.h1_spec.specs.declared.Framing1.{Framing1}
use Rattle.h1_spec.specs.declared.Framing1.TheVariants.{Empty, Counted, Chunked, ToEnd}
use Rattle.h1_spec.specs.Cleaning.{values_of}
use Rattle.h1_spec.specs.Framing.{lengths}
use Rattle.h1_spec.specs.Http1Text.{Case, of_head, of_fields, is_web, is_host, is_length, has_no_body, framing_by}
use Rattle.h1_spec.specs.Moments.{announced, first_of}
use Rattle.h1_spec.specs.Http1.{start_of}
use Rattle.h1_rules.proofs.FramingLemmas.{tested}
use Rattle.h1_rules.proofs.Digits.{few_digits}
use Rattle.h1_rules.proofs.Rules.{length_free}
use Rattle.h1_judge.specs.Judges.{IsCounting}

-- the length of a head for which no rule holds
pub length_of : (of : Head) (fields : List Field) → first_of (of_head (start_of of) fields) ≡ None → IsTrue (is_length (lengths fields))
length_of (of_request c) fields e = length_free (request c) fields e
length_of (of_response status) fields e = length_free (response [] status) fields e

framed_counting : (values : List (List ℕ)) → IsTrue (is_length values) → IsCounting (framing_by values false) 0
framed_counting [] h = tt
framed_counting (value ∷ []) h = let l = tested value h in (omega arith, few_digits value l.few l.each)
framed_counting (value ∷ other ∷ more) h = absurd (cc)

by_body : (none : Bool) (f : Framing1) → IsCounting f 0 → IsCounting (cond none Empty f) 0
by_body true f h = tt
by_body false f h = h

pub announced_counting : (to_head : Bool) (start : Start) (fields : List Field) → IsTrue (is_length (lengths fields))
    → IsCounting (announced to_head start fields) 0
announced_counting to_head start fields h = by_body (has_no_body to_head start) (framing_by (lengths fields) false) (framed_counting (lengths fields) h)

-- some start has the status, or none
start_with : (status : Option ℕ) → (start : Start) × (status_in start ≡ status)
start_with (Some status) = (response [] status, refl)
start_with None = (request (record { method = []; scheme = []; authority = []; path = [] }), refl)

pub counting_of : (to_head : Bool) (status : Option ℕ) (fields : List Field) (f : Framing1) → IsTrue (is_length (lengths fields))
    → ((start : Start) → status_in start ≡ status → f ≡ announced to_head start fields) → IsCounting f 0
counting_of to_head status fields f h same =
    let s = start_with status in
    subst (λ (g : Framing1). IsCounting g 0) (sym (same s.0 s.1)) (announced_counting to_head s.0 fields h)
