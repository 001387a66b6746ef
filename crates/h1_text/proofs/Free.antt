-- What can be written of a section for which no rule holds, once it is cleaned.
use Rattle.std.proofs.Common.{◌≡◌, ◌≤◌, ◌⊎◌, inl, inr, ℕ, false, not, List, [], ◌∷◌, ◌++◌, All, None, refl, sym, ◌∙◌, arith}
use Rattle.std.proofs.lemmas.List.Elements.{All-append, All-filter}
use Rattle.bh_spec.specs.Messages.{Field, Control, Interim, request, response, IsRegularField, AreHeaders, AreTrailers, IsWeb, IsControl, IsInterim}
use Rattle.h1_spec.specs.declared.Scheme1.TheVariants.{Http, Https}
use Rattle.h1_spec.specs.Cleaning.{is_empty, is_among, connection_names, kept_names, hops, clean, clean_trailers, says_host}
use Rattle.h1_spec.specs.Heads.{IsRawTarget, IsHeadField}
use Rattle.h1_spec.specs.Http1Text.{of_interim, of_head, has_bad_value, target_text, host_lines}
use Rattle.h1_spec.specs.Moments.{first_of}
use Rattle.h1_spec.specs.Written.{IsWritable}
use Rattle.h1_spec.proofs.Cases.{none_free}
use Rattle.h1_spec.proofs.Forth.{text_fields, clean_headers, is_web_of, asked_by, host_fields}
use Rattle.h1_text.specs.Writers.{head_of}

-- an interim response
pub interim_writable : (status : ℕ) (raw : List Field) → IsInterim (record { status = status; fields = raw }) → first_of (of_interim (record { status = status; fields = raw })) ≡ None
    → IsWritable (head_of (response [] status) (clean (hops raw) false raw))
interim_writable status raw h none =
    let free = none_free (of_interim (record { status = status; fields = raw })) none in
    record { start = (h.number.low, omega (arith, h.number.high)); fields = clean_headers false raw h.fields free.1.0 free.1.1.0 }

-- the head of a response
pub response_free : (status : ℕ) (raw : List Field) → 200 ≤ status → status ≤ 599 → AreHeaders raw → first_of (of_head (response [] status) raw) ≡ None
    → IsWritable (head_of (response [] status) (clean (hops raw) false raw))
response_free status raw low high valid none =
    let free = none_free (of_head (response [] status) raw) none in
    record { start = (omega (arith, low), high); fields = clean_headers false raw valid free.0 free.1.0 }

-- the target of a request
target_is : (c : Control) → IsControl c → IsWeb c.scheme → IsRawTarget (target_text c)
target_is c h (inl e) = (asked_by Http c c.authority refl h (λ a. e) (inl e)).0
target_is c h (inr e) = (asked_by Https c c.authority refl h (λ a. e) (inr e)).0

-- the head of a request
pub request_free : (c : Control) (raw : List Field) → IsControl c → AreHeaders raw → first_of (of_head (request c) raw) ≡ None
    → IsWritable (head_of (request c) (clean (hops raw) (says_host (request c)) raw))
request_free c raw valid headers none =
    let free = none_free (of_head (request c) raw) none in
    record {
      start = (valid.method, target_is c valid (is_web_of c.scheme free.1.0));
      fields = All-append IsHeadField (host_lines c) (clean (hops raw) (says_host (request c)) raw) (host_fields c.authority valid.authority)
          (clean_headers (not (is_empty c.authority)) raw headers free.1.1.0 free.1.1.1.0);
    }

-- a trailer section
pub trailers_free : (named : List (List ℕ)) (raw : List Field) → AreTrailers raw → has_bad_value (clean_trailers named raw) ≡ false → All IsHeadField (clean_trailers named raw)
trailers_free named raw valid good =
    text_fields (clean_trailers named raw) (All-filter (λ (g : Field). not (is_among (connection_names ++ (named ++ kept_names)) g.name)) IsRegularField raw valid) good
