-- The items of the decoder that judges: what may come to the writer, and what it shows.
use Rattle.std.proofs.Common.{◌≡◌, ◌≤◌, ◌<◌, ℕ, Bool, false, List, [], ◌∷◌, ◌++◌, map, length, All, Some, None, Result, Ok, Err, refl, sym, ap, subst, ◌∙◌, arith}
use Rattle.bh_spec.specs.declared.Omitted.{Omitted}
use Rattle.bh_spec.specs.Bounds.{Bounds}
use Rattle.bh_spec.specs.Messages.{Field, Control, request, response}
use Rattle.bh_spec.specs.Items.{Item, interim_response, head, content_byte, trailer_section, ending, Head, of_request, of_response}
use Rattle.bh_base.specs.declared.failed.Failed.{Failed}
use Rattle.bh_base.specs.Steps.{Step}
use Rattle.bh_model.specs.Lines.{lines_room}
use Rattle.bh_push.specs.Hands.{control_shown, status_shown}
use Rattle.h1_spec.specs.Cleaning.{hops, clean, clean_trailers, says_host}
use Rattle.h1_spec.specs.Heads.{IsHeadField}
use Rattle.h1_spec.specs.Http1Text.{has_bad_value}
use Rattle.h1_spec.specs.Written.{IsWritable}
use Rattle.h1_judge.specs.Views.{JudgedView, IsInterim, IsHead, IsTrailers}
use Rattle.h1_text.specs.Owed.{Duty, at_start, head_held, head_waits, in_body, all_done}
use Rattle.h1_text.specs.Writers.{Writing, HasRoom, comes_to, takes, MayHaveBody, IsBehindHead, head_of, JobSends}
use Rattle.h1_text.proofs.Free.{interim_writable, response_free, request_free, trailers_free}

-- ---- where the writer stands

head_start : (duty : Duty) (v : Writing) (of : Head) (fields : List Field) (q : List Item) → comes_to duty v (head of fields ∷ q) → duty ≡ at_start
head_start at_start v of fields q h = refl
head_start (head_held front) v of fields q h = absurd h
head_start (head_waits whole) v of fields q h = absurd h
head_start (in_body chunked kept) v of fields q h = absurd h
head_start all_done v of fields q h = let e = h.2 in absurd (cc)

head_has_room : (duty : Duty) (v : Writing) (of : Head) (fields : List Field) (q : List Item) → comes_to duty v (head of fields ∷ q) → HasRoom v of fields
head_has_room at_start v of fields q h = h.0
head_has_room (head_held front) v of fields q h = absurd h
head_has_room (head_waits whole) v of fields q h = absurd h
head_has_room (in_body chunked kept) v of fields q h = absurd h
head_has_room all_done v of fields q h = let e = h.2 in absurd (cc)

interim_start : (duty : Duty) (v : Writing) (status : ℕ) (fields : List Field) (q : List Item) → comes_to duty v (interim_response status fields ∷ q) → duty ≡ at_start
interim_start at_start v status fields q h = refl
interim_start (head_held front) v status fields q h = absurd h
interim_start (head_waits whole) v status fields q h = absurd h
interim_start (in_body chunked kept) v status fields q h = absurd h
interim_start all_done v status fields q h = let e = h.2 in absurd (cc)

trailers_behind_head : (duty : Duty) (v : Writing) (fields : List Field) (q : List Item) → comes_to duty v (trailer_section fields ∷ q) → IsBehindHead duty
trailers_behind_head at_start v fields q h = absurd h
trailers_behind_head (head_held front) v fields q h = tt
trailers_behind_head (head_waits whole) v fields q h = tt
trailers_behind_head (in_body chunked kept) v fields q h = tt
trailers_behind_head all_done v fields q h = let e = h.2 in absurd (cc)

content_behind_head : (duty : Duty) (v : Writing) (bytes : List ℕ) (q : List Item) → 0 < length bytes → comes_to duty v (map content_byte bytes ++ q) → MayHaveBody duty
content_behind_head duty v [] q some h = absurd (omega arith)
content_behind_head at_start v (x ∷ bytes) q some h = absurd h
content_behind_head (head_held front) v (x ∷ bytes) q some h = tt
content_behind_head (head_waits whole) v (x ∷ bytes) q some h = let e = h.0 in absurd (cc)
content_behind_head (in_body chunked kept) v (x ∷ bytes) q some h = tt
content_behind_head all_done v (x ∷ bytes) q some h = let e = h.2 in absurd (cc)

pub content_place : (v : Writing) (bytes : List ℕ) → 0 < length bytes → ((q : List Item) × takes v (map content_byte bytes ++ q)) → MayHaveBody v.duty
content_place v bytes some h = content_behind_head v.duty v bytes h.0 some h.1

-- ---- what the decoder shows

pub interim_place : (v : Writing) (item : Item) (status : ℕ) (fields : List Field) → item ≡ interim_response status fields → ((q : List Item) × takes v (item ∷ q)) → v.duty ≡ at_start
interim_place v item status fields e h = interim_start v.duty v status fields h.0 (subst (λ (i : Item). takes v (i ∷ h.0)) e h.1)

pub interim_shown : (d : JudgedView) (status : ℕ) (raw lines : List Field) → IsInterim d status raw → lines ≡ d.cleaned → IsWritable (head_of (response [] status) lines)
interim_shown d status raw lines h e =
    subst (λ (ls : List Field). IsWritable (head_of (response [] status) ls)) (sym (e ∙ h.section.cleaned)) (interim_writable status raw h.section.fitting.valid h.free)

pub trailers_place : (v : Writing) (item : Item) (fields : List Field) → item ≡ trailer_section fields → ((q : List Item) × takes v (item ∷ q)) → IsBehindHead v.duty
trailers_place v item fields e h = trailers_behind_head v.duty v fields h.0 (subst (λ (i : Item). takes v (i ∷ h.0)) e h.1)

pub trailers_shown : (d : JudgedView) (raw lines : List Field) → IsTrailers d raw → lines ≡ d.cleaned → All IsHeadField lines
trailers_shown d raw lines h e =
    subst (All IsHeadField) (sym (e ∙ h.section.cleaned))
    (trailers_free d.course.named raw h.section.fitting.valid (subst (λ (ls : List Field). has_bad_value ls ≡ false) h.section.cleaned h.free))

same_some : {A : Type 0} (a b : A) → Some a ≡ Some b → a ≡ b
same_some a b e = cc

request_is : (d : JudgedView) (of : Head) (raw : List Field) → IsHead d of raw → (c : Control) → Some c ≡ control_shown d.reading.held.head → of ≡ of_request c
request_is d of raw h c e = by_head of (e ∙ ap control_shown h.head_is)
  where
    by_head : (of : Head) → Some c ≡ control_shown (Some of) → of ≡ of_request c
    by_head (of_request k) e = ap of_request (sym (same_some c k e))
    by_head (of_response status) e = absurd (cc)

response_is : (d : JudgedView) (of : Head) (raw : List Field) → IsHead d of raw → (status : ℕ) → Some status ≡ status_shown d.reading.held.head → of ≡ of_response status
response_is d of raw h status e = by_head of (e ∙ ap status_shown h.head_is)
  where
    by_head : (of : Head) → Some status ≡ status_shown (Some of) → of ≡ of_response status
    by_head (of_request k) e = absurd (cc)
    by_head (of_response found) e = ap of_response (sym (same_some status found e))

-- one of the two is shown
pub neither : (d : JudgedView) (of : Head) (raw : List Field) → IsHead d of raw → None ≡ control_shown d.reading.held.head → None ≡ status_shown d.reading.held.head → ⊥
neither d of raw h e f = by_head of (e ∙ ap control_shown h.head_is) (f ∙ ap status_shown h.head_is)
  where
    by_head : (of : Head) → None ≡ control_shown (Some of) → None ≡ status_shown (Some of) → ⊥
    by_head (of_request k) e f = absurd (cc)
    by_head (of_response status) e f = absurd (cc)

-- what a caller of the writer for a head may rely on
abbrev pub HeadShown : JudgedView → Writing → Type 0
HeadShown d v = (of : Head) × (raw : List Field) × IsHead d of raw × ((q : List Item) × takes v (head of d.cleaned ∷ q))

pub head_place : (d : JudgedView) (v : Writing) → HeadShown d v → v.duty ≡ at_start
head_place d v h = head_start v.duty v h.0 d.cleaned h.3.0 h.3.1

pub request_shown : (d : JudgedView) (v : Writing) (h : HeadShown d v) (c : Control) (lines : List Field) → Some c ≡ control_shown d.reading.held.head → lines ≡ d.cleaned
    → IsWritable (head_of (request c) lines) × HasRoom v (of_request c) lines
request_shown d v h c lines e l =
    let is = request_is d h.0 h.1 h.2 c e in
    let i : IsHead d (of_request c) h.1 = subst (λ (of : Head). IsHead d of h.1) is h.2 in (
      subst (λ (ls : List Field). IsWritable (head_of (request c) ls)) (sym (l ∙ i.section.cleaned)) (request_free c h.1 i.section.fitting.0.0 i.section.fitting.1 i.free),
      subst (λ (ls : List Field). HasRoom v (of_request c) ls) (sym l) (subst (λ (of : Head). HasRoom v of d.cleaned) is (head_has_room v.duty v h.0 d.cleaned h.3.0 h.3.1)),
    )

pub response_shown : (d : JudgedView) (v : Writing) (h : HeadShown d v) (status : ℕ) (lines : List Field) → Some status ≡ status_shown d.reading.held.head → lines ≡ d.cleaned
    → IsWritable (head_of (response [] status) lines) × HasRoom v (of_response status) lines
response_shown d v h status lines e l =
    let is = response_is d h.0 h.1 h.2 status e in
    let i : IsHead d (of_response status) h.1 = subst (λ (of : Head). IsHead d of h.1) is h.2 in (
      subst (λ (ls : List Field). IsWritable (head_of (response [] status) ls)) (sym (l ∙ i.section.cleaned)) (response_free status h.1 i.section.fitting.0.0 i.section.fitting.0.1 i.section.fitting.1 i.free),
      subst (λ (ls : List Field). HasRoom v (of_response status) ls) (sym l) (subst (λ (of : Head). HasRoom v of d.cleaned) is (head_has_room v.duty v h.0 d.cleaned h.3.0 h.3.1)),
    )

module _ {S : Type 0} {step : S → Step → S → Type 0} {s t : S} where
  -- the job did it for the item that is shown
  pub as_item : (v w : Writing) (r : Result (Unit {0}) Failed) (item same : Item) → item ≡ same → JobSends step v w (same ∷ []) s r t → JobSends step v w (item ∷ []) s r t
  as_item v w r item same e h = subst (λ (i : Item). JobSends step v w (i ∷ []) s r t) (sym e) h

  pub as_head : (d : JudgedView) (v w : Writing) (r : Result (Unit {0}) Failed) (of same : Head) (lines : List Field) → of ≡ same → lines ≡ d.cleaned → JobSends step v w (head same lines ∷ []) s r t
      → JobSends step v w (head of d.cleaned ∷ []) s r t
  as_head d v w r of same lines e l h = as_item v w r (head of d.cleaned) (head same lines) (λ i. head (e i) ((sym l) i)) h

  pub as_request : (d : JudgedView) (v w : Writing) (r : Result (Unit {0}) Failed) (c : Control) (lines : List Field) → Some c ≡ control_shown d.reading.held.head → lines ≡ d.cleaned
      → JobSends step v w (head (of_request c) lines ∷ []) s r t → (of : Head) (raw : List Field) → IsHead d of raw → JobSends step v w (head of d.cleaned ∷ []) s r t
  as_request d v w r c lines e l h of raw is = as_head d v w r of (of_request c) lines (request_is d of raw is c e) l h

  pub as_response : (d : JudgedView) (v w : Writing) (r : Result (Unit {0}) Failed) (status : ℕ) (lines : List Field) → Some status ≡ status_shown d.reading.held.head → lines ≡ d.cleaned
      → JobSends step v w (head (of_response status) lines ∷ []) s r t → (of : Head) (raw : List Field) → IsHead d of raw → JobSends step v w (head of d.cleaned ∷ []) s r t
  as_response d v w r status lines e l h of raw is = as_head d v w r of (of_response status) lines (response_is d of raw is status e) l h
