-- Bytes are one message at most.
use Rattle.std.proofs.Common.{◌≡◌, ◌≤◌, Bool, false, arith, ℕ, List, [], ◌∷◌, refl, sym, ap, ap₂, subst, subst₂, ◌∙◌}
use Rattle.bh_spec.specs.Bounds.{Bounds, no_bounds}
use Rattle.bh_spec.specs.Messages.{Field, Interim, Start, request, response, Message}
use Rattle.bh_spec.specs.Canonical.{FieldsFit, StartFits}
use Rattle.h1_spec.specs.declared.Scheme1.{Scheme1}
use Rattle.h1_spec.specs.declared.Framing1.{Framing1}
use Rattle.h1_spec.specs.declared.Framing1.TheVariants.{Empty, Counted, Chunked, ToEnd}
use Rattle.bh_spec.specs.Texts.{◌then◌, AreEach}
use Rattle.h1_spec.specs.Heads.{request_line, status_line, Head}
use Rattle.h1_spec.specs.Cleaning.{hops, clean, clean_trailers, says_host}
use Rattle.h1_spec.specs.Framing.{framing}
use Rattle.h1_spec.specs.Targets.{IsTargetOf}
use Rattle.h1_spec.specs.Bodies.{IsBody}
use Rattle.h1_spec.specs.Http1.{IsHeadWithin, IsInterimHead, interims_of, IsStartOf, IsHttp1}
use Rattle.h1_spec.specs.Laws.{OneMessage, WithoutLimits}
use Rattle.h1_spec.proofs.Fronts.{Front, Same, Apart, same_then, same_each}
use Rattle.h1_spec.proofs.HeadTexts.{head_front}
use Rattle.h1_spec.proofs.BodyTexts.{body_same}
use Rattle.h1_spec.proofs.TargetTexts.{target_once}

pub within_front : (K L : Bounds) (h k : Head) → Front (h ≡ k) (IsHeadWithin K h) (IsHeadWithin L k)
within_front K L h k x y r s p q = head_front h k x y r s p.1 q.1

interim_is : (i j : Interim) → i.status ≡ j.status → i.fields ≡ j.fields → i ≡ j
interim_is i j p q = ap₂ (λ (s : ℕ) (fs : List Field). let z : Interim = record { status = s; fields = fs } in z) p q

pub status_of_line : (s t : ℕ) → status_line s ≡ status_line t → s ≡ t
status_of_line s t e = cc

pub interim_front : (K L : Bounds) (i j : Interim) → Front (i ≡ j) (IsInterimHead K i) (IsInterimHead L j)
interim_front K L i j x y r s p q e =
    let both = within_front K L p.head q.head x y r s p.text q.text e in (
      interim_is i j (status_of_line i.status j.status (sym p.status ∙ ap (λ (h : Head). h.start) both.0 ∙ q.status))
          (p.fields ∙ ap (λ (h : Head). clean (hops h.fields) false h.fields) both.0 ∙ sym q.fields),
      both.1,
    )

-- a head that isn't an informational response's
abbrev pub IsLast : Head → Type 0
IsLast head = (s : ℕ) → head.start ≡ status_line s → s ≤ 199 → ⊥

pub start_is_last : (scheme : Scheme1) (head : Head) (a : Start) → IsStartOf scheme head a → IsLast head
start_is_last scheme head (request c) h s e n = absurd (line_apart c.method h.0 s (sym h.1 ∙ e))
  where
    line_apart : (m t : List ℕ) (s : ℕ) → request_line m t ≡ status_line s → ⊥
    line_apart m t s e = cc
start_is_last scheme head (response is status) h s e n =
    let same : status ≡ s = status_of_line status s (sym h.0 ∙ e) in
    omega (arith, h.1)

pub interim_apart : (K L : Bounds) (i : Interim) (head : Head) → IsLast head → Apart (IsInterimHead K i) (IsHeadWithin L head)
interim_apart K L i head last x y r s p q e =
    let both = within_front K L p.head head x y r s p.text q e in
    last i.status (sym (ap (λ (h : Head). h.start) both.0) ∙ p.status) p.number.high

abbrev pub Any : Interim → Type 0
Any i = Unit {0}

pub message_is : (a b : Start) (fs gs : List Field) (c d : List ℕ) (ts us : List Field) → a ≡ b → fs ≡ gs → c ≡ d → ts ≡ us
    → let m : Message = record { start = a; fields = fs; content = c; trailers = ts } in let n : Message = record { start = b; fields = gs; content = d; trailers = us } in m ≡ n
message_is a b fs gs c d ts us p q r s = λ i. record { start = p i; fields = q i; content = r i; trailers = s i }

pub start_once : (scheme : Scheme1) (h k : Head) (a b : Start) → h ≡ k → interims_of a ≡ interims_of b → IsStartOf scheme h a → IsStartOf scheme k b → a ≡ b
start_once scheme h k (request c) (request d) e f p q =
    let line : request_line c.method p.0 ≡ request_line d.method q.0 = sym p.1 ∙ ap (λ (z : Head). z.start) e ∙ q.1 in
    let method : c.method ≡ d.method = cc in
    let target : p.0 ≡ q.0 = cc in
    ap request (target_once scheme c.method p.0 c d p.2 (subst₂ (λ (m t : List ℕ). IsTargetOf scheme m t d) (sym method) (sym target) q.2))
start_once scheme h k (response is s) (response js t) e f p q =
    ap₂ response f (status_of_line s t (sym p.0 ∙ ap (λ (z : Head). z.start) e ∙ q.0))
start_once scheme h k (request c) (response js t) e f p q = absurd (apart c.method p.0 t (sym p.1 ∙ ap (λ (z : Head). z.start) e ∙ q.0))
  where
    apart : (m u : List ℕ) (s : ℕ) → request_line m u ≡ status_line s → ⊥
    apart m u s e = cc
start_once scheme h k (response is s) (request d) e f p q = absurd (apart d.method q.0 s (sym q.1 ∙ ap (λ (z : Head). z.start) (sym e) ∙ p.0))
  where
    apart : (m u : List ℕ) (s : ℕ) → request_line m u ≡ status_line s → ⊥
    apart m u s e = cc

-- what two readings of the same bytes have in common, whatever the scheme of the caller
abbrev pub SameParts : (K L : Bounds) (scheme other : Scheme1) (to_head : Bool) (m n : Message) (x y : List ℕ)
    → IsHttp1 K scheme to_head m x → IsHttp1 L other to_head n y → Type 0
SameParts K L scheme other to_head m n x y p q =
    (interims_of m.start ≡ interims_of n.start) × ((p.head ≡ q.head) × ((m.content ≡ n.content) × (p.trailers ≡ q.trailers)))

pub same_parts : (K L : Bounds) (scheme other : Scheme1) (to_head : Bool) (m n : Message) (x y : List ℕ) → x ≡ y
    → (p : IsHttp1 K scheme to_head m x) (q : IsHttp1 L other to_head n y) → SameParts K L scheme other to_head m n x y p q
same_parts K L scheme other to_head m n x y e p q =
    let ends : Same ((p.head ≡ q.head) × ((m.content ≡ n.content) × (p.trailers ≡ q.trailers)))
    (IsHeadWithin K p.head then IsBody K (framing to_head p.head) m.content p.trailers) (IsHeadWithin L q.head then IsBody L (framing to_head q.head) n.content q.trailers) =
    same_then (p.head ≡ q.head) ((p.head ≡ q.head) × ((m.content ≡ n.content) × (p.trailers ≡ q.trailers)))
    (IsHeadWithin K p.head) (IsBody K (framing to_head p.head) m.content p.trailers) (IsHeadWithin L q.head) (IsBody L (framing to_head q.head) n.content q.trailers)
    (within_front K L p.head q.head)
    (λ e x y b d same. (
      e,
      body_same K L (framing to_head p.head) m.content n.content p.trailers q.trailers x y b
          (subst (λ (h : Head). IsBody L (framing to_head h) n.content q.trailers y) (sym e) d) same,
    )) in
    same_each ((p.head ≡ q.head) × ((m.content ≡ n.content) × (p.trailers ≡ q.trailers))) Any (IsInterimHead K) (IsInterimHead L)
    (IsHeadWithin K p.head then IsBody K (framing to_head p.head) m.content p.trailers) (IsHeadWithin L q.head then IsBody L (framing to_head q.head) n.content q.trailers)
    (record {
      items = λ i j a b. interim_front K L i j;
      ends = ends;
      left = λ i a x y r f g e. interim_apart K L i q.head (start_is_last other q.head n.start q.start) x g.0 r g.1 f g.2 (e ∙ g.4);
      right = λ j a x y r f g e. interim_apart L K j p.head (start_is_last scheme p.head m.start p.start) y f.0 r f.1 g f.2 (sym e ∙ f.4);
    })
    (interims_of m.start) (interims_of n.start) (λ k d i. tt) (λ k d i. tt) x y p.text q.text e

pub one_message : OneMessage
one_message K L scheme to_head m n bytes p q =
    let all = same_parts K L scheme scheme to_head m n bytes bytes refl p q in
    let start : m.start ≡ n.start = start_once scheme p.head q.head m.start n.start all.1.0 all.0 p.start q.start in
    let fields : m.fields ≡ n.fields = p.fields ∙ ap₂ (λ (h : Head) (a : Start). clean (hops h.fields) (says_host a) h.fields) all.1.0 start ∙ sym q.fields in
    let trailers : m.trailers ≡ n.trailers = p.cleaned ∙ ap₂ (λ (h : Head) (ts : List Field). clean_trailers (hops h.fields) ts) all.1.0 all.1.1.1 ∙ sym q.cleaned in
    message_is m.start n.start m.fields n.fields m.content n.content m.trailers n.trailers start fields all.1.1.0 trailers

-- ---- without limits

each_map : {A : Type 0} (R S : A → List ℕ → Type 0) → ((a : A) (x : List ℕ) → R a x → S a x) → (as' : List A) (x : List ℕ) → AreEach R as' x → AreEach S as' x
each_map R S f [] x h = h
each_map R S f (a ∷ as') x h = (h.0, h.1, f a h.0 h.2, each_map R S f as' h.1 h.3, h.4)

pub no_fields_limit : (fs : List Field) → FieldsFit no_bounds fs
no_fields_limit fs = record { names = λ k d i. tt; values = λ k d i. tt; total = tt }

interim_unlimited : (L : Bounds) (i : Interim) (x : List ℕ) → IsInterimHead L i x → IsInterimHead no_bounds i x
interim_unlimited L i x h = record {
  head = h.head;
  text = (tt, h.text.1);
  status = h.status;
  number = h.number;
  stays = h.stays;
  fields = h.fields;
  fits = no_fields_limit i.fields;
}

body_unlimited : (L : Bounds) (f : Framing1) (c : List ℕ) (fs : List Field) (x : List ℕ) → IsBody L f c fs x → IsBody no_bounds f c fs x
body_unlimited L Empty c fs x h = h
body_unlimited L (Counted n) c fs x h = h
body_unlimited L Chunked c fs x h = (h.0, h.1, h.2, (h.3.0, h.3.1, h.3.2, (h.3.3.0, h.3.3.1, h.3.3.2, (tt, h.3.3.3.1), h.3.3.4), h.3.4))
body_unlimited L ToEnd c fs x h = h

pub no_start_limit : (a : Start) → StartFits no_bounds a
no_start_limit (request c) = record { method = tt; scheme = tt; authority = tt; path = tt }
no_start_limit (response is s) = (tt, λ k d i. no_fields_limit _)

pub without_limits : WithoutLimits
without_limits L scheme to_head m bytes h = record {
  head = h.head;
  trailers = h.trailers;
  text = (
    h.text.0,
    h.text.1,
    each_map (IsInterimHead L) (IsInterimHead no_bounds) (interim_unlimited L) (interims_of m.start) h.text.0 h.text.2,
    (h.text.3.0, h.text.3.1, (tt, h.text.3.2.1), body_unlimited L (framing to_head h.head) m.content h.trailers h.text.3.1 h.text.3.3, h.text.3.4),
    h.text.4,
  );
  start = h.start;
  coded = h.coded;
  counted = h.counted;
  fields = h.fields;
  cleaned = h.cleaned;
  content = h.content;
  fits = record { start = no_start_limit m.start; fields = no_fields_limit m.fields; trailers = no_fields_limit m.trailers };
}
