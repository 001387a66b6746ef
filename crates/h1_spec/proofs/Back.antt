-- And back: what is read is clean, and has a text.
use Rattle.std.proofs.Common.{◌≡◌, ◌⊎◌, Bool, true, false, cond, not, ◌&&◌, nat_eq, arith, ℕ, List, [], ◌∷◌, ◌++◌, length, map, flat_map, All, None, codes, bytes_eq, refl, sym, ap, ap₂, subst, subst₂, ◌∙◌, inl, inr}
use Rattle.std.proofs.lemmas.Bool.{false≢true, false_from_ne_true, ne_eqb, eqb-true, and_parts, not_from_true, or_left, or_right, or_parts}
use Rattle.std.proofs.lemmas.List.Elements.{All-nil, All-cons}
use Rattle.std.proofs.lemmas.List.Sums.{list_all-from_AllPass}
use Rattle.bh_spec.specs.Bounds.{Bounds}
use Rattle.bh_spec.specs.Bytes.{is_authority}
use Rattle.bh_spec.specs.Messages.{Field, Control, Interim, Start, request, response, Message, IsWeb}
use Rattle.h1_spec.specs.declared.Scheme1.{Scheme1}
use Rattle.h1_spec.specs.declared.Scheme1.TheVariants.{Http, Https}
use Rattle.h1_spec.specs.declared.Framing1.{Framing1}
use Rattle.h1_spec.specs.declared.Framing1.TheVariants.{Empty, Counted, Chunked, ToEnd}
use Rattle.bh_spec.specs.Texts.{AreEach}
use Rattle.h1_spec.specs.Heads.{StartLine, Head}
use Rattle.h1_spec.specs.Cleaning.{is_empty, values_of, connection_names, hops, clean, clean_trailers, clean_interim, clean_start, says_host, clean_message}
use Rattle.h1_spec.specs.Targets.{scheme_of, IsTargetOf, HasHost}
use Rattle.h1_spec.specs.Framing.{codings, lengths, IsCoded, IsLength, is_bodyless, body_by, framing_behind, framing}
use Rattle.h1_spec.specs.Bodies.{IsBody}
use Rattle.h1_spec.specs.Http1.{IsInterimHead, interims_of, IsStartOf, IsHttp1}
use Rattle.h1_spec.specs.Http1Text.{is_host, is_length, is_web, of_interim, of_head, of_body, framing_by, framing_written, has_no_body, is_bare, no_form, has_bad_value}
use Rattle.h1_spec.specs.Laws.{AndBack}
use Rattle.h1_spec.proofs.Lists.{same_name}
use Rattle.h1_spec.proofs.Cleaned.{clean_twice, clean_no_hops, trailers_again, clean_lacks, no_values, lacks_name, back_among}
use Rattle.h1_spec.proofs.Reading.{message_is}
use Rattle.h1_spec.specs.Heads.{IsHeadField}
use Rattle.h1_spec.proofs.HeadFields.{section_fields, clean_fields, trailer_fields}
use Rattle.h1_spec.proofs.Kept.{lengths_kept, hosts_kept}
use Rattle.h1_spec.proofs.Cases.{AreFree, free_none, free_append, free_each, no_pseudo, good_values, Fills, body_free, length_test}

-- ---- it is clean

own_interim : (i : Interim) (fs : List Field) → i.fields ≡ fs → clean (hops i.fields) false i.fields ≡ i.fields → clean_interim i ≡ i
own_interim i fs e h = ap (λ (gs : List Field). let j : Interim = record { status = i.status; fields = gs } in j) h

interim_clean : (L : Bounds) (i : Interim) (x : List ℕ) → IsInterimHead L i x → clean (hops i.fields) false i.fields ≡ i.fields
interim_clean L i x h = subst (λ (fs : List Field). clean (hops fs) false fs ≡ fs) (sym h.fields) (clean_twice (hops h.head.fields) false h.head.fields)

interims_clean : (L : Bounds) (is : List Interim) (x : List ℕ) → AreEach (IsInterimHead L) is x → map clean_interim is ≡ is
interims_clean L [] x h = refl
interims_clean L (i ∷ is) x h =
    ap₂ (λ (j : Interim) (js : List Interim). j ∷ js) (own_interim i i.fields refl (interim_clean L i h.0 h.2)) (interims_clean L is h.1 h.3)

start_clean : (L : Bounds) (a : Start) (x : List ℕ) → AreEach (IsInterimHead L) (interims_of a) x → clean_start a ≡ a
start_clean L (request c) x h = refl
start_clean L (response is s) x h = ap (λ (js : List Interim). response js s) (interims_clean L is x h)

fields_clean : (L : Bounds) (scheme : Scheme1) (to_head : Bool) (m : Message) (bytes : List ℕ) → IsHttp1 L scheme to_head m bytes
    → clean (hops m.fields) (says_host m.start) m.fields ≡ m.fields
fields_clean L scheme to_head m bytes h =
    subst (λ (fs : List Field). clean (hops fs) (says_host m.start) fs ≡ fs) (sym h.fields) (clean_twice (hops h.head.fields) (says_host m.start) h.head.fields)

trailers_clean : (L : Bounds) (scheme : Scheme1) (to_head : Bool) (m : Message) (bytes : List ℕ) → IsHttp1 L scheme to_head m bytes
    → clean_trailers (hops m.fields) m.trailers ≡ m.trailers
trailers_clean L scheme to_head m bytes h =
    ap (λ (names : List (List ℕ)). clean_trailers names m.trailers) (ap hops h.fields ∙ clean_no_hops (hops h.head.fields) (says_host m.start) h.head.fields)
    ∙ subst (λ (ts : List Field). clean_trailers [] ts ≡ ts) (sym h.cleaned) (trailers_again (hops h.head.fields) h.trailers)

pub message_clean : (L : Bounds) (scheme : Scheme1) (to_head : Bool) (m : Message) (bytes : List ℕ) → IsHttp1 L scheme to_head m bytes → clean_message m ≡ m
message_clean L scheme to_head m bytes h =
    message_is (clean_start m.start) m.start (clean (hops m.fields) (says_host m.start) m.fields) m.fields m.content m.content
    (clean_trailers (hops m.fields) m.trailers) m.trailers
    (start_clean L m.start h.text.0 h.text.2) (fields_clean L scheme to_head m bytes h) refl (trailers_clean L scheme to_head m bytes h)

-- ---- its fields

pub interim_fields : (L : Bounds) (i : Interim) (x : List ℕ) → IsInterimHead L i x → All IsHeadField i.fields
interim_fields L i x h =
    subst (All IsHeadField) (sym h.fields) (clean_fields (hops h.head.fields) false h.head.fields (section_fields h.head.fields h.text.1.1 h.text.1.3))

pub read_fields : (L : Bounds) (scheme : Scheme1) (to_head : Bool) (m : Message) (bytes : List ℕ) → IsHttp1 L scheme to_head m bytes → All IsHeadField m.fields
read_fields L scheme to_head m bytes h =
    subst (All IsHeadField) (sym h.fields)
    (clean_fields (hops h.head.fields) (says_host m.start) h.head.fields (section_fields h.head.fields h.text.3.2.1.1 h.text.3.2.1.3))

body_trailers : (L : Bounds) (f : Framing1) (content : List ℕ) (ts : List Field) (x : List ℕ) → IsBody L f content ts x → All IsHeadField ts
body_trailers L Empty content ts x h = subst (All IsHeadField) (sym h.1) (All-nil IsHeadField)
body_trailers L (Counted n) content ts x h = subst (All IsHeadField) (sym h.1) (All-nil IsHeadField)
body_trailers L Chunked content ts x h = section_fields ts h.3.3.1 h.3.3.3.1
body_trailers L ToEnd content ts x h = subst (All IsHeadField) (sym h.0) (All-nil IsHeadField)

pub read_trailers : (L : Bounds) (scheme : Scheme1) (to_head : Bool) (m : Message) (bytes : List ℕ) → IsHttp1 L scheme to_head m bytes → All IsHeadField m.trailers
read_trailers L scheme to_head m bytes h =
    subst (All IsHeadField) (sym h.cleaned)
    (trailer_fields (hops h.head.fields) h.trailers (body_trailers L (framing to_head h.head) m.content h.trailers h.text.3.1 h.text.3.3))

-- ---- its body

both_none : (m : Message) → (nat_eq (length m.content) 0 && nat_eq (length m.trailers) 0) ≡ true → (m.content ≡ []) × (m.trailers ≡ [])
both_none m e =
    let both = and_parts (nat_eq (length m.content) 0) (nat_eq (length m.trailers) 0) e in
    (none m.content (eqb-true (length m.content) 0 both.0), none m.trailers (eqb-true (length m.trailers) 0 both.1))
  where
    none : {A : Type 0} (xs : List A) → length xs ≡ 0 → xs ≡ []
    none [] e = refl
    none (x ∷ xs) e = absurd (omega arith)

bare_none : (m : Message) (a : Start) → is_bare m a ≡ true → (m.content ≡ []) × (m.trailers ≡ [])
bare_none m (request c) e = both_none m e
bare_none m (response is s) e = absurd (false≢true e)

fills_by : (L : Bounds) (otherwise : Framing1) (cs vs : List (List ℕ)) (content : List ℕ) (own trailers : List Field) (x : List ℕ) (bare : Bool)
    → (cs ≡ []) ⊎ (vs ≡ []) → (own ≡ [] → trailers ≡ []) → (bare ≡ true → (content ≡ []) × (trailers ≡ []))
    → IsBody L (body_by otherwise cs vs) content own x → Fills (framing_by vs bare) content trailers
fills_by L otherwise cs [] content own trailers x true coded none both h = both refl
fills_by L otherwise cs [] content own trailers x false coded none both h = tt
fills_by L otherwise [] (v ∷ vs) content own trailers x bare coded none both h = (h.0, none h.1)
fills_by L otherwise (c ∷ cs) (v ∷ vs) content own trailers x bare (inl e) none both h = absurd cc
fills_by L otherwise (c ∷ cs) (v ∷ vs) content own trailers x bare (inr e) none both h = absurd cc

fills_or_not : (L : Bounds) (bodyless : Bool) (cs vs : List (List ℕ)) (content : List ℕ) (own trailers : List Field) (x : List ℕ)
    → (cs ≡ []) ⊎ (vs ≡ []) → (own ≡ [] → trailers ≡ [])
    → IsBody L (cond bodyless Empty (body_by ToEnd cs vs)) content own x → Fills (cond bodyless Empty (framing_by vs false)) content trailers
fills_or_not L true cs vs content own trailers x coded none h = (h.0, none h.1)
fills_or_not L false cs vs content own trailers x coded none h = fills_by L ToEnd cs vs content own trailers x false coded none (λ e. absurd (false≢true e)) h

coded_one : (fields : List Field) → IsCoded fields → (codings fields ≡ []) ⊎ (lengths fields ≡ [])
coded_one fields (inl e) = inl e
coded_one fields (inr e) = inr e.3

fills_behind : (L : Bounds) (scheme : Scheme1) (to_head : Bool) (head : Head) (m : Message) (own : List Field) (x : List ℕ) (a : Start) → IsStartOf scheme head a
    → IsCoded head.fields → (own ≡ [] → m.trailers ≡ [])
    → IsBody L (framing_behind to_head head.start head.fields) m.content own x
    → Fills (cond (has_no_body to_head a) Empty (framing_by (lengths head.fields) (is_bare m a))) m.content m.trailers
fills_behind L scheme to_head head m own x (request c) s coded none h =
    fills_by L Empty (codings head.fields) (lengths head.fields) m.content own m.trailers x (is_bare m (request c)) (coded_one head.fields coded) none (bare_none m (request c))
    (subst (λ (line : StartLine). IsBody L (framing_behind to_head line head.fields) m.content own x) s.1 h)
fills_behind L scheme to_head head m own x (response is status) s coded none h =
    fills_or_not L (is_bodyless to_head status) (codings head.fields) (lengths head.fields) m.content own m.trailers x (coded_one head.fields coded) none
    (subst (λ (line : StartLine). IsBody L (framing_behind to_head line head.fields) m.content own x) s.0 h)

lengths_same : (L : Bounds) (scheme : Scheme1) (to_head : Bool) (m : Message) (bytes : List ℕ) (h : IsHttp1 L scheme to_head m bytes) → lengths m.fields ≡ lengths h.head.fields
lengths_same L scheme to_head m bytes h = ap lengths h.fields ∙ lengths_kept h.head.fields h.head.fields (says_host m.start)

read_fills : (L : Bounds) (scheme : Scheme1) (to_head : Bool) (m : Message) (bytes : List ℕ) → IsHttp1 L scheme to_head m bytes
    → Fills (framing_written to_head m) m.content m.trailers
read_fills L scheme to_head m bytes h =
    subst (λ (vs : List (List ℕ)). Fills (cond (has_no_body to_head m.start) Empty (framing_by vs (is_bare m m.start))) m.content m.trailers) (sym (lengths_same L scheme to_head m bytes h))
    (fills_behind L scheme to_head h.head m h.trailers h.text.3.1 m.start h.start h.coded
    (λ e. h.cleaned ∙ ap (clean_trailers (hops h.head.fields)) e) h.text.3.3)

-- ---- its head

interim_free : (L : Bounds) (i : Interim) (x : List ℕ) → IsInterimHead L i x → AreFree (of_interim i)
interim_free L i x h = (
  ne_eqb i.status 101 h.stays,
  (
    no_pseudo i.fields (interim_fields L i x h),
    (ap has_bad_value (interim_clean L i x h) ∙ good_values i.fields (interim_fields L i x h), tt),
  ),
)

interims_free : (L : Bounds) (is : List Interim) (x : List ℕ) → AreEach (IsInterimHead L) is x → All (λ i. AreFree (of_interim i)) is
interims_free L [] x h = All-nil (λ (i : Interim). AreFree (of_interim i))
interims_free L (i ∷ is) x h = All-cons (λ (j : Interim). AreFree (of_interim j)) i is (interim_free L i h.0 h.2) (interims_free L is h.1 h.3)

length_free : (L : Bounds) (scheme : Scheme1) (to_head : Bool) (m : Message) (bytes : List ℕ) → IsHttp1 L scheme to_head m bytes → not (is_length (lengths m.fields)) ≡ false
length_free L scheme to_head m bytes h =
    not_from_true (is_length (lengths m.fields)) (ap is_length (lengths_same L scheme to_head m bytes h) ∙ one (lengths h.head.fields) h.counted)
  where
    one : (vs : List (List ℕ)) → (vs ≡ []) ⊎ ((value : List ℕ) × (vs ≡ value ∷ []) × IsLength value) → is_length vs ≡ true
    one vs (inl e) = ap is_length e
    one vs (inr e) = ap is_length e.1 ∙ length_test e.0 e.2

web_test : (scheme : List ℕ) → IsWeb scheme → is_web scheme ≡ true
web_test scheme (inl e) = or_left (bytes_eq scheme (codes "http")) _ (ap (λ (s : List ℕ). bytes_eq s (codes "http")) e)
web_test scheme (inr e) = or_right _ (bytes_eq scheme (codes "https")) (ap (λ (s : List ℕ). bytes_eq s (codes "https")) e)

own_web : (s : Scheme1) → IsWeb (scheme_of s)
own_web Http = inl refl
own_web Https = inr refl

pub target_web : (scheme : Scheme1) (method target : List ℕ) (c : Control) → IsTargetOf scheme method target c → IsWeb c.scheme
target_web scheme method target c (inl p) = subst IsWeb (ap (λ (d : Control). d.scheme) (sym p.gives)) (own_web scheme)
target_web scheme method target c (inr (inl p)) = subst IsWeb (ap (λ (d : Control). d.scheme) (sym p.gives)) (own_web scheme)
target_web scheme method target c (inr (inr p)) = subst IsWeb (ap (λ (d : Control). d.scheme) (sym p.gives)) p.web

pub no_host : (named : List (List ℕ)) (fields : List Field) → values_of (codes "host") (clean named true fields) ≡ []
no_host named fields =
    let names : List (List ℕ) = connection_names ++ (named ++ (codes "host" ∷ [])) in
    no_values (codes "host") (clean named true fields)
    (lacks_name names (codes "host")
    (λ own e. (or_parts (bytes_eq own (codes "host")) false
    (back_among named (codes "host" ∷ []) own (back_among connection_names (named ++ (codes "host" ∷ [])) own e))).0)
    (clean named true fields) (clean_lacks named true fields))

host_test : (c : Control) (a : List ℕ) (fields : List Field) (ms : List Field) → c.authority ≡ a → HasHost c fields
    → ms ≡ clean (hops fields) (not (is_empty a)) fields → is_host a (values_of (codes "host") ms) ≡ true
host_test c [] fields ms e h d =
    ap (is_host []) (ap (values_of (codes "host")) d ∙ hosts_kept fields fields ∙ h.one) ∙ list_all-from_AllPass is_authority h.value (h.each e)
host_test c (b ∷ rest) fields ms e h d =
    ap (is_host (b ∷ rest)) (ap (values_of (codes "host")) d ∙ no_host (hops fields) fields)

head_free : (L : Bounds) (scheme : Scheme1) (head : Head) (fields : List Field) (a : Start) (x : List ℕ) → AreEach (IsInterimHead L) (interims_of a) x → IsStartOf scheme head a
    → fields ≡ clean (hops head.fields) (says_host a) head.fields → All IsHeadField fields → clean (hops fields) (says_host a) fields ≡ fields
    → not (is_length (lengths fields)) ≡ false → AreFree (of_head a fields)
head_free L scheme head fields (request c) x each s e h own n = (
  false_from_ne_true (bytes_eq c.method (codes "CONNECT")) (λ d. s.3 (same_name c.method (codes "CONNECT") d)),
  (
    not_from_true (is_web c.scheme) (web_test c.scheme (target_web scheme c.method s.0 c s.2)),
    (
      no_pseudo fields h,
      (
        ap has_bad_value own ∙ good_values fields h,
        (not_from_true (is_host c.authority (values_of (codes "host") fields)) (host_test c c.authority head.fields fields refl s.4 e), (n, tt)),
      ),
    ),
  ),
)
head_free L scheme head fields (response is status) x each s e h own n =
    free_append (flat_map of_interim is) _ (free_each of_interim is (interims_free L is x each))
    (no_pseudo fields h, (ap has_bad_value own ∙ good_values fields h, (n, tt)))

pub read_has_text : (L : Bounds) (scheme : Scheme1) (to_head : Bool) (m : Message) (bytes : List ℕ) → IsHttp1 L scheme to_head m bytes → no_form to_head m ≡ None
read_has_text L scheme to_head m bytes h =
    free_none (of_head m.start m.fields ++ of_body (framing_written to_head (clean_message m)) m.content (clean_trailers (hops m.fields) m.trailers))
    (free_append (of_head m.start m.fields) (of_body (framing_written to_head (clean_message m)) m.content (clean_trailers (hops m.fields) m.trailers))
    (head_free L scheme h.head m.fields m.start h.text.0 h.text.2 h.start h.fields (read_fields L scheme to_head m bytes h)
    (fields_clean L scheme to_head m bytes h) (length_free L scheme to_head m bytes h))
    (subst₂ (λ (n : Message) (ts : List Field). AreFree (of_body (framing_written to_head n) m.content ts))
    (sym (message_clean L scheme to_head m bytes h)) (sym (trailers_clean L scheme to_head m bytes h))
    (body_free (framing_written to_head m) m.content m.trailers (read_fills L scheme to_head m bytes h) (good_values m.trailers (read_trailers L scheme to_head m bytes h)))))

pub and_back : AndBack
and_back L scheme to_head m bytes h = (message_clean L scheme to_head m bytes h, read_has_text L scheme to_head m bytes h)
