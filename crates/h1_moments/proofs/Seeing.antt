-- What was seen of a message, item by item.
use Rattle.std.proofs.Common.{◌≡◌, ◌<◌, ◌≤◌, ◌+◌, ◌⊎◌, ℕ, suc, List, [], ◌∷◌, ◌++◌, length, map, refl, sym, ap, ap₂, subst, ◌∙◌, inl, inr, append_assoc, append-nil, arith}
use Rattle.std.specs.List.{Contains}
use Rattle.std.proofs.lemmas.List.Elements.{Contains-push_cases, Contains-append_cases}
use Rattle.bh_spec.specs.declared.Omitted.{Omitted}
use Rattle.bh_spec.specs.declared.Omitted.TheVariants.{Nothing, Trailers, Both}
use Rattle.bh_spec.specs.Messages.{Field, Interim, Start, request, response, Message}
use Rattle.bh_spec.specs.Items.{Item, of_response, interim_response, head, content_byte, trailer_section, ending, start_items, trailer_items, tail_items, items}
use Rattle.bh_push.specs.Completing.{interim_item}
use Rattle.bh_stream.specs.Decoding.{content_items}
use Rattle.bh_stream.proofs.Moving.{items-append, items-map}
use Rattle.h1_spec.specs.Http1.{interims_of}
use Rattle.h1_spec.specs.Moments.{Moment, interim_ended, head_ended, content_read, trailers_ended, input_ended, byte_moments, last_moment, moments}
use Rattle.h1_moments.specs.Seen.{Seen, interims_seen, head_seen, nothing_seen, start_with, see, seen_behind, end_moments, moments_of, moments_in}

-- ---- items behind items

pub seen-append : (s : Seen) (i j : List Item) → seen_behind s (i ++ j) ≡ seen_behind (seen_behind s i) j
seen-append s [] j = refl
seen-append s (x ∷ i) j = seen-append (see s x) i j

pub moments-append : (s : Seen) (i j : List Item) → moments_in s (i ++ j) ≡ moments_in s i ++ moments_in (seen_behind s i) j
moments-append s [] j = refl
moments-append s (x ∷ i) j =
    ap (λ (z : List Moment). moments_of s x ++ z) (moments-append (see s x) i j) ∙ sym (append_assoc (moments_of s x) (moments_in (see s x) i) (moments_in (seen_behind (see s x) i) j))

-- behind a head only content is counted
pub head_stays : (start : Start) (fields : List Field) (n : ℕ) (q : List Item) → seen_behind (head_seen start fields n) q ≡ head_seen start fields (n + content_items q)
head_stays start fields n [] = ap (head_seen start fields) (let e : n ≡ n + 0 = omega arith in e)
head_stays start fields n (interim_response status more ∷ q) = head_stays start fields n q
head_stays start fields n (head of more ∷ q) = head_stays start fields n q
head_stays start fields n (content_byte byte ∷ q) =
    head_stays start fields (n + 1) q ∙ ap (head_seen start fields) (let e : n + 1 + content_items q ≡ n + (content_items q + 1) = omega arith in e)
head_stays start fields n (trailer_section trailers ∷ q) = head_stays start fields n q
head_stays start fields n (ending omitted padding ∷ q) = head_stays start fields n q

-- ---- the start of a message

pub seen_interims : (js is : List Interim) → seen_behind (interims_seen js) (map interim_item is) ≡ interims_seen (js ++ is)
seen_interims js [] = ap interims_seen (sym (append-nil js))
seen_interims js (i ∷ is) = seen_interims (js ++ i ∷ []) is ∙ ap interims_seen (append_assoc js (i ∷ []) is)

pub moments_interims : (js is : List Interim) → moments_in (interims_seen js) (map interim_item is) ≡ map interim_ended is
moments_interims js [] = refl
moments_interims js (i ∷ is) = ap (λ (z : List Moment). interim_ended i ∷ z) (moments_interims (js ++ i ∷ []) is)

pub start_seen : (start : Start) (fields : List Field) → seen_behind nothing_seen (start_items start fields) ≡ head_seen start fields 0
start_seen (request control) fields = refl
start_seen (response is status) fields =
    seen-append nothing_seen (map interim_item is) (head (of_response status) fields ∷ [])
    ∙ ap (λ (s : Seen). seen_behind s (head (of_response status) fields ∷ [])) (seen_interims [] is)

pub start_moments : (start : Start) (fields : List Field) → moments_in nothing_seen (start_items start fields) ≡ map interim_ended (interims_of start) ++ head_ended start fields ∷ []
start_moments (request control) fields = refl
start_moments (response is status) fields =
    moments-append nothing_seen (map interim_item is) (head (of_response status) fields ∷ [])
    ∙ ap₂ (λ (a : List Moment) (s : Seen). a ++ moments_in s (head (of_response status) fields ∷ [])) (moments_interims [] is) (seen_interims [] is)

-- ---- content, and the end

pub bytes_moments : (start : Start) (fields : List Field) (n : ℕ) (c : List ℕ)
    → byte_moments start fields n ++ moments_in (head_seen start fields n) (map content_byte c) ≡ byte_moments start fields (n + length c)
bytes_moments start fields n [] = append-nil (byte_moments start fields n) ∙ ap (byte_moments start fields) (let e : n ≡ n + 0 = omega arith in e)
bytes_moments start fields n (x ∷ c) =
    let one : n + 1 ≡ suc n = omega arith in
    let next : byte_moments start fields n ++ content_read start fields (n + 1) ∷ [] ≡ byte_moments start fields (n + 1) =
    subst (λ (k : ℕ). byte_moments start fields n ++ content_read start fields k ∷ [] ≡ byte_moments start fields k) (sym one) refl in
    let later = moments_in (head_seen start fields (n + 1)) (map content_byte c) in
    sym (append_assoc (byte_moments start fields n) (content_read start fields (n + 1) ∷ []) later)
    ∙ ap (λ (z : List Moment). z ++ later) next ∙ bytes_moments start fields (n + 1) c
    ∙ ap (byte_moments start fields) (let e : n + 1 + length c ≡ n + suc (length c) = omega arith in e)

last_moments : (start : Start) (fields : List Field) (content : List ℕ) (trailers : List Field) (o : Omitted) (z n : ℕ) → n ≡ length content
    → moments_in (head_seen start fields n) (trailer_items o trailers ++ ending o z ∷ [])
    ≡ last_moment (record { start = start; fields = fields; content = content; trailers = trailers }) o ∷ []
last_moments start fields content trailers Nothing z n e = ap (λ (k : ℕ). trailers_ended start fields k trailers ∷ []) e
last_moments start fields content trailers Trailers z n e = ap (λ (k : ℕ). input_ended start fields k ∷ []) e
last_moments start fields content trailers Both z n e = ap (λ (k : ℕ). input_ended start fields k ∷ []) e

last_count : (trailers : List Field) (o : Omitted) (z : ℕ) → content_items (trailer_items o trailers ++ ending o z ∷ []) ≡ 0
last_count trailers Nothing z = refl
last_count trailers Trailers z = refl
last_count trailers Both z = refl

pub tail_count : (content : List ℕ) (trailers : List Field) (o : Omitted) (z : ℕ) → content_items (tail_items content trailers o z) ≡ length content
tail_count content trailers o z =
    omega (arith, items-append (map content_byte content) (trailer_items o trailers ++ ending o z ∷ []), items-map content, last_count trailers o z)

tail_moments : (m : Message) (o : Omitted) (z : ℕ)
    → moments_in (head_seen m.start m.fields 0) (tail_items m.content m.trailers o z) ≡ byte_moments m.start m.fields (length m.content) ++ last_moment m o ∷ []
tail_moments m o z =
    let bytes = map content_byte m.content in
    let last = trailer_items o m.trailers ++ ending o z ∷ [] in
    let count : 0 + content_items bytes ≡ length m.content = omega (arith, items-map m.content) in
    moments-append (head_seen m.start m.fields 0) bytes last
    ∙ ap₂ (λ (a b : List Moment). a ++ b) (bytes_moments m.start m.fields 0 m.content)
    (ap (λ (s : Seen). moments_in s last) (head_stays m.start m.fields 0 bytes) ∙ last_moments m.start m.fields m.content m.trailers o z (0 + content_items bytes) count)
    ∙ ap (λ (k : ℕ). byte_moments m.start m.fields k ++ last_moment m o ∷ []) (let e : 0 + length m.content ≡ length m.content = omega arith in e)

-- ---- whole messages

pub message_seen : (m : Message) (o : Omitted) (z : ℕ) → seen_behind nothing_seen (items m o z) ≡ head_seen m.start m.fields (length m.content)
message_seen m o z =
    let tail = tail_items m.content m.trailers o z in
    seen-append nothing_seen (start_items m.start m.fields) tail ∙ ap (λ (s : Seen). seen_behind s tail) (start_seen m.start m.fields)
    ∙ head_stays m.start m.fields 0 tail ∙ ap (head_seen m.start m.fields) (let e : 0 + content_items tail ≡ length m.content = omega (arith, tail_count m.content m.trailers o z) in e)

pub message_moments : (m : Message) (o : Omitted) (z : ℕ) → moments_in nothing_seen (items m o z) ≡ moments m o
message_moments m o z =
    let tail = tail_items m.content m.trailers o z in
    let rest = byte_moments m.start m.fields (length m.content) ++ last_moment m o ∷ [] in
    moments-append nothing_seen (start_items m.start m.fields) tail
    ∙ ap₂ (λ (a b : List Moment). a ++ b) (start_moments m.start m.fields) (ap (λ (s : Seen). moments_in s tail) (start_seen m.start m.fields) ∙ tail_moments m o z)
    ∙ append_assoc (map interim_ended (interims_of m.start)) (head_ended m.start m.fields ∷ []) rest

-- ---- what a moment among them says

pub one_in : {X : Type 0} (x y : X) → Contains (x ∷ []) y → x ≡ y
one_in x y h = by_case (Contains-push_cases [] x y h)
  where
    by_case : Contains [] y ⊎ (x ≡ y) → x ≡ y
    by_case (inl k) = absurd (omega (arith, k.1))
    by_case (inr e) = e

pub none_in : {X : Type 0} (y : X) → Contains [] y → ⊥
none_in y h = omega (arith, h.1)

-- behind a head and so much content
abbrev pub IsLater : Start → List Field → ℕ → Moment → Type 0
IsLater start fields n (interim_ended i) = ⊥
IsLater start fields n (head_ended s fs) = ⊥
IsLater start fields n (content_read s fs k) = (s ≡ start) × (fs ≡ fields) × (n < k)
IsLater start fields n (trailers_ended s fs k ts) = (s ≡ start) × (fs ≡ fields) × (n ≤ k)
IsLater start fields n (input_ended s fs k) = Unit {0}

still_later : (start : Start) (fields : List Field) (n : ℕ) (moment : Moment) → IsLater start fields (n + 1) moment → IsLater start fields n moment
still_later start fields n (interim_ended i) h = h
still_later start fields n (head_ended s fs) h = h
still_later start fields n (content_read s fs k) h = (h.0, h.1, omega (arith, h.2))
still_later start fields n (trailers_ended s fs k ts) h = (h.0, h.1, omega (arith, h.2))
still_later start fields n (input_ended s fs k) h = tt

end_later : (start : Start) (fields : List Field) (n : ℕ) (o : Omitted) (moment : Moment) → Contains (end_moments start fields n o) moment → IsLater start fields n moment
end_later start fields n Nothing moment h = absurd (none_in moment h)
end_later start fields n Trailers moment h = subst (IsLater start fields n) (one_in (input_ended start fields n) moment h) tt
end_later start fields n Both moment h = subst (IsLater start fields n) (one_in (input_ended start fields n) moment h) tt

of_later : (start : Start) (fields : List Field) (n : ℕ) (item : Item) (moment : Moment) → Contains (moments_of (head_seen start fields n) item) moment → IsLater start fields n moment
of_later start fields n (interim_response status more) moment h = absurd (none_in moment h)
of_later start fields n (head of more) moment h = absurd (none_in moment h)
of_later start fields n (content_byte byte) moment h =
    subst (IsLater start fields n) (one_in (content_read start fields (n + 1)) moment h) (refl, refl, omega arith)
of_later start fields n (trailer_section trailers) moment h =
    subst (IsLater start fields n) (one_in (trailers_ended start fields n trailers) moment h) (refl, refl, omega arith)
of_later start fields n (ending o z) moment h = end_later start fields n o moment h

pub are_later : (start : Start) (fields : List Field) (n : ℕ) (q : List Item) (moment : Moment) → Contains (moments_in (head_seen start fields n) q) moment → IsLater start fields n moment
are_later start fields n [] moment h = absurd (none_in moment h)
are_later start fields n (x ∷ q) moment h =
    by_case x (λ k c. are_later start fields k q moment c) (Contains-append_cases (moments_of (head_seen start fields n) x) (moments_in (see (head_seen start fields n) x) q) moment h)
  where
    by_case : (x : Item) → ((k : ℕ) → Contains (moments_in (head_seen start fields k) q) moment → IsLater start fields k moment)
        → Contains (moments_of (head_seen start fields n) x) moment ⊎ Contains (moments_in (see (head_seen start fields n) x) q) moment → IsLater start fields n moment
    by_case x go (inl k) = of_later start fields n x moment k
    by_case (interim_response status more) go (inr k) = go n k
    by_case (head of more) go (inr k) = go n k
    by_case (content_byte byte) go (inr k) = still_later start fields n moment (go (n + 1) k)
    by_case (trailer_section trailers) go (inr k) = go n k
    by_case (ending o z) go (inr k) = go n k

-- with one byte of content more at the front
abbrev pub IsBeyond : ℕ → Moment → Type 0
IsBeyond n (interim_ended i) = ⊥
IsBeyond n (head_ended s fs) = ⊥
IsBeyond n (content_read s fs k) = n < k
IsBeyond n (trailers_ended s fs k ts) = n < k
IsBeyond n (input_ended s fs k) = Unit {0}

pub are_beyond : (start : Start) (fields : List Field) (n byte : ℕ) (q : List Item) (moment : Moment) → Contains (moments_in (head_seen start fields n) (content_byte byte ∷ q)) moment → IsBeyond n moment
are_beyond start fields n byte q moment h =
    by_case (Contains-append_cases (content_read start fields (n + 1) ∷ []) (moments_in (head_seen start fields (n + 1)) q) moment h)
  where
    later : (moment : Moment) → IsLater start fields (n + 1) moment → IsBeyond n moment
    later (interim_ended i) k = k
    later (head_ended s fs) k = k
    later (content_read s fs c) k = omega (arith, k.2)
    later (trailers_ended s fs c ts) k = omega (arith, k.2)
    later (input_ended s fs c) k = tt

    by_case : Contains (content_read start fields (n + 1) ∷ []) moment ⊎ Contains (moments_in (head_seen start fields (n + 1)) q) moment → IsBeyond n moment
    by_case (inl k) = subst (IsBeyond n) (one_in (content_read start fields (n + 1)) moment k) (let e : n < n + 1 = omega arith in e)
    by_case (inr k) = later moment (are_later start fields (n + 1) q moment k)

-- before a head only interim responses have ended
pub interims_come : (i : List Item) (js is : List Interim) → seen_behind (interims_seen js) i ≡ interims_seen is
    → (ks : List Interim) × (is ≡ js ++ ks) × (moments_in (interims_seen js) i ≡ map interim_ended ks)
interims_come [] js is e = let same : js ≡ is = cc in ([], sym same ∙ sym (append-nil js), refl)
interims_come (interim_response status fields ∷ q) js is e =
    let i : Interim = record { status = status; fields = fields } in
    let r = interims_come q (js ++ i ∷ []) is e in
    (i ∷ r.0, r.1 ∙ append_assoc js (i ∷ []) r.0, ap (λ (z : List Moment). interim_ended i ∷ z) r.2)
interims_come (head of fields ∷ q) js is e =
    let bad : head_seen (start_with js of) fields (0 + content_items q) ≡ interims_seen is = sym (head_stays (start_with js of) fields 0 q) ∙ e in
    absurd (cc)
interims_come (content_byte byte ∷ q) js is e = interims_come q js is e
interims_come (trailer_section trailers ∷ q) js is e = interims_come q js is e
interims_come (ending o z ∷ q) js is e = interims_come q js is e
