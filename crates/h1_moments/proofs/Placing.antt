-- Where an item stands among those of a message.
use Rattle.std.proofs.Common.{◌≡◌, ◌+◌, ℕ, List, [], ◌∷◌, ◌++◌, map, refl, sym, ap, subst, ◌∙◌, append_assoc, arith}
use Rattle.bh_spec.specs.declared.Omitted.{Omitted}
use Rattle.bh_spec.specs.declared.Omitted.TheVariants.{Nothing, Trailers, Both}
use Rattle.bh_spec.specs.Messages.{Field, Interim, Start, request, response, Message}
use Rattle.bh_spec.specs.Items.{Item, Head, of_request, of_response, interim_response, head, content_byte, trailer_section, ending, start_items, trailer_items, tail_items, items}
use Rattle.bh_push.specs.Completing.{interim_item}
use Rattle.bh_stream.specs.Decoding.{content_items}
use Rattle.bh_stream.proofs.Moving.{items-append}
use Rattle.h1_moments.specs.Seen.{Seen, interims_seen, head_seen, nothing_seen, seen_behind}
use Rattle.h1_moments.specs.Laws.{StandsBehind, StandsInPlace}
use Rattle.h1_moments.proofs.Seeing.{seen-append, head_stays, start_seen, seen_interims}
use Rattle.h1_moments.proofs.Continuing.{continued, start_count}

-- before a head, and behind one
abbrev IsEarly : Item → Type 0
IsEarly (interim_response status fields) = Unit {0}
IsEarly (head of fields) = Unit {0}
IsEarly (content_byte byte) = ⊥
IsEarly (trailer_section trailers) = ⊥
IsEarly (ending omitted padding) = ⊥

abbrev IsLate : Item → Type 0
IsLate item = IsEarly item → ⊥

tail_late : (content : List ℕ) (trailers : List Field) (o : Omitted) (z : ℕ) (i q : List Item) (item : Item) → i ++ item ∷ q ≡ tail_items content trailers o z → IsLate item
tail_late [] trailers o z [] q item e = last o e
  where
    last : (o : Omitted) → item ∷ q ≡ trailer_items o trailers ++ ending o z ∷ [] → IsLate item
    last Nothing e = λ early. let same : item ≡ trailer_section trailers = cc in subst IsEarly same early
    last Trailers e = λ early. let same : item ≡ ending Trailers z = cc in subst IsEarly same early
    last Both e = λ early. let same : item ≡ ending Both z = cc in subst IsEarly same early
tail_late [] trailers o z (x ∷ i) q item e = last o e
  where
    none : (i : List Item) → i ++ item ∷ q ≡ [] → ⊥
    none [] e = cc
    none (y ∷ i) e = cc

    one : (i : List Item) (y : Item) → i ++ item ∷ q ≡ y ∷ [] → item ≡ y
    one [] y e = cc
    one (k ∷ i) y e = let rest : i ++ item ∷ q ≡ [] = cc in absurd (none i rest)

    last : (o : Omitted) → x ∷ (i ++ item ∷ q) ≡ trailer_items o trailers ++ ending o z ∷ [] → IsLate item
    last Nothing e = λ early. let rest : i ++ item ∷ q ≡ ending Nothing z ∷ [] = cc in subst IsEarly (one i (ending Nothing z) rest) early
    last Trailers e = let rest : i ++ item ∷ q ≡ [] = cc in absurd (none i rest)
    last Both e = let rest : i ++ item ∷ q ≡ [] = cc in absurd (none i rest)
tail_late (b ∷ content) trailers o z [] q item e = λ early. let same : item ≡ content_byte b = cc in subst IsEarly same early
tail_late (b ∷ content) trailers o z (x ∷ i) q item e =
    let rest : i ++ item ∷ q ≡ tail_items content trailers o z = cc in tail_late content trailers o z i q item rest

-- ---- behind a head

late_behind : (is : List Interim) (of : Head) (fields : List Field) (tail i q : List Item) (item : Item) → IsLate item → i ++ item ∷ q ≡ map interim_item is ++ (head of fields ∷ tail)
    → (more : List Item) × (i ≡ map interim_item is ++ (head of fields ∷ more))
late_behind [] of fields tail [] q item late e = absurd (late (let same : head of fields ≡ item = cc in subst IsEarly same tt))
late_behind [] of fields tail (x ∷ i) q item late e = let same : x ≡ head of fields = cc in (i, λ k. same k ∷ i)
late_behind (a ∷ is) of fields tail [] q item late e = absurd (late (let same : interim_item a ≡ item = cc in subst IsEarly same tt))
late_behind (a ∷ is) of fields tail (x ∷ i) q item late e =
    let same : x ≡ interim_item a = cc in
    let rest : i ++ item ∷ q ≡ map interim_item is ++ (head of fields ∷ tail) = cc in
    let r = late_behind is of fields tail i q item late rest in
    (r.0, λ k. same k ∷ r.1 k)

behind_start : (start : Start) (fields : List Field) (tail i q : List Item) (item : Item) → IsLate item → i ++ item ∷ q ≡ start_items start fields ++ tail → (more : List Item) × (i ≡ start_items start fields ++ more)
behind_start (request c) fields tail i q item late e = late_behind [] (of_request c) fields tail i q item late e
behind_start (response is status) fields tail i q item late e =
    let r = late_behind is (of_response status) fields tail i q item late (e ∙ append_assoc (map interim_item is) (head (of_response status) fields ∷ []) tail) in
    (r.0, r.1 ∙ sym (append_assoc (map interim_item is) (head (of_response status) fields ∷ []) r.0))

-- what was seen there
pub seen_late : (m : Message) (o : Omitted) (z : ℕ) (i q : List Item) (item : Item) → IsLate item → i ++ item ∷ q ≡ items m o z → seen_behind nothing_seen i ≡ head_seen m.start m.fields (content_items i)
seen_late m o z i q item late e =
    let b = behind_start m.start m.fields (tail_items m.content m.trailers o z) i q item late e in
    let count : 0 + content_items b.0 ≡ content_items i = omega (arith, ap content_items b.1, items-append (start_items m.start m.fields) b.0, start_count m.start m.fields) in
    ap (seen_behind nothing_seen) b.1 ∙ seen-append nothing_seen (start_items m.start m.fields) b.0 ∙ ap (λ (s : Seen). seen_behind s b.0) (start_seen m.start m.fields)
    ∙ head_stays m.start m.fields 0 b.0 ∙ ap (head_seen m.start m.fields) count

-- ---- before it

early_before : (content : List ℕ) (trailers : List Field) (o : Omitted) (z : ℕ) (is : List Interim) (of : Head) (fields : List Field) (i q : List Item) (item : Item) → IsEarly item
    → i ++ item ∷ q ≡ map interim_item is ++ (head of fields ∷ tail_items content trailers o z) → (js : List Interim) × (i ≡ map interim_item js)
early_before content trailers o z is of fields [] q item early e = ([], refl)
early_before content trailers o z [] of fields (x ∷ i) q item early e =
    let rest : i ++ item ∷ q ≡ tail_items content trailers o z = cc in absurd (tail_late content trailers o z i q item rest early)
early_before content trailers o z (a ∷ is) of fields (x ∷ i) q item early e =
    let same : x ≡ interim_item a = cc in
    let rest : i ++ item ∷ q ≡ map interim_item is ++ (head of fields ∷ tail_items content trailers o z) = cc in
    let r = early_before content trailers o z is of fields i q item early rest in
    (a ∷ r.0, λ k. same k ∷ r.1 k)

pub seen_early : (m : Message) (o : Omitted) (z : ℕ) (i q : List Item) (item : Item) → IsEarly item → i ++ item ∷ q ≡ items m o z → (js : List Interim) × (seen_behind nothing_seen i ≡ interims_seen js)
seen_early m o z i q item early e = by_start m.start e
  where
    tail : List Item
    tail = tail_items m.content m.trailers o z

    seen : (js : List Interim) × (i ≡ map interim_item js) → (js : List Interim) × (seen_behind nothing_seen i ≡ interims_seen js)
    seen r = (r.0, ap (seen_behind nothing_seen) r.1 ∙ seen_interims [] r.0)

    by_start : (start : Start) → i ++ item ∷ q ≡ start_items start m.fields ++ tail → (js : List Interim) × (seen_behind nothing_seen i ≡ interims_seen js)
    by_start (request c) e = seen (early_before m.content m.trailers o z [] (of_request c) m.fields i q item early e)
    by_start (response is status) e =
        seen (early_before m.content m.trailers o z is (of_response status) m.fields i q item early (e ∙ append_assoc (map interim_item is) (head (of_response status) m.fields ∷ []) tail))

-- ---- the law

pub stands : (m : Message) (o : Omitted) (z : ℕ) (i q : List Item) (item : Item) → i ++ item ∷ q ≡ items m o z → StandsBehind i item
stands m o z i q (interim_response status fields) e = seen_early m o z i q (interim_response status fields) tt e
stands m o z i q (head of fields) e = seen_early m o z i q (head of fields) tt e
stands m o z i q (content_byte byte) e = (m.start, m.fields, seen_late m o z i q (content_byte byte) (λ h. h) e)
stands m o z i q (trailer_section trailers) e = (m.start, m.fields, seen_late m o z i q (trailer_section trailers) (λ h. h) e)
stands m o z i q (ending omitted padding) e = (m.start, m.fields, seen_late m o z i q (ending omitted padding) (λ h. h) e)

pub stands_in_place : StandsInPlace
stands_in_place L bytes i j item w c =
    let a = c.goes_on in
    let k = continued L bytes (i ++ item ∷ j) w c a.spelled.0 a.text a.spelled.1 in
    stands k.message k.omitted k.padding i (j ++ a.spelled.0) item (sym (append_assoc i (item ∷ j) a.spelled.0) ∙ k.items_are)
