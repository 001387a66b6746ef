-- No moment comes unseen: where one comes at a front of bytes that lead to a prompt state, its item was handed out.
use Rattle.std.proofs.Common.{◌≡◌, ◌≤◌, ◌⊎◌, ℕ, List, [], ◌∷◌, ◌++◌, length, map, refl, sym, ap, subst, ◌∙◌, inl, inr, append_assoc, append-nil, length-append, arith}
use Rattle.std.specs.List.{Contains}
use Rattle.std.proofs.lemmas.List.{same_from_push}
use Rattle.std.proofs.lemmas.List.Elements.{Contains-append_cases}
use Rattle.bh_spec.specs.declared.Form.{Form}
use Rattle.bh_spec.specs.declared.Form.TheVariants.{Known, Indeterminate}
use Rattle.bh_spec.specs.declared.Omitted.{Omitted}
use Rattle.bh_spec.specs.declared.Omitted.TheVariants.{Nothing, Trailers, Both}
use Rattle.bh_spec.specs.declared.Part.{Part}
use Rattle.bh_spec.specs.declared.Width.{Width}
use Rattle.bh_spec.specs.declared.Width.TheVariants.{One, Two, Four, Eight}
use Rattle.bh_spec.specs.Bounds.{Bounds}
use Rattle.bh_spec.specs.Integers.{vi, byte_count}
use Rattle.bh_spec.specs.Messages.{Field, Interim, response, Message}
use Rattle.bh_spec.specs.Texts.{Text, bytes_of, IsNumber, content_in}
use Rattle.bh_spec.specs.Sections.{IsSection}
use Rattle.bh_spec.specs.Tails.{IsTail}
use Rattle.bh_spec.specs.Spelling.{Spells}
use Rattle.bh_spec.specs.Items.{Item, Head, of_response, head, content_byte, trailer_section, ending}
use Rattle.bh_spec.proofs.Widths.{length-vi}
use Rattle.bh_spec.proofs.Marks.{bytes_of-append, length-mark}
use Rattle.bh_push.specs.Completing.{interim_item}
use Rattle.bh_push.specs.Decoders.{At, Rest, in_framing}
use Rattle.bh_push.specs.Standing.{Comes}
use Rattle.bh_stream.specs.Decoding.{content_items}
use Rattle.bh_stream.proofs.Moving.{bytes-length}
use Rattle.h1_spec.specs.Http1.{interims_of}
use Rattle.h1_spec.specs.Moments.{Moment, interim_ended, head_ended, content_read, trailers_ended, input_ended}
use Rattle.h1_spec.specs.Judging.{IsInterims, ComesAt}
use Rattle.h1_spec.proofs.Members.{own}
use Rattle.h1_spec.proofs.Ordering.{its_place}
use Rattle.h1_moments.specs.Seen.{Seen, interims_seen, head_seen, nothing_seen, start_with, seen_behind, moments_in}
use Rattle.h1_moments.specs.Laws.{NoneComesUnseen}
use Rattle.h1_moments.proofs.Ahead.{IsSome, Ahead, the_end, a_byte, a_trailer, a_head, an_interim, state_ahead}
use Rattle.h1_moments.proofs.Seeing.{seen-append, moments-append, message_seen, message_moments, one_in, none_in, IsBeyond, are_beyond, interims_come}
use Rattle.h1_moments.proofs.Wholes.{interim_in, among_moments}
use Rattle.h1_moments.proofs.Continuing.{Continued, continued, ends_with, content_so_far}
use Rattle.h1_moments.proofs.Placing.{seen_late}
use Rattle.h1_moments.proofs.Fronts.{few_content, few_closing, head_ends, trailers_end, interim_ends}

-- ---- numbers are short

pub number_short : (part : Part) (n : ℕ) (t : Text) → IsNumber part n t → length t ≤ 8
number_short part n t h = omega (arith, ap length h.spelled, length-mark part (vi n h.width), length-vi n h.width, at_most h.width)
  where
    at_most : (w : Width) → byte_count w ≤ 8
    at_most One = omega arith
    at_most Two = omega arith
    at_most Four = omega arith
    at_most Eight = omega arith

pub section_short : (L : Bounds) (form : Form) (fields : List Field) (t : Text) → fields ≡ [] → IsSection L form fields t → length t ≤ 8
section_short L form fields t e h = by_form form (subst (λ (fs : List Field). IsSection L form fs t) e h)
  where
    by_form : (form : Form) → IsSection L form [] t → length t ≤ 8
    by_form Known h =
        let p = h.2 in
        omega (arith, ap length p.4, length-append p.0 p.1, number_short _ (length h.0) p.0 p.2, ap length p.3, ap length h.1.lines)
    by_form Indeterminate h = omega (arith, ap length h.4, length-append h.0 h.1, ap length h.2.lines, number_short _ 0 h.1 h.3)

-- ---- what comes with the items that are still to come

-- a moment of the message is one of those that were seen, or comes later
pub seen_or_later : (L : Bounds) (i q : List Item) (text t : Text) (c : Continued L i q text t) (front more : List ℕ) (moment : Moment) → bytes_of text ≡ front ++ more → ComesAt L front moment
    → Contains (moments_in nothing_seen i) moment ⊎ Contains (moments_in (seen_behind nothing_seen i) q) moment
seen_or_later L i q text t c front more moment e h =
    let all : bytes_of (text ++ t) ≡ front ++ (more ++ bytes_of t) =
    bytes_of-append text t ∙ ap (λ (x : List ℕ). x ++ bytes_of t) e ∙ append_assoc front more (bytes_of t) in
    let among = among_moments L c.message c.omitted c.padding (bytes_of (text ++ t)) front (more ++ bytes_of t) moment (record { text = text ++ t; spelled = c.spells; same = refl }) all h in
    Contains-append_cases (moments_in nothing_seen i) (moments_in (seen_behind nothing_seen i) q) moment
    (subst (λ (x : List Moment). Contains x moment)
    (sym (message_moments c.message c.omitted c.padding) ∙ ap (moments_in nothing_seen) (sym c.items_are) ∙ moments-append nothing_seen i q) among)

-- which moments they are
abbrev IsHead : Moment → Type 0
IsHead (interim_ended i) = ⊥
IsHead (head_ended s fs) = Unit {0}
IsHead (content_read s fs k) = ⊥
IsHead (trailers_ended s fs k ts) = ⊥
IsHead (input_ended s fs k) = Unit {0}

abbrev IsTrailers : Moment → Type 0
IsTrailers (interim_ended i) = ⊥
IsTrailers (head_ended s fs) = ⊥
IsTrailers (content_read s fs k) = ⊥
IsTrailers (trailers_ended s fs k ts) = Unit {0}
IsTrailers (input_ended s fs k) = Unit {0}

abbrev IsEnd : Moment → Type 0
IsEnd (interim_ended i) = ⊥
IsEnd (head_ended s fs) = ⊥
IsEnd (content_read s fs k) = ⊥
IsEnd (trailers_ended s fs k ts) = ⊥
IsEnd (input_ended s fs k) = Unit {0}

-- one of two lists
of_two : (P : Moment → Type 0) (a b : List Moment) (moment : Moment) → (Contains a moment → P moment) → (Contains b moment → P moment) → Contains (a ++ b) moment → P moment
of_two P a b moment f g h = by_case (Contains-append_cases a b moment h)
  where
    by_case : Contains a moment ⊎ Contains b moment → P moment
    by_case (inl k) = f k
    by_case (inr k) = g k

of_one : (P : Moment → Type 0) (x moment : Moment) → P x → Contains (x ∷ []) moment → P moment
of_one P x moment p h = subst P (one_in x moment h) p

at_end : (s : Seen) (o : Omitted) (z : ℕ) (moment : Moment) → Contains (moments_in s (ending o z ∷ [])) moment → IsEnd moment
at_end (interims_seen is) o z moment h = absurd (none_in moment h)
at_end (head_seen s fs n) Nothing z moment h = absurd (none_in moment h)
at_end (head_seen s fs n) Trailers z moment h = of_one IsEnd (input_ended s fs n) moment tt h
at_end (head_seen s fs n) Both z moment h = of_one IsEnd (input_ended s fs n) moment tt h

end_head : (moment : Moment) → IsEnd moment → IsHead moment
end_head (input_ended s fs k) h = tt
end_head (interim_ended i) h = h
end_head (head_ended s fs) h = absurd h
end_head (content_read s fs k) h = h
end_head (trailers_ended s fs k ts) h = h

end_trailers : (moment : Moment) → IsEnd moment → IsTrailers moment
end_trailers (input_ended s fs k) h = tt
end_trailers (interim_ended i) h = h
end_trailers (head_ended s fs) h = h
end_trailers (content_read s fs k) h = h
end_trailers (trailers_ended s fs k ts) h = absurd h

at_head : (s : Seen) (of : Head) (fields : List Field) (moment : Moment) → Contains (moments_in s (head of fields ∷ ending Both 0 ∷ [])) moment → IsHead moment
at_head (interims_seen is) of fields moment h =
    of_two IsHead (head_ended (start_with is of) fields ∷ []) (moments_in (head_seen (start_with is of) fields 0) (ending Both 0 ∷ [])) moment
    (of_one IsHead (head_ended (start_with is of) fields) moment tt) (λ k. end_head moment (at_end (head_seen (start_with is of) fields 0) Both 0 moment k)) h
at_head (head_seen s fs n) of fields moment h = end_head moment (at_end (head_seen s fs n) Both 0 moment h)

at_trailers : (s : Seen) (fields : List Field) (moment : Moment) → Contains (moments_in s (trailer_section fields ∷ ending Nothing 0 ∷ [])) moment → IsTrailers moment
at_trailers (interims_seen is) fields moment h = absurd (none_in moment h)
at_trailers (head_seen s fs n) fields moment h = of_one IsTrailers (trailers_ended s fs n fields) moment tt h

-- ---- none of them comes at a front

-- something more follows the bytes
more_follows : (text t : Text) (front more : List ℕ) → bytes_of text ≡ front ++ more → IsSome t → more ++ bytes_of t ≡ [] → ⊥
more_follows text t front more e some none = omega (arith, some, ap length none, length-append more (bytes_of t), bytes-length t)

all_bytes : (text t : Text) (front more : List ℕ) → bytes_of text ≡ front ++ more → bytes_of (text ++ t) ≡ front ++ (more ++ bytes_of t)
all_bytes text t front more e = bytes_of-append text t ∙ ap (λ (x : List ℕ). x ++ bytes_of t) e ∙ append_assoc front more (bytes_of t)

no_end : (L : Bounds) (front : List ℕ) (moment : Moment) → IsEnd moment → ComesAt L front moment → ⊥
no_end L front (input_ended s fs k) p h = h
no_end L front (interim_ended i) p h = p
no_end L front (head_ended s fs) p h = p
no_end L front (content_read s fs k) p h = p
no_end L front (trailers_ended s fs k ts) p h = p

no_head : (L : Bounds) (m : Message) (o : Omitted) (z : ℕ) (text t : Text) (front more : List ℕ) (moment : Moment) → o ≡ Both → Spells L m o z (text ++ t) → bytes_of text ≡ front ++ more → IsSome t
    → IsHead moment → ComesAt L front moment → ⊥
no_head L m o z text t front more (head_ended s fs) both c e some p h =
    more_follows text t front more e some (head_ends L m o z (text ++ t) front (more ++ bytes_of t) s fs both c (all_bytes text t front more e) h)
no_head L m o z text t front more (interim_ended i) both c e some p h = p
no_head L m o z text t front more (content_read s fs k) both c e some p h = p
no_head L m o z text t front more (trailers_ended s fs k ts) both c e some p h = p
no_head L m o z text t front more (input_ended s fs k) both c e some p h = h

no_trailers : (L : Bounds) (m : Message) (o : Omitted) (z : ℕ) (text t : Text) (front more : List ℕ) (moment : Moment) → z ≡ 0 → Spells L m o z (text ++ t) → bytes_of text ≡ front ++ more → IsSome t
    → IsTrailers moment → ComesAt L front moment → ⊥
no_trailers L m o z text t front more (trailers_ended s fs k ts) none c e some p h =
    more_follows text t front more e some (trailers_end L m o z (text ++ t) front (more ++ bytes_of t) s fs k ts none c (all_bytes text t front more e) h)
no_trailers L m o z text t front more (interim_ended i) none c e some p h = p
no_trailers L m o z text t front more (head_ended s fs) none c e some p h = p
no_trailers L m o z text t front more (content_read s fs k) none c e some p h = p
no_trailers L m o z text t front more (input_ended s fs k) none c e some p h = h

no_byte : (L : Bounds) (m : Message) (o : Omitted) (z n : ℕ) (text t : Text) (front more : List ℕ) (moment : Moment) → n ≡ content_in text → Spells L m o z (text ++ t) → bytes_of text ≡ front ++ more
    → IsBeyond n moment → ComesAt L front moment → ⊥
no_byte L m o z n text t front more (content_read s fs k) count c e p h = omega (arith, count, p, few_content L m o z text t front more s fs k c e h)
no_byte L m o z n text t front more (trailers_ended s fs k ts) count c e p h = omega (arith, count, p, few_closing L m o z text t front more s fs k ts c e h)
no_byte L m o z n text t front more (interim_ended i) count c e p h = p
no_byte L m o z n text t front more (head_ended s fs) count c e p h = p
no_byte L m o z n text t front more (input_ended s fs k) count c e p h = h

-- ---- an interim response

pub record Snoc {A : Type 0} (xs : List A) : Type 0 where
  pub init : List A
  pub last : A
  pub split : xs ≡ init ++ last ∷ []

pub snoc : {A : Type 0} (xs : List A) → (xs ≡ []) ⊎ Snoc xs
snoc [] = inl refl
snoc (x ∷ xs) = inr (by_rest (snoc xs))
  where
    by_rest : (xs ≡ []) ⊎ Snoc xs → Snoc (x ∷ xs)
    by_rest (inl e) = record { init = []; last = x; split = ap (λ (z : List _). x ∷ z) e }
    by_rest (inr s) = record { init = x ∷ s.init; last = s.last; split = ap (λ (z : List _). x ∷ z) s.split }

-- the last one ends no sooner than 16 bytes before the end of the text, if nothing but a status and an empty section follow it
pub interim_late : (L : Bounds) (m : Message) (o : Omitted) (z : ℕ) (text t last : Text) (front more : List ℕ) (a : Interim) (g : Text) (h : IsInterims L a g) → o ≡ Both
    → Spells L m o z (text ++ (t ++ last)) → m.fields ≡ [] → interims_of m.start ≡ h.before ++ a ∷ [] → length last ≡ 16 → bytes_of g ≡ front → bytes_of text ≡ front ++ more → IsSome t → ⊥
interim_late L m o z text t last front more a g h both c none place long same e some =
    let p = c.text in
    let q = p.3 in
    let r = q.3 in
    let tail = (subst (λ (x : Omitted). IsTail L c.form m.content m.trailers x z r.1) both r.3).3 in
    let all : bytes_of g ++ (more ++ bytes_of (t ++ last)) ≡ bytes_of p.0 ++ (bytes_of q.0 ++ bytes_of q.1) =
    ap (λ (x : List ℕ). x ++ (more ++ bytes_of (t ++ last))) same ∙ sym (all_bytes text (t ++ last) front more e)
    ∙ ap bytes_of p.4 ∙ bytes_of-append p.0 p.1 ∙ ap (λ (x : List ℕ). bytes_of p.0 ++ x) (ap bytes_of q.4 ∙ bytes_of-append q.0 q.1) in
    let s = interim_ends L c.form m.start p.0 q.0 a g h (more ++ bytes_of (t ++ last)) (bytes_of q.1) c.valid.start p.2 q.2 place all in
    omega (
      arith,
      ap length p.4,
      length-append text (t ++ last),
      length-append t last,
      length-append p.0 p.1,
      ap length q.4,
      length-append q.0 q.1,
      ap length r.4,
      length-append r.0 r.1,
      ap length tail,
      ap length s.joined,
      length-append p.0 q.0,
      length-append g s.text,
      number_short _ s.status s.text s.status_is,
      section_short L c.form m.fields r.0 none r.2,
      long,
      some,
      ap length e,
      length-append front more,
      ap length same,
      bytes-length g,
      bytes-length text,
    )

-- ---- the law

abbrev pub interim_next : Interim → List Item
interim_next a = interim_item a ∷ head (of_response 200) [] ∷ ending Both 0 ∷ []

-- a moment at a front that comes with such an interim response came with one before
pub interim_seen : (L : Bounds) (i : List Item) (text t last : Text) (a : Interim) (c : Continued L i (interim_next a) text (t ++ last)) (front more : List ℕ) (moment : Moment)
    → length last ≡ 16 → bytes_of text ≡ front ++ more → IsSome t → ComesAt L front moment → (s : Seen) → seen_behind nothing_seen i ≡ s → Contains (moments_in s (interim_next a)) moment
    → Contains (moments_in nothing_seen i) moment
interim_seen L i text t last a c front more moment long e some h (head_seen start fields n) seen k =
    absurd (no_end L front moment (at_end (head_seen start fields n) Both 0 moment k) h)
interim_seen L i text t last a c front more moment long e some h (interims_seen is) seen k =
    by_case (Contains-append_cases (interim_ended a ∷ []) (moments_in (interims_seen (is ++ a ∷ [])) (head (of_response 200) [] ∷ ending Both 0 ∷ [])) moment k)
  where
    m : Message
    m = c.message

    both : c.omitted ≡ Both
    both = (ends_with m c.omitted Both c.padding 0 (i ++ interim_item a ∷ head (of_response 200) [] ∷ [])
        (append_assoc i (interim_item a ∷ head (of_response 200) [] ∷ []) (ending Both 0 ∷ []) ∙ c.items_are)).0

    there : head_seen (response (is ++ a ∷ []) 200) [] 0 ≡ head_seen m.start m.fields (length m.content)
    there = sym (ap (λ (s : Seen). seen_behind s (interim_next a)) seen) ∙ sym (seen-append nothing_seen i (interim_next a)) ∙ ap (seen_behind nothing_seen) c.items_are ∙ message_seen m c.omitted c.padding

    starts : response (is ++ a ∷ []) 200 ≡ m.start
    starts = cc there

    none : [] ≡ m.fields
    none = cc there

    some_more : IsSome (t ++ last)
    some_more = omega (arith, some, length-append t last)

    by_interim : ComesAt L front (interim_ended a) → Contains (moments_in nothing_seen i) (interim_ended a)
    by_interim h =
        let bytes = bytes_of (text ++ (t ++ last)) in
        let w = own L m c.omitted c.padding bytes (record { text = text ++ (t ++ last); spelled = c.spells; same = refl }) in
        let p = its_place L m c.omitted c.padding m.start bytes front (more ++ bytes_of (t ++ last)) a h.text c.spells.valid.start w w.number_is w.begun_is (all_bytes text (t ++ last) front more e) h.spelled h.same in
        by_after p.0 (ap interims_of starts ∙ p.1) (snoc p.0)
      where
        by_after : (after : List Interim) → is ++ a ∷ [] ≡ (h.spelled.before ++ a ∷ []) ++ after → (after ≡ []) ⊎ Snoc after → Contains (moments_in nothing_seen i) (interim_ended a)
        by_after after f (inl g) =
            let place : interims_of m.start ≡ h.spelled.before ++ a ∷ [] =
            sym (ap interims_of starts) ∙ f ∙ ap (λ (x : List Interim). (h.spelled.before ++ a ∷ []) ++ x) g ∙ append-nil (h.spelled.before ++ a ∷ []) in
            absurd (interim_late L m c.omitted c.padding text t last front more a h.text h.spelled both c.spells (sym none) place long h.same e some)
        by_after after f (inr s) =
            let js = h.spelled.before ++ a ∷ [] in
            let split : is ++ a ∷ [] ≡ (js ++ s.init) ++ s.last ∷ [] = f ∙ ap (λ (x : List Interim). js ++ x) s.split ∙ sym (append_assoc js s.init (s.last ∷ [])) in
            let front_is : is ≡ js ++ s.init = (same_from_push is (js ++ s.init) a s.last split).0 in
            let came = interims_come i [] is seen in
            subst (λ (x : List Moment). Contains x (interim_ended a)) (sym (came.2 ∙ ap (map interim_ended) (sym came.1 ∙ front_is))) (interim_in h.spelled.before s.init a)

    by_case : Contains (interim_ended a ∷ []) moment ⊎ Contains (moments_in (interims_seen (is ++ a ∷ [])) (head (of_response 200) [] ∷ ending Both 0 ∷ [])) moment → Contains (moments_in nothing_seen i) moment
    by_case (inl one) =
        let same : interim_ended a ≡ moment = one_in (interim_ended a) moment one in
        subst (Contains (moments_in nothing_seen i)) same (by_interim (subst (ComesAt L front) (sym same) h))
    by_case (inr later) =
        absurd (no_head L m c.omitted c.padding text (t ++ last) front more moment both c.spells e some_more (at_head (interims_seen (is ++ a ∷ [])) (of_response 200) [] moment later) h)

-- by what comes next
by_next : (L : Bounds) (bytes front more : List ℕ) (i : List Item) (w : At) (moment : Moment) (c : Comes L (in_framing []) bytes i w) (t : Text) → bytes_of c.within.text ≡ front ++ more → ComesAt L front moment
    → Ahead IsSome (Rest L w) t → Contains (moments_in nothing_seen i) moment
by_next L bytes front more i w moment c t e h (the_end o z r) =
    let k = continued L bytes i w c (ending o z ∷ []) t r in
    by_case (seen_or_later L i (ending o z ∷ []) c.within.text t k front more moment e h)
  where
    by_case : Contains (moments_in nothing_seen i) moment ⊎ Contains (moments_in (seen_behind nothing_seen i) (ending o z ∷ [])) moment → Contains (moments_in nothing_seen i) moment
    by_case (inl x) = x
    by_case (inr x) = absurd (no_end L front moment (at_end (seen_behind nothing_seen i) o z moment x) h)
by_next L bytes front more i w moment c t e h (a_byte byte q r) =
    let k = continued L bytes i w c (content_byte byte ∷ q) t r in
    by_case k (seen_or_later L i (content_byte byte ∷ q) c.within.text t k front more moment e h)
  where
    by_case : (k : Continued L i (content_byte byte ∷ q) c.within.text t) → Contains (moments_in nothing_seen i) moment ⊎ Contains (moments_in (seen_behind nothing_seen i) (content_byte byte ∷ q)) moment
        → Contains (moments_in nothing_seen i) moment
    by_case k (inl x) = x
    by_case k (inr x) =
        let m = k.message in
        let seen = seen_late m k.omitted k.padding i q (content_byte byte) (λ h. h) k.items_are in
        let beyond = are_beyond m.start m.fields (content_items i) byte q moment (subst (λ (s : Seen). Contains (moments_in s (content_byte byte ∷ q)) moment) seen x) in
        absurd (no_byte L m k.omitted k.padding (content_items i) c.within.text t front more moment (sym (content_so_far L bytes i w c)) k.spells e beyond h)
by_next L bytes front more i w moment c t e h (a_trailer fields u v f some r) =
    let q = trailer_section fields ∷ ending Nothing 0 ∷ [] in
    let k = continued L bytes i w c q u r in
    by_case k (seen_or_later L i q c.within.text u k front more moment e h)
  where
    by_case : (k : Continued L i (trailer_section fields ∷ ending Nothing 0 ∷ []) c.within.text u)
        → Contains (moments_in nothing_seen i) moment ⊎ Contains (moments_in (seen_behind nothing_seen i) (trailer_section fields ∷ ending Nothing 0 ∷ [])) moment → Contains (moments_in nothing_seen i) moment
    by_case k (inl x) = x
    by_case k (inr x) =
        let last = ends_with k.message k.omitted Nothing k.padding 0 (i ++ trailer_section fields ∷ []) (append_assoc i (trailer_section fields ∷ []) (ending Nothing 0 ∷ []) ∙ k.items_are) in
        absurd (no_trailers L k.message k.omitted k.padding c.within.text u front more moment last.1 k.spells e some (at_trailers (seen_behind nothing_seen i) fields moment x) h)
by_next L bytes front more i w moment c t e h (a_head of fields u v f some r) =
    let q = head of fields ∷ ending Both 0 ∷ [] in
    let k = continued L bytes i w c q u r in
    by_case k (seen_or_later L i q c.within.text u k front more moment e h)
  where
    by_case : (k : Continued L i (head of fields ∷ ending Both 0 ∷ []) c.within.text u)
        → Contains (moments_in nothing_seen i) moment ⊎ Contains (moments_in (seen_behind nothing_seen i) (head of fields ∷ ending Both 0 ∷ [])) moment → Contains (moments_in nothing_seen i) moment
    by_case k (inl x) = x
    by_case k (inr x) =
        let last = ends_with k.message k.omitted Both k.padding 0 (i ++ head of fields ∷ []) (append_assoc i (head of fields ∷ []) (ending Both 0 ∷ []) ∙ k.items_are) in
        absurd (no_head L k.message k.omitted k.padding c.within.text u front more moment last.0 k.spells e some (at_head (seen_behind nothing_seen i) of fields moment x) h)
by_next L bytes front more i w moment c t e h (an_interim a u v last f some long r) =
    let k = continued L bytes i w c (interim_next a) (u ++ last) r in
    by_case k (seen_or_later L i (interim_next a) c.within.text (u ++ last) k front more moment e h)
  where
    by_case : (k : Continued L i (interim_next a) c.within.text (u ++ last))
        → Contains (moments_in nothing_seen i) moment ⊎ Contains (moments_in (seen_behind nothing_seen i) (interim_next a)) moment → Contains (moments_in nothing_seen i) moment
    by_case k (inl x) = x
    by_case k (inr x) = interim_seen L i c.within.text u last a k front more moment long e some h (seen_behind nothing_seen i) refl x

pub none_comes_unseen : NoneComesUnseen
none_comes_unseen L bytes front more i w moment c prompt e h =
    let a = c.goes_on in
    by_next L bytes front more i w moment c a.text (c.within.same ∙ e) h (state_ahead L w a.spelled.0 a.text prompt a.spelled.1)
