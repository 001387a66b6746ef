-- What comes at a front of a message's bytes is a moment of the message.
use Rattle.std.proofs.Common.{◌≡◌, ◌<◌, ◌≤◌, ◌⊎◌, ℕ, zero, suc, List, [], ◌∷◌, ◌++◌, length, map, replicate, refl, sym, ap, ap₂, subst, ◌∙◌, inl, inr, append_assoc, append-nil, length-append, arith}
use Rattle.std.specs.List.{Contains}
use Rattle.std.proofs.lemmas.Bool.{cases_lt}
use Rattle.std.proofs.lemmas.List.Elements.{Contains-append_left, Contains-append_right, Contains-push}
use Rattle.bh_spec.specs.declared.Form.{Form}
use Rattle.bh_spec.specs.declared.Omitted.{Omitted}
use Rattle.bh_spec.specs.declared.Omitted.TheVariants.{Nothing, Trailers, Both}
use Rattle.bh_spec.specs.declared.Part.TheVariants as parts
use Rattle.bh_spec.specs.Bounds.{Bounds}
use Rattle.bh_spec.specs.Messages.{Field, Interim, Start, Message, AreTrailers}
use Rattle.bh_spec.specs.Texts.{Text, bytes_of, mark}
use Rattle.bh_spec.specs.Tails.{IsTail}
use Rattle.bh_spec.specs.Viable.{SpellsBytes}
use Rattle.bh_spec.proofs.Meeting.{meets_front}
use Rattle.bh_spec.proofs.Sections.{section_agrees, section_nonempty, body_agrees}
use Rattle.bh_spec.proofs.Whole.{trailers_named}
use Rattle.bh_spec.proofs.Marks.{bytes_of-append}
use Rattle.bh_stream.proofs.Moving.{bytes-length}
use Rattle.h1_spec.specs.Http1.{interims_of}
use Rattle.h1_spec.specs.Moments.{Moment, interim_ended, head_ended, content_read, trailers_ended, input_ended, byte_moments, last_moment, moments}
use Rattle.h1_spec.specs.Judging.{IsContent, IsClosing, ComesAt}
use Rattle.h1_spec.proofs.Coming.{tailed, head_tailed, IsNone, closing_some}
use Rattle.h1_spec.proofs.Members.{own, behind, content_few, content_one}
use Rattle.h1_spec.proofs.Ordering.{its_place}

-- ---- interim responses

pub interim_in : (js after : List Interim) (i : Interim) → Contains (map interim_ended ((js ++ i ∷ []) ++ after)) (interim_ended i)
interim_in [] after i = Contains-append_left (interim_ended i ∷ []) (map interim_ended after) (interim_ended i) (Contains-push [] (interim_ended i))
interim_in (j ∷ js) after i = Contains-append_right (interim_ended j ∷ []) (map interim_ended ((js ++ i ∷ []) ++ after)) (interim_ended i) (interim_in js after i)

-- ---- content

byte_in : (start : Start) (fields : List Field) (n k : ℕ) → 1 ≤ k → k ≤ n → Contains (byte_moments start fields n) (content_read start fields k)
byte_in start fields zero k one few = absurd (omega (arith, one, few))
byte_in start fields (suc n) k one few = by_case (cases_lt k (suc n)) (λ l. byte_in start fields n k one l)
  where
    by_case : (k < suc n) ⊎ (suc n ≤ k) → (k ≤ n → Contains (byte_moments start fields n) (content_read start fields k)) → Contains (byte_moments start fields (suc n)) (content_read start fields k)
    by_case (inl l) go = Contains-append_left (byte_moments start fields n) (content_read start fields (suc n) ∷ []) (content_read start fields k) (go (omega (arith, l)))
    by_case (inr l) go =
        let same : suc n ≡ k = omega (arith, few, l) in
        subst (λ (j : ℕ). Contains (byte_moments start fields (suc n)) (content_read start fields j)) same (Contains-push (byte_moments start fields n) (content_read start fields (suc n)))

-- ---- the trailer section

-- It ends a message with nothing left out, before the padding.
pub record Closes (o : Omitted) (z n : ℕ) (m : Message) (ts : List Field) (more : List ℕ) : Type 0 where
  pub whole : o ≡ Nothing
  pub count : n ≡ length m.content
  pub trailers : ts ≡ m.trailers
  pub padding : z ≡ 0 → more ≡ []

no_front : (a b : List ℕ) → a ++ b ≡ [] → a ≡ []
no_front [] b e = refl
no_front (x ∷ a) b e = absurd cc

pub closing_ends : (L : Bounds) (form : Form) (m : Message) (o : Omitted) (z n : ℕ) (ts : List Field) (r tail : Text) (more : List ℕ) → AreTrailers m.trailers → IsClosing L form n ts r
    → IsTail L form m.content m.trailers o z tail → bytes_of r ++ more ≡ bytes_of tail → Closes o z n m ts more
closing_ends L form m Nothing z n ts r tail more v c t e =
    let p = c.spelled in
    let q = t.3 in
    let all : bytes_of p.0 ++ (bytes_of p.1 ++ more) ≡ bytes_of t.0 ++ bytes_of t.1 =
    sym (append_assoc (bytes_of p.0) (bytes_of p.1) more) ∙ ap (λ (x : List ℕ). x ++ more) (sym (bytes_of-append p.0 p.1) ∙ ap bytes_of (sym p.4)) ∙ e ∙ ap bytes_of t.4 ∙ bytes_of-append t.0 t.1 in
    let one = meets_front (c.content ≡ m.content) p.0 t.0 (bytes_of p.1 ++ more) (bytes_of t.1) (body_agrees form c.content m.content p.0 t.0 p.2 t.2) all in
    let two = meets_front (ts ≡ m.trailers) p.1 q.0 more (bytes_of q.1) (section_agrees L L form ts m.trailers (trailers_named ts c.trailers_are) (trailers_named m.trailers v) p.1 q.0 p.3 q.2)
    (one.2 ∙ ap bytes_of q.4 ∙ bytes_of-append q.0 q.1) in
    record { whole = refl; count = sym c.counts ∙ ap length one.0; trailers = two.0; padding = λ none. two.2 ∙ ap bytes_of q.3 ∙ no_padding z none }
  where
    no_padding : (z : ℕ) → z ≡ 0 → bytes_of (mark parts.Padding (replicate z 0)) ≡ []
    no_padding zero none = refl
    no_padding (suc z) none = absurd (omega (arith, none))
closing_ends L form m Trailers z n ts r tail more v c t e =
    let p = c.spelled in
    let all : bytes_of p.0 ++ (bytes_of p.1 ++ more) ≡ bytes_of tail ++ [] =
    sym (append_assoc (bytes_of p.0) (bytes_of p.1) more) ∙ ap (λ (x : List ℕ). x ++ more) (sym (bytes_of-append p.0 p.1) ∙ ap bytes_of (sym p.4)) ∙ e ∙ sym (append-nil (bytes_of tail)) in
    let one = meets_front (c.content ≡ m.content) p.0 tail (bytes_of p.1 ++ more) [] (body_agrees form c.content m.content p.0 tail p.2 t.2) all in
    absurd (omega (arith, ap length one.2, length-append (bytes_of p.1) more, bytes-length p.1, section_nonempty L form ts p.1 p.3))
closing_ends L form m Both z n ts r tail more v c t e = absurd (closing_some L form n ts r c (no_front (bytes_of r) more (e ∙ ap bytes_of t.3)))

-- ---- all of them

pub among_moments : (L : Bounds) (m : Message) (o : Omitted) (z : ℕ) (bytes front more : List ℕ) (moment : Moment) → SpellsBytes L m o z bytes → bytes ≡ front ++ more → ComesAt L front moment
    → Contains (moments m o) moment
among_moments L m o z bytes front more (interim_ended i) h e c =
    let w = own L m o z bytes h in
    let p = its_place L m o z m.start bytes front more i c.text h.spelled.valid.start w w.number_is w.begun_is e c.spelled c.same in
    Contains-append_left (map interim_ended (interims_of m.start)) (head_ended m.start m.fields ∷ (byte_moments m.start m.fields (length m.content) ++ last_moment m o ∷ [])) (interim_ended i)
    (subst (λ (js : List Interim). Contains (map interim_ended js) (interim_ended i)) (sym p.1) (interim_in c.spelled.before p.0 i))
among_moments L m o z bytes front more (head_ended s fs) h e c =
    let b = behind L m o z s fs IsNone front more bytes h e (head_tailed L s fs front c) in
    subst (Contains (moments m o)) (sym (ap₂ head_ended b.start b.fields))
    (Contains-append_right (map interim_ended (interims_of m.start)) (head_ended m.start m.fields ∷ (byte_moments m.start m.fields (length m.content) ++ last_moment m o ∷ [])) (head_ended m.start m.fields)
    (Contains-append_left (head_ended m.start m.fields ∷ []) (byte_moments m.start m.fields (length m.content) ++ last_moment m o ∷ []) (head_ended m.start m.fields) (Contains-push [] (head_ended m.start m.fields))))
among_moments L m o z bytes front more (content_read s fs n) h e c =
    let b = behind L m o z s fs (λ f. IsContent f n) front more bytes h e (tailed L s fs (λ f. IsContent f n) front c.0 c.1) in
    let here = content_read m.start m.fields n in
    let all = byte_moments m.start m.fields (length m.content) in
    subst (Contains (moments m o)) (sym (ap₂ (λ (x : Start) (xs : List Field). content_read x xs n) b.start b.fields))
    (Contains-append_right (map interim_ended (interims_of m.start)) (head_ended m.start m.fields ∷ (all ++ last_moment m o ∷ [])) here
    (Contains-append_right (head_ended m.start m.fields ∷ []) (all ++ last_moment m o ∷ []) here
    (Contains-append_left all (last_moment m o ∷ []) here
    (byte_in m.start m.fields (length m.content) n (content_one b.form n b.rest b.rest_is) (content_few L b.form m o z n b.rest b.tail more b.rest_is b.tail_is b.same)))))
among_moments L m o z bytes front more (trailers_ended s fs n ts) h e c =
    let b = behind L m o z s fs (λ f. IsClosing L f n ts) front more bytes h e (tailed L s fs (λ f. IsClosing L f n ts) front c.0 c.1) in
    let is = closing_ends L b.form m o z n ts b.rest b.tail more h.spelled.valid.trailers b.rest_is b.tail_is b.same in
    let all = byte_moments m.start m.fields (length m.content) in
    let last : last_moment m o ≡ trailers_ended s fs n ts =
    ap (last_moment m) is.whole ∙ ap₂ (λ (x : Start) (xs : List Field). trailers_ended x xs (length m.content) m.trailers) (sym b.start) (sym b.fields)
    ∙ ap₂ (trailers_ended s fs) (sym is.count) (sym is.trailers) in
    subst (Contains (moments m o)) last
    (Contains-append_right (map interim_ended (interims_of m.start)) (head_ended m.start m.fields ∷ (all ++ last_moment m o ∷ [])) (last_moment m o)
    (Contains-append_right (head_ended m.start m.fields ∷ []) (all ++ last_moment m o ∷ []) (last_moment m o)
    (Contains-push all (last_moment m o))))
among_moments L m o z bytes front more (input_ended s fs n) h e c = absurd c
