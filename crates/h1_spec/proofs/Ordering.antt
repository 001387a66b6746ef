-- The first form that is judged is the first that holds of the message.
use Rattle.std.proofs.Common.{◌≡◌, ◌≤◌, ◌<◌, ◌+◌, ◌-◌, ◌⊎◌, arith, ℕ, zero, suc, Bool, true, false, nat_lt, List, [], ◌∷◌, ◌++◌, flat_map, length, take, drop, Option, Some, None, refl, sym, ap, ap₂, subst, ◌∙◌, inl, inr, append_assoc, length-append, take-append-drop}
use Rattle.std.proofs.Math.Seq.{take-append_seam}
use Rattle.std.proofs.lemmas.Bool.{cases_Bool, ltb-true, lt-ltb}
use Rattle.std.proofs.lemmas.List.{take-take, length-take-le}
use Rattle.bh_spec.specs.declared.Form.{Form}
use Rattle.bh_spec.specs.declared.Kind.TheVariants.{Request, Response}
use Rattle.bh_spec.specs.declared.Omitted.{Omitted}
use Rattle.bh_spec.specs.declared.Omitted.TheVariants.{Nothing, Trailers, Both}
use Rattle.bh_spec.specs.declared.Part.{Part}
use Rattle.bh_spec.specs.declared.Part.TheVariants as parts
use Rattle.bh_spec.specs.Bounds.{Bounds, IsWithin}
use Rattle.bh_spec.specs.Messages.{Field, Interim, Start, request, response, kind_of, Message, IsStart}
use Rattle.bh_spec.specs.Texts.{Text, bytes_of, IsNumber, AreEach}
use Rattle.bh_spec.specs.Spelling.{IsInterimText, IsStartText, framing}
use Rattle.bh_spec.specs.Viable.{SpellsBytes}
use Rattle.bh_spec.proofs.Whole.{one_reading, framing_is}
use Rattle.bh_spec.proofs.Meeting.{meets_front}
use Rattle.bh_spec.proofs.Numbers.{number_meets}
use Rattle.bh_spec.proofs.Marks.{bytes_of-append}
use Rattle.bh_spec.proofs.Sections.{section_nonempty, number_nonempty}
use Rattle.bh_spec.proofs.Within.{within_less}
use Rattle.h1_spec.specs.declared.Framing1.{Framing1}
use Rattle.h1_spec.specs.declared.Framing1.TheVariants.{Empty, Counted, Chunked, ToEnd}
use Rattle.bh_spec.specs.declared.NoForm.{NoForm}
use Rattle.bh_spec.specs.declared.NoForm.TheVariants as no
use Rattle.h1_spec.specs.Cleaning.{hops, clean_trailers, clean_message}
use Rattle.h1_spec.specs.Http1.{interims_of}
use Rattle.h1_spec.specs.Http1Text.{Case, of_interim, of_head, of_body, framing_written, no_form}
use Rattle.h1_spec.proofs.Cases.{AreFree, free_none, free_front, free_back}
use Rattle.h1_spec.specs.Moments.{Moment, interim_ended, head_ended, content_read, trailers_ended, input_ended, announced, of_byte, of_trailers, alone, first_of, form_at}
use Rattle.h1_spec.specs.Judging.{IsInterims, IsContent, IsClosing, ComesAt, IsJudged, NoneIsJudged, end_says}
use Rattle.h1_spec.specs.Laws.{LeavesOut, FormlessIsTheForm}
use Rattle.h1_spec.proofs.Agreeing.{written_announced, last_says, body_parts, head_parts, byte_rule, or_else, first_append, flat_append, never_none, first_here}
use Rattle.h1_spec.proofs.Coming.{tailed, head_tailed, IsNone}
use Rattle.h1_spec.proofs.Members.{Own, own, opening, behind, begin_others, content_few, content_one, closing_is, wrong_kind, spelled_leaves}
use Rattle.h1_spec.proofs.Unjudged.{Unjudged, unjudged, opening_free, start_free, each_free, all_front, each_split}
use Rattle.h1_spec.proofs.Unjudging.{rule_of, last_free, tail_rules}

-- ---- the first form of a message, part by part

abbrev parts_first : Bool → Message → Option NoForm
parts_first to_head m =
    or_else (first_of (flat_map of_interim (interims_of m.start)))
    (or_else (first_of (of_head (alone m.start) m.fields))
    (or_else (first_of (byte_rule (announced to_head m.start m.fields) (length m.content)))
    (first_of (of_trailers (announced to_head m.start m.fields) (length m.content) (clean_trailers (hops m.fields) m.trailers)))))

by_parts : (to_head : Bool) (m : Message) → no_form to_head m ≡ parts_first to_head m
by_parts to_head m =
    let ts : List Field = clean_trailers (hops m.fields) m.trailers in
    let f : Framing1 = announced to_head m.start m.fields in
    let n : ℕ = length m.content in
    let interims : List Case = flat_map of_interim (interims_of m.start) in
    let at_head : List Case = of_head (alone m.start) m.fields in
    let written : List Case = of_body (framing_written to_head (clean_message m)) m.content ts in
    first_append (of_head m.start m.fields) written
    ∙ ap₂ or_else (ap first_of (head_parts m.start m.fields) ∙ first_append interims at_head)
    (written_announced to_head m ∙ ap first_of (body_parts f m.content ts) ∙ first_append (byte_rule f n) (of_trailers f n ts))
    ∙ or_assoc (first_of interims) (first_of at_head) (or_else (first_of (byte_rule f n)) (first_of (of_trailers f n ts)))
  where
    or_assoc : (a b c : Option NoForm) → or_else (or_else a b) c ≡ or_else a (or_else b c)
    or_assoc (Some x) b c = refl
    or_assoc None b c = refl

-- ---- the bytes before the judged one

cut_last : (k : ℕ) (bytes xs : List ℕ) (y : ℕ) → k < length bytes → take (k + 1) bytes ≡ xs ++ y ∷ [] → take k bytes ≡ xs
cut_last k bytes xs y inside e =
    let long : length (take (k + 1) bytes) ≡ k + 1 = length-take-le (k + 1) bytes (omega (arith, inside)) in
    let place : length xs ≡ k = omega (arith, long, ap length e, length-append xs (y ∷ [])) in
    sym (take-take k (k + 1) bytes (omega arith)) ∙ ap (take k) e ∙ ap (λ (j : ℕ). take j (xs ++ y ∷ [])) (sym place) ∙ take-append_seam xs (y ∷ [])

before_free : (L : Bounds) (to_head : Bool) (bytes : List ℕ) (k : ℕ) → k < length bytes → IsWithin L.input (k + 1) → NoneIsJudged L to_head bytes k → Unjudged L to_head (take k bytes)
before_free L to_head bytes k inside seen none front more form e some judged =
    let long : length (take k bytes) ≡ k = length-take-le k bytes (omega (arith, inside)) in
    let sum : length (take k bytes) ≡ length front + length more = ap length e ∙ length-append front more in
    let place : length front - 1 + 1 ≡ length front = omega (arith, some) in
    let whole : bytes ≡ front ++ (more ++ drop k bytes) = sym (take-append-drop k bytes) ∙ ap (λ (x : List ℕ). x ++ drop k bytes) e ∙ append_assoc front more (drop k bytes) in
    none (length front - 1) form (omega (arith, some, long, sum)) (omega (arith, some, long, sum, inside)) (within_less L.input (length front - 1 + 1) (k + 1) (omega (arith, some, long, sum)) seen)
    (subst (λ (x : List ℕ). IsJudged L to_head x form) (sym (ap₂ take place whole ∙ take-append_seam front (more ++ drop k bytes))) judged)

record Snoc (t : Text) : Type 0 where
  init : Text
  last : Part × ℕ
  split : t ≡ init ++ last ∷ []

snoc : (t : Text) → 0 < length t → Snoc t
snoc [] h = absurd (omega (arith, h))
snoc (x ∷ []) h = record { init = []; last = x; split = refl }
snoc (x ∷ (y ∷ t)) h = let s = snoc (y ∷ t) (omega arith) in record { init = x ∷ s.init; last = s.last; split = ap (λ (z : Text). x ∷ z) s.split }

-- the bytes before the last of a text that isn't empty, behind other bytes
but_last : (k : ℕ) (bytes a : List ℕ) (t : Text) → k < length bytes → 0 < length t → take (k + 1) bytes ≡ a ++ bytes_of t → (rest : List ℕ) × (take k bytes ≡ a ++ rest)
but_last k bytes a t inside some e =
    let s = snoc t some in (
      bytes_of s.init,
      cut_last k bytes (a ++ bytes_of s.init) s.last.1 inside
          (e ∙ ap (λ (z : List ℕ). a ++ z) (ap bytes_of s.split ∙ bytes_of-append s.init (s.last ∷ [])) ∙ sym (append_assoc a (bytes_of s.init) (s.last.1 ∷ []))),
    )

rule_up : (f : Framing1) (n most : ℕ) (g : NoForm) → 1 ≤ n → n ≤ most → first_of (of_byte f n) ≡ Some g → first_of (byte_rule f most) ≡ Some g
rule_up Empty n zero g one few e = absurd (omega (arith, one, few))
rule_up Empty n (suc most) g one few e = never_none most ∙ e
rule_up (Counted field) n most g one few e = by_test (cases_Bool (nat_lt field n))
  where
    form : NoForm
    form = no.LengthDiffers field (field + 1)

    by_test : (nat_lt field n ≡ true) ⊎ (nat_lt field n ≡ false) → first_of (byte_rule (Counted field) most) ≡ Some g
    by_test (inl t) =
        first_here (no.LengthDiffers field (field + 1), nat_lt field most) [] (lt-ltb field most (omega (arith, ltb-true field n t, few)))
        ∙ sym (first_here (no.LengthDiffers field (field + 1), nat_lt field n) [] t) ∙ e
    by_test (inr t) =
        let none : first_of (of_byte (Counted field) n) ≡ None = free_none (of_byte (Counted field) n) (t, tt) in
        absurd (let bad : None ≡ Some g = sym none ∙ e in cc)
rule_up Chunked n most g one few e = absurd (let bad : None ≡ Some g = e in cc)
rule_up ToEnd n most g one few e = absurd (let bad : None ≡ Some g = e in cc)

-- ---- which part holds the first

at_interims : (to_head : Bool) (m : Message) (f : NoForm) → first_of (flat_map of_interim (interims_of m.start)) ≡ Some f → no_form to_head m ≡ Some f
at_interims to_head m f e = by_parts to_head m ∙ ap (λ (o : Option NoForm). or_else o
    (or_else (first_of (of_head (alone m.start) m.fields))
    (or_else (first_of (byte_rule (announced to_head m.start m.fields) (length m.content)))
    (first_of (of_trailers (announced to_head m.start m.fields) (length m.content) (clean_trailers (hops m.fields) m.trailers)))))) e

at_the_head : (to_head : Bool) (m : Message) (f : NoForm) → AreFree (flat_map of_interim (interims_of m.start)) → first_of (of_head (alone m.start) m.fields) ≡ Some f → no_form to_head m ≡ Some f
at_the_head to_head m f i e = by_parts to_head m ∙ ap₂ (λ (a b : Option NoForm). or_else a (or_else b
    (or_else (first_of (byte_rule (announced to_head m.start m.fields) (length m.content)))
    (first_of (of_trailers (announced to_head m.start m.fields) (length m.content) (clean_trailers (hops m.fields) m.trailers)))))) (free_none _ i) e

behind_head : (to_head : Bool) (m : Message) (f : NoForm) → AreFree (of_head m.start m.fields)
    → or_else (first_of (byte_rule (announced to_head m.start m.fields) (length m.content))) (first_of (of_trailers (announced to_head m.start m.fields) (length m.content) (clean_trailers (hops m.fields) m.trailers))) ≡ Some f
    → no_form to_head m ≡ Some f
behind_head to_head m f h e =
    let both : AreFree (flat_map of_interim (interims_of m.start) ++ of_head (alone m.start) m.fields) = subst AreFree (head_parts m.start m.fields) h in
    by_parts to_head m
    ∙ ap₂ (λ (a b : Option NoForm). or_else a (or_else b
    (or_else (first_of (byte_rule (announced to_head m.start m.fields) (length m.content)))
    (first_of (of_trailers (announced to_head m.start m.fields) (length m.content) (clean_trailers (hops m.fields) m.trailers))))))
    (free_none _ (free_front (flat_map of_interim (interims_of m.start)) (of_head (alone m.start) m.fields) both))
    (free_none _ (free_back (flat_map of_interim (interims_of m.start)) (of_head (alone m.start) m.fields) both)) ∙ e

-- ---- an interim response

first_interim : (before after : List Interim) (i : Interim) (f : NoForm) → AreFree (flat_map of_interim before) → first_of (of_interim i) ≡ Some f → first_of (flat_map of_interim ((before ++ i ∷ []) ++ after)) ≡ Some f
first_interim before after i f free e =
    ap first_of (ap (flat_map of_interim) (append_assoc before (i ∷ []) after) ∙ flat_append of_interim before (i ∷ after))
    ∙ first_append (flat_map of_interim before) (of_interim i ++ flat_map of_interim after)
    ∙ ap₂ or_else (free_none (flat_map of_interim before) free) (first_append (of_interim i) (flat_map of_interim after) ∙ ap (λ (o : Option NoForm). or_else o (first_of (flat_map of_interim after))) e)

-- the interim responses before it weren't judged
before_it : (L : Bounds) (to_head : Bool) (bytes : List ℕ) (k : ℕ) (i : Interim) (t : Text) → k < length bytes → Unjudged L to_head (take k bytes) → (h : IsInterims L i t) → bytes_of t ≡ take (k + 1) bytes
    → AreFree (flat_map of_interim h.before)
before_it L to_head bytes k i t inside none h e =
    let s = h.spelled in
    let c = each_split L h.form h.before (i ∷ []) s.1 s.3 in
    let own_text = c.3 in
    let own_parts = own_text.2 in
    let some : 0 < length c.1 = omega (arith, ap length own_text.4, length-append own_text.0 own_text.1, ap length own_parts.4, length-append own_parts.0 own_parts.1, number_nonempty parts.Status i.status own_parts.0 own_parts.2) in
    let all : take (k + 1) bytes ≡ bytes_of (s.0 ++ c.0) ++ bytes_of c.1 =
    sym e ∙ ap bytes_of (s.4 ∙ ap (λ (z : Text). s.0 ++ z) c.4 ∙ sym (append_assoc s.0 c.0 c.1)) ∙ bytes_of-append (s.0 ++ c.0) c.1 in
    let cut = but_last k bytes (bytes_of (s.0 ++ c.0)) c.1 inside some all in
    each_free L to_head (take k bytes) none h.form [] h.before s.0 c.0 cut.0 (all_front h.before (i ∷ []) h.each)
    (within_less L.interims (length h.before) (length (h.before ++ i ∷ [])) (omega (arith, length-append h.before (i ∷ []))) h.few) s.2 c.2 cut.1

-- it is one of the message's
pub its_place : (L : Bounds) (m : Message) (o : Omitted) (z : ℕ) (start : Start) (bytes front more : List ℕ) (i : Interim) (t : Text) → IsStart start → (w : Own L m o z bytes)
    → IsNumber parts.Framing (framing (kind_of start) w.form) w.number → IsStartText L w.form start w.begun
    → bytes ≡ front ++ more → (h : IsInterims L i t) → bytes_of t ≡ front → (after : List Interim) × (interims_of start ≡ (h.before ++ i ∷ []) ++ after)
its_place L m o z start bytes front more i t p w n b e h f =
    let s = h.spelled in
    by_start start p n b
    (sym (append_assoc (bytes_of s.0) (bytes_of s.1) more) ∙ ap (λ (x : List ℕ). x ++ more) (sym (bytes_of-append s.0 s.1) ∙ ap bytes_of (sym s.4) ∙ f) ∙ sym e ∙ w.joined
    ∙ ap (λ (x : List ℕ). x ++ bytes_of w.tail) (bytes_of-append w.number (w.begun ++ w.section)) ∙ append_assoc (bytes_of w.number) (bytes_of (w.begun ++ w.section)) (bytes_of w.tail))
  where
    by_start : (start : Start) → IsStart start → IsNumber parts.Framing (framing (kind_of start) w.form) w.number → IsStartText L w.form start w.begun
        → bytes_of h.spelled.0 ++ (bytes_of h.spelled.1 ++ more) ≡ bytes_of w.number ++ (bytes_of (w.begun ++ w.section) ++ bytes_of w.tail)
        → (after : List Interim) × (interims_of start ≡ (h.before ++ i ∷ []) ++ after)
    by_start (request c) p n b all =
        absurd (wrong_kind h.form w.form
        (meets_front (framing Response h.form ≡ framing Request w.form) h.spelled.0 w.number (bytes_of h.spelled.1 ++ more) (bytes_of (w.begun ++ w.section) ++ bytes_of w.tail)
        (number_meets parts.Framing (framing Response h.form) (framing Request w.form) h.spelled.0 w.number h.spelled.2 n) all).0)
    by_start (response is final) p n b all =
        let first = meets_front (framing Response h.form ≡ framing Response w.form) h.spelled.0 w.number (bytes_of h.spelled.1 ++ more) (bytes_of (w.begun ++ w.section) ++ bytes_of w.tail)
        (number_meets parts.Framing (framing Response h.form) (framing Response w.form) h.spelled.0 w.number h.spelled.2 n) all in
        begin_others L w.form (h.before ++ i ∷ []) is final h.spelled.1 w.begun more (bytes_of w.section ++ bytes_of w.tail) h.each p.each p.final.low
        (subst (λ (f : Form). AreEach (IsInterimText L f) (h.before ++ i ∷ []) h.spelled.1) (framing_is Response Response h.form w.form first.0).1 h.spelled.3) b.1
        (first.2 ∙ ap (λ (x : List ℕ). x ++ bytes_of w.tail) (bytes_of-append w.begun w.section) ∙ append_assoc (bytes_of w.begun) (bytes_of w.section) (bytes_of w.tail))

-- ---- the moments

judged_first : (L : Bounds) (to_head : Bool) (m : Message) (o : Omitted) (z : ℕ) (bytes : List ℕ) (k : ℕ) (moment : Moment) (f : NoForm) → SpellsBytes L m o z bytes → k < length bytes
    → Unjudged L to_head (take k bytes) → ComesAt L (take (k + 1) bytes) moment → form_at to_head moment ≡ Some f → no_form to_head m ≡ Some f
judged_first L to_head m o z bytes k (interim_ended i) f h inside none c e =
    let w = own L m o z bytes h in
    let place = its_place L m o z m.start bytes (take (k + 1) bytes) (drop (k + 1) bytes) i c.text h.spelled.valid.start w w.number_is w.begun_is (sym (take-append-drop (k + 1) bytes)) c.spelled c.same in
    at_interims to_head m f
    (ap (λ (is : List Interim). first_of (flat_map of_interim is)) place.1
    ∙ first_interim c.spelled.before place.0 i f (before_it L to_head bytes k i c.text inside none c.spelled c.same) e)
judged_first L to_head m o z bytes k (head_ended s fs) f h inside none c e =
    let b = behind L m o z s fs IsNone (take (k + 1) bytes) (drop (k + 1) bytes) bytes h (sym (take-append-drop (k + 1) bytes)) (head_tailed L s fs (take (k + 1) bytes) c) in
    let p = c.1.spelled.spelled in
    let q = p.3 in
    let all : take (k + 1) bytes ≡ bytes_of (p.0 ++ q.0) ++ bytes_of q.1 =
    sym c.1.same ∙ ap bytes_of (p.4 ∙ ap (λ (x : Text). p.0 ++ x) q.4 ∙ sym (append_assoc p.0 q.0 q.1)) ∙ bytes_of-append (p.0 ++ q.0) q.1 in
    let cut = but_last k bytes (bytes_of (p.0 ++ q.0)) q.1 inside (section_nonempty L c.0 fs q.1 q.3) all in
    let free : AreFree (flat_map of_interim (interims_of s)) = start_free L to_head (take k bytes) none c.0 s p.0 q.0 cut.0 c.1.spelled.start_is p.2 q.2 cut.1 in
    at_the_head to_head m f (subst (λ (x : Start). AreFree (flat_map of_interim (interims_of x))) b.start free)
    (sym (ap₂ (λ (x : Start) (xs : List Field). first_of (of_head (alone x) xs)) b.start b.fields) ∙ e)
judged_first L to_head m o z bytes k (content_read s fs n) f h inside none c e =
    let t = tailed L s fs (λ g. IsContent g n) (take (k + 1) bytes) c.0 c.1 in
    let b = behind L m o z s fs (λ g. IsContent g n) (take (k + 1) bytes) (drop (k + 1) bytes) bytes h (sym (take-append-drop (k + 1) bytes)) t in
    let one : 1 ≤ n = content_one b.form n b.rest b.rest_is in
    let few : n ≤ length m.content = content_few L b.form m o z n b.rest b.tail (drop (k + 1) bytes) b.rest_is b.tail_is b.same in
    let cut = but_last k bytes (bytes_of t.front) t.rest inside (omega (arith, ap length t.behind.ends, length-append t.behind.front ((parts.Content, t.behind.byte) ∷ []))) t.joined in
    let heads : AreFree (of_head s fs) = opening_free L to_head (take k bytes) none t.form s fs t.front cut.0 t.opens cut.1 in
    let rule : first_of (of_byte (announced to_head m.start m.fields) n) ≡ Some f =
    sym (ap₂ (λ (x : Start) (xs : List Field). first_of (of_byte (announced to_head x xs) n)) b.start b.fields) ∙ e in
    behind_head to_head m f (subst AreFree (ap₂ of_head b.start b.fields) heads)
    (ap (λ (p : Option NoForm). or_else p (first_of (of_trailers (announced to_head m.start m.fields) (length m.content) (clean_trailers (hops m.fields) m.trailers))))
    (rule_up (announced to_head m.start m.fields) n (length m.content) f one few rule))
judged_first L to_head m o z bytes k (trailers_ended s fs n ts) f h inside none c e =
    let t = tailed L s fs (λ g. IsClosing L g n ts) (take (k + 1) bytes) c.0 c.1 in
    let b = behind L m o z s fs (λ g. IsClosing L g n ts) (take (k + 1) bytes) (drop (k + 1) bytes) bytes h (sym (take-append-drop (k + 1) bytes)) t in
    let is = closing_is L b.form m o z n ts b.rest b.tail (drop (k + 1) bytes) h.spelled.valid.trailers b.rest_is b.tail_is b.same in
    let d = t.behind in
    let p = d.spelled in
    let all : take (k + 1) bytes ≡ bytes_of (t.front ++ p.0) ++ bytes_of p.1 =
    t.joined ∙ ap (λ (x : List ℕ). bytes_of t.front ++ x) (ap bytes_of p.4 ∙ bytes_of-append p.0 p.1) ∙ sym (append_assoc (bytes_of t.front) (bytes_of p.0) (bytes_of p.1))
    ∙ ap (λ (x : List ℕ). x ++ bytes_of p.1) (sym (bytes_of-append t.front p.0)) in
    let cut = but_last k bytes (bytes_of (t.front ++ p.0)) p.1 inside (section_nonempty L t.form ts p.1 p.3) all in
    let opens : take k bytes ≡ bytes_of t.front ++ (bytes_of p.0 ++ cut.0) = cut.1 ∙ ap (λ (x : List ℕ). x ++ cut.0) (bytes_of-append t.front p.0) ∙ append_assoc (bytes_of t.front) (bytes_of p.0) cut.0 in
    let heads : AreFree (of_head s fs) = opening_free L to_head (take k bytes) none t.form s fs t.front (bytes_of p.0 ++ cut.0) t.opens opens in
    let free : AreFree (byte_rule (announced to_head s fs) (length d.content)) =
    rule_of (announced to_head s fs) (length d.content) (λ some. last_free L to_head (take k bytes) t.form s fs t.front p.0 cut.0 d.content none t.opens d.bytes_are p.2 cut.1 some) in
    let many : length d.content ≡ length m.content = d.counts ∙ is.0 in
    let rule : first_of (of_trailers (announced to_head m.start m.fields) (length m.content) (clean_trailers (hops m.fields) m.trailers)) ≡ Some f =
    sym (ap₂ (λ (x : Start) (xs : List Field). first_of (of_trailers (announced to_head x xs) n (clean_trailers (hops xs) ts))) b.start b.fields
    ∙ ap₂ (λ (j : ℕ) (us : List Field). first_of (of_trailers (announced to_head m.start m.fields) j (clean_trailers (hops m.fields) us))) is.0 is.1) ∙ e in
    behind_head to_head m f (subst AreFree (ap₂ of_head b.start b.fields) heads)
    (ap₂ or_else (free_none (byte_rule (announced to_head m.start m.fields) (length m.content))
    (subst (λ (j : ℕ). AreFree (byte_rule (announced to_head m.start m.fields) j)) many
    (subst AreFree (ap₂ (λ (x : Start) (xs : List Field). byte_rule (announced to_head x xs) (length d.content)) b.start b.fields) free))) rule)
judged_first L to_head m o z bytes k (input_ended s fs n) f h inside none c e = absurd c

-- the end is judged
end_first : (L : Bounds) (to_head : Bool) (m : Message) (o : Omitted) (z : ℕ) (bytes : List ℕ) (f : NoForm) → SpellsBytes L m o z bytes → Unjudged L to_head bytes → end_says to_head m o ≡ Some f → no_form to_head m ≡ Some f
end_first L to_head m o z bytes f h none e =
    let w = own L m o z bytes h in
    let t : Text = w.number ++ (w.begun ++ w.section) in
    let opens = opening L m o z bytes h w in
    let heads : AreFree (of_head m.start m.fields) = opening_free L to_head bytes none w.form m.start m.fields t (bytes_of w.tail) opens w.joined in
    let rules = tail_rules L to_head m o z bytes w.form t w.tail none opens h.spelled.valid.content w.tail_is w.joined in
    behind_head to_head m f heads (ap₂ or_else (free_none _ rules) (last_is to_head m o (spelled_leaves L m o z h.text h.spelled) e))
  where
    last_is : (to_head : Bool) (m : Message) (o : Omitted) → LeavesOut m o → end_says to_head m o ≡ Some f
        → first_of (of_trailers (announced to_head m.start m.fields) (length m.content) (clean_trailers (hops m.fields) m.trailers)) ≡ Some f
    last_is to_head m Nothing l e = absurd (let bad : None ≡ Some f = e in cc)
    last_is to_head m Trailers l e = sym (last_says to_head m Trailers l) ∙ e
    last_is to_head m Both l e = sym (last_says to_head m Both l) ∙ e

pub formless_is_the_form : FormlessIsTheForm
formless_is_the_form L to_head bytes m o z f a (inl j) =
    judged_first L to_head m o z bytes j.0 j.1.judged.0 f a.1 j.1.inside (before_free L to_head bytes j.0 j.1.inside j.1.seen j.1.first) j.1.judged.1 j.1.judged.2
formless_is_the_form L to_head bytes m o z f a (inr u) =
    let same = one_reading L L u.0 m u.1 o u.2 z bytes u.3.message.1 a.1 in
    end_first L to_head m o z bytes f a.1 (unjudged L to_head bytes a.0 u.3.none) (sym (ap₂ (end_says to_head) same.0 same.1) ∙ u.4)
