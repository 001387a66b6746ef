-- What comes among the bytes of a message is a moment of that message.
use Rattle.std.proofs.Common.{◌≡◌, ◌≤◌, ◌+◌, arith, ℕ, suc, Bool, not, nat_eq, List, [], ◌∷◌, ◌++◌, flat_map, length, take, drop, All, Option, Some, None, refl, sym, ap, ap₂, subst, ◌∙◌, append_assoc, append-nil, length-append, take-append-drop}
use Rattle.std.specs.List.{concat}
use Rattle.std.proofs.lemmas.Bool.{both_ways, ltb-false, le-ltb, not_from_false, ne_eqb}
use Rattle.std.proofs.lemmas.List.Elements.{All-head, All-tail}
use Rattle.bh_spec.specs.declared.Form.{Form}
use Rattle.bh_spec.specs.declared.Form.TheVariants.{Known, Indeterminate}
use Rattle.bh_spec.specs.declared.Kind.TheVariants.{Request, Response}
use Rattle.bh_spec.specs.declared.Omitted.{Omitted}
use Rattle.bh_spec.specs.declared.Omitted.TheVariants.{Nothing, Trailers, Both}
use Rattle.bh_spec.specs.declared.Part.TheVariants as parts
use Rattle.bh_spec.specs.Bounds.{Bounds}
use Rattle.bh_spec.specs.Integers.{vi}
use Rattle.bh_spec.specs.Messages.{Field, Interim, Start, request, response, kind_of, Message, AreTrailers, IsInterim, IsStart}
use Rattle.bh_spec.specs.Texts.{Text, bytes_of, mark, IsNumber, ◌then◌, AreEach, IsString, content_in}
use Rattle.bh_spec.specs.Sections.{IsSection}
use Rattle.bh_spec.specs.Tails.{IsBody, IsTail}
use Rattle.bh_spec.specs.Spelling.{IsInterimText, IsStartText, framing, Spells}
use Rattle.bh_spec.specs.Viable.{SpellsBytes}
use Rattle.bh_spec.proofs.Meeting.{Meets, meets_front}
use Rattle.bh_spec.proofs.Numbers.{number_meets}
use Rattle.bh_spec.proofs.Agreement.{Agree, agree_map, agree_then}
use Rattle.bh_spec.proofs.Sections.{section_agrees, section_nonempty, body_agrees}
use Rattle.bh_spec.proofs.Whole.{trailers_named, headers_named, framing_is}
use Rattle.bh_spec.proofs.Marks.{bytes_of-append, content-append}
use Rattle.h1_spec.specs.declared.Framing1.{Framing1}
use Rattle.h1_spec.specs.declared.Framing1.TheVariants.{Empty, Counted, Chunked, ToEnd}
use Rattle.bh_spec.specs.declared.NoForm.{NoForm}
use Rattle.h1_spec.specs.Cleaning.{hops, clean_trailers, clean_message}
use Rattle.h1_spec.specs.Http1.{interims_of}
use Rattle.h1_spec.specs.Http1Text.{Case, of_interim, of_head, of_body, framing_written, cases_of, no_form}
use Rattle.h1_spec.proofs.Cases.{AreFree, free_none, none_free, free_front, free_back}
use Rattle.h1_spec.specs.Moments.{Moment, interim_ended, head_ended, content_read, trailers_ended, input_ended, announced, of_byte, of_trailers, alone, cases_at, form_at}
use Rattle.h1_spec.specs.Judging.{IsOpening, IsContent, IsClosing, ComesAt, end_says}
use Rattle.h1_spec.specs.Laws.{LeavesOut, FormedWhereFree}
use Rattle.h1_spec.proofs.Agreeing.{written_announced, last_says, body_parts, head_parts, flat_append, byte_rule}
use Rattle.h1_spec.proofs.Coming.{Tailed, tailed, head_tailed, IsNone, opening_front, content_some, closing_some}

-- ---- what is left out is empty

tail_leaves : (L : Bounds) (form : Form) (m : Message) (o : Omitted) (z : ℕ) (t : Text) → IsTail L form m.content m.trailers o z t → LeavesOut m o
tail_leaves L form m Nothing z t h = tt
tail_leaves L form m Trailers z t h = h.0
tail_leaves L form m Both z t h = (h.0, h.1)

pub spelled_leaves : (L : Bounds) (m : Message) (o : Omitted) (z : ℕ) (t : Text) → Spells L m o z t → LeavesOut m o
spelled_leaves L m o z t h = let behind = h.text.3.3 in tail_leaves L h.form m o z behind.1 behind.3

-- ---- a message, cut behind its header section

pub record Own (L : Bounds) (m : Message) (o : Omitted) (z : ℕ) (bytes : List ℕ) : Type 0 where
  pub form : Form
  pub number : Text
  pub begun : Text
  pub section : Text
  pub tail : Text
  pub number_is : IsNumber parts.Framing (framing (kind_of m.start) form) number
  pub begun_is : IsStartText L form m.start begun
  pub section_is : IsSection L form m.fields section
  pub tail_is : IsTail L form m.content m.trailers o z tail
  pub joined : bytes ≡ bytes_of (number ++ (begun ++ section)) ++ bytes_of tail

pub own : (L : Bounds) (m : Message) (o : Omitted) (z : ℕ) (bytes : List ℕ) → SpellsBytes L m o z bytes → Own L m o z bytes
own L m o z bytes h =
    let p = h.spelled.text in
    let q = p.3 in
    let r = q.3 in
    record {
      form = h.spelled.form;
      number = p.0;
      begun = q.0;
      section = r.0;
      tail = r.1;
      number_is = p.2;
      begun_is = q.2;
      section_is = r.2;
      tail_is = r.3;
      joined = sym h.same ∙ ap bytes_of (p.4 ∙ ap (λ (x : Text). p.0 ++ x) (q.4 ∙ ap (λ (x : Text). q.0 ++ x) r.4 ∙ sym (append_assoc q.0 r.0 r.1)) ∙ sym (append_assoc p.0 (q.0 ++ r.0) r.1))
          ∙ bytes_of-append (p.0 ++ (q.0 ++ r.0)) r.1;
    }

pub opening : (L : Bounds) (m : Message) (o : Omitted) (z : ℕ) (bytes : List ℕ) → SpellsBytes L m o z bytes → (w : Own L m o z bytes) → IsOpening L w.form m.start m.fields (w.number ++ (w.begun ++ w.section))
opening L m o z bytes h w = record {
  start_is = h.spelled.valid.start;
  fields_are = h.spelled.valid.fields;
  spelled = (w.number, w.begun ++ w.section, w.number_is, (w.begun, w.section, w.begun_is, w.section_is, refl), refl);
}

-- what is behind the head in the bytes up to a moment, and what is behind it in all bytes
pub record Behind (L : Bounds) (m : Message) (o : Omitted) (z : ℕ) (s : Start) (fs : List Field) (R : Form → Text → Type 0) (more : List ℕ) : Type 0 where
  pub start : s ≡ m.start
  pub fields : fs ≡ m.fields
  pub form : Form
  pub rest : Text
  pub tail : Text
  pub rest_is : R form rest
  pub tail_is : IsTail L form m.content m.trailers o z tail
  pub same : bytes_of rest ++ more ≡ bytes_of tail

pub behind : (L : Bounds) (m : Message) (o : Omitted) (z : ℕ) (s : Start) (fs : List Field) (R : Form → Text → Type 0) (front more bytes : List ℕ) → SpellsBytes L m o z bytes → bytes ≡ front ++ more
    → Tailed L s fs R front → Behind L m o z s fs R more
behind L m o z s fs R front more bytes h e t =
    let w = own L m o z bytes h in
    let all : bytes_of t.front ++ (bytes_of t.rest ++ more) ≡ bytes_of (w.number ++ (w.begun ++ w.section)) ++ bytes_of w.tail =
    sym (append_assoc (bytes_of t.front) (bytes_of t.rest) more) ∙ ap (λ (x : List ℕ). x ++ more) (sym t.joined) ∙ sym e ∙ w.joined in
    let one = opening_front L L t.form w.form s m.start fs m.fields t.front (w.number ++ (w.begun ++ w.section)) (bytes_of t.rest ++ more) (bytes_of w.tail) t.opens (opening L m o z bytes h w) all in
    record {
      start = one.0.1;
      fields = one.0.2;
      form = w.form;
      rest = t.rest;
      tail = w.tail;
      rest_is = subst (λ (f : Form). R f t.rest) one.0.0 t.behind;
      tail_is = w.tail_is;
      same = one.2;
    }

-- ---- interim responses

pub interim_agrees : (L : Bounds) (form : Form) (a b : Interim) → IsInterim a → IsInterim b → Agree ⊥ ((a.status ≡ b.status) × (a.fields ≡ b.fields)) (IsInterimText L form a) (IsInterimText L form b)
interim_agrees L form a b p q =
    agree_then ⊥ (a.status ≡ b.status) ((a.status ≡ b.status) × (a.fields ≡ b.fields)) (IsNumber parts.Status a.status) (IsSection L form a.fields) (IsNumber parts.Status b.status) (IsSection L form b.fields)
    (number_meets parts.Status a.status b.status)
    (λ e. agree_map ⊥ (a.fields ≡ b.fields) ((a.status ≡ b.status) × (a.fields ≡ b.fields)) (IsSection L form a.fields) (IsSection L form b.fields) (λ f. (e, f))
    (section_agrees L L form a.fields b.fields (headers_named a.fields p.fields) (headers_named b.fields q.fields)))

interim_is : (a b : Interim) → a.status ≡ b.status → a.fields ≡ b.fields → a ≡ b
interim_is a b p q = ap₂ (λ (x : ℕ) (y : List Field). let z : Interim = record { status = x; fields = y } in z) p q

-- interim responses at the front of others and a final status are the first of these
pub begin_others : (L : Bounds) (form : Form) (js is : List Interim) (s : ℕ) (a b : Text) (x y : List ℕ) → All IsInterim js → All IsInterim is → 200 ≤ s
    → AreEach (IsInterimText L form) js a → (AreEach (IsInterimText L form) is then IsNumber parts.Status s) b → bytes_of a ++ x ≡ bytes_of b ++ y → (after : List Interim) × (is ≡ js ++ after)
begin_others L form [] is s a b x y p q low u v e = (is, refl)
begin_others L form (j ∷ js) [] s a b x y p q low u v e =
    let t = u.2 in
    let num = v.3 in
    let none : v.0 ≡ [] = v.2 in
    let all : bytes_of t.0 ++ ((bytes_of t.1 ++ bytes_of u.1) ++ x) ≡ bytes_of v.1 ++ y =
    sym (append_assoc (bytes_of t.0) (bytes_of t.1 ++ bytes_of u.1) x)
    ∙ ap (λ (w : List ℕ). w ++ x) (sym (append_assoc (bytes_of t.0) (bytes_of t.1) (bytes_of u.1)) ∙ ap (λ (w : List ℕ). w ++ bytes_of u.1) (sym (bytes_of-append t.0 t.1) ∙ ap bytes_of (sym t.4))
    ∙ sym (bytes_of-append u.0 u.1) ∙ ap bytes_of (sym u.4)) ∙ e ∙ ap (λ (w : Text). bytes_of w ++ y) (v.4 ∙ ap (λ (w : Text). w ++ v.1) none) in
    let same = meets_front (j.status ≡ s) t.0 v.1 ((bytes_of t.1 ++ bytes_of u.1) ++ x) y (number_meets parts.Status j.status s t.0 v.1 t.2 num) all in
    let high : j.status ≤ 199 = (All-head IsInterim j js p).number.high in
    absurd (omega (arith, same.0, high, low))
begin_others L form (j ∷ js) (i ∷ is) s a b x y p q low u v e =
    let w = v.2 in
    let all : bytes_of u.0 ++ (bytes_of u.1 ++ x) ≡ bytes_of w.0 ++ (bytes_of (w.1 ++ v.1) ++ y) =
    sym (append_assoc (bytes_of u.0) (bytes_of u.1) x) ∙ ap (λ (k : List ℕ). k ++ x) (sym (bytes_of-append u.0 u.1) ∙ ap bytes_of (sym u.4)) ∙ e
    ∙ ap (λ (k : Text). bytes_of k ++ y) (v.4 ∙ ap (λ (k : Text). k ++ v.1) w.4 ∙ append_assoc w.0 w.1 v.1)
    ∙ ap (λ (k : List ℕ). k ++ y) (bytes_of-append w.0 (w.1 ++ v.1)) ∙ append_assoc (bytes_of w.0) (bytes_of (w.1 ++ v.1)) y in
    let same = meets_front ((j.status ≡ i.status) × (j.fields ≡ i.fields)) u.0 w.0 (bytes_of u.1 ++ x) (bytes_of (w.1 ++ v.1) ++ y)
    (interim_agrees L form j i (All-head IsInterim j js p) (All-head IsInterim i is q) u.0 w.0 u.2 w.2) all in
    let rest = begin_others L form js is s u.1 (w.1 ++ v.1) x y (All-tail IsInterim j js p) (All-tail IsInterim i is q) low u.3 (w.1, v.1, w.3, v.3, refl) same.2 in
    (rest.0, ap₂ (λ (k : Interim) (ks : List Interim). k ∷ ks) (sym (interim_is j i same.0.0 same.0.1)) rest.1)

-- the rules of one of them
among_free : (before after : List Interim) (i : Interim) → AreFree (flat_map of_interim ((before ++ i ∷ []) ++ after)) → AreFree (of_interim i)
among_free before after i h =
    free_front (of_interim i) (flat_map of_interim after)
    (free_back (flat_map of_interim before) (of_interim i ++ flat_map of_interim after)
    (subst AreFree (ap (flat_map of_interim) (append_assoc before (i ∷ []) after) ∙ flat_append of_interim before (i ∷ after)) h))

pub wrong_kind : (f g : Form) → framing Response f ≡ framing Request g → ⊥
wrong_kind f g e = let same : Response ≡ Request = (framing_is Response Request f g e).0 in absurd cc

interim_free : (L : Bounds) (m : Message) (o : Omitted) (z : ℕ) (start : Start) (bytes front more : List ℕ) (i : Interim) → IsStart start → (w : Own L m o z bytes) → m.start ≡ start
    → IsNumber parts.Framing (framing (kind_of start) w.form) w.number → IsStartText L w.form start w.begun
    → bytes ≡ front ++ more → ComesAt L front (interim_ended i) → AreFree (flat_map of_interim (interims_of start)) → AreFree (of_interim i)
interim_free L m o z (request c) bytes front more i p w k n b e h free =
    let g = h.spelled in
    let s = g.spelled in
    let all : bytes_of s.0 ++ (bytes_of s.1 ++ more) ≡ bytes_of w.number ++ (bytes_of (w.begun ++ w.section) ++ bytes_of w.tail) =
    sym (append_assoc (bytes_of s.0) (bytes_of s.1) more) ∙ ap (λ (x : List ℕ). x ++ more) (sym (bytes_of-append s.0 s.1) ∙ ap bytes_of (sym s.4) ∙ h.same) ∙ sym e ∙ w.joined
    ∙ ap (λ (x : List ℕ). x ++ bytes_of w.tail) (bytes_of-append w.number (w.begun ++ w.section)) ∙ append_assoc (bytes_of w.number) (bytes_of (w.begun ++ w.section)) (bytes_of w.tail) in
    absurd (wrong_kind g.form w.form
    (meets_front (framing Response g.form ≡ framing Request w.form) s.0 w.number (bytes_of s.1 ++ more) (bytes_of (w.begun ++ w.section) ++ bytes_of w.tail)
    (number_meets parts.Framing (framing Response g.form) (framing Request w.form) s.0 w.number s.2 n) all).0)
interim_free L m o z (response is final) bytes front more i p w k n b e h free =
    let g = h.spelled in
    let s = g.spelled in
    let all : bytes_of s.0 ++ (bytes_of s.1 ++ more) ≡ bytes_of w.number ++ (bytes_of (w.begun ++ w.section) ++ bytes_of w.tail) =
    sym (append_assoc (bytes_of s.0) (bytes_of s.1) more) ∙ ap (λ (x : List ℕ). x ++ more) (sym (bytes_of-append s.0 s.1) ∙ ap bytes_of (sym s.4) ∙ h.same) ∙ sym e ∙ w.joined
    ∙ ap (λ (x : List ℕ). x ++ bytes_of w.tail) (bytes_of-append w.number (w.begun ++ w.section)) ∙ append_assoc (bytes_of w.number) (bytes_of (w.begun ++ w.section)) (bytes_of w.tail) in
    let first = meets_front (framing Response g.form ≡ framing Response w.form) s.0 w.number (bytes_of s.1 ++ more) (bytes_of (w.begun ++ w.section) ++ bytes_of w.tail)
    (number_meets parts.Framing (framing Response g.form) (framing Response w.form) s.0 w.number s.2 n) all in
    let form_is : g.form ≡ w.form = (framing_is Response Response g.form w.form first.0).1 in
    let found = begin_others L w.form (g.before ++ i ∷ []) is final s.1 w.begun more (bytes_of w.section ++ bytes_of w.tail) g.each p.each p.final.low
    (subst (λ (f : Form). AreEach (IsInterimText L f) (g.before ++ i ∷ []) s.1) form_is s.3) b.1
    (first.2 ∙ ap (λ (x : List ℕ). x ++ bytes_of w.tail) (bytes_of-append w.begun w.section) ∙ append_assoc (bytes_of w.begun) (bytes_of w.section) (bytes_of w.tail)) in
    among_free g.before found.0 i (subst (λ (js : List Interim). AreFree (flat_map of_interim js)) found.1 free)

-- ---- content

pub length_none : (bytes : List ℕ) → content_in (mark parts.ContentLength bytes) ≡ 0
length_none [] = refl
length_none (x ∷ bytes) = omega (arith, length_none bytes)

pub chunk_none : (bytes : List ℕ) → content_in (mark parts.ChunkLength bytes) ≡ 0
chunk_none [] = refl
chunk_none (x ∷ bytes) = omega (arith, chunk_none bytes)

run_all : (bytes : List ℕ) → content_in (mark parts.Content bytes) ≡ length bytes
run_all [] = refl
run_all (x ∷ bytes) = omega (arith, run_all bytes)

chunks_all : (chunks : List (List ℕ)) (t : Text) → AreEach (IsString parts.ChunkLength parts.Content) chunks t → content_in t ≡ length (concat chunks)
chunks_all [] t h = ap content_in h
chunks_all (chunk ∷ rest) t h =
    let s = h.2 in
    ap content_in h.4
    ∙ omega (
      arith,
      content-append h.0 h.1,
      ap content_in s.4,
      content-append s.0 s.1,
      ap content_in s.2.spelled,
      chunk_none (vi (length chunk) s.2.width),
      ap content_in s.3,
      run_all chunk,
      chunks_all rest h.1 h.3,
      length-append chunk (concat rest),
    )

pub body_all : (form : Form) (content : List ℕ) (t : Text) → IsBody form content t → content_in t ≡ length content
body_all Known content t h =
    omega (arith, ap content_in h.4, content-append h.0 h.1, ap content_in h.2.spelled, length_none (vi (length content) h.2.width), ap content_in h.3, run_all content)
body_all Indeterminate content t h =
    let s = h.3 in
    omega (arith, ap content_in s.4, content-append s.0 s.1, chunks_all h.0 s.0 s.2, ap length h.1, ap content_in s.3.spelled, chunk_none (vi 0 s.3.width))

-- the content of a front is no more than that of the whole
front_count : (E : Type 0) (r a b : Text) (x y : List ℕ) → Meets ⊥ E (r ++ a) b → bytes_of r ++ x ≡ bytes_of b ++ y → content_in r ≤ content_in b
front_count E [] a b x y h e = omega arith
front_count E (c ∷ r) a [] x y h e = absurd h
front_count E (c ∷ r) a (d ∷ b) x y h e =
    let head : c.1 ≡ d.1 = cc in
    let tail : bytes_of r ++ x ≡ bytes_of b ++ y = cc in
    let rest : content_in r ≤ content_in b = front_count E r a b x y (h.1 head) tail in
    omega (arith, rest, ap (λ p. content_in ((p, 0) ∷ [])) h.0)

-- so many bytes are content of the message
pub content_few : (L : Bounds) (form : Form) (m : Message) (o : Omitted) (z n : ℕ) (r tail : Text) (more : List ℕ) → IsContent form n r → IsTail L form m.content m.trailers o z tail
    → bytes_of r ++ more ≡ bytes_of tail → n ≤ length m.content
content_few L form m Nothing z n r tail more c t e =
    let few = front_count (c.content ≡ m.content) r c.after t.0 more (bytes_of t.1) (body_agrees form c.content m.content (r ++ c.after) t.0 c.body t.2) (e ∙ ap bytes_of t.4 ∙ bytes_of-append t.0 t.1) in
    omega (arith, few, c.counts, body_all form m.content t.0 t.2)
content_few L form m Trailers z n r tail more c t e =
    let few = front_count (c.content ≡ m.content) r c.after tail more [] (body_agrees form c.content m.content (r ++ c.after) tail c.body t.2) (e ∙ sym (append-nil (bytes_of tail))) in
    omega (arith, few, c.counts, body_all form m.content tail t.2)
content_few L form m Both z n r tail more c t e = absurd (content_some form n r c (no_front (bytes_of r) more (e ∙ ap bytes_of t.3)))
  where
    no_front : (a b : List ℕ) → a ++ b ≡ [] → a ≡ []
    no_front [] b e = refl
    no_front (x ∷ a) b e = absurd cc

pub content_one : (form : Form) (n : ℕ) (r : Text) → IsContent form n r → 1 ≤ n
content_one form n r c = omega (arith, c.counts, ap content_in c.ends, content-append c.front ((parts.Content, c.byte) ∷ []))

byte_free : (f : Framing1) (n most : ℕ) → 1 ≤ n → n ≤ most → AreFree (byte_rule f most) → AreFree (of_byte f n)
byte_free Empty n most one few h = absurd (both_ways (not (nat_eq most 0)) h.0 (not_from_false (nat_eq most 0) (ne_eqb most 0 (λ e. omega (arith, e)))))
byte_free (Counted field) n most one few h = (le-ltb field n (omega (arith, ltb-false field most h.0)), tt)
byte_free Chunked n most one few h = tt
byte_free ToEnd n most one few h = tt

-- ---- the trailer section

pub closing_is : (L : Bounds) (form : Form) (m : Message) (o : Omitted) (z n : ℕ) (ts : List Field) (r tail : Text) (more : List ℕ) → AreTrailers m.trailers → IsClosing L form n ts r
    → IsTail L form m.content m.trailers o z tail → bytes_of r ++ more ≡ bytes_of tail → (n ≡ length m.content) × (ts ≡ m.trailers)
closing_is L form m Nothing z n ts r tail more v c t e =
    let p = c.spelled in
    let q = t.3 in
    let all : bytes_of p.0 ++ (bytes_of p.1 ++ more) ≡ bytes_of t.0 ++ bytes_of t.1 =
    sym (append_assoc (bytes_of p.0) (bytes_of p.1) more) ∙ ap (λ (x : List ℕ). x ++ more) (sym (bytes_of-append p.0 p.1) ∙ ap bytes_of (sym p.4)) ∙ e ∙ ap bytes_of t.4 ∙ bytes_of-append t.0 t.1 in
    let one = meets_front (c.content ≡ m.content) p.0 t.0 (bytes_of p.1 ++ more) (bytes_of t.1) (body_agrees form c.content m.content p.0 t.0 p.2 t.2) all in
    let two = meets_front (ts ≡ m.trailers) p.1 q.0 more (bytes_of q.1) (section_agrees L L form ts m.trailers (trailers_named ts c.trailers_are) (trailers_named m.trailers v) p.1 q.0 p.3 q.2)
    (one.2 ∙ ap bytes_of q.4 ∙ bytes_of-append q.0 q.1) in
    (sym c.counts ∙ ap length one.0, two.0)
closing_is L form m Trailers z n ts r tail more v c t e =
    let p = c.spelled in
    let all : bytes_of p.0 ++ (bytes_of p.1 ++ more) ≡ bytes_of tail ++ [] =
    sym (append_assoc (bytes_of p.0) (bytes_of p.1) more) ∙ ap (λ (x : List ℕ). x ++ more) (sym (bytes_of-append p.0 p.1) ∙ ap bytes_of (sym p.4)) ∙ e ∙ sym (append-nil (bytes_of tail)) in
    let one = meets_front (c.content ≡ m.content) p.0 tail (bytes_of p.1 ++ more) [] (body_agrees form c.content m.content p.0 tail p.2 t.2) all in
    absurd (omega (arith, ap length one.2, length-append (bytes_of p.1) more, long p.1, section_nonempty L form ts p.1 p.3))
  where
    long : (t : Text) → length (bytes_of t) ≡ length t
    long [] = refl
    long (x ∷ t) = ap suc (long t)
closing_is L form m Both z n ts r tail more v c t e = absurd (closing_some L form n ts r c (no_front (bytes_of r) more (e ∙ ap bytes_of t.3)))
  where
    no_front : (a b : List ℕ) → a ++ b ≡ [] → a ≡ []
    no_front [] b e = refl
    no_front (x ∷ a) b e = absurd cc

-- ---- a message of which no rule holds

record Frees (to_head : Bool) (m : Message) : Type 0 where
  interims : AreFree (flat_map of_interim (interims_of m.start))
  at_head : AreFree (of_head (alone m.start) m.fields)
  bytes : AreFree (byte_rule (announced to_head m.start m.fields) (length m.content))
  trailers : AreFree (of_trailers (announced to_head m.start m.fields) (length m.content) (clean_trailers (hops m.fields) m.trailers))

frees : (to_head : Bool) (m : Message) → no_form to_head m ≡ None → Frees to_head m
frees to_head m e =
    let free : AreFree (cases_of to_head m) = none_free (cases_of to_head m) e in
    let ts : List Field = clean_trailers (hops m.fields) m.trailers in
    let f : Framing1 = announced to_head m.start m.fields in
    let written : List Case = of_body (framing_written to_head (clean_message m)) m.content ts in
    let heads : AreFree (flat_map of_interim (interims_of m.start) ++ of_head (alone m.start) m.fields) =
    subst AreFree (head_parts m.start m.fields) (free_front (of_head m.start m.fields) written free) in
    let body : AreFree (byte_rule f (length m.content) ++ of_trailers f (length m.content) ts) =
    subst AreFree (body_parts f m.content ts)
    (none_free (of_body f m.content ts) (sym (written_announced to_head m) ∙ free_none written (free_back (of_head m.start m.fields) written free))) in
    record {
      interims = free_front (flat_map of_interim (interims_of m.start)) (of_head (alone m.start) m.fields) heads;
      at_head = free_back (flat_map of_interim (interims_of m.start)) (of_head (alone m.start) m.fields) heads;
      bytes = free_front (byte_rule f (length m.content)) (of_trailers f (length m.content) ts) body;
      trailers = free_back (byte_rule f (length m.content)) (of_trailers f (length m.content) ts) body;
    }

moment_free : (L : Bounds) (to_head : Bool) (m : Message) (o : Omitted) (z : ℕ) (bytes front more : List ℕ) (moment : Moment) → SpellsBytes L m o z bytes → bytes ≡ front ++ more → Frees to_head m
    → ComesAt L front moment → AreFree (cases_at to_head moment)
moment_free L to_head m o z bytes front more (interim_ended i) h e free c =
    let w = own L m o z bytes h in
    interim_free L m o z m.start bytes front more i h.spelled.valid.start w refl w.number_is w.begun_is e c free.interims
moment_free L to_head m o z bytes front more (head_ended s fs) h e free c =
    let b = behind L m o z s fs IsNone front more bytes h e (head_tailed L s fs front c) in
    subst AreFree (sym (ap₂ (λ (x : Start) (xs : List Field). of_head (alone x) xs) b.start b.fields)) free.at_head
moment_free L to_head m o z bytes front more (content_read s fs n) h e free c =
    let b = behind L m o z s fs (λ f. IsContent f n) front more bytes h e (tailed L s fs (λ f. IsContent f n) front c.0 c.1) in
    subst AreFree (sym (ap₂ (λ (x : Start) (xs : List Field). of_byte (announced to_head x xs) n) b.start b.fields))
    (byte_free (announced to_head m.start m.fields) n (length m.content) (content_one b.form n b.rest b.rest_is) (content_few L b.form m o z n b.rest b.tail more b.rest_is b.tail_is b.same) free.bytes)
moment_free L to_head m o z bytes front more (trailers_ended s fs n ts) h e free c =
    let b = behind L m o z s fs (λ f. IsClosing L f n ts) front more bytes h e (tailed L s fs (λ f. IsClosing L f n ts) front c.0 c.1) in
    let is = closing_is L b.form m o z n ts b.rest b.tail more h.spelled.valid.trailers b.rest_is b.tail_is b.same in
    subst AreFree (sym (ap₂ (λ (x : Start) (xs : List Field). of_trailers (announced to_head x xs) n (clean_trailers (hops xs) ts)) b.start b.fields
    ∙ ap₂ (λ (k : ℕ) (us : List Field). of_trailers (announced to_head m.start m.fields) k (clean_trailers (hops m.fields) us)) is.0 is.1)) free.trailers
moment_free L to_head m o z bytes front more (input_ended s fs n) h e free c = absurd c

end_free : (to_head : Bool) (m : Message) (o : Omitted) → LeavesOut m o → Frees to_head m → end_says to_head m o ≡ None
end_free to_head m Nothing h free = refl
end_free to_head m Trailers h free = last_says to_head m Trailers h ∙ free_none _ free.trailers
end_free to_head m Both h free = last_says to_head m Both h ∙ free_none _ free.trailers

none_some : (o : Option NoForm) (f : NoForm) → o ≡ None → o ≡ Some f → ⊥
none_some o f a b = let no : None ≡ Some f = sym a ∙ b in absurd cc

pub formed_where_free : FormedWhereFree
formed_where_free L to_head bytes m o z a e =
    let free = frees to_head m e in (
      record {
        message = a;
        none = λ k form few inside seen judged.
            none_some (form_at to_head judged.0) form
            (free_none (cases_at to_head judged.0)
            (moment_free L to_head m o z bytes (take (k + 1) bytes) (drop (k + 1) bytes) judged.0 a.1 (sym (take-append-drop (k + 1) bytes)) free judged.1))
            judged.2;
      },
      end_free to_head m o (spelled_leaves L m o z a.1.text a.1.spelled) free,
    )
