-- At most one moment comes with a byte, and what is judged is viable.
use Rattle.std.proofs.Common.{◌≡◌, ◌+◌, arith, ℕ, suc, List, [], ◌∷◌, ◌++◌, length, refl, sym, ap, ap₂, subst, ◌∙◌, append_assoc, append-nil, length-append}
use Rattle.std.proofs.lemmas.List.Elements.{All-nil}
use Rattle.bh_spec.specs.declared.Part.{Part}
use Rattle.bh_spec.specs.declared.Part.TheVariants as parts
use Rattle.bh_spec.specs.declared.Form.{Form}
use Rattle.bh_spec.specs.declared.Form.TheVariants.{Known, Indeterminate}
use Rattle.bh_spec.specs.declared.Omitted.{Omitted}
use Rattle.bh_spec.specs.declared.Omitted.TheVariants.{Nothing, Trailers, Both}
use Rattle.bh_spec.specs.declared.Width.TheVariants.{One, Two}
use Rattle.bh_spec.specs.Bounds.{Bounds}
use Rattle.bh_spec.specs.Bytes.{AreBytes}
use Rattle.bh_spec.specs.Integers.{vi}
use Rattle.bh_spec.specs.Messages.{Field, Interim, Start, request, response, kind_of, Message, IsStart, AreHeaders, AreTrailers, IsRegularField}
use Rattle.bh_spec.specs.Texts.{Text, bytes_of, mark, IsNumber, ◌then◌, content_in}
use Rattle.bh_spec.specs.Pieces.{IsText}
use Rattle.bh_spec.specs.Sections.{IsSection}
use Rattle.bh_spec.specs.Tails.{IsTail}
use Rattle.bh_spec.specs.Spelling.{IsStartText, framing, Spells}
use Rattle.bh_spec.specs.Viable.{IsViable}
use Rattle.bh_spec.proofs.Meeting.{Meets, meets_front, meets_one}
use Rattle.bh_spec.proofs.Numbers.{number_meets}
use Rattle.bh_spec.proofs.Agreement.{Agree, agree_map, agree_then}
use Rattle.bh_spec.proofs.Sections.{section_agrees, section_nonempty, body_agrees, body_nonempty}
use Rattle.bh_spec.proofs.Whole.{trailers_named, headers_named, start_agrees, framing_is}
use Rattle.bh_spec.proofs.Marks.{bytes_of-append, unmark}
use Rattle.bh_spec.proofs.Within.{no_lines, no_headers}
use Rattle.h1_spec.specs.Moments.{interim_ended, head_ended, content_read, trailers_ended, input_ended}
use Rattle.h1_spec.specs.Judging.{IsOpening, IsInterims, IsContent, IsClosing, ComesAt}
use Rattle.h1_spec.specs.Laws.{OneMoment, JudgedIsViable}

-- ---- openings

abbrev SameOpening : Form → Form → Start → Start → List Field → List Field → Type 0
SameOpening f g s t fs gs = (f ≡ g) × (s ≡ t) × (fs ≡ gs)

abbrev After : Bounds → Form → Start → List Field → Text → Type 0
After L f s fs t = (IsStartText L f s then IsSection L f fs) t

after_agrees : (K L : Bounds) (f : Form) (s t : Start) (fs gs : List Field) → kind_of s ≡ kind_of t → IsStart s → IsStart t → AreHeaders fs → AreHeaders gs
    → Agree ⊥ ((s ≡ t) × (fs ≡ gs)) (After K f s fs) (After L f t gs)
after_agrees K L f s t fs gs k p q hs js =
    agree_then ⊥ (s ≡ t) ((s ≡ t) × (fs ≡ gs)) (IsStartText K f s) (IsSection K f fs) (IsStartText L f t) (IsSection L f gs)
    (start_agrees K L f s t k p q)
    (λ e. agree_map ⊥ (fs ≡ gs) ((s ≡ t) × (fs ≡ gs)) (IsSection K f fs) (IsSection L f gs) (λ d. (e, d))
    (section_agrees K L f fs gs (headers_named fs hs) (headers_named gs js)))

opening_meets : (K L : Bounds) (f g : Form) (s t : Start) (fs gs : List Field) (x y : Text) → IsOpening K f s fs x → IsOpening L g t gs y → Meets ⊥ (SameOpening f g s t fs gs) x y
opening_meets K L f g s t fs gs x y a b =
    agree_then ⊥ (framing (kind_of s) f ≡ framing (kind_of t) g) (SameOpening f g s t fs gs)
    (IsNumber parts.Framing (framing (kind_of s) f)) (After K f s fs) (IsNumber parts.Framing (framing (kind_of t) g)) (After L g t gs)
    (number_meets parts.Framing (framing (kind_of s) f) (framing (kind_of t) g))
    (λ e. let both = framing_is (kind_of s) (kind_of t) f g e in
    subst (λ (h : Form). Agree ⊥ (SameOpening f h s t fs gs) (After K f s fs) (After L h t gs)) both.1
    (agree_map ⊥ ((s ≡ t) × (fs ≡ gs)) (SameOpening f f s t fs gs) (After K f s fs) (After L f t gs) (λ d. (refl, d.0, d.1))
    (after_agrees K L f s t fs gs both.0 a.start_is b.start_is a.fields_are b.fields_are)))
    x y a.spelled b.spelled

-- two openings at the front of the same bytes are one
pub opening_front : (K L : Bounds) (f g : Form) (s t : Start) (fs gs : List Field) (x y : Text) (r q : List ℕ) → IsOpening K f s fs x → IsOpening L g t gs y
    → bytes_of x ++ r ≡ bytes_of y ++ q → SameOpening f g s t fs gs × (x ≡ y) × (r ≡ q)
opening_front K L f g s t fs gs x y r q a b e = meets_front (SameOpening f g s t fs gs) x y r q (opening_meets K L f g s t fs gs x y a b) e

-- ---- interim responses, with a final response behind them

abbrev pub behind_bytes : List ℕ
behind_bytes = vi 200 Two ++ vi 0 One

-- what can always stand behind interim responses: a status of 200, and a section without lines
pub record Goes (L : Bounds) (interim : Interim) (t : Text) : Type 0 where
  pub form : Form
  pub before : List Interim
  pub more : Text
  pub bytes : bytes_of more ≡ behind_bytes
  pub opens : IsOpening L form (response (before ++ interim ∷ []) 200) [] (t ++ more)

abbrev pub status : Text
status = mark parts.Status (vi 200 Two)

pub status_is : IsNumber parts.Status 200 status
status_is = record { width = Two; fits = omega arith; spelled = refl }

pub zero_is : (part : Part) → IsNumber part 0 (mark part (vi 0 One))
zero_is part = record { width = One; fits = omega arith; spelled = refl }

abbrev pub no_section : Form → Text
no_section Known = mark parts.SectionLength (vi 0 One)
no_section Indeterminate = mark parts.NameLength (vi 0 One)

pub no_section_is : (L : Bounds) (form : Form) → IsSection L form [] (no_section form)
no_section_is L Known = ([], no_lines L, (mark parts.SectionLength (vi 0 One), [], zero_is parts.SectionLength, refl, refl))
no_section_is L Indeterminate = ([], mark parts.NameLength (vi 0 One), no_lines L, zero_is parts.NameLength, refl)

pub no_section_bytes : (form : Form) → bytes_of (no_section form) ≡ vi 0 One
no_section_bytes Known = unmark parts.SectionLength (vi 0 One)
no_section_bytes Indeterminate = unmark parts.NameLength (vi 0 One)

abbrev pub goes : (L : Bounds) (i : Interim) (t : Text) → IsInterims L i t → Goes L i t
goes L i t h =
    let s = h.spelled in
    let tail : Text = no_section h.form in
    let each : Text = s.1 in
    record {
      form = h.form;
      before = h.before;
      more = status ++ tail;
      bytes = bytes_of-append status tail ∙ ap₂ (λ (a b : List ℕ). a ++ b) (unmark parts.Status (vi 200 Two)) (no_section_bytes h.form);
      opens = record {
        start_is = record { each = h.each; final = record { low = omega arith; high = omega arith } };
        fields_are = no_headers;
        spelled = (
          s.0,
          (each ++ status) ++ tail,
          s.2,
          (each ++ status, tail, (h.few, (each, status, s.3, status_is, refl)), no_section_is L h.form, refl),
          ap (λ (z : Text). z ++ (status ++ tail)) s.4 ∙ append_assoc s.0 each (status ++ tail) ∙ ap (λ (z : Text). s.0 ++ z) (sym (append_assoc each status tail)),
        );
      };
    }

pub goes_bytes : (L : Bounds) (i : Interim) (t : Text) (g : Goes L i t) → bytes_of (t ++ g.more) ≡ bytes_of t ++ behind_bytes
goes_bytes L i t g = bytes_of-append t g.more ∙ ap (λ (z : List ℕ). bytes_of t ++ z) g.bytes

some_behind : (r : List ℕ) → [] ≡ r ++ behind_bytes → ⊥
some_behind r e =
    let long : length (r ++ behind_bytes) ≡ length r + length behind_bytes = length-append r behind_bytes in
    let two : length behind_bytes ≡ 3 = refl in
    omega (arith, ap length e, long, two)

-- where interim responses end, no header section has ended
not_both : (K L : Bounds) (i : Interim) (t : Text) (f : Form) (s : Start) (fs : List Field) (h : Text) (r : List ℕ)
    → IsInterims K i t → IsOpening L f s fs h → bytes_of t ≡ bytes_of h ++ r → ⊥
not_both K L i t f s fs h r a b e =
    let g : Goes K i t = goes K i t a in
    some_behind r (opening_front K L g.form f (response (g.before ++ i ∷ []) 200) s [] fs (t ++ g.more) h [] (r ++ behind_bytes) g.opens b
    (append-nil (bytes_of (t ++ g.more)) ∙ goes_bytes K i t g ∙ ap (λ (z : List ℕ). z ++ behind_bytes) e ∙ append_assoc (bytes_of h) r behind_bytes)).2

abbrev last_of : Interim → List Interim → Interim
last_of i [] = i
last_of i (j ∷ js) = last_of j js

last_is : (d : Interim) (js : List Interim) (i : Interim) → last_of d (js ++ i ∷ []) ≡ i
last_is d [] i = refl
last_is d (j ∷ js) i = last_is j js i

abbrev interims_in : Start → List Interim
interims_in (response interims final) = interims
interims_in (request control) = []

one_interim : (K L : Bounds) (i j : Interim) (t u : Text) → IsInterims K i t → IsInterims L j u → bytes_of t ≡ bytes_of u → i ≡ j
one_interim K L i j t u a b e =
    let g : Goes K i t = goes K i t a in
    let h : Goes L j u = goes L j u b in
    let same = opening_front K L g.form h.form (response (g.before ++ i ∷ []) 200) (response (h.before ++ j ∷ []) 200) [] [] (t ++ g.more) (u ++ h.more) [] [] g.opens h.opens
    (ap (λ (z : List ℕ). z ++ []) (goes_bytes K i t g ∙ ap (λ (z : List ℕ). z ++ behind_bytes) e ∙ sym (goes_bytes L j u h))) in
    sym (last_is i g.before i) ∙ ap (λ (s : Start). last_of i (interims_in s)) same.0.1 ∙ last_is i h.before j

-- ---- behind the head

-- an opening, and what stands behind it
pub record Tailed (L : Bounds) (s : Start) (fs : List Field) (R : Form → Text → Type 0) (bytes : List ℕ) : Type 0 where
  pub form : Form
  pub front : Text
  pub rest : Text
  pub opens : IsOpening L form s fs front
  pub behind : R form rest
  pub joined : bytes ≡ bytes_of front ++ bytes_of rest

abbrev pub IsNone : Form → Text → Type 0
IsNone form t = t ≡ []

pub head_tailed : (L : Bounds) (s : Start) (fs : List Field) (bytes : List ℕ) → ComesAt L bytes (head_ended s fs) → Tailed L s fs IsNone bytes
head_tailed L s fs bytes h = record {
  form = h.0;
  front = h.1.text;
  rest = [];
  opens = h.1.spelled;
  behind = refl;
  joined = sym h.1.same ∙ sym (append-nil (bytes_of h.1.text));
}

pub tailed : (L : Bounds) (s : Start) (fs : List Field) (R : Form → Text → Type 0) (bytes : List ℕ) (f : Form) → IsText (IsOpening L f s fs then R f) bytes → Tailed L s fs R bytes
tailed L s fs R bytes f h =
    let p = h.spelled in
    record {
      form = f;
      front = p.0;
      rest = p.1;
      opens = p.2;
      behind = p.3;
      joined = sym h.same ∙ ap bytes_of p.4 ∙ bytes_of-append p.0 p.1;
    }

-- what two of them say of the same bytes
record Joint (K L : Bounds) (s t : Start) (fs gs : List Field) (R S : Form → Text → Type 0) : Type 0 where
  start : s ≡ t
  fields : fs ≡ gs
  form : Form
  left : Text
  right : Text
  one : R form left
  other : S form right
  same : bytes_of left ≡ bytes_of right

joint : (K L : Bounds) (s t : Start) (fs gs : List Field) (R S : Form → Text → Type 0) (bytes : List ℕ) → Tailed K s fs R bytes → Tailed L t gs S bytes → Joint K L s t fs gs R S
joint K L s t fs gs R S bytes a b =
    let one = opening_front K L a.form b.form s t fs gs a.front b.front (bytes_of a.rest) (bytes_of b.rest) a.opens b.opens (sym a.joined ∙ b.joined) in
    record {
      start = one.0.1;
      fields = one.0.2;
      form = b.form;
      left = a.rest;
      right = b.rest;
      one = subst (λ (f : Form). R f a.rest) one.0.0 a.behind;
      other = b.behind;
      same = one.2;
    }

-- where the bytes of two fronts agree, so do the fronts
fronts : (X E : Type 0) (r q a b : Text) → Meets X E (r ++ a) (q ++ b) → bytes_of r ≡ bytes_of q → r ≡ q
fronts X E [] [] a b h e = refl
fronts X E [] (c ∷ q) a b h e = absurd cc
fronts X E (c ∷ r) [] a b h e = absurd cc
fronts X E (c ∷ r) (d ∷ q) a b h e =
    let head : c.1 ≡ d.1 = cc in
    let tail : bytes_of r ≡ bytes_of q = cc in
    let pair : c ≡ d = ap₂ (λ (p : Part) (n : ℕ). let z : Part × ℕ = (p, n) in z) h.0 head in
    ap₂ (λ (z : Part × ℕ) (v : Text). z ∷ v) pair (fronts X E r q a b (h.1 head) tail)

one_count : (form : Form) (m n : ℕ) (t u : Text) → IsContent form m t → IsContent form n u → bytes_of t ≡ bytes_of u → m ≡ n
one_count form m n t u a b e =
    sym a.counts
    ∙ ap content_in (fronts ⊥ (a.content ≡ b.content) t u a.after b.after (body_agrees form a.content b.content (t ++ a.after) (u ++ b.after) a.body b.body) e)
    ∙ b.counts

-- a content byte is no end of a trailer section
not_closing : (L : Bounds) (form : Form) (m n : ℕ) (fs : List Field) (t u : Text) → IsContent form m t → IsClosing L form n fs u → bytes_of t ≡ bytes_of u → ⊥
not_closing L form m n fs t u a b e =
    let p = b.spelled in
    let all : bytes_of p.0 ++ (bytes_of p.1 ++ bytes_of a.after) ≡ bytes_of (t ++ a.after) ++ [] =
    sym (append_assoc (bytes_of p.0) (bytes_of p.1) (bytes_of a.after))
    ∙ ap (λ (z : List ℕ). z ++ bytes_of a.after) (sym (bytes_of-append p.0 p.1) ∙ ap bytes_of (sym p.4) ∙ sym e)
    ∙ sym (bytes_of-append t a.after) ∙ sym (append-nil (bytes_of (t ++ a.after))) in
    let none : bytes_of p.1 ++ bytes_of a.after ≡ [] =
    (meets_front (b.content ≡ a.content) p.0 (t ++ a.after) (bytes_of p.1 ++ bytes_of a.after) [] (body_agrees form b.content a.content p.0 (t ++ a.after) p.2 a.body) all).2 in
    omega (arith, ap length none, length-append (bytes_of p.1) (bytes_of a.after), long p.1, section_nonempty L form fs p.1 p.3)
  where
    long : (t : Text) → length (bytes_of t) ≡ length t
    long [] = refl
    long (x ∷ t) = ap suc (long t)

one_closing : (K L : Bounds) (form : Form) (m n : ℕ) (fs gs : List Field) (t u : Text) → IsClosing K form m fs t → IsClosing L form n gs u → bytes_of t ≡ bytes_of u → (m ≡ n) × (fs ≡ gs)
one_closing K L form m n fs gs t u a b e =
    let p = a.spelled in
    let q = b.spelled in
    let all : bytes_of p.0 ++ bytes_of p.1 ≡ bytes_of q.0 ++ bytes_of q.1 =
    sym (bytes_of-append p.0 p.1) ∙ ap bytes_of (sym p.4) ∙ e ∙ ap bytes_of q.4 ∙ bytes_of-append q.0 q.1 in
    let both = meets_front (a.content ≡ b.content) p.0 q.0 (bytes_of p.1) (bytes_of q.1) (body_agrees form a.content b.content p.0 q.0 p.2 q.2) all in (
      sym a.counts ∙ ap length both.0 ∙ b.counts,
      meets_one ⊥ (fs ≡ gs) p.1 q.1 (section_agrees K L form fs gs (trailers_named fs a.trailers_are) (trailers_named gs b.trailers_are) p.1 q.1 p.3 q.3) both.2,
    )

pub content_some : (form : Form) (n : ℕ) (t : Text) → IsContent form n t → bytes_of t ≡ [] → ⊥
content_some form n t h e =
    let long : length (bytes_of h.front ++ h.byte ∷ []) ≡ length (bytes_of h.front) + 1 = length-append (bytes_of h.front) (h.byte ∷ []) in
    omega (arith, ap length (sym (bytes_of-append h.front ((parts.Content, h.byte) ∷ [])) ∙ ap bytes_of (sym h.ends) ∙ e), long)

pub closing_some : (L : Bounds) (form : Form) (n : ℕ) (fs : List Field) (t : Text) → IsClosing L form n fs t → bytes_of t ≡ [] → ⊥
closing_some L form n fs t h e =
    let p = h.spelled in
    omega (arith, ap length (sym (bytes_of-append p.0 p.1) ∙ ap bytes_of (sym p.4) ∙ e), length-append (bytes_of p.0) (bytes_of p.1), long p.0, body_nonempty form h.content p.0 p.2)
  where
    long : (t : Text) → length (bytes_of t) ≡ length t
    long [] = refl
    long (x ∷ t) = ap suc (long t)

-- ---- the moments

heads_alike : (K L : Bounds) (bytes : List ℕ) (s t : Start) (fs gs : List Field) → ComesAt K bytes (head_ended s fs) → ComesAt L bytes (head_ended t gs) → head_ended s fs ≡ head_ended t gs
heads_alike K L bytes s t fs gs a b =
    let j = joint K L s t fs gs IsNone IsNone bytes (head_tailed K s fs bytes a) (head_tailed L t gs bytes b) in
    ap₂ head_ended j.start j.fields

contents_alike : (K L : Bounds) (bytes : List ℕ) (s t : Start) (fs gs : List Field) (m n : ℕ) → ComesAt K bytes (content_read s fs m) → ComesAt L bytes (content_read t gs n) → content_read s fs m ≡ content_read t gs n
contents_alike K L bytes s t fs gs m n a b =
    let j = joint K L s t fs gs (λ f. IsContent f m) (λ f. IsContent f n) bytes (tailed K s fs (λ f. IsContent f m) bytes a.0 a.1) (tailed L t gs (λ f. IsContent f n) bytes b.0 b.1) in
    ap₂ (λ (x : Start) (xs : List Field). content_read x xs m) j.start j.fields ∙ ap (content_read t gs) (one_count j.form m n j.left j.right j.one j.other j.same)

closings_alike : (K L : Bounds) (bytes : List ℕ) (s t : Start) (fs gs : List Field) (m n : ℕ) (ts us : List Field) → ComesAt K bytes (trailers_ended s fs m ts) → ComesAt L bytes (trailers_ended t gs n us)
    → trailers_ended s fs m ts ≡ trailers_ended t gs n us
closings_alike K L bytes s t fs gs m n ts us a b =
    let j = joint K L s t fs gs (λ f. IsClosing K f m ts) (λ f. IsClosing L f n us) bytes (tailed K s fs (λ f. IsClosing K f m ts) bytes a.0 a.1) (tailed L t gs (λ f. IsClosing L f n us) bytes b.0 b.1) in
    let e = one_closing K L j.form m n ts us j.left j.right j.one j.other j.same in
    ap₂ (λ (x : Start) (xs : List Field). trailers_ended x xs m ts) j.start j.fields ∙ ap₂ (trailers_ended t gs) e.0 e.1

head_content : (K L : Bounds) (bytes : List ℕ) (s t : Start) (fs gs : List Field) (n : ℕ) → ComesAt K bytes (head_ended s fs) → ComesAt L bytes (content_read t gs n) → ⊥
head_content K L bytes s t fs gs n a b =
    let j = joint K L s t fs gs IsNone (λ f. IsContent f n) bytes (head_tailed K s fs bytes a) (tailed L t gs (λ f. IsContent f n) bytes b.0 b.1) in
    content_some j.form n j.right j.other (sym j.same ∙ ap bytes_of j.one)

head_closing : (K L : Bounds) (bytes : List ℕ) (s t : Start) (fs gs : List Field) (n : ℕ) (us : List Field) → ComesAt K bytes (head_ended s fs) → ComesAt L bytes (trailers_ended t gs n us) → ⊥
head_closing K L bytes s t fs gs n us a b =
    let j = joint K L s t fs gs IsNone (λ f. IsClosing L f n us) bytes (head_tailed K s fs bytes a) (tailed L t gs (λ f. IsClosing L f n us) bytes b.0 b.1) in
    closing_some L j.form n us j.right j.other (sym j.same ∙ ap bytes_of j.one)

content_closing : (K L : Bounds) (bytes : List ℕ) (s t : Start) (fs gs : List Field) (m n : ℕ) (us : List Field) → ComesAt K bytes (content_read s fs m) → ComesAt L bytes (trailers_ended t gs n us) → ⊥
content_closing K L bytes s t fs gs m n us a b =
    let j = joint K L s t fs gs (λ f. IsContent f m) (λ f. IsClosing L f n us) bytes (tailed K s fs (λ f. IsContent f m) bytes a.0 a.1) (tailed L t gs (λ f. IsClosing L f n us) bytes b.0 b.1) in
    not_closing L j.form m n us j.left j.right j.one j.other j.same

interim_tail : (K L : Bounds) (bytes : List ℕ) (i : Interim) (s : Start) (fs : List Field) (R : Form → Text → Type 0) → ComesAt K bytes (interim_ended i) → Tailed L s fs R bytes → ⊥
interim_tail K L bytes i s fs R a b = not_both K L i a.text b.form s fs b.front (bytes_of b.rest) a.spelled b.opens (a.same ∙ b.joined)

pub one_moment : OneMoment
one_moment K L bytes (interim_ended i) (interim_ended j) a b = ap interim_ended (one_interim K L i j a.text b.text a.spelled b.spelled (a.same ∙ sym b.same))
one_moment K L bytes (interim_ended i) (head_ended t gs) a b = absurd (interim_tail K L bytes i t gs IsNone a (head_tailed L t gs bytes b))
one_moment K L bytes (interim_ended i) (content_read t gs n) a b = absurd (interim_tail K L bytes i t gs (λ f. IsContent f n) a (tailed L t gs (λ f. IsContent f n) bytes b.0 b.1))
one_moment K L bytes (interim_ended i) (trailers_ended t gs n us) a b = absurd (interim_tail K L bytes i t gs (λ f. IsClosing L f n us) a (tailed L t gs (λ f. IsClosing L f n us) bytes b.0 b.1))
one_moment K L bytes (head_ended s fs) (interim_ended j) a b = absurd (interim_tail L K bytes j s fs IsNone b (head_tailed K s fs bytes a))
one_moment K L bytes (head_ended s fs) (head_ended t gs) a b = heads_alike K L bytes s t fs gs a b
one_moment K L bytes (head_ended s fs) (content_read t gs n) a b = absurd (head_content K L bytes s t fs gs n a b)
one_moment K L bytes (head_ended s fs) (trailers_ended t gs n us) a b = absurd (head_closing K L bytes s t fs gs n us a b)
one_moment K L bytes (content_read s fs m) (interim_ended j) a b = absurd (interim_tail L K bytes j s fs (λ f. IsContent f m) b (tailed K s fs (λ f. IsContent f m) bytes a.0 a.1))
one_moment K L bytes (content_read s fs m) (head_ended t gs) a b = absurd (head_content L K bytes t s gs fs m b a)
one_moment K L bytes (content_read s fs m) (content_read t gs n) a b = contents_alike K L bytes s t fs gs m n a b
one_moment K L bytes (content_read s fs m) (trailers_ended t gs n us) a b = absurd (content_closing K L bytes s t fs gs m n us a b)
one_moment K L bytes (trailers_ended s fs m ts) (interim_ended j) a b = absurd (interim_tail L K bytes j s fs (λ f. IsClosing K f m ts) b (tailed K s fs (λ f. IsClosing K f m ts) bytes a.0 a.1))
one_moment K L bytes (trailers_ended s fs m ts) (head_ended t gs) a b = absurd (head_closing L K bytes t s gs fs m ts b a)
one_moment K L bytes (trailers_ended s fs m ts) (content_read t gs n) a b = absurd (content_closing L K bytes t s gs fs n m ts b a)
one_moment K L bytes (trailers_ended s fs m ts) (trailers_ended t gs n us) a b = closings_alike K L bytes s t fs gs m n ts us a b
one_moment K L bytes (interim_ended i) (input_ended t gs n) a b = absurd b
one_moment K L bytes (head_ended s fs) (input_ended t gs n) a b = absurd b
one_moment K L bytes (content_read s fs m) (input_ended t gs n) a b = absurd b
one_moment K L bytes (trailers_ended s fs m ts) (input_ended t gs n) a b = absurd b
one_moment K L bytes (input_ended s fs m) b a c = absurd a

-- ---- viable

pub with_tail : (L : Bounds) (form : Form) (s : Start) (fs : List Field) (c : List ℕ) (ts : List Field) (o : Omitted) (t r : Text)
    → IsOpening L form s fs t → AreBytes c → AreTrailers ts → IsTail L form c ts o 0 r → Spells L (record { start = s; fields = fs; content = c; trailers = ts }) o 0 (t ++ r)
with_tail L form s fs c ts o t r h bytes trailers tail =
    let p = h.spelled in
    let q = p.3 in
    record {
      valid = record { start = h.start_is; fields = h.fields_are; content = bytes; trailers = trailers };
      form = form;
      text = (
        p.0,
        p.1 ++ r,
        p.2,
        (q.0, q.1 ++ r, q.2, (q.1, r, q.3, tail, refl), ap (λ (z : Text). z ++ r) q.4 ∙ append_assoc q.0 q.1 r),
        ap (λ (z : Text). z ++ r) p.4 ∙ append_assoc p.0 p.1 r,
      );
    }

pub no_trailers : AreTrailers []
no_trailers = All-nil IsRegularField

pub no_bytes : AreBytes []
no_bytes = All-nil _

spelled_becomes : (L : Bounds) (bytes more : List ℕ) (m : Message) (o : Omitted) (t : Text) → Spells L m o 0 t → bytes_of t ≡ bytes ++ more → IsViable L bytes
spelled_becomes L bytes more m o t h e = record { text = t; after = more; spelled = (m, o, 0, h); begins = e }

open_viable : (L : Bounds) (form : Form) (s : Start) (fs : List Field) (t : Text) (bytes more : List ℕ) → IsOpening L form s fs t → bytes_of t ≡ bytes ++ more → IsViable L bytes
open_viable L form s fs t bytes more h e =
    spelled_becomes L bytes more (record { start = s; fields = fs; content = []; trailers = [] }) Both (t ++ [])
    (with_tail L form s fs [] [] Both t [] h no_bytes no_trailers (refl, refl, refl, refl)) (ap bytes_of (append-nil t) ∙ e)

pub judged_is_viable : JudgedIsViable
judged_is_viable L bytes (interim_ended i) h =
    let g : Goes L i h.text = goes L i h.text h.spelled in
    open_viable L g.form (response (g.before ++ i ∷ []) 200) [] (h.text ++ g.more) bytes behind_bytes g.opens
    (goes_bytes L i h.text g ∙ ap (λ (z : List ℕ). z ++ behind_bytes) h.same)
judged_is_viable L bytes (head_ended s fs) h = open_viable L h.0 s fs h.1.text bytes [] h.1.spelled (h.1.same ∙ sym (append-nil bytes))
judged_is_viable L bytes (content_read s fs n) h =
    let t = tailed L s fs (λ f. IsContent f n) bytes h.0 h.1 in
    let c = t.behind in
    let m : Message = record { start = s; fields = fs; content = c.content; trailers = [] } in
    spelled_becomes L bytes (bytes_of c.after) m Trailers (t.front ++ (t.rest ++ c.after))
    (with_tail L t.form s fs c.content [] Trailers t.front (t.rest ++ c.after) t.opens c.bytes_are no_trailers (refl, refl, c.body))
    (bytes_of-append t.front (t.rest ++ c.after) ∙ ap (λ (z : List ℕ). bytes_of t.front ++ z) (bytes_of-append t.rest c.after)
    ∙ sym (append_assoc (bytes_of t.front) (bytes_of t.rest) (bytes_of c.after)) ∙ ap (λ (z : List ℕ). z ++ bytes_of c.after) (sym t.joined))
judged_is_viable L bytes (trailers_ended s fs n ts) h =
    let t = tailed L s fs (λ f. IsClosing L f n ts) bytes h.0 h.1 in
    let c = t.behind in
    let p = c.spelled in
    let m : Message = record { start = s; fields = fs; content = c.content; trailers = ts } in
    spelled_becomes L bytes [] m Nothing (t.front ++ t.rest)
    (with_tail L t.form s fs c.content ts Nothing t.front t.rest t.opens c.bytes_are c.trailers_are
    (p.0, p.1, p.2, (p.1, [], p.3, refl, sym (append-nil p.1)), p.4))
    (bytes_of-append t.front t.rest ∙ sym t.joined ∙ sym (append-nil bytes))
judged_is_viable L bytes (input_ended s fs n) h = absurd h
