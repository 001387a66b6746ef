-- Where no byte is judged, no rule holds at a moment.
use Rattle.std.proofs.Common.{◌≡◌, ◌<◌, ◌+◌, ◌-◌, arith, ℕ, suc, Bool, List, [], ◌∷◌, ◌++◌, flat_map, length, take, All, Option, Some, None, refl, sym, ap, ap₂, subst, ◌∙◌, append_assoc, length-append}
use Rattle.std.proofs.Math.Seq.{take-append_seam}
use Rattle.std.proofs.lemmas.List.Elements.{All-head, All-tail, All-nil, All-cons}
use Rattle.bh_spec.specs.declared.Form.{Form}
use Rattle.bh_spec.specs.declared.Kind.TheVariants.{Response}
use Rattle.bh_spec.specs.declared.Part.TheVariants as parts
use Rattle.bh_spec.specs.Bounds.{Bounds, IsWithin}
use Rattle.bh_spec.specs.Messages.{Field, Interim, Start, request, response, kind_of, IsInterim, IsStart}
use Rattle.bh_spec.specs.Texts.{Text, bytes_of, IsNumber, AreEach}
use Rattle.bh_spec.specs.Spelling.{IsInterimText, IsStartText, framing}
use Rattle.bh_spec.proofs.Marks.{bytes_of-append}
use Rattle.bh_spec.proofs.Within.{within_less}
use Rattle.bh_spec.proofs.Sections.{number_nonempty}
use Rattle.bh_spec.specs.declared.NoForm.{NoForm}
use Rattle.h1_spec.specs.Http1.{interims_of}
use Rattle.h1_spec.specs.Http1Text.{of_interim, of_head}
use Rattle.h1_spec.proofs.Cases.{AreFree, none_free, free_append}
use Rattle.h1_spec.specs.Moments.{Moment, interim_ended, head_ended, alone, cases_at, form_at}
use Rattle.h1_spec.specs.Judging.{IsOpening, IsInterims, ComesAt, IsJudged, NoneIsJudged}
use Rattle.h1_spec.proofs.Agreeing.{head_parts}

-- ---- what isn't judged

-- no front of the bytes is judged
abbrev pub Unjudged : Bounds → Bool → List ℕ → Type 0
Unjudged L to_head bytes = (front more : List ℕ) (form : NoForm) → bytes ≡ front ++ more → 0 < length front → IsJudged L to_head front form → ⊥

pub unjudged : (L : Bounds) (to_head : Bool) (bytes : List ℕ) → IsWithin L.input (length bytes) → NoneIsJudged L to_head bytes (length bytes) → Unjudged L to_head bytes
unjudged L to_head bytes within none front more form e some judged =
    let long : length bytes ≡ length front + length more = ap length e ∙ length-append front more in
    let place : length front - 1 + 1 ≡ length front = omega (arith, some) in
    none (length front - 1) form (omega (arith, some, long)) (omega (arith, some, long)) (within_less L.input (length front - 1 + 1) (length bytes) (omega (arith, some, long)) within)
    (subst (λ (x : List ℕ). IsJudged L to_head x form) (sym (ap₂ take place e ∙ take-append_seam front more)) judged)

pub moment_free : (L : Bounds) (to_head : Bool) (bytes front more : List ℕ) (moment : Moment) → Unjudged L to_head bytes → bytes ≡ front ++ more → 0 < length front → ComesAt L front moment → AreFree (cases_at to_head moment)
moment_free L to_head bytes front more moment none e some h = by_form (form_at to_head moment) refl
  where
    by_form : (o : Option NoForm) → form_at to_head moment ≡ o → AreFree (cases_at to_head moment)
    by_form None same = none_free (cases_at to_head moment) same
    by_form (Some form) same = absurd (none front more form e some (moment, h, same))

-- ---- the interim responses of an opening come before it

pub each_split : (L : Bounds) (form : Form) (xs ys : List Interim) (t : Text) → AreEach (IsInterimText L form) (xs ++ ys) t
    → (a b : Text) × AreEach (IsInterimText L form) xs a × AreEach (IsInterimText L form) ys b × (t ≡ a ++ b)
each_split L form [] ys t h = ([], t, refl, h, refl)
each_split L form (x ∷ xs) ys t h =
    let r = each_split L form xs ys h.1 h.3 in
    (h.0 ++ r.0, r.1, (h.0, r.0, h.2, r.2, refl), r.3, h.4 ∙ ap (λ (z : Text). h.0 ++ z) r.4 ∙ sym (append_assoc h.0 r.0 r.1))

pub all_front : (xs ys : List Interim) → All IsInterim (xs ++ ys) → All IsInterim xs
all_front [] ys h = All-nil IsInterim
all_front (x ∷ xs) ys h = All-cons IsInterim x xs (All-head IsInterim x (xs ++ ys) h) (all_front xs ys (All-tail IsInterim x (xs ++ ys) h))

module _ (L : Bounds) (to_head : Bool) (bytes : List ℕ) (none : Unjudged L to_head bytes) where
  one_free : (form : Form) (before after : List Interim) (i : Interim) (number begun : Text) (rest : List ℕ) → All IsInterim ((before ++ i ∷ []) ++ after) → IsWithin L.interims (length ((before ++ i ∷ []) ++ after))
      → IsNumber parts.Framing (framing Response form) number → AreEach (IsInterimText L form) ((before ++ i ∷ []) ++ after) begun → bytes ≡ bytes_of (number ++ begun) ++ rest → AreFree (of_interim i)
  one_free form before after i number begun rest each few n h e =
      let s = each_split L form (before ++ i ∷ []) after begun h in
      let text : Text = number ++ s.0 in
      let all : bytes ≡ bytes_of text ++ (bytes_of s.1 ++ rest) =
      e ∙ ap (λ (z : Text). bytes_of z ++ rest) (ap (λ (z : Text). number ++ z) s.4 ∙ sym (append_assoc number s.0 s.1))
      ∙ ap (λ (z : List ℕ). z ++ rest) (bytes_of-append text s.1) ∙ append_assoc (bytes_of text) (bytes_of s.1) rest in
      let comes : IsInterims L i text = record {
        form = form;
        before = before;
        each = all_front (before ++ i ∷ []) after each;
        few = within_less L.interims (length (before ++ i ∷ [])) (length ((before ++ i ∷ []) ++ after)) (omega (arith, length-append (before ++ i ∷ []) after)) few;
        spelled = (number, s.0, n, s.2, refl);
      } in
      moment_free L to_head bytes (bytes_of text) (bytes_of s.1 ++ rest) (interim_ended i) none all (some_text number s.0 n) (record { text = text; spelled = comes; same = refl })
    where
      long : (t : Text) → length (bytes_of t) ≡ length t
      long [] = refl
      long (x ∷ t) = ap suc (long t)

      some_text : (a b : Text) → IsNumber parts.Framing (framing Response form) a → 0 < length (bytes_of (a ++ b))
      some_text a b k = omega (arith, long (a ++ b), length-append a b, number_nonempty parts.Framing (framing Response form) a k)

  pub each_free : (form : Form) (before js : List Interim) (number begun : Text) (rest : List ℕ) → All IsInterim (before ++ js) → IsWithin L.interims (length (before ++ js))
      → IsNumber parts.Framing (framing Response form) number → AreEach (IsInterimText L form) (before ++ js) begun → bytes ≡ bytes_of (number ++ begun) ++ rest → AreFree (flat_map of_interim js)
  each_free form before [] number begun rest each few n h e = tt
  each_free form before (i ∷ js) number begun rest each few n h e =
      let same : before ++ i ∷ js ≡ (before ++ i ∷ []) ++ js = sym (append_assoc before (i ∷ []) js) in
      free_append (of_interim i) (flat_map of_interim js)
      (one_free form before js i number begun rest (subst (All IsInterim) same each) (subst (λ (xs : List Interim). IsWithin L.interims (length xs)) same few) n
      (subst (λ (xs : List Interim). AreEach (IsInterimText L form) xs begun) same h) e)
      (each_free form (before ++ i ∷ []) js number begun rest (subst (All IsInterim) same each) (subst (λ (xs : List Interim). IsWithin L.interims (length xs)) same few) n
      (subst (λ (xs : List Interim). AreEach (IsInterimText L form) xs begun) same h) e)

  pub start_free : (form : Form) (start : Start) (number begun : Text) (rest : List ℕ) → IsStart start → IsNumber parts.Framing (framing (kind_of start) form) number → IsStartText L form start begun
      → bytes ≡ bytes_of (number ++ begun) ++ rest → AreFree (flat_map of_interim (interims_of start))
  start_free form (request c) number begun rest p n h e = tt
  start_free form (response is final) number begun rest p n h e =
      let b = h.1 in
      each_free form [] is number b.0 (bytes_of b.1 ++ rest) p.each h.0 n b.2
      (e ∙ ap (λ (z : Text). bytes_of z ++ rest) (ap (λ (z : Text). number ++ z) b.4 ∙ sym (append_assoc number b.0 b.1))
      ∙ ap (λ (z : List ℕ). z ++ rest) (bytes_of-append (number ++ b.0) b.1) ∙ append_assoc (bytes_of (number ++ b.0)) (bytes_of b.1) rest)

  -- an opening at the front of the bytes: its own rules and those of the interim responses
  pub opening_free : (form : Form) (start : Start) (fields : List Field) (t : Text) (rest : List ℕ) → IsOpening L form start fields t → bytes ≡ bytes_of t ++ rest → AreFree (of_head start fields)
  opening_free form start fields t rest h e =
      let p = h.spelled in
      let q = p.3 in
      let some : 0 < length (bytes_of t) = omega (arith, long t, ap length p.4, length-append p.0 p.1, number_nonempty parts.Framing (framing (kind_of start) form) p.0 p.2) in
      let cut : bytes ≡ bytes_of (p.0 ++ q.0) ++ (bytes_of q.1 ++ rest) =
      e ∙ ap (λ (z : Text). bytes_of z ++ rest) (p.4 ∙ ap (λ (z : Text). p.0 ++ z) q.4 ∙ sym (append_assoc p.0 q.0 q.1))
      ∙ ap (λ (z : List ℕ). z ++ rest) (bytes_of-append (p.0 ++ q.0) q.1) ∙ append_assoc (bytes_of (p.0 ++ q.0)) (bytes_of q.1) rest in
      subst AreFree (sym (head_parts start fields))
      (free_append (flat_map of_interim (interims_of start)) (of_head (alone start) fields)
      (start_free form start p.0 q.0 (bytes_of q.1 ++ rest) h.start_is p.2 q.2 cut)
      (moment_free L to_head bytes (bytes_of t) rest (head_ended start fields) none e some (form, record { text = t; spelled = h; same = refl })))
    where
      long : (t : Text) → length (bytes_of t) ≡ length t
      long [] = refl
      long (x ∷ t) = ap suc (long t)
