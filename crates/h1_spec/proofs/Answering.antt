-- One answer of the translator, and what it depends on.
use Rattle.std.proofs.Common.{◌≡◌, ◌≤◌, ◌<◌, ◌+◌, ◌⊎◌, arith, ℕ, List, length, take, min, length-take, Bool, Option, Some, None, sym, ap, ap₂, subst, ◌∙◌, inl, inr}
use Rattle.std.proofs.lemmas.List.{take-take}
use Rattle.bh_spec.specs.declared.Part.{Part}
use Rattle.bh_spec.specs.declared.Omitted.{Omitted}
use Rattle.bh_spec.specs.declared.Refusal.{Refusal}
use Rattle.bh_spec.specs.declared.Refusal.TheVariants.{Dead, Limit, Ended, TooLong}
use Rattle.bh_spec.specs.Bounds.{Bounds, IsWithin, no_bounds}
use Rattle.bh_spec.specs.Messages.{Message}
use Rattle.bh_spec.specs.Viable.{IsViable}
use Rattle.bh_spec.specs.Answers.{whole, refused, IsAnswer, IsRefusedAt}
use Rattle.bh_spec.proofs.Whole.{one_reading}
use Rattle.bh_spec.specs.declared.NoForm.{NoForm}
use Rattle.h1_spec.specs.Translation.{formed, dead, formless, IsIntoAnswer}
use Rattle.h1_spec.specs.Moments.{form_at}
use Rattle.h1_spec.specs.Judging.{IsJudged, NoneIsJudged, IsJudgedAt, place_of, IsUnjudged, end_says}
use Rattle.h1_spec.specs.Laws.{OneInto, NoLaterByte}
use Rattle.bh_spec.proofs.Viable.{viable_less}
use Rattle.bh_spec.proofs.Answers.{one_answer, refused_there}
use Rattle.h1_spec.proofs.Coming.{one_moment, judged_is_viable}

-- ---- of one byte, one form

some_is : (f g : NoForm) → Some f ≡ Some g → f ≡ g
some_is f g e = cc

one_form : (L : Bounds) (to_head : Bool) (bytes : List ℕ) (f g : NoForm) → IsJudged L to_head bytes f → IsJudged L to_head bytes g → f ≡ g
one_form L to_head bytes f g a b = some_is f g (sym a.2 ∙ ap (form_at to_head) (one_moment L L bytes a.0 b.0 a.1 b.1) ∙ b.2)

judged_viable : (L : Bounds) (to_head : Bool) (bytes : List ℕ) (f : NoForm) → IsJudged L to_head bytes f → IsViable L bytes
judged_viable L to_head bytes f a = judged_is_viable L bytes a.0 a.1

-- none is judged there, and one is
not_there : (L : Bounds) (to_head : Bool) (bytes : List ℕ) (k most : ℕ) (f : NoForm) → IsJudgedAt L to_head bytes k f → NoneIsJudged L to_head bytes most → k < most → ⊥
not_there L to_head bytes k most f a none h = none k f h a.inside a.seen a.judged

order : (j k : ℕ) → (j < k) ⊎ ((k < j) ⊎ (j ≡ k))
order j k = grind arith

one_place : (L : Bounds) (to_head : Bool) (bytes : List ℕ) (j k : ℕ) (f g : NoForm) → IsJudgedAt L to_head bytes j f → IsJudgedAt L to_head bytes k g → f ≡ g
one_place L to_head bytes j k f g a b = by_order (order j k)
  where
    by_order : (j < k) ⊎ ((k < j) ⊎ (j ≡ k)) → f ≡ g
    by_order (inl h) = absurd (not_there L to_head bytes j k f a b.first h)
    by_order (inr (inl h)) = absurd (not_there L to_head bytes k j g b a.first h)
    by_order (inr (inr h)) = one_form L to_head (take (k + 1) bytes) f g (subst (λ (i : ℕ). IsJudged L to_head (take (i + 1) bytes) f) h a.judged) b.judged

-- ---- judged, or refused

before_refused : (L : Bounds) (to_head : Bool) (bytes : List ℕ) (k at : ℕ) (part : Part) (f : NoForm) → IsJudgedAt L to_head bytes k f → IsRefusedAt L bytes at part → NoneIsJudged L to_head bytes at → ⊥
before_refused L to_head bytes k at part f a r none = by_order (order k at)
  where
    behind : at ≤ k → ⊥
    behind h = r.first.after (viable_less L (at + 1) (k + 1) bytes (omega (arith, h)) (judged_viable L to_head (take (k + 1) bytes) f a.judged))

    by_order : (k < at) ⊎ ((at < k) ⊎ (k ≡ at)) → ⊥
    by_order (inl h) = not_there L to_head bytes k at f a none h
    by_order (inr (inl h)) = behind (omega (arith, h))
    by_order (inr (inr h)) = behind (omega (arith, h))

judged_refused : (L : Bounds) (to_head : Bool) (bytes : List ℕ) (k : ℕ) (r : Refusal) (f : NoForm) → IsJudgedAt L to_head bytes k f → IsAnswer L bytes (refused r) → NoneIsJudged L to_head bytes (place_of r) → ⊥
judged_refused L to_head bytes k (Dead at part) f a h none = before_refused L to_head bytes k at part f a h.0 none
judged_refused L to_head bytes k (Limit at part) f a h none = before_refused L to_head bytes k at part f a h.0 none
judged_refused L to_head bytes k (Ended at part) f a h none = not_there L to_head bytes k at f a none (omega (arith, a.inside, h.long))
judged_refused L to_head bytes k (TooLong at) f a h none =
    let seen : k + 1 ≤ at = subst (λ (o : Option ℕ). IsWithin o (k + 1)) h.limit a.seen in
    not_there L to_head bytes k at f a none (omega (arith, seen))

judged_whole : (L : Bounds) (to_head : Bool) (bytes : List ℕ) (k : ℕ) (m : Message) (o : Omitted) (z : ℕ) (f : NoForm) → IsJudgedAt L to_head bytes k f → IsUnjudged L to_head bytes m o z → ⊥
judged_whole L to_head bytes k m o z f a u = not_there L to_head bytes k (length bytes) f a u.none a.inside

-- ---- whole messages

abbrev Reads : Message → Omitted → ℕ → Message → Omitted → ℕ → Type 0
Reads m o z n p y = (m ≡ n) × (o ≡ p) × (z ≡ y)

same_whole : (L : Bounds) (to_head : Bool) (bytes : List ℕ) (m n : Message) (o p : Omitted) (z y : ℕ) → IsUnjudged L to_head bytes m o z → IsUnjudged L to_head bytes n p y → Reads m o z n p y
same_whole L to_head bytes m n o p z y a b = one_reading L L m n o p z y bytes a.message.1 b.message.1

same_end : (L : Bounds) (to_head : Bool) (bytes : List ℕ) (m n : Message) (o p : Omitted) (z y : ℕ) → IsUnjudged L to_head bytes m o z → IsUnjudged L to_head bytes n p y
    → end_says to_head m o ≡ end_says to_head n p
same_end L to_head bytes m n o p z y a b = let e = same_whole L to_head bytes m n o p z y a b in ap₂ (end_says to_head) e.0 e.1

none_some : (o q : Option NoForm) (f : NoForm) → o ≡ None → q ≡ Some f → o ≡ q → ⊥
none_some o q f a b e = let no : None ≡ Some f = sym a ∙ e ∙ b in absurd cc

whole_refused : (L : Bounds) (bytes : List ℕ) (m : Message) (o : Omitted) (z : ℕ) (r : Refusal) → IsAnswer L bytes (whole m o z) → IsAnswer L bytes (refused r) → ⊥
whole_refused L bytes m o z r a b = let e : whole m o z ≡ refused r = one_answer L bytes (whole m o z) (refused r) a b in absurd cc

one_refusal : (L : Bounds) (bytes : List ℕ) (r s : Refusal) → IsAnswer L bytes (refused r) → IsAnswer L bytes (refused s) → r ≡ s
one_refusal L bytes r s a b = let e : refused r ≡ refused s = one_answer L bytes (refused r) (refused s) a b in cc

formed_is : (m n : Message) (o p : Omitted) (z y : ℕ) → Reads m o z n p y → formed m o z ≡ formed n p y
formed_is m n o p z y e = ap (λ (x : Message). formed x o z) e.0 ∙ ap (λ (x : Omitted). formed n x z) e.1 ∙ ap (λ (x : ℕ). formed n p x) e.2

-- a message that has a text, and a form
formed_formless : (L : Bounds) (to_head : Bool) (bytes : List ℕ) (m : Message) (o : Omitted) (z : ℕ) (f : NoForm)
    → IsIntoAnswer L to_head bytes (formed m o z) → IsIntoAnswer L to_head bytes (formless f) → ⊥
formed_formless L to_head bytes m o z f a (inl b) = judged_whole L to_head bytes b.0 m o z f b.1 a.0
formed_formless L to_head bytes m o z f a (inr b) = none_some (end_says to_head m o) (end_says to_head b.0 b.1) f a.1 b.4 (same_end L to_head bytes m b.0 o b.1 z b.2 a.0 b.3)

dead_formless : (L : Bounds) (to_head : Bool) (bytes : List ℕ) (r : Refusal) (f : NoForm) → IsIntoAnswer L to_head bytes (dead r) → IsIntoAnswer L to_head bytes (formless f) → ⊥
dead_formless L to_head bytes r f a (inl b) = judged_refused L to_head bytes b.0 r f b.1 a.0 a.1
dead_formless L to_head bytes r f a (inr b) = whole_refused L bytes b.0 b.1 b.2 r b.3.message a.0

two_forms : (L : Bounds) (to_head : Bool) (bytes : List ℕ) (f g : NoForm) → IsIntoAnswer L to_head bytes (formless f) → IsIntoAnswer L to_head bytes (formless g) → f ≡ g
two_forms L to_head bytes f g (inl a) (inl b) = one_place L to_head bytes a.0 b.0 f g a.1 b.1
two_forms L to_head bytes f g (inl a) (inr b) = absurd (judged_whole L to_head bytes a.0 b.0 b.1 b.2 f a.1 b.3)
two_forms L to_head bytes f g (inr a) (inl b) = absurd (judged_whole L to_head bytes b.0 a.0 a.1 a.2 g b.1 a.3)
two_forms L to_head bytes f g (inr a) (inr b) = some_is f g (sym a.4 ∙ same_end L to_head bytes a.0 b.0 a.1 b.1 a.2 b.2 a.3 b.3 ∙ b.4)

pub one_into : OneInto
one_into L to_head bytes (formed m o z) (formed n p y) a b = formed_is m n o p z y (same_whole L to_head bytes m n o p z y a.0 b.0)
one_into L to_head bytes (formed m o z) (dead r) a b = absurd (whole_refused L bytes m o z r a.0.message b.0)
one_into L to_head bytes (formed m o z) (formless g) a b = absurd (formed_formless L to_head bytes m o z g a b)
one_into L to_head bytes (dead r) (formed n p y) a b = absurd (whole_refused L bytes n p y r b.0.message a.0)
one_into L to_head bytes (dead r) (dead s) a b = ap dead (one_refusal L bytes r s a.0 b.0)
one_into L to_head bytes (dead r) (formless g) a b = absurd (dead_formless L to_head bytes r g a b)
one_into L to_head bytes (formless f) (formed n p y) a b = absurd (formed_formless L to_head bytes n p y f b a)
one_into L to_head bytes (formless f) (dead s) a b = absurd (dead_formless L to_head bytes s f b a)
one_into L to_head bytes (formless f) (formless g) a b = ap formless (two_forms L to_head bytes f g a b)

-- ---- the bytes behind

front_alike : (j k : ℕ) (x y : List ℕ) → j ≤ k → take k x ≡ take k y → take j x ≡ take j y
front_alike j k x y h e = sym (take-take j k x h) ∙ ap (take j) e ∙ take-take j k y h

longer : (k : ℕ) (x y : List ℕ) → k < length x → take (k + 1) x ≡ take (k + 1) y → k < length y
longer k x y h e =
    let a : length (take (k + 1) x) ≡ min (k + 1) (length x) = length-take (k + 1) x in
    let b : length (take (k + 1) y) ≡ min (k + 1) (length y) = length-take (k + 1) y in
    let c : length (take (k + 1) x) ≡ length (take (k + 1) y) = ap length e in
    grind (arith, a, b, c, h)

none_alike : (L : Bounds) (to_head : Bool) (bytes others : List ℕ) (at : ℕ) → at < length others → take (at + 1) others ≡ take (at + 1) bytes → NoneIsJudged L to_head bytes at → NoneIsJudged L to_head others at
none_alike L to_head bytes others at long same none k form few inside seen judged =
    none k form few (omega (arith, few, longer at others bytes long same)) seen
    (subst (λ (x : List ℕ). IsJudged L to_head x form) (front_alike (k + 1) (at + 1) others bytes (omega (arith, few)) same) judged)

judged_alike : (L : Bounds) (to_head : Bool) (bytes others : List ℕ) (at : ℕ) → at < length others → take (at + 1) others ≡ take (at + 1) bytes → (form : NoForm) → IsJudgedAt L to_head bytes at form → IsJudgedAt L to_head others at form
judged_alike L to_head bytes others at long same form h = record {
  inside = long;
  seen = h.seen;
  judged = subst (λ (x : List ℕ). IsJudged L to_head x form) (sym same) h.judged;
  first = none_alike L to_head bytes others at long same h.first;
}

pub no_later_byte : NoLaterByte
no_later_byte L to_head bytes others at long same = record {
  judged = judged_alike L to_head bytes others at long same;
  dead_there = λ part h. (
    (refused_there L bytes others at part long same h.0.0, λ v. h.0.1 (subst (IsViable no_bounds) same v)),
    none_alike L to_head bytes others at long same h.1,
  );
  limited = λ part h. (
    (refused_there L bytes others at part long same h.0.0, subst (IsViable no_bounds) (sym same) h.0.1),
    none_alike L to_head bytes others at long same h.1,
  );
}
