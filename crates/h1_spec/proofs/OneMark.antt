-- Bytes with which texts begin have the same marks in all of them.
use Rattle.std.proofs.Common.{◌≡◌, Bool, ℕ, List, [], ◌∷◌, ◌++◌, length, take, refl, sym, ap, ap₂, subst, subst₂, ◌∙◌, append-nil}
use Rattle.bh_spec.specs.declared.Part.{Part}
use Rattle.bh_spec.specs.declared.Part.TheVariants as parts
use Rattle.bh_spec.specs.Bounds.{Bounds}
use Rattle.bh_spec.specs.Messages.{Interim, Message}
use Rattle.bh_spec.specs.Texts.{Text, mark, bytes_of, ◌then◌, AreEach}
use Rattle.bh_spec.proofs.Meeting.{Meets}
use Rattle.h1_spec.specs.declared.Framing1.{Framing1}
use Rattle.h1_spec.specs.declared.Framing1.TheVariants.{Empty, Counted, Chunked, ToEnd}
use Rattle.h1_spec.specs.Heads.{Head}
use Rattle.h1_spec.specs.Framing.{framing}
use Rattle.h1_spec.specs.Http1.{IsHeadWithin, IsInterimHead, interims_of}
use Rattle.h1_spec.specs.BodyStates.{At, start, step, marked}
use Rattle.h1_spec.specs.Marks.{as_framing, IsMarkedBody, IsMarked}
use Rattle.h1_spec.specs.Laws.{OneMarking}
use Rattle.h1_spec.proofs.Fronts.{Front, front_each}
use Rattle.h1_spec.proofs.Reading.{within_front, interim_front, interim_apart, start_is_last, IsLast, Any}
use Rattle.h1_spec.proofs.MarkedBodies.{chunked_marked}

-- as long as their bytes agree, their marks do
abbrev Agree : Text → Text → Type 0
Agree t u = Meets (Unit {0}) (Unit {0}) t u

-- ---- bodies

agree_mark : (part : Part) (x y : List ℕ) → Agree (mark part x) (mark part y)
agree_mark part [] [] = tt
agree_mark part [] (b ∷ y) = tt
agree_mark part (a ∷ x) [] = tt
agree_mark part (a ∷ x) (b ∷ y) = (refl, λ e. agree_mark part x y)

agree_places : (v : At) (x y : List ℕ) → Agree (marked v x) (marked v y)
agree_places v [] [] = tt
agree_places v [] (b ∷ y) = tt
agree_places v (a ∷ x) [] = tt
agree_places v (a ∷ x) (b ∷ y) = (refl, λ e. subst (λ (c : ℕ). Agree (marked (step v a) x) (marked (step v c) y)) e (agree_places (step v a) x y))

agree_body : (f : Framing1) (c d : List ℕ) (t u : Text) → IsMarkedBody f c t → IsMarkedBody f d u → Agree t u
agree_body Empty c d t u h k = subst₂ Agree (sym h) (sym k) tt
agree_body (Counted n) c d t u h k = subst₂ Agree (sym h) (sym k) (agree_mark parts.Content c d)
agree_body ToEnd c d t u h k = subst₂ Agree (sym h) (sym k) (agree_mark parts.Content c d)
agree_body Chunked c d t u h k = subst₂ Agree (chunked_marked c t h) (chunked_marked d u k) (agree_places (start Chunked) (bytes_of t) (bytes_of u))

-- ---- heads

-- bytes of framing, of which neither goes on behind the other
agree_heads : (x y : List ℕ) (r s : Text) → ((z : List ℕ) → x ≡ y ++ z → z ≡ []) → ((z : List ℕ) → y ≡ x ++ z → z ≡ []) → (x ≡ y → Agree r s) → Agree (as_framing x ++ r) (as_framing y ++ s)
agree_heads [] [] r s f g k = k refl
agree_heads [] (b ∷ y) r s f g k = let none : b ∷ y ≡ [] = g (b ∷ y) refl in absurd (cc)
agree_heads (a ∷ x) [] r s f g k = let none : a ∷ x ≡ [] = f (a ∷ x) refl in absurd (cc)
agree_heads (a ∷ x) (b ∷ y) r s f g k = (refl, λ e. agree_heads x y r s (λ z d. f z (both a b x (y ++ z) e d)) (λ z d. g z (both b a y (x ++ z) (sym e) d)) (λ d. k (both a b x y e d)))
  where
    both : (a b : ℕ) (x y : List ℕ) → a ≡ b → x ≡ y → a ∷ x ≡ b ∷ y
    both a b x y e d = cc

abbrev pub AreHeads : Bounds → List Interim → Head → List ℕ → Type 0
AreHeads L is head = AreEach (IsInterimHead L) is then IsHeadWithin L head

pub heads_front : (K L : Bounds) (is js : List Interim) (h k : Head) → IsLast h → IsLast k → Front ((is ≡ js) × (h ≡ k)) (AreHeads K is h) (AreHeads L js k)
heads_front K L is js h k p q =
    front_each (h ≡ k) Any (IsInterimHead K) (IsInterimHead L) (IsHeadWithin K h) (IsHeadWithin L k)
    (record {
      items = λ i j a b. interim_front K L i j;
      ends = within_front K L h k;
      left = λ i a. interim_apart K L i k q;
      right = λ j a x y r s f g e. interim_apart L K j h p y x s r g f (sym e);
    })
    is js (λ k d i. tt) (λ k d i. tt)

-- ---- texts

agree : (K L : Bounds) (to_head : Bool) (m n : Message) (t u : Text) → IsMarked K to_head m t → IsMarked L to_head n u → Agree t u
agree K L to_head m n t u p q = subst₂ Agree (sym p.split) (sym q.split)
    (agree_heads p.heads q.heads p.body q.body
    (λ z e. sym (front p.heads q.heads [] z p.heads_are q.heads_are (append-nil p.heads ∙ e)).1)
    (λ z e. (front p.heads q.heads z [] p.heads_are q.heads_are (sym e ∙ sym (append-nil q.heads))).1)
    (λ e.
    let same = (front p.heads q.heads [] [] p.heads_are q.heads_are (ap (λ (l : List ℕ). l ++ []) e)).0.1 in
    agree_body (framing to_head p.whole.head) m.content n.content p.body q.body p.marked
    (subst (λ (h : Head). IsMarkedBody (framing to_head h) n.content q.body) (sym same) q.marked)))
  where
    front : Front ((interims_of m.start ≡ interims_of n.start) × (p.whole.head ≡ q.whole.head)) (AreHeads K (interims_of m.start) p.whole.head) (AreHeads L (interims_of n.start) q.whole.head)
    front = heads_front K L (interims_of m.start) (interims_of n.start) p.whole.head q.whole.head
        (start_is_last p.scheme p.whole.head m.start p.whole.start) (start_is_last q.scheme q.whole.head n.start q.whole.start)

same_front : (t u : Text) (front more others : List ℕ) → Agree t u → bytes_of t ≡ front ++ more → bytes_of u ≡ front ++ others → take (length front) t ≡ take (length front) u
same_front t u [] more others h e f = refl
same_front [] u (x ∷ front) more others h e f = absurd (cc)
same_front (a ∷ t) [] (x ∷ front) more others h e f = absurd (cc)
same_front (a ∷ t) (b ∷ u) (x ∷ front) more others h e f =
    let head : a.1 ≡ b.1 = cc in
    let one : bytes_of t ≡ front ++ more = cc in
    let two : bytes_of u ≡ front ++ others = cc in
    let pair : a ≡ b = ap₂ (λ (part : Part) (byte : ℕ). let z : Part × ℕ = (part, byte) in z) h.0 head in
    ap₂ (λ (c : Part × ℕ) (v : Text). c ∷ v) pair (same_front t u front more others (h.1 head) one two)

pub one_marking : OneMarking
one_marking K L to_head t u p q front more others e f = same_front t u front more others (agree K L to_head p.0 q.0 t u p.1 q.1) e f
