-- Two kinds of bytes that are read side by side: what agrees at the front.
use Rattle.std.proofs.Common.{◌≡◌, Bool, false, ℕ, List, [], ◌∷◌, ◌++◌, All, IsTrue, refl, sym, ap, subst, ◌∙◌, append_assoc, append-nil}
use Rattle.std.proofs.lemmas.Bool.{both_ways}
use Rattle.std.proofs.lemmas.List.Elements.{All-head, All-tail, All-weaker}
use Rattle.bh_spec.specs.Texts.{◌then◌, AreEach}
use Rattle.h1_spec.specs.Grammar.{Is, Line}

-- where bytes begin with one of each kind, E holds, and the same bytes follow
abbrev pub Front : Type 0 → (List ℕ → Type 0) → (List ℕ → Type 0) → Type 0
Front E R S = (x y r s : List ℕ) → R x → S y → x ++ r ≡ y ++ s → E × (r ≡ s)

-- where the same bytes are of both kinds, E holds
abbrev pub Same : Type 0 → (List ℕ → Type 0) → (List ℕ → Type 0) → Type 0
Same E R S = (x y : List ℕ) → R x → S y → x ≡ y → E

-- no bytes begin with one of each kind
abbrev pub Apart : (List ℕ → Type 0) → (List ℕ → Type 0) → Type 0
Apart R S = (x y r s : List ℕ) → R x → S y → x ++ r ≡ y ++ s → ⊥

pub front_map : (E F : Type 0) (R S : List ℕ → Type 0) → (E → F) → Front E R S → Front F R S
front_map E F R S f h x y r s p q e = let both = h x y r s p q e in (f both.0, both.1)

pub front_is : (these : List ℕ) → Front (Unit {0}) (Is these) (Is these)
front_is these x y r s p q e = (tt, tail these r s (sym (ap (λ (z : List ℕ). z ++ r) p) ∙ e ∙ ap (λ (z : List ℕ). z ++ s) q))
  where
    tail : (z r s : List ℕ) → z ++ r ≡ z ++ s → r ≡ s
    tail [] r s e = e
    tail (a ∷ z) r s e = tail z r s cc

regroup : (x a b r : List ℕ) → x ≡ a ++ b → x ++ r ≡ a ++ (b ++ r)
regroup x a b r e = ap (λ (z : List ℕ). z ++ r) e ∙ append_assoc a b r

pub front_then : (E F : Type 0) (R S R' S' : List ℕ → Type 0) → Front E R R' → (E → Front F S S') → Front F (R then S) (R' then S')
front_then E F R S R' S' h k x y r s p q e =
    let first = h p.0 q.0 (p.1 ++ r) (q.1 ++ s) p.2 q.2 (sym (regroup x p.0 p.1 r p.4) ∙ e ∙ regroup y q.0 q.1 s q.4) in
    k first.0 p.1 q.1 r s p.3 q.3 first.1

pub same_then : (E F : Type 0) (R S R' S' : List ℕ → Type 0) → Front E R R' → (E → Same F S S') → Same F (R then S) (R' then S')
same_then E F R S R' S' h k x y p q e =
    let first = h p.0 q.0 p.1 q.1 p.2 q.2 (sym p.4 ∙ e ∙ q.4) in
    k first.0 p.1 q.1 p.3 q.3 first.1

pub apart_then : (F : Type 0) (R S R' S' : List ℕ → Type 0) → Apart R R' → Same F (R then S) (R' then S')
apart_then F R S R' S' h x y p q e = absurd (h p.0 q.0 p.1 q.1 p.2 q.2 (sym p.4 ∙ e ∙ q.4))

-- Bytes that go on are the whole where nothing follows.
pub front_same : (E : Type 0) (R S : List ℕ → Type 0) → Front E R S → Same E R S
front_same E R S h x y p q e = (h x y [] [] p q (append-nil x ∙ e ∙ sym (append-nil y))).0

-- ---- one of each

-- What two lists of things need: each is one text, and none begins as what ends the list does.
pub record Listed {A : Type 0} (E : Type 0) (P : A → Type 0) (R R' : A → List ℕ → Type 0) (S S' : List ℕ → Type 0) : Type 0 where
  pub items : (a b : A) → P a → P b → Front (a ≡ b) (R a) (R' b)
  pub ends : Same E S S'
  pub left : (a : A) → P a → (x y r : List ℕ) → R a x → S' y → x ++ r ≡ y → ⊥
  pub right : (b : A) → P b → (x y r : List ℕ) → S x → R' b y → x ≡ y ++ r → ⊥

both_parts : {A : Type 0} (a b : A) (as' bs : List A) → a ≡ b → as' ≡ bs → (a ∷ as') ≡ (b ∷ bs)
both_parts a b as' bs p q = cc

pub same_each : {A : Type 0} (E : Type 0) (P : A → Type 0) (R R' : A → List ℕ → Type 0) (S S' : List ℕ → Type 0) → Listed E P R R' S S'
    → (xs ys : List A) → All P xs → All P ys → Same ((xs ≡ ys) × E) (AreEach R xs then S) (AreEach R' ys then S')
same_each E P R R' S S' c [] [] h k x y p q e = (refl, c.ends p.1 q.1 p.3 q.3 (sym (nil_front x p.0 p.1 p.2 p.4) ∙ e ∙ nil_front y q.0 q.1 q.2 q.4))
  where
    nil_front : (x a b : List ℕ) → a ≡ [] → x ≡ a ++ b → x ≡ b
    nil_front x a b n e = e ∙ ap (λ (z : List ℕ). z ++ b) n
same_each E P R R' S S' c [] (b ∷ bs) h k x y p q e =
    absurd (c.right b (All-head P b bs k) p.1 q.2.0 (q.2.1 ++ q.1) p.3 q.2.2
    (sym (p.4 ∙ ap (λ (z : List ℕ). z ++ p.1) p.2) ∙ e ∙ q.4 ∙ regroup q.0 q.2.0 q.2.1 q.1 q.2.4))
same_each E P R R' S S' c (a ∷ as') [] h k x y p q e =
    absurd (c.left a (All-head P a as' h) p.2.0 q.1 (p.2.1 ++ p.1) p.2.2 q.3
    (sym (regroup p.0 p.2.0 p.2.1 p.1 p.2.4) ∙ sym p.4 ∙ e ∙ q.4 ∙ ap (λ (z : List ℕ). z ++ q.1) q.2))
same_each E P R R' S S' c (a ∷ as') (b ∷ bs) h k x y p q e =
    let one = c.items a b (All-head P a as' h) (All-head P b bs k) p.2.0 q.2.0 (p.2.1 ++ p.1) (q.2.1 ++ q.1) p.2.2 q.2.2
    (sym (p.4 ∙ regroup p.0 p.2.0 p.2.1 p.1 p.2.4) ∙ e ∙ (q.4 ∙ regroup q.0 q.2.0 q.2.1 q.1 q.2.4)) in
    let more = same_each E P R R' S S' c as' bs (All-tail P a as' h) (All-tail P b bs k) (p.2.1 ++ p.1) (q.2.1 ++ q.1)
    (p.2.1, p.1, p.2.3, p.3, refl) (q.2.1, q.1, q.2.3, q.3, refl) one.1 in
    (both_parts a b as' bs one.0 more.0, more.1)

-- the same for bytes that go on
pub record Followed {A : Type 0} (E : Type 0) (P : A → Type 0) (R R' : A → List ℕ → Type 0) (S S' : List ℕ → Type 0) : Type 0 where
  pub items : (a b : A) → P a → P b → Front (a ≡ b) (R a) (R' b)
  pub ends : Front E S S'
  pub left : (a : A) → P a → Apart (R a) S'
  pub right : (b : A) → P b → Apart S (R' b)

pub front_each : {A : Type 0} (E : Type 0) (P : A → Type 0) (R R' : A → List ℕ → Type 0) (S S' : List ℕ → Type 0) → Followed E P R R' S S'
    → (xs ys : List A) → All P xs → All P ys → Front ((xs ≡ ys) × E) (AreEach R xs then S) (AreEach R' ys then S')
front_each {A} E P R R' S S' c xs ys h k x y r s p q e =
    let both = same_each (E × (r ≡ s)) P R R' (S then Is r) (S' then Is s) listed xs ys h k (x ++ r) (y ++ s)
    (p.0, p.1 ++ r, p.2, (p.1, r, p.3, refl, refl), regroup x p.0 p.1 r p.4) (q.0, q.1 ++ s, q.2, (q.1, s, q.3, refl, refl), regroup y q.0 q.1 s q.4) e in
    ((both.0, both.1.0), both.1.1)
  where
    listed : Listed (E × (r ≡ s)) P R R' (S then Is r) (S' then Is s)
    listed = record {
      items = c.items;
      ends = λ v w f g d.
          let two = c.ends f.0 g.0 f.1 g.1 f.2 g.2 (sym f.4 ∙ d ∙ g.4) in
          (two.0, sym f.3 ∙ two.1 ∙ g.3);
      left = λ a n v w z f g d. c.left a n v g.0 z g.1 f g.2 (d ∙ g.4);
      right = λ b n v w z f g d. c.right b n f.0 w f.1 z f.2 g (sym f.4 ∙ d);
    }

-- ---- cuts

-- none of the bytes is this one
abbrev pub Lacks : ℕ → List ℕ → Type 0
Lacks c x = All (λ b. b ≡ c → ⊥) x

-- what passes a test that the byte fails lacks the byte
pub fails : (test : ℕ → Bool) (c : ℕ) (x : List ℕ) → test c ≡ false → All (λ b. IsTrue (test b)) x → Lacks c x
fails test c x n h = All-weaker (λ b. IsTrue (test b)) (λ b. b ≡ c → ⊥) (λ b t e. both_ways (test c) n (subst (λ (z : ℕ). IsTrue (test z)) e t)) x h

-- Lists are cut in one way at the first place of a byte.
pub cut_at : (c : ℕ) (x y r s : List ℕ) → Lacks c x → Lacks c y → x ++ (c ∷ r) ≡ y ++ (c ∷ s) → (x ≡ y) × (r ≡ s)
cut_at c [] [] r s h k e = (refl, cc)
cut_at c [] (b ∷ y) r s h k e = absurd (All-head (λ b. b ≡ c → ⊥) b y k cc)
cut_at c (a ∷ x) [] r s h k e = absurd (All-head (λ b. b ≡ c → ⊥) a x h cc)
cut_at c (a ∷ x) (b ∷ y) r s h k e =
    let rest = cut_at c x y r s (All-tail (λ b. b ≡ c → ⊥) a x h) (All-tail (λ b. b ≡ c → ⊥) b y k) cc in
    let head : a ≡ b = cc in
    (both_parts a b x y head rest.0, rest.1)

-- the bytes don't begin with one that passes the test
abbrev pub Stops : (ℕ → Bool) → List ℕ → Type 0
Stops test x = (c : ℕ) (rest : List ℕ) → x ≡ c ∷ rest → IsTrue (test c) → ⊥

-- Lists are cut in one way behind what passes a test.
pub run_cut : (test : ℕ → Bool) (x y r s : List ℕ) → All (λ z. IsTrue (test z)) x → All (λ z. IsTrue (test z)) y → Stops test r → Stops test s
    → x ++ r ≡ y ++ s → (x ≡ y) × (r ≡ s)
run_cut test [] [] r s h k p q e = (refl, e)
run_cut test [] (b ∷ y) r s h k p q e = absurd (p b (y ++ s) e (All-head (λ z. IsTrue (test z)) b y k))
run_cut test (a ∷ x) [] r s h k p q e = absurd (q a (x ++ r) (sym e) (All-head (λ z. IsTrue (test z)) a x h))
run_cut test (a ∷ x) (b ∷ y) r s h k p q e =
    let head : a ≡ b = cc in
    let tail : x ++ r ≡ y ++ s = cc in
    let rest = run_cut test x y r s (All-tail (λ z. IsTrue (test z)) a x h) (All-tail (λ z. IsTrue (test z)) b y k) p q tail in
    (both_parts a b x y head rest.0, rest.1)

-- Two lines, in which no CR stands.
pub front_line : (E : Type 0) (R S : List ℕ → Type 0) → ((x : List ℕ) → R x → Lacks 13 x) → ((x : List ℕ) → S x → Lacks 13 x) → Same E R S → Front E (Line R) (Line S)
front_line E R S h k same x y r s p q e =
    let cut = cut_at 13 p.0 q.0 (10 ∷ r) (10 ∷ s) (h p.0 p.2) (k q.0 q.2)
    (sym (regroup x p.0 p.1 r p.4 ∙ ap (λ (z : List ℕ). p.0 ++ (z ++ r)) p.3) ∙ e ∙ (regroup y q.0 q.1 s q.4 ∙ ap (λ (z : List ℕ). q.0 ++ (z ++ s)) q.3)) in
    (same p.0 q.0 p.2 q.2 cut.0, cc)
