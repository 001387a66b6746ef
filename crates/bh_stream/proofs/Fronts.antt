-- Points of the calls, one more and several more.
use Rattle.std.proofs.Common.{◌≡◌, ◌⊎◌, List, [], ◌∷◌, ◌++◌, refl, sym, ◌∙◌, ap, subst, append-nil, inl, inr}
use Rattle.bh_base.specs.Steps.{Step, Read, Write, BadRead, BadWrite, OnlyReads, OnlyWrites}
use Rattle.bh_stream.specs.Logs.{AtEvery, BeforeReads}
use Rattle.bh_stream.proofs.Moving.{front_of_two}

module _ (P : List Step → Type 0) where
  pub at_none : P [] → AtEvery P []
  at_none h [] back e = h
  at_none h (f ∷ front) back e = absurd (cc)

  -- calls behind calls
  pub at_more : (xs ys : List Step) → AtEvery P xs → AtEvery (λ front. P (xs ++ front)) ys → AtEvery P (xs ++ ys)
  at_more xs ys a b front back e = by_case (front_of_two xs ys front back e)
    where
      by_case : ((more : List Step) × (xs ≡ front ++ more)) ⊎ ((mid : List Step) × (front ≡ xs ++ mid) × (ys ≡ mid ++ back)) → P front
      by_case (inl s) = a front s.0 s.1
      by_case (inr s) = subst P (sym s.1) (b s.0 back s.2)

  -- one call
  pub at_both : (x : Step) → P [] → P (x ∷ []) → AtEvery P (x ∷ [])
  at_both x h k [] back e = h
  at_both x h k (f ∷ []) back e = let same : x ≡ f = cc in subst (λ (y : Step). P (y ∷ [])) same k
  at_both x h k (f ∷ (g ∷ front)) back e = absurd (cc)

  pub at_end : (xs : List Step) → AtEvery P xs → P xs
  at_end xs a = a xs [] (sym (append-nil xs))

pub at_weaker : (P Q : List Step → Type 0) (xs : List Step) → ((front : List Step) → P front → Q front) → AtEvery P xs → AtEvery Q xs
at_weaker P Q xs h a front back e = h front (a front back e)

-- a call of two lists in a row is one of the first or of the second
pub either_call : (xs ys front back : List Step) (y : Step) → xs ++ ys ≡ front ++ y ∷ back
    → ((more : List Step) × (xs ≡ front ++ y ∷ more)) ⊎ ((mid : List Step) × (front ≡ xs ++ mid) × (ys ≡ mid ++ y ∷ back))
either_call [] ys front back y e = inr (front, refl, e)
either_call (x ∷ xs) ys [] back y e = let head : x ≡ y = cc in inl (xs, λ i. head i ∷ xs)
either_call (x ∷ xs) ys (f ∷ front) back y e =
    let head : x ≡ f = cc in
    let tail : xs ++ ys ≡ front ++ y ∷ back = cc in
    on head (either_call xs ys front back y tail)
  where
    on : x ≡ f → ((more : List Step) × (xs ≡ front ++ y ∷ more)) ⊎ ((mid : List Step) × (front ≡ xs ++ mid) × (ys ≡ mid ++ y ∷ back))
        → ((more : List Step) × (x ∷ xs ≡ f ∷ front ++ y ∷ more)) ⊎ ((mid : List Step) × (f ∷ front ≡ x ∷ xs ++ mid) × (ys ≡ mid ++ y ∷ back))
    on h (inl s) = inl (s.0, λ i. h i ∷ s.1 i)
    on h (inr s) = inr (s.0, (λ i. (sym h) i ∷ s.1 i), s.2)

not_both : (mid back : List Step) (y : Step) → OnlyReads (y ∷ []) → OnlyWrites (mid ++ y ∷ back) → ⊥
not_both [] back (Read n b) r w = w
not_both [] back (Write n b) r w = r
not_both [] back (BadRead n) r w = w
not_both [] back (BadWrite n) r w = r
not_both ((Read n b) ∷ mid) back y r w = w
not_both ((Write n b) ∷ mid) back y r w = not_both mid back y r w
not_both ((BadRead n) ∷ mid) back y r w = w
not_both ((BadWrite n) ∷ mid) back y r w = not_both mid back y r w

module _ (P : List Step → Type 0) where
  pub reads_none : BeforeReads P []
  reads_none [] back y r e = absurd (cc)
  reads_none (f ∷ front) back y r e = absurd (cc)

  -- one call more
  pub reads_one : (xs : List Step) (x : Step) → BeforeReads P xs → P xs → BeforeReads P (xs ++ x ∷ [])
  reads_one xs x a h front back y r e = by_case (either_call xs (x ∷ []) front back y e)
    where
      alone : (mid : List Step) → x ∷ [] ≡ mid ++ y ∷ back → mid ≡ []
      alone [] e = refl
      alone (m ∷ []) e = absurd (cc)
      alone (m ∷ (n ∷ mid)) e = absurd (cc)

      by_case : ((more : List Step) × (xs ≡ front ++ y ∷ more)) ⊎ ((mid : List Step) × (front ≡ xs ++ mid) × (x ∷ [] ≡ mid ++ y ∷ back)) → P front
      by_case (inl s) = a front s.0 y r s.1
      by_case (inr s) = subst P (sym (s.1 ∙ ap (λ (l : List Step). xs ++ l) (alone s.0 s.2) ∙ append-nil xs)) h

  -- writes
  pub reads_then_writes : (xs ys : List Step) → BeforeReads P xs → OnlyWrites ys → BeforeReads P (xs ++ ys)
  reads_then_writes xs ys a w front back y r e = by_case (either_call xs ys front back y e)
    where
      by_case : ((more : List Step) × (xs ≡ front ++ y ∷ more)) ⊎ ((mid : List Step) × (front ≡ xs ++ mid) × (ys ≡ mid ++ y ∷ back)) → P front
      by_case (inl s) = a front s.0 y r s.1
      by_case (inr s) = absurd (not_both s.0 back y r (subst OnlyWrites s.2 w))
