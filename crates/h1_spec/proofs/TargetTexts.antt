-- A target says one thing.
use Rattle.std.proofs.Common.{◌≡◌, ◌⊎◌, Bool, not, nat_eq, arith, ℕ, List, [], ◌∷◌, ◌++◌, drop, All, IsTrue, codes, refl, sym, ap, subst, ◌∙◌, inl, inr}
use Rattle.std.proofs.lemmas.Bool.{false≢true}
use Rattle.std.specs.Char.{to_ascii_lowercase}
use Rattle.std.proofs.lemmas.List.{get_or-map, length-map}
use Rattle.std.proofs.lemmas.List.Sums.{AllPass-from_list_all}
use Rattle.bh_spec.specs.Bytes.{is_authority, lower}
use Rattle.bh_spec.specs.Messages.{Control, IsWeb}
use Rattle.h1_spec.specs.declared.Scheme1.{Scheme1}
use Rattle.h1_spec.specs.Targets.{IsAsteriskForm, IsOriginForm, IsAbsoluteForm, IsPathOrQuery, IsTargetOf, path_behind}
use Rattle.h1_spec.proofs.Fronts.{Lacks, fails, cut_at, Stops, run_cut}

-- a web scheme's name begins with a letter and has no colon
abbrev plain : ℕ → Bool
plain byte = not (nat_eq byte 58)

web_lacks : (name : List ℕ) → IsWeb (lower name) → Lacks 58 name
web_lacks name h = low name (fails plain 58 (lower name) refl (by_case h))
  where
    by_case : IsWeb (lower name) → All (λ b. IsTrue (plain b)) (lower name)
    by_case (inl e) = subst (All (λ b. IsTrue (plain b))) (sym e) (AllPass-from_list_all plain (codes "http") refl)
    by_case (inr e) = subst (All (λ b. IsTrue (plain b))) (sym e) (AllPass-from_list_all plain (codes "https") refl)

    low : (x : List ℕ) → Lacks 58 (lower x) → Lacks 58 x
    low x h k d i e = h k d (omega (arith, i, length-map x to_ascii_lowercase)) (get_or-map to_ascii_lowercase x k d d i ∙ ap to_ascii_lowercase e)

-- its first letter
pub web_first : (name x rest : List ℕ) (c : ℕ) → IsWeb (lower name) → (to_ascii_lowercase c ≡ 104 → ⊥) → name ++ x ≡ c ∷ rest → ⊥
web_first [] x rest c (inl h) n e = absurd cc
web_first [] x rest c (inr h) n e = absurd cc
web_first (b ∷ name) x rest c (inl h) n e =
    let first : b ≡ c = cc in
    let same : to_ascii_lowercase b ≡ 104 = cc in
    n (ap to_ascii_lowercase (sym first) ∙ same)
web_first (b ∷ name) x rest c (inr h) n e =
    let first : b ≡ c = cc in
    let same : to_ascii_lowercase b ≡ 104 = cc in
    n (ap to_ascii_lowercase (sym first) ∙ same)

behind_stops : (rest : List ℕ) → IsPathOrQuery rest → Stops is_authority rest
behind_stops rest (inl n) c more e h = absurd cc
behind_stops rest (inr s) c more e h =
    let same : c ≡ s.0 = cc in
    by_case s.3 (subst (λ (z : ℕ). IsTrue (is_authority z)) same h)
  where
    by_case : (s.0 ≡ 47) ⊎ (s.0 ≡ 63) → IsTrue (is_authority s.0) → ⊥
    by_case (inl e) h = false≢true (subst (λ (z : ℕ). IsTrue (is_authority z)) e h)
    by_case (inr e) h = false≢true (subst (λ (z : ℕ). IsTrue (is_authority z)) e h)

control_is : (m n s t a b p q : List ℕ) → m ≡ n → s ≡ t → a ≡ b → p ≡ q
    → let c : Control = record { method = m; scheme = s; authority = a; path = p } in let d : Control = record { method = n; scheme = t; authority = b; path = q } in c ≡ d
control_is m n s t a b p q e f g h = λ i. record { method = e i; scheme = f i; authority = g i; path = h i }

absolute_once : (method target : List ℕ) (c d : Control) → IsAbsoluteForm method target c → IsAbsoluteForm method target d → c ≡ d
absolute_once method target c d p q =
    let cut = cut_at 58 p.name q.name _ _ (web_lacks p.name p.web) (web_lacks q.name q.web) (sym p.written ∙ q.written) in
    let both = run_cut is_authority p.authority q.authority p.rest q.rest p.each q.each (behind_stops p.rest p.behind) (behind_stops q.rest q.behind)
    (ap (λ (z : List ℕ). drop 2 z) cut.1) in
    p.gives ∙ control_is method method (lower p.name) (lower q.name) p.authority q.authority (path_behind method p.rest) (path_behind method q.rest)
    refl (ap lower cut.0) both.0 (ap (path_behind method) both.1) ∙ sym q.gives

star_apart : (scheme : Scheme1) (method target : List ℕ) (c d : Control) → IsAsteriskForm scheme method target c → IsAbsoluteForm method target d → ⊥
star_apart scheme method target c d p q = web_first q.name _ [] 42 q.web (λ e. absurd (omega arith)) (sym q.written ∙ p.star)

origin_apart : (scheme : Scheme1) (method target : List ℕ) (c d : Control) → IsOriginForm scheme method target c → IsAbsoluteForm method target d → ⊥
origin_apart scheme method target c d p q = web_first q.name _ p.slash.0 47 q.web (λ e. absurd (omega arith)) (sym q.written ∙ p.slash.1)

-- A target says one thing.
pub target_once : (scheme : Scheme1) (method target : List ℕ) (c d : Control) → IsTargetOf scheme method target c → IsTargetOf scheme method target d → c ≡ d
target_once scheme method target c d (inl p) (inl q) = p.gives ∙ sym q.gives
target_once scheme method target c d (inl p) (inr (inl q)) = p.gives ∙ sym q.gives
target_once scheme method target c d (inl p) (inr (inr q)) = absurd (star_apart scheme method target c d p q)
target_once scheme method target c d (inr (inl p)) (inl q) = p.gives ∙ sym q.gives
target_once scheme method target c d (inr (inl p)) (inr (inl q)) = p.gives ∙ sym q.gives
target_once scheme method target c d (inr (inl p)) (inr (inr q)) = absurd (origin_apart scheme method target c d p q)
target_once scheme method target c d (inr (inr p)) (inl q) = absurd (star_apart scheme method target d c q p)
target_once scheme method target c d (inr (inr p)) (inr (inl q)) = absurd (origin_apart scheme method target d c q p)
target_once scheme method target c d (inr (inr p)) (inr (inr q)) = absolute_once method target c d p q
