-- Which cases hold of a message, and when none does.
use Rattle.std.proofs.Common.{◌≡◌, ◌⊎◌, true, false, not, ◌&&◌, nat_eq, leb, arith, ℕ, List, [], ◌∷◌, ◌++◌, length, flat_map, find, All, Option, Some, None, option_map, IsTrue, refl, sym, ap, subst, ◌∙◌, inl, inr}
use Rattle.std.specs.List.{list_any, list_all}
use Rattle.std.proofs.lemmas.Bool.{false≢true, cases_Bool, cond-true, cond-false, not_from_true, and_from, ne_eqb, le-ltb, le-leb}
use Rattle.std.proofs.lemmas.List.Elements.{All-nil, All-head, All-tail, All-weaker, All-cons}
use Rattle.std.proofs.lemmas.List.Sums.{list_all-from_AllPass}
use Rattle.std.proofs.lemmas.List.Folds.{list_any_none}
use Rattle.bh_spec.specs.Bytes.{is_token, is_text_value, is_digit}
use Rattle.bh_spec.specs.Messages.{Field, IsToken}
use Rattle.h1_spec.specs.declared.Framing1.{Framing1}
use Rattle.h1_spec.specs.declared.Framing1.TheVariants.{Empty, Counted, Chunked, ToEnd}
use Rattle.bh_spec.specs.declared.NoForm.{NoForm}
use Rattle.h1_spec.specs.Framing.{IsLength}
use Rattle.h1_spec.specs.Http1Text.{Case, is_pseudo, has_bad_value, is_length, of_body}
use Rattle.h1_spec.specs.Heads.{IsHeadField}

-- none of the cases holds
abbrev pub AreFree : List Case → Type 0
AreFree [] = Unit {0}
AreFree (one ∷ rest) = (one.1 ≡ false) × AreFree rest

abbrev first_of_cases : List Case → Option NoForm
first_of_cases cases = option_map (λ (one : Case). one.0) (find (λ (one : Case). one.1) cases)

pub free_none : (cases : List Case) → AreFree cases → option_map (λ (one : Case). one.0) (find (λ (one : Case). one.1) cases) ≡ None
free_none [] h = refl
free_none (one ∷ rest) h =
    ap (option_map (λ (c : Case). c.0)) (cond-false one.1 (Some one) (find (λ (c : Case). c.1) rest) h.0) ∙ free_none rest h.1

pub none_free : (cases : List Case) → option_map (λ (one : Case). one.0) (find (λ (one : Case). one.1) cases) ≡ None → AreFree cases
none_free [] h = tt
none_free (one ∷ rest) h = by_test (cases_Bool one.1) (none_free rest)
  where
    by_test : (one.1 ≡ true) ⊎ (one.1 ≡ false) → (first_of_cases rest ≡ None → AreFree rest) → AreFree (one ∷ rest)
    by_test (inl e) k =
        let some : Some one.0 ≡ None = sym (ap (option_map (λ (c : Case). c.0)) (cond-true one.1 (Some one) (find (λ (c : Case). c.1) rest) e)) ∙ h in
        absurd cc
    by_test (inr e) k =
        (e, k (sym (ap (option_map (λ (c : Case). c.0)) (cond-false one.1 (Some one) (find (λ (c : Case). c.1) rest) e)) ∙ h))

pub free_append : (a b : List Case) → AreFree a → AreFree b → AreFree (a ++ b)
free_append [] b h k = k
free_append (one ∷ a) b h k = (h.0, free_append a b h.1 k)

pub free_front : (a b : List Case) → AreFree (a ++ b) → AreFree a
free_front [] b h = tt
free_front (one ∷ a) b h = (h.0, free_front a b h.1)

pub free_back : (a b : List Case) → AreFree (a ++ b) → AreFree b
free_back [] b h = h
free_back (one ∷ a) b h = free_back a b h.1

pub free_each : {A : Type 0} (of : A → List Case) (xs : List A) → All (λ x. AreFree (of x)) xs → AreFree (flat_map of xs)
free_each of [] h = tt
free_each {A} of (x ∷ xs) h = free_append (of x) (flat_map of xs) (All-head (λ (y : A). AreFree (of y)) x xs h) (free_each of xs (All-tail (λ (y : A). AreFree (of y)) x xs h))

pub each_free : {A : Type 0} (of : A → List Case) (xs : List A) → AreFree (flat_map of xs) → All (λ x. AreFree (of x)) xs
each_free {A} of [] h = All-nil (λ (y : A). AreFree (of y))
each_free {A} of (x ∷ xs) h =
    All-cons (λ (y : A). AreFree (of y)) x xs (free_front (of x) (flat_map of xs) h) (each_free of xs (free_back (of x) (flat_map of xs) h))

-- ---- fields

token_plain : (name : List ℕ) → IsToken name → list_any (λ byte. nat_eq byte 58) name ≡ false
token_plain name h =
    list_any_none (λ byte. nat_eq byte 58) name
    (All-weaker (λ b. IsTrue (is_token b)) (λ b. nat_eq b 58 ≡ false) (λ b t. ne_eqb b 58 (λ e. false≢true (subst (λ (z : ℕ). IsTrue (is_token z)) e t))) name h.each)

pub no_pseudo : (fs : List Field) → All IsHeadField fs → list_any is_pseudo fs ≡ false
no_pseudo fs h = list_any_none is_pseudo fs (All-weaker IsHeadField (λ (f : Field). is_pseudo f ≡ false) (λ f k. token_plain f.name k.name) fs h)

pub good_values : (fs : List Field) → All IsHeadField fs → has_bad_value fs ≡ false
good_values fs h =
    not_from_true (list_all (λ (f : Field). list_all is_text_value f.value) fs)
    (list_all-from_AllPass (λ (f : Field). list_all is_text_value f.value) fs
    (All-weaker IsHeadField (λ (f : Field). list_all is_text_value f.value ≡ true) (λ f k. list_all-from_AllPass is_text_value f.value k.value.each) fs h))

-- ---- bodies

-- what a body with this framing has
abbrev pub Fills : Framing1 → List ℕ → List Field → Type 0
Fills Empty content trailers = (content ≡ []) × (trailers ≡ [])
Fills (Counted n) content trailers = (length content ≡ n) × (trailers ≡ [])
Fills Chunked content trailers = Unit {0}
Fills ToEnd content trailers = trailers ≡ []

pub body_free : (f : Framing1) (content : List ℕ) (trailers : List Field) → Fills f content trailers → has_bad_value trailers ≡ false → AreFree (of_body f content trailers)
body_free Empty content trailers h v =
    (ap (λ (c : List ℕ). not (nat_eq (length c) 0)) h.0, (v, (ap (λ (fs : List Field). not (nat_eq (length fs) 0)) h.1, tt)))
body_free (Counted n) content trailers h v =
    (le-ltb n (length content) (omega (arith, h.0)), (v, (le-ltb (length content) n (omega (arith, h.0)), (ap (λ (fs : List Field). not (nat_eq (length fs) 0)) h.1, tt))))
body_free Chunked content trailers h v = (v, tt)
body_free ToEnd content trailers h v = (v, tt)

pub length_test : (value : List ℕ) → IsLength value → is_length (value ∷ []) ≡ true
length_test value h =
    and_from (leb 1 (length value)) (leb (length value) 18 && list_all is_digit value) (le-leb 1 (length value) h.some)
    (and_from (leb (length value) 18) (list_all is_digit value) (le-leb (length value) 18 h.few) (list_all-from_AllPass is_digit value h.each))
