-- The fields that are read from a head or a trailer section, and that stay when it is cleaned.
use Rattle.std.proofs.Common.{◌≡◌, ◌⊎◌, ◌<◌, ◌≤◌, ◌+◌, ◌-◌, Bool, true, false, cond, not, ◌||◌, ◌&&◌, nat_eq, nat_le, arith, ℕ, List, [], ◌∷◌, ◌++◌, length, filter, flat_map, All, IsTrue, IsFalse, codes, bytes_eq, slice_index, refl, sym, ap, ap₂, subst, ◌∙◌, append_assoc, append-nil, inl, inr}
use Rattle.std.specs.List.{join_by}
use Rattle.std.specs.Char.{to_ascii_lowercase}
use Rattle.std.proofs.lemmas.Bool.{false≢true, or_cases, or_left, and_parts, and_from, eqb-true, leb-true, le-leb, cond_both, agree_below_at, cases_lt}
use Rattle.std.proofs.lemmas.List.{length-map, length-append, get_or-append_right}
use Rattle.std.proofs.lemmas.Str.Ascii.{lowercase_is, lowercase-lowercase}
use Rattle.std.proofs.lemmas.List.Elements.{All-from_recursion, All-nil, All-head, All-tail, All-weaker, All-cons, All-append, All-map, All-filter, filter_passes}
use Rattle.bh_spec.specs.Bytes.{is_letter, is_digit, is_token, is_text_value, is_value, is_blank, lower}
use Rattle.bh_spec.specs.Messages.{Field, IsToken, IsValue, IsRegularField}
use Rattle.bh_spec.specs.Texts.{AreEach}
use Rattle.h1_spec.specs.Grammar.{Line}
use Rattle.h1_spec.specs.Heads.{IsHeadField, IsTextValue, IsFieldLine, IsSection}
use Rattle.h1_spec.specs.Cleaning.{is_empty, is_among, values_of, without, cookie, crumbs, one_cookie, clean, clean_trailers, connection_names, kept_names}

-- ---- names

token_low : (b : ℕ) → IsTrue (is_token b) → IsTrue (is_token (to_ascii_lowercase b))
token_low b h = by_place (cases_lt b 65) (cases_lt 90 b)
  where
    same : to_ascii_lowercase b ≡ b → IsTrue (is_token (to_ascii_lowercase b))
    same e = subst (λ (z : ℕ). IsTrue (is_token z)) (sym e) h

    letter : (c : ℕ) → 97 ≤ c → c ≤ 122 → IsTrue (is_token c)
    letter c p q = or_left (is_letter c || is_digit c) _ (or_left (is_letter c) _ (or_left (nat_le 97 c && nat_le c 122) _ (and_from (nat_le 97 c) (nat_le c 122) (le-leb 97 c p) (le-leb c 122 q))))

    by_place : (b < 65) ⊎ (65 ≤ b) → (90 < b) ⊎ (b ≤ 90) → IsTrue (is_token (to_ascii_lowercase b))
    by_place (inl p) q = same ((lowercase_is b).1 p)
    by_place (inr p) (inl q) = same ((lowercase_is b).2 q)
    by_place (inr p) (inr q) = subst (λ (z : ℕ). IsTrue (is_token z)) (sym ((lowercase_is b).0 (p, q))) (letter (b + 32) (omega arith) (omega arith))

lower_token : (x : List ℕ) → IsToken x → IsToken (lower x)
lower_token x h = record {
  nonempty = omega (arith, h.nonempty, length-map x to_ascii_lowercase);
  each = All-map (λ b. IsTrue (is_token b)) to_ascii_lowercase x (All-weaker (λ b. IsTrue (is_token b)) (λ b. IsTrue (is_token (to_ascii_lowercase b))) token_low x h.each);
}

lower_twice : (x : List ℕ) → lower (lower x) ≡ lower x
lower_twice [] = refl
lower_twice (b ∷ x) = ap₂ (λ (c : ℕ) (y : List ℕ). c ∷ y) (lowercase-lowercase b) (lower_twice x)

pub line_field : (f : Field) (x : List ℕ) → IsFieldLine f x → IsHeadField f
line_field f x h = record {
  name = subst IsToken h.same_name (lower_token h.name h.token);
  lower_case = subst (λ (n : List ℕ). lower n ≡ n) h.same_name (lower_twice h.name);
  value = h.value;
}

lines_fields : (fs : List Field) (x : List ℕ) → AreEach (λ field. Line (IsFieldLine field)) fs x → All IsHeadField fs
lines_fields [] x h = All-nil IsHeadField
lines_fields (f ∷ fs) x h = All-cons IsHeadField f fs (line_field f h.2.0 h.2.2) (lines_fields fs h.1 h.3)

pub section_fields : (fs : List Field) (x : List ℕ) → IsSection fs x → All IsHeadField fs
section_fields fs x h = lines_fields fs h.0 h.2

-- ---- values

abbrev pub AreText : List ℕ → Type 0
AreText x = All (λ b. IsTrue (is_text_value b)) x

text_below : (b : ℕ) → IsTrue (is_text_value b) → b < 256
text_below b h = last (or_cases (nat_eq b 9 || (nat_le 32 b && nat_le b 126)) _ h)
  where
    first : (nat_eq b 9 ≡ true) ⊎ ((nat_le 32 b && nat_le b 126) ≡ true) → b < 256
    first (inl e) = omega (arith, eqb-true b 9 e)
    first (inr e) = omega (arith, leb-true b 126 (and_parts (nat_le 32 b) (nat_le b 126) e).1)

    last : ((nat_eq b 9 || (nat_le 32 b && nat_le b 126)) ≡ true) ⊎ ((nat_le 128 b && nat_le b 255) ≡ true) → b < 256
    last (inl e) = first (or_cases (nat_eq b 9) _ e)
    last (inr e) = omega (arith, leb-true b 255 (and_parts (nat_le 128 b) (nat_le b 255) e).1)

text_value : (b : ℕ) → IsTrue (is_text_value b) → IsTrue (is_value b)
text_value b h = both (is_text_value b) (is_value b) h (agree_below_at (λ c. not (is_text_value c) || is_value c) (λ c. true) 256 b refl (text_below b h))
  where
    both : (p q : Bool) → p ≡ true → (not p || q) ≡ true → q ≡ true
    both true q h e = e
    both false q h e = absurd (false≢true h)

pub value_of_text : (x : List ℕ) → IsTextValue x → IsValue x
value_of_text x h = record { each = All-weaker (λ b. IsTrue (is_text_value b)) (λ b. IsTrue (is_value b)) text_value x h.each; first = h.first; last = h.last }

pub regular : (f : Field) → IsHeadField f → IsRegularField f
regular f h = record { name = h.name; lower_case = h.lower_case; value = value_of_text f.value h.value }

-- ---- one cookie, for values of any class of bytes that has the semicolon and the space

-- bytes of a class, with no blank at either end
pub record IsValueOf (test : ℕ → Bool) (x : List ℕ) : Type 0 where
  pub each : All (λ b. IsTrue (test b)) x
  pub first : IsFalse (is_blank (slice_index x 0))
  pub last : IsFalse (is_blank (slice_index x (length x - 1)))

pub record IsFieldOf (test : ℕ → Bool) (field : Field) : Type 0 where
  pub name : IsToken field.name
  pub lower_case : lower field.name ≡ field.name
  pub value : IsValueOf test field.value

abbrev semicolon : List ℕ
semicolon = codes "; "

abbrev joined : List (List ℕ) → List ℕ
joined xs = flat_map (λ y. semicolon ++ y) xs

last_append : (a b : List ℕ) → 0 < length b → slice_index (a ++ b) (length (a ++ b) - 1) ≡ slice_index b (length b - 1)
last_append a b h = get_or-append_right a b (length a) (length (a ++ b) - 1) 0 refl (omega (arith, length-append a b)) ∙ ap (λ (n : ℕ). slice_index b n) (omega (arith, length-append a b))

first_append : (a b : List ℕ) → 0 < length a → slice_index (a ++ b) 0 ≡ slice_index a 0
first_append [] b h = absurd (omega arith)
first_append (c ∷ a) b h = refl

nonempty : (x : List ℕ) → not (is_empty x) ≡ true → 0 < length x
nonempty [] h = absurd (false≢true h)
nonempty (c ∷ x) h = omega arith

all_both : {X : Type 0} (P Q : X → Type 0) (xs : List X) → All P xs → All Q xs → All (λ x. P x × Q x) xs
all_both P Q xs h k i d n = (h i d n, k i d n)

module _ (test : ℕ → Bool) (semi : test 59 ≡ true) (space : test 32 ≡ true) where
  abbrev Passes : List ℕ → Type 0
  Passes x = All (λ b. IsTrue (test b)) x

  -- some bytes of the class, with no blank at their end
  record EndsWell (x : List ℕ) : Type 0 where
    some : 0 < length x
    each : Passes x
    last : IsFalse (is_blank (slice_index x (length x - 1)))

  well_behind : (a b : List ℕ) → Passes a → EndsWell b → EndsWell (a ++ b)
  well_behind a b h k = record {
    some = omega (arith, length-append a b, k.some);
    each = All-append (λ b. IsTrue (test b)) a b h k.each;
    last = subst (λ (z : ℕ). IsFalse (is_blank z)) (sym (last_append a b k.some)) k.last;
  }

  separator : Passes semicolon
  separator = All-cons (λ b. IsTrue (test b)) 59 (32 ∷ []) semi (All-cons (λ b. IsTrue (test b)) 32 [] space (All-nil (λ b. IsTrue (test b))))

  well_joined : (a : List ℕ) (xs : List (List ℕ)) → EndsWell a → All EndsWell xs → EndsWell (a ++ joined xs)
  well_joined a [] h k = subst EndsWell (sym (append-nil a)) h
  well_joined a (x ∷ xs) h k =
      subst EndsWell (append_assoc a (semicolon ++ x) (joined xs))
      (well_joined (a ++ (semicolon ++ x)) xs
      (well_behind a (semicolon ++ x) h.each (well_behind semicolon x separator (All-head EndsWell x xs k)))
      (All-tail EndsWell x xs k))

  abbrev IsCrumb : List ℕ → Type 0
  IsCrumb x = IsValueOf test x × (0 < length x)

  join_value : (xs : List (List ℕ)) → All IsCrumb xs → IsValueOf test (join_by (λ x. x) semicolon xs)
  join_value [] h = record { each = All-nil (λ b. IsTrue (test b)); first = refl; last = refl }
  join_value (x ∷ xs) h =
      let own : IsCrumb x = All-head IsCrumb x xs h in
      let well : EndsWell x = record { some = own.1; each = own.0.each; last = own.0.last } in
      let all : EndsWell (x ++ joined xs) = well_joined x xs well
      (All-weaker IsCrumb EndsWell (λ y k. record { some = k.1; each = k.0.each; last = k.0.last }) xs (All-tail IsCrumb x xs h)) in
      record { each = all.each; first = subst (λ (z : ℕ). IsFalse (is_blank z)) (sym (first_append x (joined xs) own.1)) own.0.first; last = all.last }

  crumbs_value : (values : List (List ℕ)) → All (IsValueOf test) values → IsValueOf test (crumbs values)
  crumbs_value values h =
      let kept : List (List ℕ) = filter (λ value. not (is_empty value)) values in
      join_value kept (all_both (IsValueOf test) (λ x. 0 < length x) kept
      (All-filter (λ value. not (is_empty value)) (IsValueOf test) values h)
      (All-weaker (λ (value : List ℕ). not (is_empty value) ≡ true) (λ (value : List ℕ). 0 < length value) nonempty kept (filter_passes (λ value. not (is_empty value)) values)))

  values_good : (name : List ℕ) (fs : List Field) → All (IsFieldOf test) fs → All (IsValueOf test) (values_of name fs)
  values_good name fs h =
      All-map (IsValueOf test) (λ (f : Field). f.value) (filter (λ (f : Field). bytes_eq f.name name) fs)
      (All-weaker (IsFieldOf test) (λ (f : Field). IsValueOf test f.value) (λ f k. k.value) (filter (λ (f : Field). bytes_eq f.name name) fs)
      (All-filter (λ (f : Field). bytes_eq f.name name) (IsFieldOf test) fs h))

  cookie_field : (value : List ℕ) → IsValueOf test value → IsFieldOf test (record { name = cookie; value = value })
  cookie_field value h = record {
    name = record { nonempty = omega arith; each = All-from_recursion (λ b. IsTrue (is_token b)) cookie (refl, (refl, (refl, (refl, (refl, (refl, tt)))))) };
    lower_case = refl;
    value = h;
  }

  one_cookie_good : (fs : List Field) → All (IsFieldOf test) fs → All (IsFieldOf test) (one_cookie fs)
  one_cookie_good [] h = h
  one_cookie_good (f ∷ fs) h =
      cond_both (bytes_eq f.name cookie) _ _ (All (IsFieldOf test))
      (λ e. All-cons (IsFieldOf test) (record { name = cookie; value = crumbs (values_of cookie (f ∷ fs)) }) (without (cookie ∷ []) fs)
      (cookie_field (crumbs (values_of cookie (f ∷ fs))) (crumbs_value (values_of cookie (f ∷ fs)) (values_good cookie (f ∷ fs) h)))
      (All-filter (λ (g : Field). not (is_among (cookie ∷ []) g.name)) (IsFieldOf test) fs (All-tail (IsFieldOf test) f fs h)))
      (other (one_cookie_good fs (All-tail (IsFieldOf test) f fs h)))
    where
      other : All (IsFieldOf test) (one_cookie fs) → bytes_eq f.name cookie ≡ false → All (IsFieldOf test) (f ∷ one_cookie fs)
      other k e = All-cons (IsFieldOf test) f (one_cookie fs) (All-head (IsFieldOf test) f fs h) k

  clean_good : (named : List (List ℕ)) (drop_host : Bool) (fs : List Field) → All (IsFieldOf test) fs → All (IsFieldOf test) (clean named drop_host fs)
  clean_good named drop_host fs h =
      let names : List (List ℕ) = connection_names ++ (named ++ cond drop_host (codes "host" ∷ []) []) in
      one_cookie_good (without names fs) (All-filter (λ (f : Field). not (is_among names f.name)) (IsFieldOf test) fs h)

-- ---- the two classes

head_of : (f : Field) → IsHeadField f → IsFieldOf is_text_value f
head_of f h = record { name = h.name; lower_case = h.lower_case; value = record { each = h.value.each; first = h.value.first; last = h.value.last } }

of_head : (f : Field) → IsFieldOf is_text_value f → IsHeadField f
of_head f h = record { name = h.name; lower_case = h.lower_case; value = record { each = h.value.each; first = h.value.first; last = h.value.last } }

pub clean_fields : (named : List (List ℕ)) (drop_host : Bool) (fs : List Field) → All IsHeadField fs → All IsHeadField (clean named drop_host fs)
clean_fields named drop_host fs h =
    All-weaker (IsFieldOf is_text_value) IsHeadField of_head (clean named drop_host fs)
    (clean_good is_text_value refl refl named drop_host fs (All-weaker IsHeadField (IsFieldOf is_text_value) head_of fs h))

regular_of : (f : Field) → IsRegularField f → IsFieldOf is_value f
regular_of f h = record { name = h.name; lower_case = h.lower_case; value = record { each = h.value.each; first = h.value.first; last = h.value.last } }

of_regular : (f : Field) → IsFieldOf is_value f → IsRegularField f
of_regular f h = record { name = h.name; lower_case = h.lower_case; value = record { each = h.value.each; first = h.value.first; last = h.value.last } }

pub clean_regular : (named : List (List ℕ)) (drop_host : Bool) (fs : List Field) → All IsRegularField fs → All IsRegularField (clean named drop_host fs)
clean_regular named drop_host fs h =
    All-weaker (IsFieldOf is_value) IsRegularField of_regular (clean named drop_host fs)
    (clean_good is_value refl refl named drop_host fs (All-weaker IsRegularField (IsFieldOf is_value) regular_of fs h))

pub trailer_fields : (named : List (List ℕ)) (fs : List Field) → All IsHeadField fs → All IsHeadField (clean_trailers named fs)
trailer_fields named fs h = All-filter (λ (f : Field). not (is_among (connection_names ++ (named ++ kept_names)) f.name)) IsHeadField fs h
