-- The lines of a valid message have texts that can be told apart.
use Rattle.std.proofs.Common.{◌≡◌, ◌≢◌, ◌∙◌, ◌<◌, ◌/◌, ◌%◌, ◌^◌, ℕ, zero, suc, Bool, true, false, refl, sym, ap, ap₂, subst, List, [], ◌∷◌, ◌++◌, map, flat_map, length, take, drop, arith, codes, slice_index, IsTrue}
use Rattle.std.proofs.lemmas.Bool.Decides.{nat_tests}
use Rattle.std.proofs.lemmas.List.Elements.{All-head, All-tail, All-take, All-drop}
use Rattle.std.proofs.lemmas.Str.Parse.{IsNumeralModel, numerals_by_value, tells_digits, digit_from_value}
use Rattle.std.proofs.lemmas.Fmt.{digits_decimal}
use Rattle.std.specs.Bool.{if◌then◌else◌}
use Rattle.std.specs.Fmt.{decimal}
use Rattle.std.specs.List.{All, AllByRecursion, list_all}
use Rattle.std.specs.Prelude.{◌==◌, ◌&&◌, not, nat_lt}
use Rattle.std.specs.Str.Parse.{AllDigits, digits_value}
use Rattle.bh_spec.specs.Bytes.{is_token, is_scheme, is_authority, is_path, is_value}
use Rattle.bh_spec.specs.Messages.{Field, Interim, Start, request, response, Message, IsValid, IsRegularField, IsPseudoField, AreHeaders, IsInterim, IsStart}
use Rattle.bh_spec.specs.Canonical.{cut_within}
use Rattle.bh_spec.specs.Listing.{digit, hex, is_quotable, value_text, Line, status, field, content, trailer, text_of, interim_lines, start_lines, lines_of, content_lines, show}
use Rattle.bh_spec.proofs.ListingTexts.{Avoids, Below, IsGood, same_line, same_lines}
use Rattle.bh_spec.proofs.ListingLines.{one_message}

-- what a test of all bytes tells
by_test : (p : ℕ → Bool) (P : ℕ → Type 0) → ((b : ℕ) → p b ≡ true → P b) → (xs : List ℕ) → All (λ b. IsTrue (p b)) xs → AllByRecursion P xs
by_test p P tells [] all = tt
by_test p P tells (x ∷ xs) all = (tells x (All-head (λ b. IsTrue (p b)) x xs all), by_test p P tells xs (All-tail (λ b. IsTrue (p b)) x xs all))

by_list_test : (p : ℕ → Bool) (P : ℕ → Type 0) → ((b : ℕ) → p b ≡ true → P b) → (xs : List ℕ) → list_all p xs ≡ true → AllByRecursion P xs
by_list_test p P tells [] all = tt
by_list_test p P tells (x ∷ xs) all = go (p x) refl all (by_list_test p P tells xs)
  where
    go : (b : Bool) → p x ≡ b → (b && list_all p xs) ≡ true → (list_all p xs ≡ true → AllByRecursion P xs) → P x × AllByRecursion P xs
    go true e rest next = (tells x e, next rest)
    go false e rest next = absurd cc

-- a byte that doesn't pass is none of them
other_byte : (p : ℕ → Bool) (stop : ℕ) → p stop ≡ false → (b : ℕ) → p b ≡ true → b ≢ stop
other_byte p stop none b passed e = let bad : true ≡ false = sym passed ∙ (ap p e ∙ none) in absurd cc

avoids : (p : ℕ → Bool) (stop : ℕ) → p stop ≡ false → (xs : List ℕ) → All (λ b. IsTrue (p b)) xs → Avoids stop xs
avoids p stop none = by_test p (λ b. b ≢ stop) (other_byte p stop none)

literal : (t : List ℕ) → list_all (λ b. not (b == 10)) t ≡ true → Avoids 10 t
literal t e = by_list_test (λ b. not (b == 10)) (λ b. b ≢ 10) (other_byte (λ b. not (b == 10)) 10 refl) t e

both : (xs ys : List ℕ) → Avoids 10 xs → Avoids 10 ys → Avoids 10 (xs ++ ys)
both [] ys a b = b
both (x ∷ xs) ys a b = (a.0, both xs ys a.1 b)

and_left : (a b : Bool) → (a && b) ≡ true → a ≡ true
and_left true b e = refl
and_left false b e = absurd cc

below : (b : ℕ) → is_value b ≡ true → b < 256
below b e = let small : nat_lt b 256 ≡ true = and_left (nat_lt b 256) _ e in grind (arith, nat_tests)

-- ---- parts of lines
model : IsNumeralModel (AllDigits 10) (digits_value 10)
model = numerals_by_value (AllDigits 10) tells_digits

decimal_avoids : (n : ℕ) → n < 2 ^ 64 → Avoids 10 (decimal n)
decimal_avoids n fits = go (decimal n) (digits_decimal model n fits)
  where
    go : (ds : List ℕ) → AllDigits 10 ds → Avoids 10 ds
    go [] all = tt
    go (d ∷ ds) all = let range = digit_from_value d all.0 in ((λ e. absurd (omega (arith, range.0, e))), go ds all.1)

digit_avoids : (n : ℕ) → digit n ≢ 10
digit_avoids = in_table (codes "0123456789abcdef") (literal (codes "0123456789abcdef") refl)
  where
    in_table : (xs : List ℕ) → Avoids 10 xs → (n : ℕ) → slice_index xs n ≢ 10
    in_table [] h n e = absurd (omega (arith, e))
    in_table (x ∷ xs) h zero e = h.0 e
    in_table (x ∷ xs) h (suc n) e = in_table xs h.1 n e

hex_avoids : (bytes : List ℕ) → Avoids 10 (hex bytes)
hex_avoids [] = tt
hex_avoids (b ∷ bs) = (digit_avoids (b / 16), (digit_avoids (b % 16), hex_avoids bs))

value_avoids : (v : List ℕ) → Avoids 10 (value_text v)
value_avoids v = go (list_all is_quotable v) refl
  where
    go : (b : Bool) → list_all is_quotable v ≡ b → Avoids 10 (if b then codes "\"" ++ (v ++ codes "\"") else codes "hex:" ++ hex v)
    go true e = both (codes "\"") (v ++ codes "\"") (literal (codes "\"") refl)
        (both v (codes "\"") (by_list_test is_quotable (λ b. b ≢ 10) (other_byte is_quotable 10 refl) v e) (literal (codes "\"") refl))
    go false e = both (codes "hex:") (hex v) (literal (codes "hex:") refl) (hex_avoids v)

-- a field line or a trailer line
abbrev IsFine : Line → Type 0
IsFine l = IsGood l × Avoids 10 (text_of l)

abbrev IsNamed : Field → Type 0
IsNamed f = Avoids 32 f.name × Avoids 10 f.name × Below 256 f.value

rest_avoids : (f : Field) → IsNamed f → Avoids 10 (f.name ++ (codes " " ++ value_text f.value))
rest_avoids f h = both f.name (codes " " ++ value_text f.value) h.1 (both (codes " ") (value_text f.value) (literal (codes " ") refl) (value_avoids f.value))

field_fine : (f : Field) → IsNamed f → IsFine (field f)
field_fine f h = ((h.0, h.2), both (codes "field ") _ (literal (codes "field ") refl) (rest_avoids f h))

trailer_fine : (f : Field) → IsNamed f → IsFine (trailer f)
trailer_fine f h = ((h.0, h.2), both (codes "trailer ") _ (literal (codes "trailer ") refl) (rest_avoids f h))

content_fine : (bytes : List ℕ) → Below 256 bytes → IsFine (content bytes)
content_fine bytes h = (h, both (codes "content ") (hex bytes) (literal (codes "content ") refl) (hex_avoids bytes))

-- ---- the fields of a valid message
regular_named : (f : Field) → IsRegularField f → IsNamed f
regular_named f h = (avoids is_token 32 refl f.name h.name.each, avoids is_token 10 refl f.name h.name.each, by_test is_value (λ b. b < 256) below f.value h.value.each)

pseudo_named : (f : Field) → IsPseudoField f → IsNamed f
pseudo_named f h =
    let c = h.name.colon in (
      subst (Avoids 32) (sym c.1) ((λ e. absurd (omega (arith, e))), avoids is_token 32 refl c.0 c.2.each),
      subst (Avoids 10) (sym c.1) ((λ e. absurd (omega (arith, e))), avoids is_token 10 refl c.0 c.2.each),
      by_test is_value (λ b. b < 256) below f.value h.value.each,
    )

each_named : (P : Field → Type 0) → ((f : Field) → P f → IsNamed f) → (fs rest : List Field) → All P fs → AllByRecursion IsNamed rest → AllByRecursion IsNamed (fs ++ rest)
each_named P named [] rest all more = more
each_named P named (f ∷ fs) rest all more = (named f (All-head P f fs all), each_named P named fs rest (All-tail P f fs all) more)

trailers_named : (fs : List Field) → All IsRegularField fs → AllByRecursion IsNamed fs
trailers_named [] all = tt
trailers_named (f ∷ fs) all = (regular_named f (All-head IsRegularField f fs all), trailers_named fs (All-tail IsRegularField f fs all))

headers_named : (fs : List Field) → AreHeaders fs → AllByRecursion IsNamed fs
headers_named fs h = subst (AllByRecursion IsNamed) (sym h.2) (each_named IsPseudoField pseudo_named h.0 h.1 h.3 (trailers_named h.1 h.4))

-- ---- the lines
abbrev pub AreFine : List Line → Type 0
AreFine = AllByRecursion IsFine

onto : (ls ks : List Line) → AreFine ls → AreFine ks → AreFine (ls ++ ks)
onto [] ks a b = b
onto (l ∷ ls) ks a b = (a.0, onto ls ks a.1 b)

fields_fine : (fs : List Field) → AllByRecursion IsNamed fs → AreFine (map field fs)
fields_fine [] all = tt
fields_fine (f ∷ fs) all = (field_fine f all.0, fields_fine fs all.1)

trailers_fine : (fs : List Field) → AllByRecursion IsNamed fs → AreFine (map trailer fs)
trailers_fine [] all = tt
trailers_fine (f ∷ fs) all = (trailer_fine f all.0, trailers_fine fs all.1)

cut_fine : (turns : ℕ) (bytes : List ℕ) → All (λ b. b < 256) bytes → AreFine (map content (cut_within turns 32 bytes))
cut_fine zero bytes all = tt
cut_fine (suc turns) [] all = tt
cut_fine (suc turns) (b ∷ rest) all =
    (content_fine (take 32 (b ∷ rest)) (below_all (take 32 (b ∷ rest)) (All-take (λ x. x < 256) 32 (b ∷ rest) all)), cut_fine turns (drop 32 (b ∷ rest)) (All-drop (λ x. x < 256) 32 (b ∷ rest) all))
  where
    below_all : (xs : List ℕ) → All (λ b. b < 256) xs → Below 256 xs
    below_all [] all = tt
    below_all (x ∷ xs) all = (All-head (λ b. b < 256) x xs all, below_all xs (All-tail (λ b. b < 256) x xs all))

interim_fine : (i : Interim) → IsInterim i → AreFine (interim_lines i)
interim_fine i h =
    let high = h.number.high in
    let fits : i.status < 2 ^ 64 = omega arith in
    ((fits, both (codes "interim ") (decimal i.status) (literal (codes "interim ") refl) (decimal_avoids i.status fits)), fields_fine i.fields (headers_named i.fields h.fields))

interims_fine : (is : List Interim) → All IsInterim is → AreFine (flat_map interim_lines is)
interims_fine [] all = tt
interims_fine (i ∷ is) all = onto (interim_lines i) (flat_map interim_lines is) (interim_fine i (All-head IsInterim i is all)) (interims_fine is (All-tail IsInterim i is all))

start_fine : (s : Start) → IsStart s → AreFine (start_lines s)
start_fine (request c) h = (
  (tt, literal (codes "request") refl),
  (
    (tt, both (codes "method ") c.method (literal (codes "method ") refl) (avoids is_token 10 refl c.method h.method.each)),
    (
      (tt, both (codes "scheme ") c.scheme (literal (codes "scheme ") refl) (avoids is_scheme 10 refl c.scheme h.scheme.each)),
      (
        (tt, both (codes "authority \"") (c.authority ++ codes "\"") (literal (codes "authority \"") refl) (both c.authority (codes "\"") (avoids is_authority 10 refl c.authority h.authority) (literal (codes "\"") refl))),
        (
          (tt, both (codes "path \"") (c.path ++ codes "\"") (literal (codes "path \"") refl) (both c.path (codes "\"") (avoids is_path 10 refl c.path h.path.each) (literal (codes "\"") refl))),
          tt,
        ),
      ),
    ),
  ),
)
start_fine (response is n) h =
    let high = h.final.high in
    let fits : n < 2 ^ 64 = omega arith in (
      (tt, literal (codes "response") refl),
      onto (flat_map interim_lines is) (status n ∷ []) (interims_fine is h.each)
          ((fits, both (codes "status ") (decimal n) (literal (codes "status ") refl) (decimal_avoids n fits)), tt),
    )

pub message_fine : (m : Message) → IsValid m → AreFine (lines_of m)
message_fine m h = onto (start_lines m.start) _ (start_fine m.start h.start)
    (onto (map field m.fields) _ (fields_fine m.fields (headers_named m.fields h.fields))
    (onto (content_lines m.content) _ (cut_fine (length m.content) m.content h.content)
    (onto (map trailer m.trailers) _ (trailers_fine m.trailers (trailers_named m.trailers h.trailers)) ((tt, literal (codes "end") refl), tt))))

-- ---- fine lines with equal texts are equal
pub texts_avoid : (ls : List Line) → AreFine ls → AllByRecursion (Avoids 10) (map text_of ls)
texts_avoid [] all = tt
texts_avoid (l ∷ ls) all = (all.0.1, texts_avoid ls all.1)

same_all : (ls ks : List Line) → AreFine ls → AreFine ks → map text_of ls ≡ map text_of ks → ls ≡ ks
same_all [] [] a b e = refl
same_all [] (k ∷ ks) a b e = absurd cc
same_all (l ∷ ls) [] a b e = absurd cc
same_all (l ∷ ls) (k ∷ ks) a b e =
    let head : text_of l ≡ text_of k = cc in
    let tail : map text_of ls ≡ map text_of ks = cc in
    ap₂ (λ x xs. x ∷ xs) (same_line l k a.0.0 b.0.0 head) (same_all ls ks a.1 b.1 tail)

pub by_texts : (ls : List Line) → flat_map (λ l. text_of l ++ (10 ∷ [])) ls ≡ flat_map (λ x. x ++ (10 ∷ [])) (map text_of ls)
by_texts [] = refl
by_texts (l ∷ ls) = ap (λ x. (text_of l ++ (10 ∷ [])) ++ x) (by_texts ls)

pub one_listing : (m n : Message) → IsValid m → IsValid n → show m ≡ show n → m ≡ n
one_listing m n hm hn e =
    let fm = message_fine m hm in
    let fn = message_fine n hn in
    one_message m n (same_all (lines_of m) (lines_of n) fm fn
    (same_lines (map text_of (lines_of m)) (map text_of (lines_of n)) (texts_avoid (lines_of m) fm) (texts_avoid (lines_of n) fn)
    (sym (by_texts (lines_of m)) ∙ (e ∙ by_texts (lines_of n)))))
