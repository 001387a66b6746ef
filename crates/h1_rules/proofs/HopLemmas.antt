-- Hops, value by value and piece by piece.
use Rattle.std.proofs.Common.{◌≡◌, ◌≢◌, ◌<◌, ◌≤◌, ◌+◌, ◌↔◌, ℕ, Bool, true, false, cond, nat_eq, bytes_eq, List, [], ◌∷◌, ◌++◌, map, filter, flat_map, length, drop, IsTrue, refl, sym, ap, ◌∙◌, append_assoc, arith, rules, ne_eqb}
use Rattle.std.specs.Char.{to_ascii_lowercase}
use Rattle.std.proofs.lemmas.Bool.{cond-true, cond-false}
use Rattle.std.proofs.lemmas.List.{map-append}
use Rattle.std.proofs.lemmas.List.Elements.{filter-append, All-weaker, All-nil, All-cons, All-head, All-tail}
use Rattle.std.proofs.lemmas.List.Splits.{slice_split_at, slice_split_none, slice_split-cons_yes}
use Rattle.std.proofs.lemmas.List.Sums.{AllPass-from_list_all, list_all-from_AllPass}
use Rattle.std.specs.List.{All, list_all, slice_split, onto_first}
use Rattle.bh_spec.specs.Bytes.{is_token, lower}
use Rattle.bh_spec.specs.Messages.{Field}
use Rattle.bh_model.specs.Lines.{lines_room}
use Rattle.h1_spec.specs.Cleaning.{values_of, is_word, trim, names_in}
use Rattle.h1_head.specs.Cuts.{Lacks}
use Rattle.h1_rules.specs.Hopping.{is_hop, hops_in, hops_of_piece, hops_of_values, names_held}

-- ---- words

pub same_answer : (a b : Bool) → (a ≡ true → b ≡ true) → (b ≡ true → a ≡ true) → a ≡ b
same_answer true b f g = sym (f refl)
same_answer false true f g = g refl
same_answer false false f g = refl

pub word_by : (bytes : List ℕ) (b : Bool) → 0 < length bytes → (b ≡ true) ↔ All (λ byte. IsTrue (is_token byte)) bytes → b ≡ is_word bytes
word_by [] b some h = absurd (omega arith)
word_by (byte ∷ rest) b some h =
    same_answer b (list_all is_token (byte ∷ rest))
    (λ e. list_all-from_AllPass is_token (byte ∷ rest) (h.0 e))
    (λ e. h.1 (AllPass-from_list_all is_token (byte ∷ rest) e))

-- ---- pieces

abbrev hops_of_pieces : List (List ℕ) → List (List ℕ)
hops_of_pieces pieces = filter is_hop (map lower (filter is_word (map trim pieces)))

pieces_append : (a b : List (List ℕ)) → hops_of_pieces (a ++ b) ≡ hops_of_pieces a ++ hops_of_pieces b
pieces_append a b =
    ap (λ (ps : List (List ℕ)). filter is_hop (map lower (filter is_word ps))) (map-append trim a b)
    ∙ ap (λ (ps : List (List ℕ)). filter is_hop (map lower ps)) (filter-append is_word (map trim a) (map trim b))
    ∙ ap (filter is_hop) (map-append lower (filter is_word (map trim a)) (filter is_word (map trim b)))
    ∙ filter-append is_hop (map lower (filter is_word (map trim a))) (map lower (filter is_word (map trim b)))

abbrev is_comma : ℕ → Bool
is_comma byte = nat_eq byte 44

lacks_comma : (bytes : List ℕ) → Lacks 44 bytes → All (λ byte. is_comma byte ≡ false) bytes
lacks_comma bytes h = All-weaker (λ (byte : ℕ). byte ≡ 44 → ⊥) (λ (byte : ℕ). is_comma byte ≡ false) (λ byte n. ne_eqb byte 44 n) bytes h

-- a value is its first piece, and the rest behind the comma
pub first_of_pieces : (value piece more : List ℕ) → Lacks 44 piece → value ≡ piece ++ (44 ∷ more) → hops_in value ≡ hops_of_piece piece ++ hops_in more
first_of_pieces value piece more h e =
    ap hops_in e
    ∙ ap hops_of_pieces (slice_split_at is_comma piece 44 more (lacks_comma piece h) refl)
    ∙ pieces_append (piece ∷ []) (slice_split is_comma more)

pub last_of_pieces : (value : List ℕ) → Lacks 44 value → hops_in value ≡ hops_of_piece value
last_of_pieces value h = ap hops_of_pieces (slice_split_none is_comma value (lacks_comma value h))

-- what stands before a list stays before it
pub moved : {X : Type 0} (a b c d all : List X) → a ++ b ≡ all → b ≡ c ++ d → (a ++ c) ++ d ≡ all
moved a b c d all e f = append_assoc a c d ∙ ap (λ (x : List _). a ++ x) (sym f) ∙ e

-- ---- names that are stored with a comma before each

-- there is a first part
pub record HasFirst {X : Type 0} (parts : List (List X)) : Type 0 where
  pub first : List X
  pub more : List (List X)
  pub are : parts ≡ first ∷ more

first_cut : {X : Type 0} (x : X) (b : Bool) (parts : List (List X)) → HasFirst parts → HasFirst (cond b ([] ∷ parts) (onto_first x parts))
first_cut x true parts h = record { first = []; more = parts; are = refl }
first_cut x false parts h = record { first = x ∷ h.first; more = h.more; are = ap (onto_first x) h.are }

some_split : {X : Type 0} (p : X → Bool) (xs : List X) → HasFirst (slice_split p xs)
some_split p [] = record { first = []; more = []; are = refl }
some_split p (x ∷ xs) = first_cut x (p x) (slice_split p xs) (some_split p xs)

cut_join : {X : Type 0} (x : X) (b : Bool) (all parts more : List (List X)) → HasFirst parts → all ≡ parts ++ more
    → cond b ([] ∷ all) (onto_first x all) ≡ cond b ([] ∷ parts) (onto_first x parts) ++ more
cut_join x true all parts more h e = ap (λ (ps : List (List _)). [] ∷ ps) e
cut_join x false all parts more h e =
    ap (onto_first x) (e ∙ ap (λ (ps : List (List _)). ps ++ more) h.are)
    ∙ ap (λ (ps : List (List _)). onto_first x ps ++ more) (sym h.are)

split_join : {X : Type 0} (p : X → Bool) (xs : List X) (y : X) (ys : List X) → p y ≡ true → slice_split p (xs ++ y ∷ ys) ≡ slice_split p xs ++ slice_split p ys
split_join p [] y ys e = slice_split-cons_yes p y ys e
split_join p (x ∷ xs) y ys e = cut_join x (p x) (slice_split p (xs ++ y ∷ ys)) (slice_split p xs) (slice_split p ys) (some_split p xs) (split_join p xs y ys e)

-- one name more
pub one_held : (held name : List ℕ) → Lacks 44 name → names_held (held ++ (44 ∷ name)) ≡ names_held held ++ name ∷ []
one_held held name h =
    let s = some_split is_comma held in
    ap (λ (ps : List (List ℕ)). drop 1 ps) (split_join is_comma held 44 name refl ∙ ap (λ (ps : List (List ℕ)). slice_split is_comma held ++ ps) (slice_split_none is_comma name (lacks_comma name h)))
    ∙ ap (λ (ps : List (List ℕ)). drop 1 (ps ++ name ∷ [])) s.are
    ∙ ap (λ (ps : List (List ℕ)). drop 1 ps ++ name ∷ []) (sym s.are)

word_tokens : (word : List ℕ) → is_word word ≡ true → All (λ byte. IsTrue (is_token byte)) word
word_tokens [] e = absurd (cc)
word_tokens (byte ∷ rest) e = AllPass-from_list_all is_token (byte ∷ rest) e

is_no_comma : (byte : ℕ) → IsTrue (is_token byte) → to_ascii_lowercase byte ≢ 44
is_no_comma byte h = search rules

-- no comma stands in a token
pub lower_lacks : (name : List ℕ) → All (λ byte. IsTrue (is_token byte)) name → Lacks 44 (lower name)
lower_lacks [] h = All-nil (λ (b : ℕ). b ≢ 44)
lower_lacks (byte ∷ rest) h =
    All-cons (λ (b : ℕ). b ≢ 44) (to_ascii_lowercase byte) (lower rest)
    (is_no_comma byte (All-head (λ (b : ℕ). IsTrue (is_token b)) byte rest h)) (lower_lacks rest (All-tail (λ (b : ℕ). IsTrue (is_token b)) byte rest h))

-- and the name that a piece is
pub piece_held : (held grown piece word : List ℕ) → grown ≡ held ++ (44 ∷ lower word) → word ≡ trim piece → is_word word ≡ true → is_hop (lower word) ≡ true
    → names_held grown ≡ names_held held ++ hops_of_piece piece
piece_held held grown piece word e same is may =
    ap names_held e
    ∙ one_held held (lower word) (lower_lacks word (word_tokens word is))
    ∙ ap (λ (names : List (List ℕ)). names_held held ++ names)
    (sym (ap (λ (w : List ℕ). filter is_hop (map lower (filter is_word (w ∷ [])))) (sym same)
    ∙ ap (λ (ws : List (List ℕ)). filter is_hop (map lower ws)) (cond-true (is_word word) _ _ is)
    ∙ cond-true (is_hop (lower word)) _ _ may))

-- a value, and those behind it
pub first_of_values : (values more : List (List ℕ)) (value : List ℕ) → values ≡ value ∷ more → hops_of_values values ≡ hops_in value ++ hops_of_values more
first_of_values values more value e = ap hops_of_values e ∙ filter-append is_hop (names_in value) (flat_map names_in more)

-- ---- room

-- a comma and a value each
abbrev pub values_room : List (List ℕ) → ℕ
values_room [] = 0
values_room (value ∷ rest) = length value + 1 + values_room rest

value_fits : (b : Bool) (name : List ℕ) (line : Field) (rest : List Field) → bytes_eq line.name name ≡ b
    → values_room (values_of name rest) ≤ lines_room rest → values_room (values_of name (line ∷ rest)) ≤ lines_room (line ∷ rest)
value_fits true name line rest e h =
    let values : values_room (values_of name (line ∷ rest)) ≡ values_room (line.value ∷ values_of name rest) = ap (λ (fs : List Field). values_room (map (λ (f : Field). f.value) fs)) (cond-true (bytes_eq line.name name) _ _ e) in
    omega arith
value_fits false name line rest e h =
    let values : values_room (values_of name (line ∷ rest)) ≡ values_room (values_of name rest) = ap (λ (fs : List Field). values_room (map (λ (f : Field). f.value) fs)) (cond-false (bytes_eq line.name name) _ _ e) in
    omega arith

-- the values of a name use less room than the lines
pub values_fit : (name : List ℕ) (lines : List Field) → values_room (values_of name lines) ≤ lines_room lines
values_fit name [] = omega arith
values_fit name (line ∷ rest) = value_fits (bytes_eq line.name name) name line rest refl (values_fit name rest)
