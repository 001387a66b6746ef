-- Cookies in one line, value by value and line by line.
use Rattle.std.specs.Prelude.{IsSomeAnd}
use Rattle.std.proofs.Common.{drop, slice_get, Option, Some, option_map, ◌<◌, subst, ◌≡◌, ◌≤◌, ◌+◌, ℕ, Bool, true, false, cond, not, nat_eq, ◌||◌, List, [], ◌∷◌, ◌++◌, map, filter, flat_map, length, codes, bytes_eq, refl, sym, ap, ap₂, ◌∙◌, append_assoc, append-nil, arith, ne_eqb}
use Rattle.std.proofs.lemmas.Bool.{cond-true, cond-false, false≢true}
use Rattle.std.proofs.lemmas.List.{length-append}
use Rattle.std.proofs.lemmas.List.Elements.{All-head, All-tail}
use Rattle.bh_spec.specs.Messages.{Field}
use Rattle.bh_model.specs.Lines.{FieldsView, line_room, lines_room, value_grown_by}
use Rattle.h1_spec.specs.Cleaning.{is_empty, is_among, values_of, without, cookie, crumbs, one_cookie}
use Rattle.h1_spec.proofs.Lists.{same_name}
use Rattle.h1_spec.proofs.Cleaned.{LacksName, lacks_name, without_lacks}
use Rattle.h1_rules.proofs.Values.{drop_line}
use Rattle.h1_rules.specs.Own.{is_cookie, with_crumb, crumb_bytes, own_line, own_lines, is_dropped}

by_test : {P : Type 0} (b : Bool) → (b ≡ true → P) → (b ≡ false → P) → P
by_test true f g = f refl
by_test false f g = g refl

-- ---- values

pub with_crumb_assoc : (a b c : List ℕ) → with_crumb (with_crumb a b) c ≡ with_crumb a (with_crumb b c)
with_crumb_assoc [] b c = refl
with_crumb_assoc (x ∷ a) [] c = refl
with_crumb_assoc (x ∷ a) (y ∷ b) [] = refl
with_crumb_assoc (x ∷ a) (y ∷ b) (z ∷ c) =
    append_assoc (x ∷ a) (codes "; " ++ (y ∷ b)) (codes "; " ++ (z ∷ c))
    ∙ ap (λ (w : List ℕ). (x ∷ a) ++ w) (append_assoc (codes "; ") (y ∷ b) (codes "; " ++ (z ∷ c)))

some_crumbs : (byte : ℕ) (rest : List ℕ) (values : List (List ℕ)) → crumbs ((byte ∷ rest) ∷ values) ≡ with_crumb (byte ∷ rest) (crumbs values)
some_crumbs byte rest [] = append-nil (byte ∷ rest)
some_crumbs byte rest ([] ∷ values) = some_crumbs byte rest values
some_crumbs byte rest ((first ∷ more) ∷ values) =
    ap (λ (w : List ℕ). (byte ∷ rest) ++ w)
    (append_assoc (codes "; ") (first ∷ more) (flat_map (λ value. codes "; " ++ value) (filter (λ value. not (is_empty value)) values)))

pub first_crumb : (value : List ℕ) (values : List (List ℕ)) → crumbs (value ∷ values) ≡ with_crumb value (crumbs values)
first_crumb [] values = refl
first_crumb (byte ∷ rest) values = some_crumbs byte rest values

-- one more value behind those that stand there
pub crumb_more : (items value : List ℕ) (values more : List (List ℕ)) (all : List ℕ) → values ≡ value ∷ more → with_crumb items (crumbs values) ≡ all
    → with_crumb (with_crumb items value) (crumbs more) ≡ all
crumb_more items value values more all e h =
    with_crumb_assoc items value (crumbs more) ∙ ap (with_crumb items) (sym (first_crumb value more) ∙ ap crumbs (sym e)) ∙ h

-- ---- lines

-- the cookie line with a value, at the place of the first
abbrev with_cookie : List ℕ → List Field → List Field
with_cookie value [] = []
with_cookie value (field ∷ rest) = cond (is_cookie field.name) (record { name = cookie; value = value } ∷ without (cookie ∷ []) rest)
    (field ∷ with_cookie value rest)

abbrev value_in : Field → List ℕ
value_in field = field.value

values_skip : (field : Field) (rest : List Field) → is_cookie field.name ≡ false → values_of cookie (field ∷ rest) ≡ values_of cookie rest
values_skip field rest e = ap (map value_in) (cond-false (is_cookie field.name) _ _ e)

values_take : (field : Field) (rest : List Field) → is_cookie field.name ≡ true → values_of cookie (field ∷ rest) ≡ field.value ∷ values_of cookie rest
values_take field rest e = ap (map value_in) (cond-true (is_cookie field.name) _ _ e)

one_with : (fields : List Field) → one_cookie fields ≡ with_cookie (crumbs (values_of cookie fields)) fields
one_with [] = refl
one_with (field ∷ rest) =
    by_test (is_cookie field.name)
    (λ e. cond-true (is_cookie field.name) _ _ e ∙ sym (cond-true (is_cookie field.name) _ _ e))
    (λ e. cond-false (is_cookie field.name) _ _ e
    ∙ ap (λ (fs : List Field). field ∷ fs) (one_with rest ∙ ap (λ (vs : List (List ℕ)). with_cookie (crumbs vs) rest) (sym (values_skip field rest e)))
    ∙ sym (cond-false (is_cookie field.name) _ _ e))

-- a line that is dropped, and one that stays
without_drops : (names : List (List ℕ)) (field : Field) (rest : List Field) → is_among names field.name ≡ true → without names (field ∷ rest) ≡ without names rest
without_drops names field rest e = cond-false (not (is_among names field.name)) _ _ (ap not e)

without_keeps : (names : List (List ℕ)) (field : Field) (rest : List Field) → is_among names field.name ≡ false → without names (field ∷ rest) ≡ field ∷ without names rest
without_keeps names field rest e = cond-true (not (is_among names field.name)) _ _ (ap not e)

own_drops : (names : List (List ℕ)) (value : List ℕ) (joined : Bool) (field : Field) (rest : List Field) → is_dropped names joined field.name ≡ true
    → own_lines names value joined (field ∷ rest) ≡ own_lines names value joined rest
own_drops names value joined field rest e = cond-true (is_dropped names joined field.name) _ _ e

own_keeps : (names : List (List ℕ)) (value : List ℕ) (joined : Bool) (field : Field) (rest : List Field) → is_dropped names joined field.name ≡ false
    → own_lines names value joined (field ∷ rest) ≡ own_line value field ∷ own_lines names value (joined || is_cookie field.name) rest
own_keeps names value joined field rest e = cond-false (is_dropped names joined field.name) _ _ e

-- no line but a cookie's changes
own_same : (value : List ℕ) (field : Field) → is_cookie field.name ≡ false → own_line value field ≡ field
own_same value field e = ap (λ (v : List ℕ). let f : Field = record { name = field.name; value = v } in f) (cond-false (is_cookie field.name) _ _ e)

own_cookie : (value : List ℕ) (field : Field) → is_cookie field.name ≡ true → let line : Field = record { name = cookie; value = value } in own_line value field ≡ line
own_cookie value field e =
    ap₂ (λ (n v : List ℕ). let f : Field = record { name = n; value = v } in f) (same_name field.name cookie e) (cond-true (is_cookie field.name) _ _ e)

-- behind the first cookie
own_behind : (names : List (List ℕ)) (value : List ℕ) (fields : List Field) → own_lines names value true fields ≡ without (cookie ∷ []) (without names fields)
own_behind names value [] = refl
own_behind names value (field ∷ rest) =
    by_test (is_among names field.name)
    (λ d. own_drops names value true field rest (ap (λ (b : Bool). b || is_cookie field.name) d)
    ∙ own_behind names value rest
    ∙ ap (without (cookie ∷ [])) (sym (without_drops names field rest d)))
    (λ d. by_test (is_cookie field.name)
    (λ e. own_drops names value true field rest (ap₂ (λ (b c : Bool). b || c) d e)
    ∙ own_behind names value rest
    ∙ sym (ap (without (cookie ∷ [])) (without_keeps names field rest d)
    ∙ without_drops (cookie ∷ []) field (without names rest) (ap (λ (b : Bool). b || false) e)))
    (λ e. own_keeps names value true field rest (ap₂ (λ (b c : Bool). b || c) d e)
    ∙ ap₂ (λ (f : Field) (fs : List Field). f ∷ fs) (own_same value field e) (own_behind names value rest)
    ∙ sym (ap (without (cookie ∷ [])) (without_keeps names field rest d)
    ∙ without_keeps (cookie ∷ []) field (without names rest) (ap (λ (b : Bool). b || false) e))))

-- and before it
own_before : (names : List (List ℕ)) (value : List ℕ) (fields : List Field) → own_lines names value false fields ≡ with_cookie value (without names fields)
own_before names value [] = refl
own_before names value (field ∷ rest) =
    by_test (is_among names field.name)
    (λ d. own_drops names value false field rest (ap (λ (b : Bool). b || false) d)
    ∙ own_before names value rest
    ∙ ap (with_cookie value) (sym (without_drops names field rest d)))
    (λ d. by_test (is_cookie field.name)
    (λ e. own_keeps names value false field rest (ap (λ (b : Bool). b || false) d)
    ∙ ap₂ (λ (f : Field) (fs : List Field). f ∷ fs) (own_cookie value field e)
    (ap (λ (b : Bool). own_lines names value b rest) e ∙ own_behind names value rest)
    ∙ sym (ap (with_cookie value) (without_keeps names field rest d) ∙ cond-true (is_cookie field.name) _ _ e))
    (λ e. own_keeps names value false field rest (ap (λ (b : Bool). b || false) d)
    ∙ ap₂ (λ (f : Field) (fs : List Field). f ∷ fs) (own_same value field e)
    (ap (λ (b : Bool). own_lines names value b rest) e ∙ own_before names value rest)
    ∙ sym (ap (with_cookie value) (without_keeps names field rest d) ∙ cond-false (is_cookie field.name) _ _ e)))

-- where no cookie stays, its value doesn't matter
none_with : (value : List ℕ) (fields : List Field) → LacksName cookie fields → with_cookie value fields ≡ fields
none_with value [] h = refl
none_with value (field ∷ rest) h =
    cond-false (is_cookie field.name) _ _ (All-head (λ (f : Field). bytes_eq f.name cookie ≡ false) field rest h)
    ∙ ap (λ (fs : List Field). field ∷ fs) (none_with value rest (All-tail (λ (f : Field). bytes_eq f.name cookie ≡ false) field rest h))

no_cookie : (names : List (List ℕ)) → is_among names cookie ≡ true → (own : List ℕ) → is_among names own ≡ false → is_cookie own ≡ false
no_cookie names h own n =
    by_test (is_cookie own)
    (λ e. absurd (false≢true (sym n ∙ ap (is_among names) (same_name own cookie e) ∙ h)))
    (λ e. e)

cookies_stay : (names : List (List ℕ)) → is_among names cookie ≡ false → (fields : List Field) → values_of cookie (without names fields) ≡ values_of cookie fields
cookies_stay names h [] = refl
cookies_stay names h (field ∷ rest) =
    by_test (is_among names field.name)
    (λ d. ap (values_of cookie) (without_drops names field rest d) ∙ cookies_stay names h rest ∙ sym (values_skip field rest (other d)))
    (λ d. ap (values_of cookie) (without_keeps names field rest d)
    ∙ by_test (is_cookie field.name)
    (λ e. values_take field (without names rest) e ∙ ap (λ (vs : List (List ℕ)). field.value ∷ vs) (cookies_stay names h rest) ∙ sym (values_take field rest e))
    (λ e. values_skip field (without names rest) e ∙ cookies_stay names h rest ∙ sym (values_skip field rest e)))
  where
    other : is_among names field.name ≡ true → is_cookie field.name ≡ false
    other d = by_test (is_cookie field.name) (λ e. absurd (false≢true (sym h ∙ ap (is_among names) (sym (same_name field.name cookie e)) ∙ d))) (λ e. e)

-- Line by line the section is what the definition says, with the values of all cookies.
cleaned_is : (names : List (List ℕ)) (fields : List Field) → own_lines names (crumbs (values_of cookie fields)) false fields ≡ one_cookie (without names fields)
cleaned_is names fields =
    own_before names (crumbs (values_of cookie fields)) fields
    ∙ by_test (is_among names cookie)
    (λ h. let none = lacks_name names cookie (no_cookie names h) (without names fields) (without_lacks names fields) in
    none_with (crumbs (values_of cookie fields)) (without names fields) none
    ∙ sym (none_with (crumbs (values_of cookie (without names fields))) (without names fields) none))
    (λ h. ap (λ (vs : List (List ℕ)). with_cookie (crumbs vs) (without names fields)) (sym (cookies_stay names h fields)))
    ∙ sym (one_with (without names fields))

pub own_clean : (names : List (List ℕ)) (value : List ℕ) (fields : List Field) → value ≡ crumbs (values_of cookie fields)
    → own_lines names value false fields ≡ one_cookie (without names fields)
own_clean names value fields e = ap (λ (v : List ℕ). own_lines names v false fields) e ∙ cleaned_is names fields

-- ---- room

abbrev crumb_room : List ℕ → ℕ
crumb_room [] = 0
crumb_room (byte ∷ rest) = length (byte ∷ rest) + 2

with_room : (value crumbs : List ℕ) → (length (with_crumb value crumbs) ≤ length value + crumb_room crumbs)
    × (crumb_room (with_crumb value crumbs) ≤ length value + 2 + crumb_room crumbs)
with_room [] [] = (omega arith, omega arith)
with_room [] (first ∷ more) = (omega arith, omega arith)
with_room (byte ∷ rest) [] = (omega arith, omega arith)
with_room (byte ∷ rest) (first ∷ more) =
    let n : length ((byte ∷ rest) ++ (codes "; " ++ (first ∷ more))) ≡ length (byte ∷ rest) + length (codes "; " ++ (first ∷ more)) = length-append (byte ∷ rest) (codes "; " ++ (first ∷ more)) in
    (omega arith, omega arith)

kept_room : (names : List (List ℕ)) (field : Field) (rest : List Field) → lines_room (without names (field ∷ rest)) ≤ line_room field + lines_room (without names rest)
kept_room names field rest =
    by_test (is_among names field.name)
    (λ d. let e = ap lines_room (without_drops names field rest d) in omega arith)
    (λ d. let e = ap lines_room (without_keeps names field rest d) in omega arith)

pub without_room : (names : List (List ℕ)) (fields : List Field) → lines_room (without names fields) ≤ lines_room fields
without_room names [] = omega arith
without_room names (field ∷ rest) = omega (arith, kept_room names field rest, without_room names rest)

kept_count : (names : List (List ℕ)) (field : Field) (rest : List Field) → length (without names (field ∷ rest)) ≤ 1 + length (without names rest)
kept_count names field rest =
    by_test (is_among names field.name)
    (λ d. let e = ap (λ (fs : List Field). length fs) (without_drops names field rest d) in omega arith)
    (λ d. let e = ap (λ (fs : List Field). length fs) (without_keeps names field rest d) in omega arith)

pub without_count : (names : List (List ℕ)) (fields : List Field) → length (without names fields) ≤ length fields
without_count names [] = omega arith
without_count names (field ∷ rest) = omega (arith, kept_count names field rest, without_count names rest)

-- all crumbs, and the other lines
crumbs_room : (fields : List Field) → crumb_room (crumbs (values_of cookie fields)) + lines_room (without (cookie ∷ []) fields) ≤ lines_room fields
crumbs_room [] = omega arith
crumbs_room (field ∷ rest) =
    by_test (is_cookie field.name)
    (λ e. let values = ap (λ (vs : List (List ℕ)). crumb_room (crumbs vs)) (values_take field rest e) ∙ ap crumb_room (first_crumb field.value (values_of cookie rest)) in
    let most = with_room field.value (crumbs (values_of cookie rest)) in
    let others = ap lines_room (without_drops (cookie ∷ []) field rest (ap (λ (b : Bool). b || false) e)) in
    omega (arith, values, most.1, others, crumbs_room rest))
    (λ e. let values = ap (λ (vs : List (List ℕ)). crumb_room (crumbs vs)) (values_skip field rest e) in
    omega (arith, values, kept_room (cookie ∷ []) field rest, crumbs_room rest))

one_joins : (field : Field) (rest : List Field) → is_cookie field.name ≡ true
    → let line : Field = record { name = cookie; value = crumbs (values_of cookie (field ∷ rest)) } in one_cookie (field ∷ rest) ≡ line ∷ without (cookie ∷ []) rest
one_joins field rest e = cond-true (is_cookie field.name) _ _ e

one_keeps : (field : Field) (rest : List Field) → is_cookie field.name ≡ false → one_cookie (field ∷ rest) ≡ field ∷ one_cookie rest
one_keeps field rest e = cond-false (is_cookie field.name) _ _ e

pub one_room : (fields : List Field) → lines_room (one_cookie fields) ≤ lines_room fields
one_room [] = omega arith
one_room (field ∷ rest) =
    by_test (is_cookie field.name)
    (λ e. let lines = ap lines_room (one_joins field rest e) in
    let name = ap (λ (n : List ℕ). length n) (same_name field.name cookie e) in
    let value = ap (λ (v : List ℕ). length v) (ap crumbs (values_take field rest e) ∙ first_crumb field.value (values_of cookie rest)) in
    let most = with_room field.value (crumbs (values_of cookie rest)) in
    omega (arith, lines, name, value, most.0, crumbs_room rest))
    (λ e. let lines = ap lines_room (one_keeps field rest e) in omega (arith, lines, one_room rest))

pub one_count : (fields : List Field) → length (one_cookie fields) ≤ length fields
one_count [] = omega arith
one_count (field ∷ rest) =
    by_test (is_cookie field.name)
    (λ e. let lines = ap (λ (fs : List Field). length fs) (one_joins field rest e) in omega (arith, lines, without_count (cookie ∷ []) rest))
    (λ e. let lines = ap (λ (fs : List Field). length fs) (one_keeps field rest e) in omega (arith, lines, one_count rest))

-- ---- one line more

pub trailer_dropped : (names : List (List ℕ)) (lines : List Field) (i : ℕ) (line : Field) → slice_get lines i ≡ Some line → is_among names line.name ≡ true
    → without names (drop i lines) ≡ without names (drop (i + 1) lines)
trailer_dropped names lines i line e d = ap (without names) (drop_line lines i line e) ∙ without_drops names line (drop (i + 1) lines) d

pub trailer_kept : (names : List (List ℕ)) (lines : List Field) (i : ℕ) (line : Field) → slice_get lines i ≡ Some line → is_among names line.name ≡ false
    → without names (drop i lines) ≡ line ∷ without names (drop (i + 1) lines)
trailer_kept names lines i line e d = ap (without names) (drop_line lines i line e) ∙ without_keeps names line (drop (i + 1) lines) d

pub line_dropped : (names : List (List ℕ)) (value : List ℕ) (joined : Bool) (lines : List Field) (i : ℕ) (line : Field) → slice_get lines i ≡ Some line
    → is_dropped names joined line.name ≡ true → own_lines names value joined (drop i lines) ≡ own_lines names value joined (drop (i + 1) lines)
line_dropped names value joined lines i line e d =
    ap (own_lines names value joined) (drop_line lines i line e) ∙ own_drops names value joined line (drop (i + 1) lines) d

-- the value as it stays, and whether it is a cookie's
pub line_kept : (names : List (List ℕ)) (value : List ℕ) (joined : Bool) (lines : List Field) (i : ℕ) (name own stays : List ℕ) (is : Bool)
    → let line : Field = record { name = name; value = own } in slice_get lines i ≡ Some line → is_dropped names joined name ≡ false
    → stays ≡ cond (is_cookie name) value own → is ≡ is_cookie name
    → let kept : Field = record { name = name; value = stays } in
    own_lines names value joined (drop i lines) ≡ kept ∷ own_lines names value (joined || is) (drop (i + 1) lines)
line_kept names value joined lines i name own stays is e d s c =
    let line : Field = record { name = name; value = own } in
    ap (own_lines names value joined) (drop_line lines i line e) ∙ own_keeps names value joined line (drop (i + 1) lines) d
    ∙ ap₂ (λ (v : List ℕ) (b : Bool). let f : Field = record { name = name; value = v } in f ∷ own_lines names value (joined || b) (drop (i + 1) lines)) (sym s) (sym c)

-- ---- all lines

pub own_room : (names : List (List ℕ)) (value : List ℕ) (fields : List Field) → value ≡ crumbs (values_of cookie fields)
    → (lines_room (own_lines names value false fields) ≤ lines_room fields) × (length (own_lines names value false fields) ≤ length fields)
own_room names value fields e =
    let same = own_clean names value fields e in
    let room = ap lines_room same in
    let count = ap (λ (fs : List Field). length fs) same in
    (omega (arith, room, one_room (without names fields), without_room names fields), omega (arith, count, one_count (without names fields), without_count names fields))

-- ---- the values, in the line that was begun

joined_bytes : (so_far value : List ℕ) → with_crumb so_far value ≡ so_far ++ crumb_bytes (not (is_empty so_far)) value
joined_bytes [] [] = refl
joined_bytes [] (first ∷ more) = refl
joined_bytes (byte ∷ rest) [] = sym (append-nil (byte ∷ rest))
joined_bytes (byte ∷ rest) (first ∷ more) = refl

joined_some : (so_far value : List ℕ) → not (is_empty so_far) || not (is_empty value) ≡ not (is_empty (with_crumb so_far value))
joined_some [] value = refl
joined_some (byte ∷ rest) [] = refl
joined_some (byte ∷ rest) (first ∷ more) = refl

longer : (a b : List ℕ) → length a ≤ length (with_crumb a b)
longer [] b = omega arith
longer (x ∷ a) [] = omega arith
longer (x ∷ a) (y ∷ b) = omega (arith, length-append (x ∷ a) (codes "; " ++ (y ∷ b)))

-- A value stands in the line that is being made since a start, and with what is left it is all.
pub record IsJoining (start to : FieldsView) (some : Bool) (left all : List ℕ) : Type 0 where
  pub value : List ℕ
  pub making : to.making ≡ Some (record { name = cookie; value = value })
  pub stands : some ≡ not (is_empty value)
  pub joined : with_crumb value left ≡ all
  pub room : to.spare + length value ≡ start.spare
  pub lines : to.lines ≡ start.lines
  pub free : to.free ≡ start.free

pub none_joined : (to : FieldsView) (all : List ℕ) → to.making ≡ Some (record { name = cookie; value = [] }) → IsJoining to to false all all
none_joined to all e = record { value = []; making = e; stands = refl; joined = refl; room = omega arith; lines = refl; free = refl }

-- a line is being made, which has a name
pub some_made : (making : Option Field) (value : List ℕ) → making ≡ Some (record { name = cookie; value = value }) → IsSomeAnd making (λ line. 0 < length line.name)
some_made making value e = subst (λ (o : Option Field). IsSomeAnd o (λ line. 0 < length line.name)) (sym e) (omega arith)

-- there is room for the next value
pub crumb_fits : (start to : FieldsView) (some : Bool) (value : List ℕ) (values more : List (List ℕ)) (all : List ℕ) → values ≡ value ∷ more
    → IsJoining start to some (crumbs values) all → length all ≤ start.spare → length (crumb_bytes some value) ≤ to.spare
crumb_fits start to some value values more all e h fits =
    let whole = ap (λ (b : List ℕ). length b) (crumb_more h.value value values more all e h.joined) in
    let grown = ap (λ (b : List ℕ). length b) (joined_bytes h.value value) in
    let same = ap (λ (b : Bool). length (crumb_bytes b value)) h.stands in
    omega (arith, whole, grown, same, longer (with_crumb h.value value) (crumbs more), length-append h.value (crumb_bytes (not (is_empty h.value)) value), h.room, fits)

-- and it was put
pub crumb_put : (start to grown : FieldsView) (some : Bool) (value : List ℕ) (values more : List (List ℕ)) (all : List ℕ) → values ≡ value ∷ more
    → IsJoining start to some (crumbs values) all → grown.lines ≡ to.lines → grown.making ≡ option_map (value_grown_by (crumb_bytes some value)) to.making
    → grown.spare + length (crumb_bytes some value) ≡ to.spare → grown.free ≡ to.free → IsJoining start grown (some || not (is_empty value)) (crumbs more) all
crumb_put start to grown some value values more all e h lines making spare free =
    let bytes = joined_bytes h.value value in
    let length_of = ap (λ (b : List ℕ). length b) bytes in
    let same = ap (λ (b : Bool). length (crumb_bytes b value)) h.stands in
    record {
      value = with_crumb h.value value;
      making = making ∙ ap (option_map (value_grown_by (crumb_bytes some value))) h.making
          ∙ ap (λ (b : Bool). Some (record { name = cookie; value = h.value ++ crumb_bytes b value })) h.stands
          ∙ ap (λ (v : List ℕ). Some (record { name = cookie; value = v })) (sym bytes);
      stands = ap (λ (b : Bool). b || not (is_empty value)) h.stands ∙ joined_some h.value value;
      joined = crumb_more h.value value values more all e h.joined;
      room = omega (arith, length_of, same, length-append h.value (crumb_bytes (not (is_empty h.value)) value), h.room, spare);
      lines = lines ∙ h.lines;
      free = free ∙ h.free;
    }

empty_test : (value : List ℕ) → nat_eq (length value) 0 ≡ is_empty value
empty_test [] = refl
empty_test (byte ∷ rest) = ne_eqb (length (byte ∷ rest)) 0 (λ e. omega arith)

pub more_begun : (start to : FieldsView) (some empty : Bool) (value left all : List ℕ) → empty ≡ nat_eq (length value) 0
    → IsJoining start to (some || not (is_empty value)) left all → IsJoining start to (some || not empty) left all
more_begun start to some empty value left all e h = subst (λ (b : Bool). IsJoining start to (some || not b) left all) (sym (e ∙ empty_test value)) h

-- All values were put.
pub record IsJoined (start to : FieldsView) (all : List ℕ) : Type 0 where
  pub making : to.making ≡ Some (record { name = cookie; value = all })
  pub room : to.spare + length all ≡ start.spare

pub all_joined : (start to : FieldsView) (some : Bool) (values : List (List ℕ)) (all : List ℕ) → values ≡ [] → IsJoining start to some (crumbs values) all → IsJoined start to all
all_joined start to some values all e h =
    let same : h.value ≡ all = sym (with_none h.value) ∙ ap (λ (vs : List (List ℕ)). with_crumb h.value (crumbs vs)) (sym e) ∙ h.joined in
    let long = ap (λ (b : List ℕ). length b) same in
    record { making = h.making ∙ ap (λ (v : List ℕ). Some (record { name = cookie; value = v })) same; room = omega (arith, long, h.room) }
  where
    with_none : (v : List ℕ) → with_crumb v [] ≡ v
    with_none [] = refl
    with_none (x ∷ v) = refl
