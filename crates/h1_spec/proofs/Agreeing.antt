-- The rules of all moments say what the rules of the whole message say.
use Rattle.std.proofs.Common.{◌≡◌, ◌⊎◌, Bool, true, false, cond, not, ◌&&◌, nat_eq, nat_lt, ◌+◌, arith, ℕ, zero, suc, List, [], ◌∷◌, ◌++◌, map, flat_map, length, find, Option, Some, None, option_map, refl, sym, ap, ap₂, ◌∙◌, inl, inr, append_assoc, append-nil}
use Rattle.std.proofs.lemmas.Bool.{cases_Bool, cond-true, cond-false, ltb-true, lt-ltb, le-ltb, ne_eqb, not_from_false, and_parts, eqb-true}
use Rattle.bh_spec.specs.declared.Omitted.{Omitted}
use Rattle.bh_spec.specs.declared.Omitted.TheVariants.{Nothing, Trailers, Both}
use Rattle.bh_spec.specs.Messages.{Field, Interim, Start, request, response, Message}
use Rattle.h1_spec.specs.declared.Framing1.{Framing1}
use Rattle.h1_spec.specs.declared.Framing1.TheVariants.{Empty, Counted, Chunked, ToEnd}
use Rattle.bh_spec.specs.declared.NoForm.{NoForm}
use Rattle.bh_spec.specs.declared.NoForm.TheVariants as no
use Rattle.h1_spec.specs.Cleaning.{hops, clean, clean_trailers, clean_message, says_host, clean_start}
use Rattle.h1_spec.specs.Framing.{lengths}
use Rattle.h1_spec.specs.Http1.{interims_of}
use Rattle.h1_spec.specs.Http1Text.{Case, of_interim, of_head, of_body, has_no_body, framing_by, is_bare, framing_written}
use Rattle.h1_spec.proofs.Kept.{lengths_kept}
use Rattle.h1_spec.specs.Moments.{Moment, interim_ended, head_ended, content_read, announced, of_byte, of_trailers, of_end, alone, cases_at, first_of, byte_moments, last_moment}
use Rattle.h1_spec.specs.Laws.{LeavesOut, AgreesWithForms}

-- ---- the first of several lists

abbrev pub or_else : Option NoForm → Option NoForm → Option NoForm
or_else (Some form) other = Some form
or_else None other = other

pub first_here : (one : Case) (cases : List Case) → one.1 ≡ true → first_of (one ∷ cases) ≡ Some one.0
first_here one cases e = ap (option_map (λ (c : Case). c.0)) (cond-true one.1 (Some one) (find (λ (c : Case). c.1) cases) e)

first_later : (one : Case) (cases : List Case) → one.1 ≡ false → first_of (one ∷ cases) ≡ first_of cases
first_later one cases e = ap (option_map (λ (c : Case). c.0)) (cond-false one.1 (Some one) (find (λ (c : Case). c.1) cases) e)

pub first_append : (a b : List Case) → first_of (a ++ b) ≡ or_else (first_of a) (first_of b)
first_append [] b = refl
first_append (one ∷ a) b = by_test (cases_Bool one.1) (first_append a b)
  where
    by_test : (one.1 ≡ true) ⊎ (one.1 ≡ false) → first_of (a ++ b) ≡ or_else (first_of a) (first_of b) → first_of (one ∷ (a ++ b)) ≡ or_else (first_of (one ∷ a)) (first_of b)
    by_test (inl e) k = first_here one (a ++ b) e ∙ ap (λ (o : Option NoForm). or_else o (first_of b)) (sym (first_here one a e))
    by_test (inr e) k = first_later one (a ++ b) e ∙ k ∙ ap (λ (o : Option NoForm). or_else o (first_of b)) (sym (first_later one a e))

-- lists with one first rule, behind the same rules
same_behind : (a b c : List Case) → first_of b ≡ first_of c → first_of (a ++ b) ≡ first_of (a ++ c)
same_behind a b c e = first_append a b ∙ ap (or_else (first_of a)) e ∙ sym (first_append a c)

pub flat_append : {A B : Type 0} (f : A → List B) (xs ys : List A) → flat_map f (xs ++ ys) ≡ flat_map f xs ++ flat_map f ys
flat_append f [] ys = refl
flat_append {A} {B} f (x ∷ xs) ys = ap (λ (z : List B). f x ++ z) (flat_append f xs ys) ∙ sym (append_assoc (f x) (flat_map f xs) (flat_map f ys))

-- ---- bytes of content

-- the rules of bytes up to the n-th, and others behind them
abbrev bytes_then : Bool → Start → List Field → ℕ → List Case → List Case
bytes_then to_head start fields n cases = flat_map (cases_at to_head) (byte_moments start fields n) ++ cases

-- what the bytes say together
abbrev pub byte_rule : Framing1 → ℕ → List Case
byte_rule Empty n = (no.Bodyless, not (nat_eq n 0)) ∷ []
byte_rule (Counted field) n = (no.LengthDiffers field (field + 1), nat_lt field n) ∷ []
byte_rule Chunked n = []
byte_rule ToEnd n = []

none_then : (o : Option NoForm) → or_else o None ≡ o
none_then (Some form) = refl
none_then None = refl

rule_first : (form : NoForm) (a b : Bool) → (a ≡ true → b ≡ true) → or_else (first_of ((form, a) ∷ [])) (first_of ((form, b) ∷ [])) ≡ first_of ((form, b) ∷ [])
rule_first form true true h = refl
rule_first form true false h = absurd (let e : false ≡ true = h refl in cc)
rule_first form false b h = refl

still_more : (f n : ℕ) → nat_lt f n ≡ true → nat_lt f (suc n) ≡ true
still_more f n e = lt-ltb f (suc n) (omega (arith, ltb-true f n e))

pub never_none : (n : ℕ) → first_of (byte_rule Empty (suc n)) ≡ Some no.Bodyless
never_none n = first_here (no.Bodyless, not (nat_eq (suc n) 0)) [] (not_from_false (nat_eq (suc n) 0) (ne_eqb (suc n) 0 (λ e. omega (arith, e))))

one_more : (f : Framing1) (n : ℕ) → or_else (first_of (byte_rule f n)) (first_of (of_byte f (suc n))) ≡ first_of (byte_rule f (suc n))
one_more Empty zero = refl
one_more Empty (suc n) = ap (λ (o : Option NoForm). or_else o (first_of (of_byte Empty (suc (suc n))))) (never_none n) ∙ sym (never_none (suc n))
one_more (Counted field) n = rule_first (no.LengthDiffers field (field + 1)) (nat_lt field n) (nat_lt field (suc n)) (still_more field n)
one_more Chunked n = refl
one_more ToEnd n = refl

no_bytes : (f : Framing1) → first_of (byte_rule f zero) ≡ None
no_bytes Empty = refl
no_bytes (Counted field) = first_later (no.LengthDiffers field (field + 1), nat_lt field 0) [] (le-ltb field 0 (omega arith))
no_bytes Chunked = refl
no_bytes ToEnd = refl

bytes_say : (to_head : Bool) (start : Start) (fields : List Field) (n : ℕ)
    → first_of (flat_map (cases_at to_head) (byte_moments start fields n)) ≡ first_of (byte_rule (announced to_head start fields) n)
bytes_say to_head start fields zero = sym (no_bytes (announced to_head start fields))
bytes_say to_head start fields (suc n) =
    let f : Framing1 = announced to_head start fields in
    ap first_of (flat_append (cases_at to_head) (byte_moments start fields n) (content_read start fields (suc n) ∷ []))
    ∙ first_append (flat_map (cases_at to_head) (byte_moments start fields n)) (of_byte f (suc n) ++ [])
    ∙ ap₂ or_else (bytes_say to_head start fields n) (ap first_of (append-nil (of_byte f (suc n)))) ∙ one_more f n

-- ---- the body

-- the rules of a body with any announced framing are those of its bytes and of the trailer section
pub body_parts : (f : Framing1) (content : List ℕ) (trailers : List Field) → of_body f content trailers ≡ byte_rule f (length content) ++ of_trailers f (length content) trailers
body_parts Empty content trailers = refl
body_parts (Counted field) content trailers = refl
body_parts Chunked content trailers = refl
body_parts ToEnd content trailers = refl

-- a bare request, which announces nothing, has no rule
abbrev pub Bare : List ℕ → List Field → Type 0
Bare content trailers = (length content ≡ 0) × (length trailers ≡ 0)

bare_is : (content : List ℕ) (trailers : List Field) → nat_eq (length content) 0 && nat_eq (length trailers) 0 ≡ true → Bare content trailers
bare_is content trailers e =
    let both = and_parts (nat_eq (length content) 0) (nat_eq (length trailers) 0) e in
    (eqb-true (length content) 0 both.0, eqb-true (length trailers) 0 both.1)

bare_none : (content : List ℕ) (trailers : List Field) → Bare content trailers → first_of (of_body Empty content trailers) ≡ first_of (of_body Chunked content trailers)
bare_none [] [] h = refl
bare_none [] (f ∷ trailers) h = absurd (omega (arith, h.1))
bare_none (b ∷ content) trailers h = absurd (omega (arith, h.0))

by_bare : (values : List (List ℕ)) (bare : Bool) (content : List ℕ) (trailers : List Field) → (bare ≡ true → Bare content trailers)
    → first_of (of_body (framing_by values bare) content trailers) ≡ first_of (of_body (framing_by values false) content trailers)
by_bare (value ∷ more) bare content trailers h = refl
by_bare [] true content trailers h = bare_none content trailers (h refl)
by_bare [] false content trailers h = refl

by_body : (none bare : Bool) (values : List (List ℕ)) (content : List ℕ) (trailers : List Field) → (bare ≡ true → Bare content trailers)
    → first_of (of_body (cond none Empty (framing_by values bare)) content trailers) ≡ first_of (of_body (cond none Empty (framing_by values false)) content trailers)
by_body true bare values content trailers h = refl
by_body false bare values content trailers h = by_bare values bare content trailers h

pub bare_of : (m : Message) (start : Start) → is_bare m start ≡ true → Bare m.content m.trailers
bare_of m (request control) e = bare_is m.content m.trailers e
bare_of m (response interims status) e = absurd cc

pub no_body_clean : (to_head : Bool) (start : Start) → has_no_body to_head (clean_start start) ≡ has_no_body to_head start
no_body_clean to_head (request control) = refl
no_body_clean to_head (response interims status) = refl

-- the framing that is written and the one that is announced say the same of a body
pub written_announced : (to_head : Bool) (m : Message)
    → first_of (of_body (framing_written to_head (clean_message m)) m.content (clean_trailers (hops m.fields) m.trailers))
    ≡ first_of (of_body (announced to_head m.start m.fields) m.content (clean_trailers (hops m.fields) m.trailers))
written_announced to_head m =
    let ts : List Field = clean_trailers (hops m.fields) m.trailers in
    by_body (has_no_body to_head (clean_start m.start)) (is_bare (clean_message m) (clean_start m.start)) (lengths (clean (hops m.fields) (says_host m.start) m.fields)) m.content ts
    (bare_of (clean_message m) (clean_start m.start))
    ∙ ap₂ (λ (none : Bool) (values : List (List ℕ)). first_of (of_body (cond none Empty (framing_by values false)) m.content ts))
    (no_body_clean to_head m.start) (lengths_kept m.fields m.fields (says_host m.start))

no_trailers : (named : List (List ℕ)) (trailers : List Field) → trailers ≡ [] → clean_trailers named trailers ≡ []
no_trailers named trailers e = ap (clean_trailers named) e

end_same : (f : Framing1) (n : ℕ) → first_of (of_trailers f n []) ≡ first_of (of_end f n)
end_same Empty n = refl
end_same (Counted field) n = by_test (nat_lt n field)
  where
    by_test : (b : Bool) → first_of ((no.ValueByte, false) ∷ (no.LengthDiffers field n, b) ∷ (no.TrailersCounted, false) ∷ []) ≡ first_of ((no.LengthDiffers field n, b) ∷ [])
    by_test true = refl
    by_test false = refl
end_same Chunked n = refl
end_same ToEnd n = refl

pub last_says : (to_head : Bool) (m : Message) (omitted : Omitted) → LeavesOut m omitted
    → first_of (cases_at to_head (last_moment m omitted))
    ≡ first_of (of_trailers (announced to_head m.start m.fields) (length m.content) (clean_trailers (hops m.fields) m.trailers))
last_says to_head m Nothing h = refl
last_says to_head m Trailers h =
    sym (ap (λ (ts : List Field). first_of (of_trailers (announced to_head m.start m.fields) (length m.content) ts)) (no_trailers (hops m.fields) m.trailers h)
    ∙ end_same (announced to_head m.start m.fields) (length m.content))
last_says to_head m Both h =
    sym (ap (λ (ts : List Field). first_of (of_trailers (announced to_head m.start m.fields) (length m.content) ts)) (no_trailers (hops m.fields) m.trailers h.1)
    ∙ end_same (announced to_head m.start m.fields) (length m.content))

-- behind the head
tail_says : (to_head : Bool) (m : Message) (omitted : Omitted) → LeavesOut m omitted
    → first_of (flat_map (cases_at to_head) (byte_moments m.start m.fields (length m.content) ++ last_moment m omitted ∷ []))
    ≡ first_of (of_body (framing_written to_head (clean_message m)) m.content (clean_trailers (hops m.fields) m.trailers))
tail_says to_head m omitted h =
    let f : Framing1 = announced to_head m.start m.fields in
    let n : ℕ = length m.content in
    let ts : List Field = clean_trailers (hops m.fields) m.trailers in
    let last : List Case = cases_at to_head (last_moment m omitted) in
    let bytes : List Case = flat_map (cases_at to_head) (byte_moments m.start m.fields n) in
    ap first_of (flat_append (cases_at to_head) (byte_moments m.start m.fields n) (last_moment m omitted ∷ []))
    ∙ first_append bytes (last ++ [])
    ∙ ap₂ or_else (bytes_say to_head m.start m.fields n) (ap first_of (append-nil last) ∙ last_says to_head m omitted h)
    ∙ sym (first_append (byte_rule f n) (of_trailers f n ts))
    ∙ ap first_of (sym (body_parts f m.content ts))
    ∙ sym (written_announced to_head m)

-- ---- the whole

interims_say : (to_head : Bool) (interims : List Interim) → flat_map (cases_at to_head) (map interim_ended interims) ≡ flat_map of_interim interims
interims_say to_head [] = refl
interims_say to_head (i ∷ interims) = ap (λ (z : List Case). of_interim i ++ z) (interims_say to_head interims)

-- the rules of the head and those of the interim responses before it
pub head_parts : (start : Start) (fields : List Field) → of_head start fields ≡ flat_map of_interim (interims_of start) ++ of_head (alone start) fields
head_parts (request control) fields = refl
head_parts (response interims status) fields = refl

pub agrees : AgreesWithForms
agrees to_head m omitted h =
    let tail : List Moment = byte_moments m.start m.fields (length m.content) ++ last_moment m omitted ∷ [] in
    let rules : List Case = flat_map (cases_at to_head) tail in
    let interims : List Case = flat_map of_interim (interims_of m.start) in
    let at_head : List Case = of_head (alone m.start) m.fields in
    let body : List Case = of_body (framing_written to_head (clean_message m)) m.content (clean_trailers (hops m.fields) m.trailers) in
    ap first_of (flat_append (cases_at to_head) (map interim_ended (interims_of m.start)) (head_ended m.start m.fields ∷ tail)
    ∙ ap (λ (z : List Case). z ++ (at_head ++ rules)) (interims_say to_head (interims_of m.start)))
    ∙ same_behind interims (at_head ++ rules) (at_head ++ body) (same_behind at_head rules body (tail_says to_head m omitted h))
    ∙ ap first_of (sym (append_assoc interims at_head body))
    ∙ ap (λ (z : List Case). first_of (z ++ body)) (sym (head_parts m.start m.fields))
