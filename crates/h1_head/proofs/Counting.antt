-- A section has one LF for each line, and as many CRs exactly where each line ends in CR LF.
use Rattle.std.proofs.Common.{arith, refl, ap, ◌≡◌, ◌∙◌, ◌≤◌, ◌+◌, ◌==◌, cond, ℕ, Bool, true, false, List, [], ◌∷◌, ◌++◌, length, append-nil, zero-add}
use Rattle.std.specs.Prelude.{IsTrue, All}
use Rattle.std.specs.List.{flat_map, count_by}
use Rattle.std.proofs.lemmas.Bool.{or_parts, cond-false}
use Rattle.std.proofs.lemmas.Bool.Decides.{nat_tests}
use Rattle.std.proofs.lemmas.List.Sums.{sum_by-append}
use Rattle.std.proofs.lemmas.List.Elements.{All-head, All-tail, All-cons, All-nil, All-weaker}
use Rattle.httparse.specs.Grammar as read
use Rattle.httparse.proofs.PieceLemmas.{token_is_no_newline}
use Rattle.h1_head.specs.Laws.{EndsWell, ReadsWell}

-- the number of LFs, and of CRs
abbrev pub lf_count : List ℕ → ℕ
lf_count bytes = count_by (λ b. b == 10) bytes

abbrev pub cr_count : List ℕ → ℕ
cr_count bytes = count_by (λ b. b == 13) bytes

abbrev one : (ℕ → Bool) → ℕ → ℕ
one p x = cond (p x) 1 0

count-cons : (p : ℕ → Bool) (x : ℕ) (xs : List ℕ) → count_by p (x ∷ xs) ≡ one p x + count_by p xs
count-cons p x xs = sum_by-append (one p) (x ∷ []) xs ∙ ap (λ (n : ℕ). n + count_by p xs) (zero-add (one p x))

count_none : (p : ℕ → Bool) (xs : List ℕ) → All (λ b. p b ≡ false) xs → count_by p xs ≡ 0
count_none p [] h = refl
count_none p (x ∷ xs) h =
    let e : one p x ≡ 0 = cond-false {A = ℕ} (p x) 1 0 (All-head (λ b. p b ≡ false) x xs h) in
    let c = count-cons p x xs in
    let r = count_none p xs (All-tail (λ b. p b ≡ false) x xs h) in
    omega arith

count-append : (p : ℕ → Bool) (xs ys : List ℕ) → count_by p (xs ++ ys) ≡ count_by p xs + count_by p ys
count-append p xs ys = sum_by-append (λ b. cond (p b) 1 0) xs ys

value_no_feed : (b : ℕ) → read.is_value_byte b ≡ true → (b == 10) ≡ false
value_no_feed b h = grind (arith, nat_tests)

value_no_return : (b : ℕ) → read.is_value_byte b ≡ true → (b == 13) ≡ false
value_no_return b h = grind (arith, nat_tests)

-- the CRs of a line end
abbrev well : read.LineEnd → ℕ
well read.crlf = 1
well read.lf = 0

abbrev wells : List read.Field → ℕ
wells [] = 0
wells (f ∷ fs) = well f.end + wells fs

end_feeds : (e : read.LineEnd) → lf_count (read.print_end e) ≡ 1
end_feeds read.crlf = refl
end_feeds read.lf = refl

end_returns : (e : read.LineEnd) → cr_count (read.print_end e) ≡ well e
end_returns read.crlf = refl
end_returns read.lf = refl

field_count : (p : ℕ → Bool) (f : read.Field) → p 58 ≡ false → All (λ b. p b ≡ false) f.name → All (λ b. p b ≡ false) f.raw
    → count_by p (read.print_field f) ≡ count_by p (read.print_end f.end)
field_count p f colon name raw =
    let a = count-append p (f.name ++ (58 ∷ f.raw)) (read.print_end f.end) in
    let b = count-append p f.name (58 ∷ f.raw) in
    let n = count_none p f.name name in
    let r = count_none p f.raw raw in
    let c = count-cons p 58 f.raw in
    let z : one p 58 ≡ 0 = cond-false {A = ℕ} (p 58) 1 0 colon in
    omega arith

field_feeds : (f : read.Field) → read.IsField f → lf_count (read.print_field f) ≡ 1
field_feeds f h =
    field_count (λ b. b == 10) f refl
    (All-weaker (λ b. IsTrue (read.is_token_byte b)) (λ b. (b == 10) ≡ false) (λ b t. (or_parts (b == 13) (b == 10) (token_is_no_newline b t)).1) f.name h.name.1)
    (All-weaker (λ b. IsTrue (read.is_value_byte b)) (λ b. (b == 10) ≡ false) value_no_feed f.raw h.raw)
    ∙ end_feeds f.end

field_returns : (f : read.Field) → read.IsField f → cr_count (read.print_field f) ≡ well f.end
field_returns f h =
    field_count (λ b. b == 13) f refl
    (All-weaker (λ b. IsTrue (read.is_token_byte b)) (λ b. (b == 13) ≡ false) (λ b t. (or_parts (b == 13) (b == 10) (token_is_no_newline b t)).0) f.name h.name.1)
    (All-weaker (λ b. IsTrue (read.is_value_byte b)) (λ b. (b == 13) ≡ false) value_no_return f.raw h.raw)
    ∙ end_returns f.end

lines_feeds : (fs : List read.Field) → All read.IsField fs → lf_count (flat_map read.print_field fs) ≡ length fs
lines_feeds [] h = refl
lines_feeds (f ∷ fs) h =
    let a = count-append (λ b. b == 10) (read.print_field f) (flat_map read.print_field fs) in
    let one = field_feeds f (All-head read.IsField f fs h) in
    let more = lines_feeds fs (All-tail read.IsField f fs h) in
    omega arith

lines_returns : (fs : List read.Field) → All read.IsField fs → cr_count (flat_map read.print_field fs) ≡ wells fs
lines_returns [] h = refl
lines_returns (f ∷ fs) h =
    let a = count-append (λ b. b == 13) (read.print_field f) (flat_map read.print_field fs) in
    let one = field_returns f (All-head read.IsField f fs h) in
    let more = lines_returns fs (All-tail read.IsField f fs h) in
    omega arith

well_le : (e : read.LineEnd) → well e ≤ 1
well_le read.crlf = omega arith
well_le read.lf = omega arith

wells_le : (fs : List read.Field) → wells fs ≤ length fs
wells_le [] = omega arith
wells_le (f ∷ fs) = let more = wells_le fs in let one = well_le f.end in omega arith

ends_from : (e : read.LineEnd) → well e ≡ 1 → e ≡ read.crlf
ends_from read.crlf h = refl
ends_from read.lf h = absurd (omega arith)

ends_to : (e : read.LineEnd) → e ≡ read.crlf → well e ≡ 1
ends_to e h = ap well h

all_well : (fs : List read.Field) → wells fs ≡ length fs → All EndsWell fs
all_well [] h = All-nil EndsWell
all_well (f ∷ fs) h =
    let le = wells_le fs in
    let one : well f.end ≤ 1 = well_le f.end in
    All-cons EndsWell f fs (ends_from f.end (omega arith)) (all_well fs (omega arith))

well_all : (fs : List read.Field) → All EndsWell fs → wells fs ≡ length fs
well_all [] h = refl
well_all (f ∷ fs) h =
    let one = ends_to f.end (All-head EndsWell f fs h) in
    let more = well_all fs (All-tail EndsWell f fs h) in
    omega arith

section_feeds : (fs : List read.Field) (last : read.LineEnd) → All read.IsField fs → lf_count (read.print_section fs last) ≡ length fs + 1
section_feeds fs last h =
    let a = count-append (λ b. b == 10) (flat_map read.print_field fs) (read.print_end last) in
    let l = lines_feeds fs h in
    let e : lf_count (read.print_end last) ≡ 1 = end_feeds last in
    omega arith

section_returns : (fs : List read.Field) (last : read.LineEnd) → All read.IsField fs → cr_count (read.print_section fs last) ≡ wells fs + well last
section_returns fs last h =
    let a = count-append (λ b. b == 13) (flat_map read.print_field fs) (read.print_end last) in
    let l = lines_returns fs h in
    let e : cr_count (read.print_end last) ≡ well last = end_returns last in
    omega arith

-- as many CRs as LFs: each line ends in CR LF, the last too
pub counted_well : (bytes : List ℕ) (fs : List read.Field) (last : read.LineEnd) → read.ReadsSection bytes fs last []
    → cr_count bytes ≡ lf_count bytes → ReadsWell bytes fs
counted_well bytes fs last h same =
    let printed : bytes ≡ read.print_section fs last = h.1 ∙ append-nil (read.print_section fs last) in
    let f : lf_count bytes ≡ length fs + 1 = ap lf_count printed ∙ section_feeds fs last h.0 in
    let r : cr_count bytes ≡ wells fs + well last = ap cr_count printed ∙ section_returns fs last h.0 in
    let le = wells_le fs in
    let le_last = well_le last in
    let lines : wells fs ≡ length fs = omega arith in
    let end : last ≡ read.crlf = ends_from last (omega arith) in
    record {
      reads = (h.0, h.1 ∙ ap (λ (e : read.LineEnd). read.print_section fs e ++ []) end);
      ends = all_well fs lines;
    }

pub well_counted : (bytes : List ℕ) (fs : List read.Field) → ReadsWell bytes fs → (cr_count bytes ≡ lf_count bytes) × (lf_count bytes ≡ length fs + 1)
well_counted bytes fs h =
    let printed : bytes ≡ read.print_section fs read.crlf = h.reads.1 ∙ append-nil (read.print_section fs read.crlf) in
    let f : lf_count bytes ≡ length fs + 1 = ap lf_count printed ∙ section_feeds fs read.crlf h.reads.0 in
    let r : cr_count bytes ≡ wells fs + 1 = ap cr_count printed ∙ section_returns fs read.crlf h.reads.0 in
    let w = well_all fs h.ends in
    (omega arith, omega arith)
