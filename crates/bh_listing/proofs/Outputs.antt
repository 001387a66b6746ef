-- Lines as output, and the content that they show.
use Rattle.std.proofs.Common.{◌≡◌, ◌≤◌, ◌+◌, ◌*◌, ◌/◌, ℕ, zero, suc, List, [], ◌∷◌, ◌++◌, length, take, drop, map, refl, sym, ap, ap₂, ◌∙◌, arith}
use Rattle.std.proofs.lemmas.List.{length-append, length-drop, take-append-drop}
use Rattle.std.proofs.lemmas.Grind.{flat_map-append}
use Rattle.bh_spec.specs.Messages.{Field}
use Rattle.bh_spec.specs.Canonical.{cut_within}
use Rattle.bh_spec.specs.Listing.{Line, field, content, trailer, content_lines, joined, text_of}
use Rattle.bh_stream.specs.Outputs.{plain, written, shown_in}
use Rattle.bh_stream.proofs.Outputs.{written-append, written_plain, shown-append, shown_plain}
use Rattle.bh_text.specs.Showing.{filled, unfilled}
use Rattle.bh_listing.specs.Owed.{content_of, line_output, output}

pub output-append : (a b : List Line) → output (a ++ b) ≡ output a ++ output b
output-append a b = flat_map-append line_output a b

pub line_bytes : (line : Line) → written (line_output line) ≡ text_of line ++ (10 ∷ [])
line_bytes line = written-append (plain (text_of line)) ((content_of line, 10) ∷ []) ∙ ap (λ (l : List ℕ). l ++ (10 ∷ [])) (written_plain (text_of line))

-- the bytes of lines
pub output_bytes : (lines : List Line) → written (output lines) ≡ joined lines
output_bytes [] = refl
output_bytes (line ∷ lines) = written-append (line_output line) (output lines) ∙ ap₂ (λ (a b : List ℕ). a ++ b) (line_bytes line) (output_bytes lines)

-- ---- the content of lines

abbrev pub content_in : List Line → ℕ
content_in [] = 0
content_in (line ∷ lines) = content_of line + content_in lines

pub line_shows : (line : Line) → shown_in (line_output line) ≡ content_of line
line_shows line = omega (arith, shown-append (plain (text_of line)) ((content_of line, 10) ∷ []), shown_plain (text_of line))

pub output_shows : (lines : List Line) → shown_in (output lines) ≡ content_in lines
output_shows [] = refl
output_shows (line ∷ lines) = omega (arith, shown-append (line_output line) (output lines), line_shows line, output_shows lines)

pub content-append : (a b : List Line) → content_in (a ++ b) ≡ content_in a + content_in b
content-append [] b = omega arith
content-append (line ∷ a) b = omega (arith, content-append a b)

pub fields_show : (fields : List Field) → content_in (map field fields) ≡ 0
fields_show [] = refl
fields_show (f ∷ fields) = omega (arith, fields_show fields)

pub trailers_show : (fields : List Field) → content_in (map trailer fields) ≡ 0
trailers_show [] = refl
trailers_show (f ∷ fields) = omega (arith, trailers_show fields)

cut_shows : (turns : ℕ) (bytes : List ℕ) → length bytes ≤ turns → content_in (map content (cut_within turns 32 bytes)) ≡ length bytes
cut_shows zero [] few = refl
cut_shows zero (x ∷ bytes) few = absurd (omega arith)
cut_shows (suc turns) [] few = refl
cut_shows (suc turns) (x ∷ bytes) few =
    let rest = length-drop 32 (x ∷ bytes) in
    let both : length (x ∷ bytes) ≡ length (take 32 (x ∷ bytes)) + length (drop 32 (x ∷ bytes)) =
    ap length (sym (take-append-drop 32 (x ∷ bytes))) ∙ length-append (take 32 (x ∷ bytes)) (drop 32 (x ∷ bytes)) in
    omega (arith, cut_shows turns (drop 32 (x ∷ bytes)) (omega (arith, rest, few)), both)

pub content_shows : (bytes : List ℕ) → content_in (content_lines bytes) ≡ length bytes
content_shows bytes = cut_shows (length bytes) bytes (omega arith)

-- the bytes that fill lines, and those that wait
pub filled_and_not : (bytes : List ℕ) → length (filled bytes) + length (unfilled bytes) ≡ length bytes
filled_and_not bytes = sym (length-append (filled bytes) (unfilled bytes)) ∙ ap length (take-append-drop (length bytes / 32 * 32) bytes)
