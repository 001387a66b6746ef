-- The text of a head in the parts in which it is put.
use Rattle.std.proofs.Common.{sym, ap, ◌≡◌, ◌∙◌, ℕ, List, ◌++◌, append_assoc}
use Rattle.std.proofs.lemmas.Grind.{flat_map-append}
use Rattle.bh_spec.specs.Messages.{Field}
use Rattle.h1_spec.specs.Grammar.{crlf}
use Rattle.h1_spec.specs.Http1Text.{field_line, field_lines}
use Rattle.h1_spec.specs.Written.{section_text}

two_sections : (a b : List Field) → field_lines a ++ (field_lines b ++ crlf) ≡ section_text (a ++ b)
two_sections a b = sym (append_assoc (field_lines a) (field_lines b) crlf) ∙ ap (λ (t : List ℕ). t ++ crlf) (sym (flat_map-append field_line a b))

-- behind a start line, fields and the coding line
pub fields_text : (start : List ℕ) (a b : List Field) → start ++ (field_lines a ++ (field_lines b ++ crlf)) ≡ start ++ section_text (a ++ b)
fields_text start a b = ap (λ (t : List ℕ). start ++ t) (two_sections a b)

-- behind a start line, the host line, fields and the coding line
pub all_text : (start : List ℕ) (a b c : List Field)
    → start ++ (field_lines a ++ (field_lines b ++ (field_lines c ++ crlf))) ≡ start ++ section_text (a ++ (b ++ c))
all_text start a b c =
    ap (λ (t : List ℕ). start ++ (field_lines a ++ t)) (two_sections b c) ∙ ap (λ (t : List ℕ). start ++ t) (two_sections a (b ++ c))

-- behind a start line, the host line and fields
pub front_text : (start : List ℕ) (a b : List Field) → start ++ (field_lines a ++ field_lines b) ≡ start ++ field_lines (a ++ b)
front_text start a b = ap (λ (t : List ℕ). start ++ t) (sym (flat_map-append field_line a b))
