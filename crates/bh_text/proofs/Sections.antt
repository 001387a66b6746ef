-- The lines of a section, one behind the other.
use Rattle.std.proofs.Common.{◌≡◌, ◌+◌, ℕ, List, [], ◌∷◌, ◌++◌, take, map, get_or, Option, Some, unwrap_or, slice_get, refl, sym, ap, ap₂, subst, ◌∙◌, append_assoc, append-nil, codes}
use Rattle.std.proofs.lemmas.List.{take_more}
use Rattle.std.proofs.lemmas.Option.{slice_get_within, unwrap_or-slice_get}
use Rattle.std.proofs.lemmas.Grind.{flat_map-append}
use Rattle.bh_spec.specs.Messages.{Field, Control}
use Rattle.bh_spec.specs.Listing.{Line, field, trailer, value_text, joined}
use Rattle.bh_text.specs.Sections.{field_text, section_text}
use Rattle.bh_text.specs.Showing.{control_lines}

-- one line more
pub line_more : (word : List ℕ) (fields : List Field) (i j : ℕ) (f : Field) → j ≡ i → slice_get fields j ≡ Some f
    → section_text word (take i fields) ++ field_text word f ≡ section_text word (take (i + 1) fields)
line_more word fields i j f same found =
    let got : slice_get fields i ≡ Some f = subst (λ (k : ℕ). slice_get fields k ≡ Some f) same found in
    let within = slice_get_within fields i f got in
    let is : get_or fields i f ≡ f = sym (unwrap_or-slice_get fields i f) ∙ ap (λ (o : Option Field). unwrap_or o f) got in
    let more : section_text word (take (i + 1) fields) ≡ section_text word (take i fields) ++ (field_text word f ++ []) =
    ap (section_text word) (take_more fields i f within) ∙ flat_map-append (field_text word) (take i fields) (get_or fields i f ∷ [])
    ∙ ap (λ (x : Field). section_text word (take i fields) ++ (field_text word x ++ [])) is in
    ap (λ (x : List ℕ). section_text word (take i fields) ++ x) (sym (append-nil (field_text word f))) ∙ sym more

-- the line of a field
one_field : (f : Field) → field_text (codes "field ") f ≡ (codes "field " ++ (f.name ++ (codes " " ++ value_text f.value))) ++ (10 ∷ [])
one_field f = ap (λ (l : List ℕ). codes "field " ++ l) (sym (append_assoc f.name (codes " " ++ value_text f.value) (10 ∷ [])))

one_trailer : (f : Field) → field_text (codes "trailer ") f ≡ (codes "trailer " ++ (f.name ++ (codes " " ++ value_text f.value))) ++ (10 ∷ [])
one_trailer f = ap (λ (l : List ℕ). codes "trailer " ++ l) (sym (append_assoc f.name (codes " " ++ value_text f.value) (10 ∷ [])))

pub field_lines : (fields : List Field) → section_text (codes "field ") fields ≡ joined (map field fields)
field_lines [] = refl
field_lines (f ∷ fields) = ap₂ (λ (a b : List ℕ). a ++ b) (one_field f) (field_lines fields)

pub trailer_lines : (fields : List Field) → section_text (codes "trailer ") fields ≡ joined (map trailer fields)
trailer_lines [] = refl
trailer_lines (f ∷ fields) = ap₂ (λ (a b : List ℕ). a ++ b) (one_trailer f) (trailer_lines fields)

-- lines of two parts
pub joined-append : (a b : List Line) → joined (a ++ b) ≡ joined a ++ joined b
joined-append a b = flat_map-append (λ (line : Line). _) a b

-- the lines of control data
pub control_text : (c : Control) → codes "method " ++ (c.method ++ (codes "\nscheme " ++ (c.scheme ++ (codes "\nauthority \"" ++ (c.authority ++ (codes "\"\npath \"" ++ (c.path ++ codes "\"\n")))))))
    ≡ joined (control_lines c)
control_text c =
    ap (λ (l : List ℕ). codes "method " ++ l)
    (ap (λ (l : List ℕ). c.method ++ (codes "\nscheme " ++ l))
    (ap (λ (l : List ℕ). c.scheme ++ (codes "\nauthority \"" ++ l))
    (ap (λ (l : List ℕ). c.authority ++ (codes "\"\npath \"" ++ l))
    (sym (append_assoc c.path (codes "\"") (10 ∷ [])) ∙ sym (append-nil ((c.path ++ codes "\"") ++ (10 ∷ []))))
    ∙ shift c.authority (codes "\"") (codes "path \"" ++ (((c.path ++ codes "\"") ++ (10 ∷ [])) ++ [])))
    ∙ one c.scheme (codes "authority \"" ++ (((c.authority ++ codes "\"") ++ (10 ∷ [])) ++ (codes "path \"" ++ (((c.path ++ codes "\"") ++ (10 ∷ [])) ++ [])))))
    ∙ one c.method _)
  where
    one : (a l : List ℕ) → a ++ (10 ∷ l) ≡ (a ++ (10 ∷ [])) ++ l
    one a l = sym (append_assoc a (10 ∷ []) l)

    shift : (a b l : List ℕ) → a ++ (b ++ (10 ∷ l)) ≡ ((a ++ b) ++ (10 ∷ [])) ++ l
    shift a b l = sym (append_assoc a b (10 ∷ l)) ∙ sym (append_assoc (a ++ b) (10 ∷ []) l)

-- lines of three parts
pub three : (a b c : List Line) → joined a ++ (joined b ++ joined c) ≡ joined (a ++ (b ++ c))
three a b c = ap (λ (l : List ℕ). joined a ++ l) (sym (joined-append b c)) ∙ sym (joined-append a (b ++ c))
