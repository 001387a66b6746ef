-- Lines of valid sections have names.
use Rattle.std.proofs.Common.{◌≡◌, ◌<◌, ◌≤◌, ◌*◌, ◌++◌, ℕ, List, [], ◌∷◌, length, ap, subst, sym, arith}
use Rattle.std.specs.List.{All}
use Rattle.std.proofs.lemmas.List.Elements.{All-weaker, All-append, All-head, All-tail}
use Rattle.bh_spec.specs.Messages.{Field, IsToken, IsRegularField, IsPseudoField, AreHeaders, AreTrailers}
use Rattle.bh_model.specs.Lines.{lines_room}
use Rattle.h1_spec.specs.Heads.{IsHeadField, IsSection}
use Rattle.h1_spec.proofs.HeadFields.{section_fields}
use Rattle.h1_rules.specs.Own.{IsNamed}

pseudo_named : (field : Field) → IsPseudoField field → IsNamed field
pseudo_named field h =
    let name = ap (λ (n : List ℕ). length n) h.name.colon.1 in
    omega arith

-- of a header section, and of a trailer section
pub headers_named : (fields : List Field) → AreHeaders fields → All IsNamed fields
headers_named fields h =
    subst (λ (fs : List Field). All IsNamed fs) (sym h.2)
    (All-append IsNamed h.0 h.1 (All-weaker IsPseudoField IsNamed pseudo_named h.0 h.3) (All-weaker IsRegularField IsNamed (λ field k. k.name.nonempty) h.1 h.4))

pub trailers_named : (fields : List Field) → AreTrailers fields → All IsNamed fields
trailers_named fields h = All-weaker IsRegularField IsNamed (λ field k. k.name.nonempty) fields h

-- of a section of HTTP/1.1
pub section_named : (fields : List Field) (bytes : List ℕ) → IsSection fields bytes → All IsNamed fields
section_named fields bytes h = All-weaker IsHeadField IsNamed (λ field k. k.name.nonempty) fields (section_fields fields bytes h)

-- a line with a name uses three bytes of room at least
pub few_lines : (fields : List Field) → All IsNamed fields → 3 * length fields ≤ lines_room fields
few_lines [] h = omega arith
few_lines (f ∷ fields) h = omega (arith, few_lines fields (All-tail IsNamed f fields h), All-head IsNamed f fields h)
