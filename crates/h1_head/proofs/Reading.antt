-- What the spans that were read say of the section.
use Rattle.std.proofs.Common.{arith, sym, ap, subst, ◌≡◌, ◌≢◌, ◌∙◌, ◌≤◌, ◌+◌, ◌*◌, ℕ, List, [], ◌++◌, length, take, map, length-append, append-nil}
use Rattle.std.specs.Prelude.{All}
use Rattle.std.specs.List.{flat_map}
use Rattle.std.proofs.lemmas.List.{length-map}
use Rattle.bh_spec.specs.Bytes.{AreBytes}
use Rattle.bh_spec.specs.Messages.{Field}
use Rattle.bh_model.specs.Lines.{lines_room}
use Rattle.h1_spec.specs.Heads.{IsSection}
use Rattle.httparse.specs.declared.spans.HeaderSpan.{HeaderSpan}
use Rattle.httparse.specs.Grammar as read
use Rattle.httparse.specs.Spans.{header_bytes, name_and_value}
use Rattle.h1_head.specs.Laws.{field_of}
use Rattle.h1_head.specs.Spanned.{IsNamed, IsRead, field_at}
use Rattle.h1_head.proofs.Counting.{lf_count, cr_count, counted_well, well_counted}
use Rattle.h1_head.proofs.Sections.{there, back}
use Rattle.h1_head.proofs.Spans.{fields_alike, all_named, lines_fit, lines_long}

-- where the counts differ there is no section
pub uneven : (bytes : List ℕ) → cr_count bytes ≢ lf_count bytes → (fields : List Field) → IsSection fields bytes → ⊥
uneven bytes differ fields h = let t = there fields bytes h in differ (well_counted bytes t.0 t.1).0

-- nor where `httparse` reads none of at most as many lines as there are LFs
pub unread : (bytes : List ℕ) (room : ℕ) → room ≡ lf_count bytes
    → ((fs : List read.Field) (last : read.LineEnd) → read.ReadsSection bytes fs last [] → length fs ≤ room → ⊥)
    → (fields : List Field) → IsSection fields bytes → ⊥
unread bytes room e none fields h =
    let t = there fields bytes h in
    let few = (well_counted bytes t.0 t.1).1 in
    none t.0 read.crlf t.1.reads (omega arith)

-- a line takes 4 bytes, and the empty line 2
pub crowded : (bytes : List ℕ) (fields : List Field) → IsSection fields bytes → 4 * lf_count bytes ≤ length bytes + 2
crowded bytes fields h =
    let t = there fields bytes h in
    let long = lines_long t.0 t.1.reads.0 t.1.ends in
    let whole : length bytes ≡ length (flat_map read.print_field t.0 ++ read.print_end read.crlf) =
    ap length (t.1.reads.1 ∙ append-nil (read.print_section t.0 read.crlf)) in
    omega (arith, long, whole, (well_counted bytes t.0 t.1).1, length-append (flat_map read.print_field t.0) (read.print_end read.crlf))

pub read_named : (bytes : List ℕ) (spans : List HeaderSpan) (count : ℕ) → IsRead bytes spans count → All (IsNamed bytes) (take count spans)
read_named bytes spans count h = all_named bytes (take count spans) h.lines h.covered h.reads.0

pub read_room : (bytes : List ℕ) (spans : List HeaderSpan) (count : ℕ) → cr_count bytes ≡ lf_count bytes → IsRead bytes spans count
    → lines_room (map (field_at bytes) (take count spans)) + length (take count spans) ≤ length bytes
read_room bytes spans count even h =
    let front : List HeaderSpan = take count spans in
    let well = counted_well bytes h.lines h.last h.reads even in
    let same : map (field_at bytes) front ≡ map field_of h.lines = fields_alike bytes front h.lines h.covered in
    let room : lines_room (map (field_at bytes) front) ≡ lines_room (map field_of h.lines) = ap lines_room same in
    let covered : length (map (header_bytes bytes) front) ≡ length (map name_and_value h.lines) = ap length h.covered in
    let a : length (map (header_bytes bytes) front) ≡ length front = length-map front (header_bytes bytes) in
    let b : length (map name_and_value h.lines) ≡ length h.lines = length-map h.lines name_and_value in
    let fit = lines_fit h.lines well.ends in
    let whole : length bytes ≡ length (flat_map read.print_field h.lines ++ read.print_end read.crlf) =
    ap length (well.reads.1 ∙ append-nil (read.print_section h.lines read.crlf)) in
    let parts = length-append (flat_map read.print_field h.lines) (read.print_end read.crlf) in
    omega arith

pub read_section : (bytes : List ℕ) (spans : List HeaderSpan) (count : ℕ) (lines : List Field) → AreBytes bytes
    → cr_count bytes ≡ lf_count bytes → IsRead bytes spans count → lines ≡ map (field_at bytes) (take count spans) → IsSection lines bytes
read_section bytes spans count lines small even h e =
    let well = counted_well bytes h.lines h.last h.reads even in
    subst (λ (fields : List Field). IsSection fields bytes)
    (sym (e ∙ fields_alike bytes (take count spans) h.lines h.covered))
    (back h.lines bytes small well)
