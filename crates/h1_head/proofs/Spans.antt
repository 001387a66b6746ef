-- The spans that `httparse` answers, and the fields that they cover.
use Rattle.std.proofs.Common.{arith, refl, sym, ap, ◌≡◌, ◌∙◌, ◌<◌, ◌≤◌, ◌+◌, ◌*◌, ℕ, List, [], ◌∷◌, ◌++◌, length, map, length-append}
use Rattle.std.specs.Prelude.{All}
use Rattle.std.specs.List.{flat_map}
use Rattle.std.proofs.lemmas.List.{length-map}
use Rattle.std.proofs.lemmas.List.Elements.{All-head, All-tail, All-nil, All-cons, All-map, All-same, All-weaker}
use Rattle.bh_spec.specs.Bytes.{lower}
use Rattle.bh_spec.specs.Messages.{Field}
use Rattle.bh_model.specs.Lines.{line_room, lines_room}
use Rattle.httparse.specs.declared.spans.HeaderSpan.{HeaderSpan}
use Rattle.httparse.specs.Grammar as read
use Rattle.httparse.specs.Spans.{span_bytes, header_bytes, name_and_value}
use Rattle.h1_head.specs.Laws.{field_of}
use Rattle.h1_head.specs.Spanned.{IsNamed, field_at}
use Rattle.h1_head.proofs.Trimming.{trimmed}

-- lines with names use 3 bytes or more
pub named_room : (bytes : List ℕ) (spans : List HeaderSpan) → All (IsNamed bytes) spans
    → 3 * length spans ≤ lines_room (map (field_at bytes) spans)
named_room bytes [] h = omega arith
named_room bytes (span ∷ spans) h =
    let more = named_room bytes spans (All-tail (IsNamed bytes) span spans h) in
    let one : 0 < length (span_bytes bytes span.name) = All-head (IsNamed bytes) span spans h in
    let low : length (lower (span_bytes bytes span.name)) ≡ length (span_bytes bytes span.name) = length-map (span_bytes bytes span.name) _ in
    omega arith

-- a name and a value as a field
abbrev field_from : List ℕ × List ℕ → Field
field_from p = record { name = lower p.0; value = p.1 }

map_spans : (bytes : List ℕ) (spans : List HeaderSpan) → map (field_at bytes) spans ≡ map field_from (map (header_bytes bytes) spans)
map_spans bytes [] = refl
map_spans bytes (span ∷ spans) = ap (λ (r : List Field). field_at bytes span ∷ r) (map_spans bytes spans)

map_lines : (fs : List read.Field) → map field_of fs ≡ map field_from (map name_and_value fs)
map_lines [] = refl
map_lines (f ∷ fs) = ap (λ (r : List Field). field_of f ∷ r) (map_lines fs)

-- the spans cover the fields of the lines
pub fields_alike : (bytes : List ℕ) (spans : List HeaderSpan) (fs : List read.Field)
    → map (header_bytes bytes) spans ≡ map name_and_value fs → map (field_at bytes) spans ≡ map field_of fs
fields_alike bytes spans fs e = map_spans bytes spans ∙ ap (map field_from) e ∙ sym (map_lines fs)

abbrev HasName : List ℕ × List ℕ → Type 0
HasName p = 0 < length p.0

All-unmap : {X Y : Type 0} (P : X → Type 0) (f : Y → X) (ys : List Y) → All P (map f ys) → All (λ y. P (f y)) ys
All-unmap P f [] h = All-nil (λ y. P (f y))
All-unmap P f (y ∷ ys) h =
    All-cons (λ z. P (f z)) y ys (All-head P (f y) (map f ys) h) (All-unmap P f ys (All-tail P (f y) (map f ys) h))

pub all_named : (bytes : List ℕ) (spans : List HeaderSpan) (fs : List read.Field)
    → map (header_bytes bytes) spans ≡ map name_and_value fs → All read.IsField fs → All (IsNamed bytes) spans
all_named bytes spans fs e h =
    All-unmap HasName (header_bytes bytes) spans
    (All-same HasName _ _ e (All-map HasName name_and_value fs (All-weaker read.IsField (λ f. HasName (name_and_value f)) (λ f valid. valid.name.0) fs h)))

trim_length : (raw : List ℕ) → length (read.trim_ows raw) ≤ length raw
trim_length raw =
    let t = trimmed raw in
    let e = ap length t.whole in
    let a = length-append t.before (read.trim_ows raw ++ t.after) in
    let b = length-append (read.trim_ows raw) t.after in
    omega arith

line_fits : (f : read.Field) → f.end ≡ read.crlf → line_room (field_of f) + 1 ≤ length (read.print_field f)
line_fits f well =
    let v = trim_length f.raw in
    let low : length (lower f.name) ≡ length f.name = length-map f.name _ in
    let a = length-append (f.name ++ (58 ∷ f.raw)) (read.print_end f.end) in
    let b = length-append f.name (58 ∷ f.raw) in
    let e : length (read.print_end f.end) ≡ 2 = ap (λ (x : read.LineEnd). length (read.print_end x)) well in
    omega arith

-- lines with CR LF at each end have a byte more than what their fields use
pub lines_fit : (fs : List read.Field) → All (λ (f : read.Field). f.end ≡ read.crlf) fs
    → lines_room (map field_of fs) + length fs ≤ length (flat_map read.print_field fs)
lines_fit [] h = omega arith
lines_fit (f ∷ fs) h =
    let one = line_fits f (All-head (λ (g : read.Field). g.end ≡ read.crlf) f fs h) in
    let more = lines_fit fs (All-tail (λ (g : read.Field). g.end ≡ read.crlf) f fs h) in
    let a = length-append (read.print_field f) (flat_map read.print_field fs) in
    omega arith

-- and they are 4 bytes long at least, each
four_bytes : (f : read.Field) → read.IsField f → f.end ≡ read.crlf → 4 ≤ length (read.print_field f)
four_bytes f h well =
    let a = length-append (f.name ++ (58 ∷ f.raw)) (read.print_end f.end) in
    let b = length-append f.name (58 ∷ f.raw) in
    let e : length (read.print_end f.end) ≡ 2 = ap (λ (x : read.LineEnd). length (read.print_end x)) well in
    omega (arith, a, b, e, h.name.0)

pub lines_long : (fs : List read.Field) → All read.IsField fs → All (λ (f : read.Field). f.end ≡ read.crlf) fs
    → 4 * length fs ≤ length (flat_map read.print_field fs)
lines_long [] h w = omega arith
lines_long (f ∷ fs) h w =
    let one = four_bytes f (All-head read.IsField f fs h) (All-head (λ (g : read.Field). g.end ≡ read.crlf) f fs w) in
    let more = lines_long fs (All-tail read.IsField f fs h) (All-tail (λ (g : read.Field). g.end ≡ read.crlf) f fs w) in
    omega (arith, one, more, length-append (read.print_field f) (flat_map read.print_field fs))
