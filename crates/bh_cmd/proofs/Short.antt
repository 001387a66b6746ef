-- The canonical text of an input within the default limits is short, so its bytes and their sum are counted exactly.
use Rattle.std.proofs.Common.{◌≤◌, ◌<◌, ◌+◌, ◌*◌, ◌^◌, ℕ, List, [], ◌∷◌, ◌++◌, length, get_or, All, ap, arith, flat_map}
use Rattle.std.specs.List.{sum, concat}
use Rattle.std.proofs.lemmas.List.{length-append}
use Rattle.std.proofs.lemmas.List.Elements.{All-head, All-tail, All-weaker}
use Rattle.std.proofs.lemmas.List.Concat.{flat_map-cons, length-flat_map}
use Rattle.std.proofs.lemmas.List.Sums.{sum_by-le}
use Rattle.bh_spec.specs.declared.Width.{Width}
use Rattle.bh_spec.specs.declared.Width.TheVariants.{One, Two, Four, Eight}
use Rattle.bh_spec.specs.declared.Form.TheVariants.{Indeterminate}
use Rattle.bh_spec.specs.declared.Summary.{Summary}
use Rattle.bh_spec.specs.Bounds.{default_bounds}
use Rattle.bh_spec.specs.Bytes.{AreBytes}
use Rattle.bh_spec.specs.Integers.{int, vi, least_width}
use Rattle.bh_spec.specs.Messages.{Field, Interim, Start, request, response, Message, kind_of}
use Rattle.bh_spec.specs.Spelling.{framing}
use Rattle.bh_spec.specs.Canonical.{string, lines, section, interim, start, cut, spelled_content, canon, FieldsFit, StartFits, Fits}
use Rattle.bh_spec.proofs.Widths.{length-vi}
use Rattle.bh_spec.proofs.Written.{IsPiece, cut_pieces, cut_whole}
use Rattle.bh_spec.proofs.Fitting.{fits_where_spelled}
use Rattle.bh_spec.proofs.Contents.{content_long}
use Rattle.bh_canon.specs.Ends.{IsCanon}

pub int_few : (n : ℕ) → length (int n) ≤ 8
int_few n = by_width (least_width n)
  where
    by_width : (w : Width) → length (vi n w) ≤ 8
    by_width One = omega (arith, length-vi n One)
    by_width Two = omega (arith, length-vi n Two)
    by_width Four = omega (arith, length-vi n Four)
    by_width Eight = omega (arith, length-vi n Eight)

pub string_few : (bytes : List ℕ) → length (string bytes) ≤ length bytes + 8
string_few bytes = omega (arith, int_few (length bytes), length-append (int (length bytes)) bytes)

pub section_few : (fields : List Field) → FieldsFit default_bounds fields → length (section Indeterminate fields) ≤ 65544
section_few fields h = omega (arith, h.total, int_few 0, length-append (lines fields) (int 0))

interim_few : (i : Interim) → FieldsFit default_bounds i.fields → length (interim Indeterminate i) ≤ 65552
interim_few i h = omega (arith, section_few i.fields h, int_few i.status, length-append (int i.status) (section Indeterminate i.fields))

pub start_few : (a : Start) → StartFits default_bounds a → length (start Indeterminate a) ≤ 2097152
start_few (request c) h =
    omega (
      arith,
      h.method,
      h.scheme,
      h.authority,
      h.path,
      string_few c.method,
      string_few c.scheme,
      string_few c.authority,
      string_few c.path,
      length-append (string c.method) (string c.scheme ++ (string c.authority ++ string c.path)),
      length-append (string c.scheme) (string c.authority ++ string c.path),
      length-append (string c.authority) (string c.path),
    )
start_few (response is status) h =
    omega (
      arith,
      h.0,
      int_few status,
      length-append (flat_map (interim Indeterminate) is) (int status),
      length-flat_map (interim Indeterminate) is,
      sum_by-le (λ (i : Interim). length (interim Indeterminate i)) 65552 is (λ k d within. interim_few (get_or is k d) (h.1 k d within)),
    )

-- strings that aren't empty
pub strings_few : (pieces : List (List ℕ)) → All (λ piece. 0 < length piece) pieces → length (flat_map string pieces) ≤ 9 * length (concat pieces)
strings_few [] some = omega arith
strings_few (piece ∷ pieces) some =
    let first = All-head (λ (x : List ℕ). 0 < length x) piece pieces some in
    let others = strings_few pieces (All-tail (λ (x : List ℕ). 0 < length x) piece pieces some) in
    omega (
      arith,
      first,
      others,
      string_few piece,
      ap length (flat_map-cons string piece pieces),
      length-append (string piece) (flat_map string pieces),
      length-append piece (concat pieces),
    )

body_few : (content : List ℕ) → length (spelled_content Indeterminate content) ≤ 9 * length content + 8
body_few content =
    let pieces = All-weaker IsPiece (λ (x : List ℕ). 0 < length x) (λ x p. p.0) (cut 8192 content) (cut_pieces (length content) content) in
    omega (
      arith,
      strings_few (cut 8192 content) pieces,
      ap length (cut_whole (length content) content (omega arith)),
      int_few 0,
      length-append (flat_map string (cut 8192 content)) (int 0),
    )

canon_few : (m : Message) → Fits default_bounds m → length m.content ≤ 2 ^ 40 → length (canon m) < 2 ^ 48
canon_few m h short =
    let front = int (framing (kind_of m.start) Indeterminate) in
    let head = start Indeterminate m.start in
    let fields = section Indeterminate m.fields in
    let content = spelled_content Indeterminate m.content in
    let trailers = section Indeterminate m.trailers in
    omega (
      arith,
      short,
      int_few (framing (kind_of m.start) Indeterminate),
      start_few m.start h.start,
      section_few m.fields h.fields,
      body_few m.content,
      section_few m.trailers h.trailers,
      length-append front (head ++ (fields ++ (content ++ trailers))),
      length-append head (fields ++ (content ++ trailers)),
      length-append fields (content ++ trailers),
      length-append content trailers,
    )

pub text_few : (bytes : List ℕ) (s : Summary) (text : List ℕ) → IsCanon default_bounds bytes s text → length text < 2 ^ 48
text_few bytes s text h =
    let read = h.answer.1 in
    let fit = fits_where_spelled default_bounds h.message h.omitted h.padding read.text read.spelled in
    let long = content_long default_bounds h.message h.omitted h.padding bytes read in
    omega (arith, ap length h.text_is, canon_few h.message fit (omega (arith, long, h.answer.0)))

pub sum_few : (bytes : List ℕ) → AreBytes bytes → length bytes < 2 ^ 48 → sum bytes < 2 ^ 64
sum_few bytes are few = omega (arith, few, sum_by-le (λ (x : ℕ). x) 255 bytes (λ k d within. omega (arith, are k d within)))
