-- The sections of the definitions, and what `httparse` reads.
use Rattle.std.proofs.Common.{refl, sym, ap, subst, ap₂, ◌≡◌, ◌∙◌, ◌<◌, ℕ, List, [], ◌∷◌, ◌++◌, length, map, append-nil}
use Rattle.std.specs.Prelude.{IsTrue, All}
use Rattle.std.specs.List.{flat_map}
use Rattle.std.proofs.Math.Seq.{take-append_seam, drop-append_seam}
use Rattle.std.proofs.lemmas.List.Elements.{All-head, All-tail, All-cons, All-nil, All-weaker, All-append, All-take, All-drop}
use Rattle.bh_spec.specs.Bytes.{AreBytes, is_token, is_text_value, is_blank}
use Rattle.bh_spec.specs.Messages.{Field}
use Rattle.bh_spec.specs.Messages as spec
use Rattle.bh_spec.specs.Texts.{AreEach}
use Rattle.h1_spec.specs.Grammar.{Line}
use Rattle.h1_spec.specs.Heads.{AreBlank, IsFieldLine, IsSection}
use Rattle.httparse.specs.Grammar as read
use Rattle.httparse.proofs.TrimLemmas.{AllPass-trim_ows}
use Rattle.h1_head.specs.Laws.{field_of, EndsWell, ReadsWell}
use Rattle.h1_head.proofs.Classes.{same_below, token_is_byte, value_same, value_is_byte, blank_value}
use Rattle.h1_head.proofs.Trimming.{trim_value, trimmed}

pub All-front : {X : Type 0} (P : X → Type 0) (xs ys : List X) → All P (xs ++ ys) → All P xs
All-front P xs ys h = subst (All P) (take-append_seam xs ys) (All-take P (length xs) (xs ++ ys) h)

pub All-back : {X : Type 0} (P : X → Type 0) (xs ys : List X) → All P (xs ++ ys) → All P ys
All-back P xs ys h = subst (All P) (drop-append_seam xs ys) (All-drop P (length xs) (xs ++ ys) h)

abbrev IsByte : ℕ → Type 0
IsByte b = b < 256

abbrev IsValueByte : ℕ → Type 0
IsValueByte b = IsTrue (read.is_value_byte b)

abbrev IsTextByte : ℕ → Type 0
IsTextByte b = IsTrue (is_text_value b)

token_there : (name : List ℕ) → spec.IsToken name → read.IsToken name
token_there name h = (
  h.nonempty,
  All-weaker (λ b. IsTrue (is_token b)) (λ b. IsTrue (read.is_token_byte b)) (λ b t. sym (same_below b (token_is_byte b t)) ∙ t) name h.each,
)

token_back : (name : List ℕ) → AreBytes name → read.IsToken name → spec.IsToken name
token_back name small h = record {
  nonempty = h.0;
  each = λ k d lt. same_below _ (small k d lt) ∙ h.1 k d lt;
}

text_value : (b : ℕ) → IsTextByte b → IsValueByte b
text_value b h = sym (value_same b (value_is_byte b h)) ∙ h

raw_there : (before value after : List ℕ) → AreBlank before → All IsTextByte value → AreBlank after
    → All IsValueByte (before ++ (value ++ after))
raw_there before value after hb hv ha =
    All-append IsValueByte before (value ++ after) (All-weaker (λ b. IsTrue (is_blank b)) IsValueByte blank_value before hb)
    (All-append IsValueByte value after (All-weaker IsTextByte IsValueByte text_value value hv)
    (All-weaker (λ b. IsTrue (is_blank b)) IsValueByte blank_value after ha))

-- ---- one line

-- the line that it is for `httparse`
record LineThere (field : Field) (bytes : List ℕ) : Type 0 where
  line : read.Field
  valid : read.IsField line
  well : EndsWell line
  printed : bytes ≡ read.print_field line
  same : field_of line ≡ field

line_there : (field : Field) (bytes : List ℕ) → Line (IsFieldLine field) bytes → LineThere field bytes
line_there field bytes h =
    let l = h.2 in
    let raw : List ℕ = l.before ++ (field.value ++ l.after) in
    let value : read.trim_ows raw ≡ field.value =
    trim_value l.before field.value l.after l.blank_before l.blank_after l.value.first l.value.last in
    record {
      line = record { name = l.name; raw = raw; end = read.crlf };
      valid = record {
        name = token_there l.name l.token;
        raw = raw_there l.before field.value l.after l.blank_before l.value.each l.blank_after;
      };
      well = refl;
      printed = h.4 ∙ ap₂ (λ (x y : List ℕ). x ++ y) l.written h.3;
      same = λ i. record { name = l.same_name i; value = value i };
    }

line_back : (f : read.Field) → AreBytes (read.print_field f) → read.IsField f → EndsWell f
    → Line (IsFieldLine (field_of f)) (read.print_field f)
line_back f small h well =
    let t = trimmed f.raw in
    let front : AreBytes (f.name ++ (58 ∷ f.raw)) = All-front IsByte (f.name ++ (58 ∷ f.raw)) (read.print_end f.end) small in
    let name_small : AreBytes f.name = All-front IsByte f.name (58 ∷ f.raw) front in
    let raw_small : AreBytes f.raw = All-tail IsByte 58 f.raw (All-back IsByte f.name (58 ∷ f.raw) front) in
    let text : All IsTextByte f.raw = λ k d lt. value_same _ (raw_small k d lt) ∙ h.raw k d lt in (
      f.name ++ (58 ∷ f.raw),
      read.print_end f.end,
      record {
        name = f.name;
        before = t.before;
        after = t.after;
        token = token_back f.name name_small h.name;
        same_name = refl;
        blank_before = t.blank_before;
        value = record {
          each = AllPass-trim_ows is_text_value f.raw text;
          first = t.first;
          last = t.last;
        };
        blank_after = t.blank_after;
        written = ap (λ (r : List ℕ). f.name ++ (58 ∷ r)) t.whole;
      },
      ap read.print_end well,
      refl,
    )

-- ---- all lines

record LinesThere (fields : List Field) (bytes : List ℕ) : Type 0 where
  lines : List read.Field
  valid : All read.IsField lines
  well : All EndsWell lines
  printed : bytes ≡ flat_map read.print_field lines
  same : map field_of lines ≡ fields

lines_there : (fields : List Field) (bytes : List ℕ) → AreEach (λ field. Line (IsFieldLine field)) fields bytes → LinesThere fields bytes
lines_there [] bytes h = record { lines = []; valid = All-nil read.IsField; well = All-nil EndsWell; printed = h; same = refl }
lines_there (field ∷ rest) bytes h =
    let one = line_there field h.0 h.2 in
    let more = lines_there rest h.1 h.3 in
    record {
      lines = one.line ∷ more.lines;
      valid = All-cons read.IsField one.line more.lines one.valid more.valid;
      well = All-cons EndsWell one.line more.lines one.well more.well;
      printed = h.4 ∙ ap₂ (λ (x y : List ℕ). x ++ y) one.printed more.printed;
      same = ap₂ (λ (x : Field) (xs : List Field). x ∷ xs) one.same more.same;
    }

lines_back : (fs : List read.Field) → AreBytes (flat_map read.print_field fs) → All read.IsField fs → All EndsWell fs
    → AreEach (λ field. Line (IsFieldLine field)) (map field_of fs) (flat_map read.print_field fs)
lines_back [] small h well = refl
lines_back (f ∷ fs) small h well = (
  read.print_field f,
  flat_map read.print_field fs,
  line_back f (All-front IsByte (read.print_field f) (flat_map read.print_field fs) small) (All-head read.IsField f fs h) (All-head EndsWell f fs well),
  lines_back fs (All-back IsByte (read.print_field f) (flat_map read.print_field fs) small) (All-tail read.IsField f fs h) (All-tail EndsWell f fs well),
  refl,
)

pub there : (fields : List Field) (bytes : List ℕ) → IsSection fields bytes
    → (fs : List read.Field) × ReadsWell bytes fs × (map field_of fs ≡ fields)
there fields bytes h =
    let l = lines_there fields h.0 h.2 in (
      l.lines,
      record {
        reads = (l.valid, h.4 ∙ ap₂ (λ (x y : List ℕ). x ++ y) l.printed h.3 ∙ sym (append-nil (read.print_section l.lines read.crlf)));
        ends = l.well;
      },
      l.same,
    )

pub back : (fs : List read.Field) (bytes : List ℕ) → AreBytes bytes → ReadsWell bytes fs → IsSection (map field_of fs) bytes
back fs bytes small h =
    let printed : bytes ≡ read.print_section fs read.crlf = h.reads.1 ∙ append-nil (read.print_section fs read.crlf) in
    let whole : AreBytes (read.print_section fs read.crlf) = subst AreBytes printed small in (
      flat_map read.print_field fs,
      read.print_end read.crlf,
      lines_back fs (All-front IsByte (flat_map read.print_field fs) (read.print_end read.crlf) whole) h.reads.0 h.ends,
      refl,
      printed,
    )
