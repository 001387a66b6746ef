-- What is written is read: lines, sections, start lines, chunks.
use Rattle.std.proofs.Common.{◌≡◌, ◌<◌, ◌≤◌, ◌+◌, ◌*◌, ◌/◌, ◌%◌, ◌^◌, true, false, nat_lt, arith, ℕ, zero, suc, List, [], ◌∷◌, ◌++◌, length, flat_map, All, IsTrue, codes, refl, sym, ap, ap₂, subst, ◌∙◌, append_assoc, append-nil, inl}
use Rattle.std.specs.Char.{digit_char}
use Rattle.std.specs.Str.Parse.{digits_value}
use Rattle.std.proofs.lemmas.Bool.{cond_both, lt-ltb, ltb-true, ltb-false}
use Rattle.std.proofs.lemmas.Int.Digits.{digits_value_push}
use Rattle.std.proofs.lemmas.Str.{digit_value-digit_char}
use Rattle.std.proofs.Math.Nat.{pow-suc}
use Rattle.std.proofs.lemmas.List.{length-append}
use Rattle.std.proofs.lemmas.List.Elements.{All-nil, All-head, All-tail, All-weaker, All-cons, All-append}
use Rattle.bh_spec.specs.Bounds.{Bounds, IsWithin}
use Rattle.bh_spec.specs.Bytes.{is_text_value, is_blank}
use Rattle.bh_spec.specs.Messages.{Field, IsToken}
use Rattle.bh_spec.specs.Canonical.{cut}
use Rattle.bh_spec.specs.Texts.{AreEach}
use Rattle.bh_spec.proofs.Written.{cut_pieces, cut_whole}
use Rattle.h1_spec.specs.Grammar.{crlf, Line}
use Rattle.h1_spec.specs.Heads.{request_line, status_line, IsRawTarget, IsStartLine, IsFieldLine, IsSection, three_digits}
use Rattle.h1_spec.specs.Bodies.{is_hex, IsChunkLine, IsChunk, IsChunked}
use Rattle.h1_spec.specs.Http1Text.{field_line, field_lines, status_text, hex_within, chunk_text}
use Rattle.h1_spec.specs.Written.{IsPiece}
use Rattle.h1_spec.specs.Heads.{IsHeadField}

-- ---- lines and sections

line_written : (f : Field) → IsHeadField f → Line (IsFieldLine f) (field_line f)
line_written f h = (
  f.name ++ (codes ": " ++ f.value),
  crlf,
  record {
    name = f.name;
    before = 32 ∷ [];
    after = [];
    token = h.name;
    same_name = h.lower_case;
    blank_before = All-cons (λ b. IsTrue (is_blank b)) 32 [] refl (All-nil (λ b. IsTrue (is_blank b)));
    value = h.value;
    blank_after = All-nil (λ b. IsTrue (is_blank b));
    written = ap (λ (x : List ℕ). f.name ++ (58 ∷ 32 ∷ x)) (sym (append-nil f.value));
  },
  refl,
  sym (append_assoc f.name (codes ": " ++ f.value) crlf),
)

lines_written : (fs : List Field) → All IsHeadField fs → AreEach (λ field. Line (IsFieldLine field)) fs (field_lines fs)
lines_written [] h = refl
lines_written (f ∷ fs) h =
    (field_line f, field_lines fs, line_written f (All-head IsHeadField f fs h), lines_written fs (All-tail IsHeadField f fs h), refl)

pub section_written : (fs : List Field) → All IsHeadField fs → IsSection fs (field_lines fs ++ crlf)
section_written fs h = (field_lines fs, crlf, lines_written fs h, refl, refl)

-- ---- start lines

pub status_written : (s : ℕ) → 100 ≤ s → s ≤ 599 → Line (IsStartLine (status_line s)) (status_text s)
status_written s p q = (
  codes "HTTP/1.1 " ++ (three_digits s ++ (32 ∷ [])),
  crlf,
  (p, q, ([], All-nil (λ b. IsTrue (is_text_value b)), refl)),
  refl,
  refl,
)

pub request_written : (method target : List ℕ) → IsToken method → IsRawTarget target
    → Line (IsStartLine (request_line method target)) (method ++ (32 ∷ (target ++ (codes " HTTP/1.1" ++ crlf))))
request_written method target h k = (
  method ++ (32 ∷ (target ++ codes " HTTP/1.1")),
  crlf,
  (h, k, refl),
  refl,
  ap (λ (x : List ℕ). method ++ (32 ∷ x)) (sym (append_assoc target (codes " HTTP/1.1") crlf))
      ∙ sym (append_assoc method (32 ∷ (target ++ codes " HTTP/1.1")) crlf),
)

-- ---- chunks

glyph_hex : (d : ℕ) → d < 16 → IsTrue (is_hex (digit_char d))
glyph_hex d h = subst (λ (v : ℕ). IsTrue (nat_lt v 16)) (sym (digit_value-digit_char d (omega arith))) (lt-ltb d 16 h)

-- hexadecimal digits of the number
record AreDigitsOf (turns n : ℕ) (x : List ℕ) : Type 0 where
  each : All (λ b. IsTrue (is_hex b)) x
  some : 0 < length x
  few : length x ≤ turns
  value : digits_value 16 x ≡ n

last_digit : (turns n d : ℕ) (x : List ℕ) → AreDigitsOf turns n x → d < 16 → AreDigitsOf (suc turns) (n * 16 + d) (x ++ (digit_char d ∷ []))
last_digit turns n d x h k = record {
  each = All-append (λ b. IsTrue (is_hex b)) x (digit_char d ∷ []) h.each (All-cons (λ b. IsTrue (is_hex b)) (digit_char d) [] (glyph_hex d k) (All-nil (λ b. IsTrue (is_hex b))));
  some = omega (arith, length-append x (digit_char d ∷ []));
  few = omega (arith, length-append x (digit_char d ∷ []), h.few);
  value = digits_value_push 16 x (digit_char d) ∙ ap₂ (λ (v w : ℕ). v * 16 + w) h.value (digit_value-digit_char d (omega arith));
}

hex_written : (turns n : ℕ) → n < 16 ^ turns → 0 < turns → AreDigitsOf turns n (hex_within turns n)
hex_written zero n h k = absurd (omega arith)
hex_written (suc turns) n h k = cond_both (nat_lt n 16) _ _ (AreDigitsOf (suc turns) n) one (more (hex_written turns (n / 16)))
  where
    one : nat_lt n 16 ≡ true → AreDigitsOf (suc turns) n (digit_char n ∷ [])
    one e = record {
      each = All-cons (λ b. IsTrue (is_hex b)) (digit_char n) [] (glyph_hex n (ltb-true n 16 e)) (All-nil (λ b. IsTrue (is_hex b)));
      some = omega arith;
      few = omega arith;
      value = omega (arith, digit_value-digit_char n (omega (arith, ltb-true n 16 e)));
    }

    below : 16 ≤ n → n / 16 < 16 ^ turns
    below p = omega (arith, pow-suc 16 turns)

    positive : 16 ≤ n → (t : ℕ) → n < 16 ^ suc t → 0 < t
    positive p zero h = absurd (omega arith)
    positive p (suc t) h = omega arith

    more : (n / 16 < 16 ^ turns → 0 < turns → AreDigitsOf turns (n / 16) (hex_within turns (n / 16)))
        → nat_lt n 16 ≡ false → AreDigitsOf (suc turns) n (hex_within turns (n / 16) ++ (digit_char (n % 16) ∷ []))
    more f e =
        let p : 16 ≤ n = ltb-false n 16 e in
        subst (λ (v : ℕ). AreDigitsOf (suc turns) v (hex_within turns (n / 16) ++ (digit_char (n % 16) ∷ []))) (omega arith)
        (last_digit turns (n / 16) (n % 16) (hex_within turns (n / 16)) (f (below p) (positive p turns h)) (omega arith))

pub chunk_line_written : (n : ℕ) → n ≤ 8192 → IsChunkLine n (hex_within 15 n ++ crlf)
chunk_line_written n h =
    let hex = hex_written 15 n (omega arith) (omega arith) in (
      omega (arith, length-append (hex_within 15 n) crlf, hex.few),
      (
        hex_within 15 n,
        crlf,
        record {
          digits = hex_within 15 n;
          blanks = [];
          extension = [];
          some = hex.some;
          few = hex.few;
          each = hex.each;
          value = hex.value;
          blank = All-nil (λ b. IsTrue (is_blank b));
          read_over = inl refl;
          written = sym (append-nil (hex_within 15 n));
        },
        refl,
        refl,
      ),
    )

chunk_written : (chunk : List ℕ) → length chunk ≤ 8192 → IsChunk chunk (chunk_text chunk)
chunk_written chunk h = (
  hex_within 15 (length chunk) ++ crlf,
  chunk ++ crlf,
  chunk_line_written (length chunk) h,
  (chunk, crlf, refl, refl, refl),
  sym (append_assoc (hex_within 15 (length chunk)) crlf (chunk ++ crlf)),
)

pub chunks_written : (chunks : List (List ℕ)) → All IsPiece chunks → AreEach IsChunk chunks (flat_map chunk_text chunks)
chunks_written [] h = refl
chunks_written (chunk ∷ rest) h =
    (chunk_text chunk, flat_map chunk_text rest, chunk_written chunk (All-head IsPiece chunk rest h).1, chunks_written rest (All-tail IsPiece chunk rest h), refl)

pub chunked_written : (L : Bounds) (content : List ℕ) (trailers : List Field) → All IsHeadField trailers → IsWithin L.section (length (field_lines trailers ++ crlf))
    → IsChunked L content trailers (flat_map chunk_text (cut 8192 content) ++ (codes "0" ++ (crlf ++ (field_lines trailers ++ crlf))))
chunked_written L content trailers h within =
    let pieces : All IsPiece (cut 8192 content) = cut_pieces (length content) content in (
      cut 8192 content,
      cut_whole (length content) content (omega arith),
      All-weaker IsPiece (λ (y : List ℕ). 0 < length y) (λ y p. p.0) (cut 8192 content) pieces,
      (
        flat_map chunk_text (cut 8192 content),
        codes "0" ++ (crlf ++ (field_lines trailers ++ crlf)),
        chunks_written (cut 8192 content) pieces,
        (codes "0" ++ crlf, field_lines trailers ++ crlf, chunk_line_written 0 (omega arith), (within, section_written trailers h), refl),
        refl,
      ),
    )
