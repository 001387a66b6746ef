-- What `trial` makes is a text of its message.
use Rattle.std.proofs.Common.{Option, Some, ◌≡◌, ◌≤◌, ◌<◌, ◌+◌, ◌*◌, ◌^◌, ◌-◌, ℕ, zero, suc, List, [], ◌∷◌, ◌++◌, length, take, drop, get_or, All, IsTrue, IsFalse, codes, refl, sym, ap, ap₂, subst, ◌∙◌, arith, append_assoc, flat_map, inl}
use Rattle.std.specs.Fmt.{decimal}
use Rattle.std.specs.List.{concat, range_with_len}
use Rattle.std.proofs.lemmas.Fmt.{decimal-digits_of, decimal_digit, length-decimal-le, decimal_is_IsNumeral}
use Rattle.std.proofs.lemmas.Int.Digits.{all_below_base_digits_of}
use Rattle.std.specs.Int.Digits.{digits_of}
use Rattle.std.proofs.lemmas.List.{length-append, length-take, length-drop, take-append-drop}
use Rattle.std.proofs.lemmas.List.Concat.{flat_map-cons}
use Rattle.std.proofs.lemmas.List.Elements.{All-nil, All-cons, All-head, All-tail, All-map, All-weaker, All-from_recursion}
use Rattle.std.proofs.lemmas.List.FromFn.{length-map-range_with_len}
use Rattle.std.proofs.lemmas.Nat.{mod_below}
use Rattle.bh_spec.specs.declared.Form.TheVariants.{Indeterminate}
use Rattle.bh_spec.specs.declared.Omitted.TheVariants.{Nothing}
use Rattle.bh_spec.specs.declared.Part.TheVariants as parts
use Rattle.bh_spec.specs.Bounds.{Bounds, IsWithin, default_bounds}
use Rattle.bh_spec.specs.Bytes.{AreBytes, is_token, is_scheme, is_authority, is_path, is_value, is_blank}
use Rattle.bh_spec.specs.Integers.{int}
use Rattle.bh_spec.specs.Messages.{Field, request, IsControl, IsValue, IsPseudoField, IsRegularField, AreHeaders, IsValid}
use Rattle.bh_spec.specs.Texts.{Text, mark, IsNumber, IsRun, ◌then◌, AreEach}
use Rattle.bh_spec.specs.Sections.{IsSection}
use Rattle.bh_spec.specs.Tails.{IsBody, IsTail}
use Rattle.bh_spec.specs.Spelling.{IsStartText}
use Rattle.bh_spec.specs.Viable.{SpellsBytes}
use Rattle.bh_spec.specs.Canonical.{string, line, lines, section, start, FieldsFit, ControlFits, greatest, integers}
use Rattle.bh_spec.proofs.Sections.{IsChunkText}
use Rattle.bh_spec.proofs.Marks.{bytes_of-append, unmark}
use Rattle.bh_spec.proofs.Written.{Has, has_int, has_start, has_written_section, headers_lower, IsLower}
use Rattle.bh_cmd.specs.Trials.{content_byte, content_from, chunk_size, chunks_within, chunks_from, ending, trial_control, trial_fields, opening, trial, trial_message, TrialIsMessage}
use Rattle.bh_cmd.proofs.Short.{int_few, string_few, section_few, start_few, strings_few}

-- ---- texts that have these bytes

behind : (R S : Text → Type 0) (x y : List ℕ) → Has R x → Has S y → Has (R then S) (x ++ y)
behind R S x y h k = (h.0 ++ k.0, (h.0, k.0, h.1, k.1, refl), bytes_of-append h.0 k.0 ∙ ap₂ (λ (v w : List ℕ). v ++ w) h.2 k.2)

abbrev IsChunk : List ℕ → Type 0
IsChunk x = (0 < length x) × (length x ≤ greatest)

has_chunks : (chunks : List (List ℕ)) → All IsChunk chunks → Has (AreEach IsChunkText chunks) (flat_map string chunks)
has_chunks [] h = ([], refl, refl)
has_chunks (x ∷ chunks) h =
    let is = All-head IsChunk x chunks h in
    let own = behind (IsNumber parts.ChunkLength (length x)) (IsRun parts.Content x) (int (length x)) x (has_int parts.ChunkLength (length x) is.1) (mark parts.Content x, refl, unmark parts.Content x) in
    behind (IsChunkText x) (AreEach IsChunkText chunks) (string x) (flat_map string chunks) own (has_chunks chunks (All-tail IsChunk x chunks h))

-- ---- the content

are_chunks : (turns i : ℕ) (xs : List ℕ) → length xs ≤ greatest → All IsChunk (chunks_within turns i xs)
are_chunks zero i xs few = All-nil IsChunk
are_chunks (suc turns) i [] few = All-nil IsChunk
are_chunks (suc turns) i (x ∷ xs) few =
    let back = drop (chunk_size i) (x ∷ xs) in
    All-cons IsChunk (take (chunk_size i) (x ∷ xs)) (chunks_within turns (i + 1) back)
    (omega (arith, length-take (chunk_size i) (x ∷ xs)), omega (arith, few, length-take (chunk_size i) (x ∷ xs)))
    (are_chunks turns (i + 1) back (omega (arith, few, length-drop (chunk_size i) (x ∷ xs))))

all_chunks : (turns i : ℕ) (xs : List ℕ) → length xs ≤ turns → concat (chunks_within turns i xs) ≡ xs
all_chunks zero i [] few = refl
all_chunks zero i (x ∷ xs) few = absurd (omega arith)
all_chunks (suc turns) i [] few = refl
all_chunks (suc turns) i (x ∷ xs) few =
    ap (λ (ys : List ℕ). take (chunk_size i) (x ∷ xs) ++ ys)
    (all_chunks turns (i + 1) (drop (chunk_size i) (x ∷ xs)) (omega (arith, few, length-drop (chunk_size i) (x ∷ xs))))
    ∙ take-append-drop (chunk_size i) (x ∷ xs)

content_bytes : (n : ℕ) → AreBytes (content_from 0 n)
content_bytes n = All-map (λ b. b < 256) content_byte (range_with_len 0 n) (λ k d within. mod_below (31 * get_or (range_with_len 0 n) k d + 7) 256 (omega arith))

-- ---- the line

digit : (d : ℕ) → d < 10 → IsTrue (is_value (48 + d)) × IsFalse (is_blank (48 + d))
digit zero h = (refl, refl)
digit (suc zero) h = (refl, refl)
digit (suc (suc zero)) h = (refl, refl)
digit (suc (suc (suc zero))) h = (refl, refl)
digit (suc (suc (suc (suc zero)))) h = (refl, refl)
digit (suc (suc (suc (suc (suc zero))))) h = (refl, refl)
digit (suc (suc (suc (suc (suc (suc zero)))))) h = (refl, refl)
digit (suc (suc (suc (suc (suc (suc (suc zero))))))) h = (refl, refl)
digit (suc (suc (suc (suc (suc (suc (suc (suc zero)))))))) h = (refl, refl)
digit (suc (suc (suc (suc (suc (suc (suc (suc (suc zero))))))))) h = (refl, refl)
digit (suc (suc (suc (suc (suc (suc (suc (suc (suc (suc d)))))))))) h = absurd (omega arith)

abbrev IsDigit : ℕ → Type 0
IsDigit b = IsTrue (is_value b) × IsFalse (is_blank b)

digits : (n : ℕ) → n < 2 ^ 64 → All IsDigit (decimal n)
digits zero small = subst (All IsDigit) (sym (decimal_digit 0 (omega arith))) (All-cons IsDigit 48 [] (refl, refl) (All-nil IsDigit))
digits (suc m) small =
    subst (All IsDigit) (sym (decimal-digits_of (suc m) (omega arith) small))
    (All-map IsDigit (λ d. 48 + d) (digits_of 10 (suc m))
    (All-weaker (λ d. d < 10) (λ d. IsDigit (48 + d)) digit (digits_of 10 (suc m)) (All-from_recursion (λ d. d < 10) (digits_of 10 (suc m)) (all_below_base_digits_of 10 (suc m) (omega arith)))))

decimal_valid : (n : ℕ) → n < 2 ^ 64 → IsValue (decimal n)
decimal_valid n small =
    let all = digits n small in
    let some = (decimal_is_IsNumeral n small).0.0 in
    record {
      each = All-weaker IsDigit (λ byte. IsTrue (is_value byte)) (λ b p. p.0) (decimal n) all;
      first = (all 0 0 some).1;
      last = (all (length (decimal n) - 1) 0 (omega (arith, some))).1;
    }

decimal_few : (n : ℕ) → n ≤ 67108864 → length (decimal n) ≤ 20
decimal_few n few = length-decimal-le 20 n (omega arith) (omega (arith, few)) (omega (arith, few))

abbrev the_line : ℕ → Field
the_line n = record { name = codes "x-trial"; value = decimal n }

line_valid : (n : ℕ) → n < 2 ^ 64 → IsRegularField (the_line n)
line_valid n small = record {
  name = record { nonempty = omega arith; each = All-from_recursion (λ byte. IsTrue (is_token byte)) (codes "x-trial") (refl, (refl, (refl, (refl, (refl, (refl, (refl, tt))))))) };
  lower_case = refl;
  value = decimal_valid n small;
}

line_fits : (L : Bounds) (part total : ℕ) → L.part ≡ Some part → L.section ≡ Some total → 20 ≤ part → 43 ≤ total → (n : ℕ) → n ≤ 67108864 → FieldsFit L (trial_fields n)
line_fits L part total is_part is_total some more n few = record {
  names = All-from_recursion (λ (f : Field). IsWithin L.part (length f.name)) (trial_fields n) (subst (λ (o : Option ℕ). IsWithin o 7) (sym is_part) (omega (arith, some)), tt);
  values = All-from_recursion (λ (f : Field). IsWithin L.part (length f.value)) (trial_fields n)
      (subst (λ (o : Option ℕ). IsWithin o (length (decimal n))) (sym is_part) (omega (arith, some, decimal_few n few)), tt);
  total = subst (λ (o : Option ℕ). IsWithin o (length (lines (trial_fields n)))) (sym is_total)
      (omega (
        arith,
        more,
        decimal_few n few,
        string_few (codes "x-trial"),
        string_few (decimal n),
        ap length (flat_map-cons line (the_line n) []),
        length-append (line (the_line n)) [],
        length-append (string (codes "x-trial")) (string (decimal n)),
      ));
}

-- ---- the message

control_valid : IsControl trial_control
control_valid = record {
  method = record { nonempty = omega arith; each = All-from_recursion (λ byte. IsTrue (is_token byte)) (codes "POST") (refl, (refl, (refl, (refl, tt)))) };
  scheme = record {
    letter = (104, codes "ttps", refl, refl);
    each = All-from_recursion (λ byte. IsTrue (is_scheme byte)) (codes "https") (refl, (refl, (refl, (refl, (refl, tt)))));
    lower_case = refl;
  };
  authority = All-nil (λ byte. IsTrue (is_authority byte));
  path = record {
    each = All-from_recursion (λ byte. IsTrue (is_path byte)) (codes "/trial") (refl, (refl, (refl, (refl, (refl, (refl, tt))))));
    web = λ web. inl (codes "trial", refl);
  };
}

control_fits : ControlFits default_bounds trial_control
control_fits = record { method = omega arith; scheme = omega arith; authority = omega arith; path = omega arith }

control_small : ControlFits integers trial_control
control_small = record { method = omega arith; scheme = omega arith; authority = omega arith; path = omega arith }

headers : (n : ℕ) → n < 2 ^ 64 → AreHeaders (trial_fields n)
headers n small = ([], trial_fields n, refl, All-nil IsPseudoField, All-cons IsRegularField (the_line n) [] (line_valid n small) (All-nil IsRegularField))

message_valid : (n : ℕ) → n < 2 ^ 64 → IsValid (trial_message n)
message_valid n small = record { start = control_valid; fields = headers n small; content = content_bytes n; trailers = All-nil IsRegularField }

-- ---- the text

empty_fits : (L : Bounds) (total : ℕ) → L.section ≡ Some total → FieldsFit L []
empty_fits L total is = record {
  names = All-nil (λ (f : Field). IsWithin L.part (length f.name));
  values = All-nil (λ (f : Field). IsWithin L.part (length f.value));
  total = subst (λ (o : Option ℕ). IsWithin o 0) (sym is) (omega arith);
}

module _ (n : ℕ) (few : n ≤ 67108864) where
  abbrev content : List ℕ
  content = content_from 0 n

  long : length content ≡ n
  long = length-map-range_with_len content_byte 0 n

  abbrev chunks : List (List ℕ)
  chunks = chunks_within n 0 content

  has_content : Has (IsBody Indeterminate content) (flat_map string chunks ++ int 0)
  has_content =
      let are = are_chunks n 0 content (omega (arith, few, long)) in
      let both = behind (AreEach IsChunkText chunks) (IsNumber parts.ChunkLength 0) (flat_map string chunks) (int 0) (has_chunks chunks are) (has_int parts.ChunkLength 0 (omega arith)) in
      (both.0, (chunks, all_chunks n 0 content (omega (arith, long)), All-weaker IsChunk (λ x. 0 < length x) (λ x p. p.0) chunks are, both.1), both.2)

  abbrev L : Bounds
  L = default_bounds

  has_tail : Has (IsTail L Indeterminate content [] Nothing 0) ((flat_map string chunks ++ int 0) ++ (int 0 ++ []))
  has_tail =
      let end = has_written_section L Indeterminate [] (All-nil IsLower, (empty_fits integers greatest refl, empty_fits L 65536 refl)) in
      let pad : Has (IsRun parts.Padding []) [] = ([], refl, refl) in
      behind (IsBody Indeterminate content) (IsSection L Indeterminate [] then IsRun parts.Padding []) (flat_map string chunks ++ int 0) (int 0 ++ []) has_content
      (behind (IsSection L Indeterminate []) (IsRun parts.Padding []) (int 0) [] end pad)

  abbrev head : List ℕ
  head = start Indeterminate (request trial_control)

  abbrev fields : List ℕ
  fields = section Indeterminate (trial_fields n)

  abbrev tail : List ℕ
  tail = (flat_map string chunks ++ int 0) ++ (int 0 ++ [])

  valid : IsValid (trial_message n)
  valid = message_valid n (omega (arith, few))

  has_message : Has (IsNumber parts.Framing 2 then IsStartText L Indeterminate (request trial_control) then IsSection L Indeterminate (trial_fields n)
      then IsTail L Indeterminate content [] Nothing 0) (int 2 ++ (head ++ (fields ++ tail)))
  has_message =
      let section_is = has_written_section L Indeterminate (trial_fields n)
      (headers_lower (trial_fields n) valid.fields, (line_fits integers greatest greatest refl refl (omega arith) (omega arith) n few, line_fits L 8192 65536 refl refl (omega arith) (omega arith) n few)) in
      let start_is = has_start L Indeterminate (request trial_control) valid.start control_small control_fits in
      let behind_head = behind (IsSection L Indeterminate (trial_fields n)) (IsTail L Indeterminate content [] Nothing 0) fields tail section_is has_tail in
      behind (IsNumber parts.Framing 2) (IsStartText L Indeterminate (request trial_control) then IsSection L Indeterminate (trial_fields n) then IsTail L Indeterminate content [] Nothing 0)
      (int 2) (head ++ (fields ++ tail)) (has_int parts.Framing 2 (omega arith))
      (behind (IsStartText L Indeterminate (request trial_control)) (IsSection L Indeterminate (trial_fields n) then IsTail L Indeterminate content [] Nothing 0)
      head (fields ++ tail) start_is behind_head)

  same_tail : tail ≡ chunks_from 0 0 n ++ ending
  same_tail = append_assoc (flat_map string chunks) (int 0) (int 0 ++ [])

  same : int 2 ++ (head ++ (fields ++ tail)) ≡ trial n
  same =
      ap (λ (x : List ℕ). int 2 ++ (head ++ (fields ++ x))) same_tail
      ∙ sym (append_assoc (int 2) (head ++ fields) (chunks_from 0 0 n ++ ending) ∙ ap (λ (x : List ℕ). int 2 ++ x) (append_assoc head fields (chunks_from 0 0 n ++ ending)))

  short : length (trial n) ≤ 2 ^ 40
  short =
      omega (
        arith,
        few,
        int_few 2,
        start_few (request trial_control) control_fits,
        section_few (trial_fields n) (line_fits L 8192 65536 refl refl (omega arith) (omega arith) n few),
        strings_few chunks (All-weaker IsChunk (λ x. 0 < length x) (λ x p. p.0) chunks (are_chunks n 0 content (omega (arith, few, long)))),
        ap length (all_chunks n 0 content (omega (arith, long))),
        long,
        int_few 0,
        length-append (opening n) (chunks_from 0 0 n ++ ending),
        length-append (int 2) (head ++ fields),
        length-append head fields,
        length-append (chunks_from 0 0 n) ending,
        length-append (int 0) (int 0),
      )

  spelled : SpellsBytes L (trial_message n) Nothing 0 (trial n)
  spelled = record { text = has_message.0; spelled = record { valid = valid; form = Indeterminate; text = has_message.1 }; same = has_message.2 ∙ same }

pub trial_is_message : TrialIsMessage
trial_is_message n few = (short n few, spelled n few)
