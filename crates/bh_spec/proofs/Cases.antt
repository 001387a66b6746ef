-- The worked cases hold.
use Rattle.std.proofs.Common.{◌<◌, ◌≤◌, ◌^◌, Option, Some, arith, ℕ, List, [], ◌∷◌, ◌++◌, length, IsTrue, codes, refl, inl, inr}
use Rattle.std.proofs.lemmas.List.Elements.{All-nil, All-cons, All-from_recursion}
use Rattle.bh_spec.specs.declared.Part.{Part}
use Rattle.bh_spec.specs.declared.Part.TheVariants as parts
use Rattle.bh_spec.specs.declared.Form.TheVariants.{Known, Indeterminate}
use Rattle.bh_spec.specs.declared.Omitted.TheVariants.{Both}
use Rattle.bh_spec.specs.declared.Width.TheVariants.{One, Two, Four}
use Rattle.bh_spec.specs.Integers.{vi}
use Rattle.bh_spec.specs.Bounds.{Bounds, default_bounds}
use Rattle.bh_spec.specs.Bytes.{is_token, is_scheme, is_authority, is_path}
use Rattle.bh_spec.specs.Messages.{Field, IsToken, IsScheme, IsControl, IsRegularField, IsControlName, IsPseudoField, AreHeaders, IsInterim, IsValid}
use Rattle.bh_spec.specs.Texts.{Text, mark, IsNumber, IsString}
use Rattle.bh_spec.specs.Sections.{IsLinesWithin, IsSection}
use Rattle.bh_spec.specs.Tails.{IsBody}
use Rattle.bh_spec.specs.Spelling.{IsRequestControl, Spells}
use Rattle.bh_spec.specs.Cases.{get, field_a, field_b, TailLeftOut, PaddingCounted, UpperCaseName, FramingInFourBytes, TrailersLeftOut, InterimResponse, PseudoField, InputTooLong, IntegerVectors, IntegerBoundaries}
use Rattle.bh_spec.proofs.Within.{no_lines, no_headers}

-- ---- a message is valid

method_valid : IsToken (codes "GET")
method_valid = record { nonempty = omega arith; each = All-from_recursion (λ byte. IsTrue (is_token byte)) (codes "GET") (refl, (refl, (refl, tt))) }

scheme_valid : IsScheme (codes "https")
scheme_valid = record {
  letter = (104, codes "ttps", refl, refl);
  each = All-from_recursion (λ byte. IsTrue (is_scheme byte)) (codes "https") (refl, (refl, (refl, (refl, (refl, tt)))));
  lower_case = refl;
}

get_valid : IsControl (record { method = codes "GET"; scheme = codes "https"; authority = []; path = codes "/" })
get_valid = record {
  method = method_valid;
  scheme = scheme_valid;
  authority = All-nil (λ byte. IsTrue (is_authority byte));
  path = record { each = All-from_recursion (λ byte. IsTrue (is_path byte)) (codes "/") (refl, tt); web = λ web. inl ([], refl) };
}

a_valid : IsRegularField field_a
a_valid = record {
  name = record { nonempty = omega arith; each = All-from_recursion (λ byte. IsTrue (is_token byte)) (codes "a") (refl, tt) };
  lower_case = refl;
  value = record { each = All-nil _; first = refl; last = refl };
}

one_header : AreHeaders (field_a ∷ [])
one_header = ([], field_a ∷ [], refl, All-nil IsPseudoField, All-cons IsRegularField field_a [] a_valid (All-nil IsRegularField))

pub valid : (fields : List Field) → AreHeaders fields → IsValid (get fields)
valid fields h = record { start = get_valid; fields = h; content = All-nil _; trailers = All-nil IsRegularField }

-- ---- and spelled

pub one : (part : Part) (n : ℕ) → n < 64 → IsNumber part n (mark part (vi n One))
one part n h = record { width = One; fits = h; spelled = refl }

pub a_string : (long part : Part) (x : List ℕ) → length x < 64 → IsString long part x (mark long (vi (length x) One) ++ mark part x)
a_string long part x h = (mark long (vi (length x) One), mark part x, one long (length x) h, refl, refl)

abbrev pub request_text : Text
request_text = (mark parts.MethodLength (3 ∷ []) ++ mark parts.Method (codes "GET"))
    ++ ((mark parts.SchemeLength (5 ∷ []) ++ mark parts.Scheme (codes "https"))
    ++ ((mark parts.AuthorityLength (0 ∷ []) ++ []) ++ (mark parts.PathLength (1 ∷ []) ++ mark parts.Path (codes "/"))))

-- the default limits, but for that of the input, by which no text is judged
abbrev with_input : Option ℕ → Bounds
with_input limit = record { part = Some 8192; section = Some 65536; interims = Some 16; input = limit }

request_under : (limit : Option ℕ) → IsRequestControl (with_input limit) (record { method = codes "GET"; scheme = codes "https"; authority = []; path = codes "/" }) request_text
request_under limit = record {
  scheme = codes "https";
  same_scheme = refl;
  text = (
    _,
    _,
    a_string parts.MethodLength parts.Method (codes "GET") (omega arith),
    (
      _,
      _,
      a_string parts.SchemeLength parts.Scheme (codes "https") (omega arith),
      (_, _, a_string parts.AuthorityLength parts.Authority [] (omega arith), a_string parts.PathLength parts.Path (codes "/") (omega arith), refl),
      refl,
    ),
    refl,
  );
  method_within = omega arith;
  scheme_within = omega arith;
  authority_within = omega arith;
  path_within = omega arith;
}

pub request_spelled : IsRequestControl default_bounds (record { method = codes "GET"; scheme = codes "https"; authority = []; path = codes "/" }) request_text
request_spelled = request_under (Some (2 ^ 40))

empty_under : (limit : Option ℕ) → IsSection (with_input limit) Known [] (mark parts.SectionLength (0 ∷ []))
empty_under limit = ([], no_lines (with_input limit), (_, [], one parts.SectionLength 0 (omega arith), refl, refl))

empty_section : IsSection default_bounds Known [] (mark parts.SectionLength (0 ∷ []))
empty_section = empty_under (Some (2 ^ 40))

abbrev a_text : Text
a_text = (mark parts.NameLength (1 ∷ []) ++ mark parts.Name (0x41 ∷ [])) ++ (mark parts.ValueLength (0 ∷ []) ++ [])

a_lines : IsLinesWithin default_bounds (field_a ∷ []) (a_text ++ [])
a_lines = record {
  lines = (a_text, [], (0x41 ∷ [], refl, (_, _, a_string parts.NameLength parts.Name (0x41 ∷ []) (omega arith), a_string parts.ValueLength parts.Value [] (omega arith), refl)), refl, refl);
  total = omega arith;
  names = All-from_recursion (λ (f : Field). length f.name ≤ 8192) (field_a ∷ []) (omega arith, tt);
  values = All-from_recursion (λ (f : Field). length f.value ≤ 8192) (field_a ∷ []) (omega arith, tt);
}

a_section : IsSection default_bounds Known (field_a ∷ []) (mark parts.SectionLength (3 ∷ []) ++ a_text)
a_section = (a_text, a_lines, (_, a_text, one parts.SectionLength 3 (omega arith), refl, refl))

abbrev pub get_text : Text
get_text = mark parts.Framing (0 ∷ []) ++ (request_text ++ (mark parts.SectionLength (0 ∷ []) ++ []))

under_input : (limit : Option ℕ) → Spells (with_input limit) (get []) Both 0 get_text
under_input limit = record {
  valid = valid [] no_headers;
  form = Known;
  text = (_, _, one parts.Framing 0 (omega arith), (request_text, _, request_under limit, (_, [], empty_under limit, (refl, refl, refl, refl), refl), refl), refl);
}

pub get_spelled : Spells default_bounds (get []) Both 0 get_text
get_spelled = under_input (Some (2 ^ 40))

pub tail_left_out : TailLeftOut
tail_left_out = ((omega arith, record { text = get_text; spelled = get_spelled; same = refl }), refl)

pub padding_counted : PaddingCounted
padding_counted = (
  omega arith,
  record {
    text = _;
    spelled = record {
      valid = valid [] no_headers;
      form = Known;
      text = (
        _,
        _,
        one parts.Framing 0 (omega arith),
        (
          request_text,
          _,
          request_spelled,
          (
            _,
            _,
            empty_section,
            (_, _, a_string parts.ContentLength parts.Content [] (omega arith), (_, _, empty_section, refl, refl), refl),
            refl,
          ),
          refl,
        ),
        refl,
      );
    };
    same = refl;
  },
)

pub upper_case_name : UpperCaseName
upper_case_name = (
  (
    omega arith,
    record {
      text = _;
      spelled = record {
        valid = valid (field_a ∷ []) one_header;
        form = Known;
        text = (_, _, one parts.Framing 0 (omega arith), (request_text, _, request_spelled, (_, [], a_section, (refl, refl, refl, refl), refl), refl), refl);
      };
      same = refl;
    },
  ),
  refl,
  refl,
)

pub framing_in_four_bytes : FramingInFourBytes
framing_in_four_bytes = (
  (
    omega arith,
    record {
      text = _;
      spelled = record {
        valid = record { start = record { each = All-nil IsInterim; final = record { low = omega arith; high = omega arith } }; fields = no_headers; content = All-nil _; trailers = All-nil IsRegularField };
        form = Known;
        text = (
          _,
          _,
          record { width = Four; fits = omega arith; spelled = refl },
          (_, _, (omega arith, ([], _, refl, record { width = Two; fits = omega arith; spelled = refl }, refl)), (_, [], empty_section, (refl, refl, refl, refl), refl), refl),
          refl,
        );
      };
      same = refl;
    },
  ),
  refl,
)

abbrev hinted_text : Text
hinted_text = mark parts.Status (0x40 ∷ 0x67 ∷ []) ++ mark parts.SectionLength (0 ∷ [])

pub interim_response : InterimResponse
interim_response = (
  (
    omega arith,
    record {
      text = _;
      spelled = record {
        valid = record {
          start = record {
            each = All-cons IsInterim _ [] (record { number = record { low = omega arith; high = omega arith }; fields = no_headers }) (All-nil IsInterim);
            final = record { low = omega arith; high = omega arith };
          };
          fields = no_headers;
          content = All-nil _;
          trailers = All-nil IsRegularField;
        };
        form = Known;
        text = (
          _,
          _,
          one parts.Framing 1 (omega arith),
          (
            hinted_text ++ mark parts.Status (0x40 ∷ 0xc8 ∷ []),
            _,
            (
              omega arith,
              (
                hinted_text,
                _,
                (hinted_text, [], (_, _, record { width = Two; fits = omega arith; spelled = refl }, empty_section, refl), refl, refl),
                record { width = Two; fits = omega arith; spelled = refl },
                refl,
              ),
            ),
            (_, [], empty_section, (refl, refl, refl, refl), refl),
            refl,
          ),
          refl,
        );
      };
      same = refl;
    },
  ),
  refl,
)

no_control_name : IsControlName (codes ":b") → ⊥
no_control_name (inl e) = cc
no_control_name (inr (inl e)) = cc
no_control_name (inr (inr (inl e))) = cc
no_control_name (inr (inr (inr (inl e)))) = cc
no_control_name (inr (inr (inr (inr e)))) = cc

b_valid : IsPseudoField field_b
b_valid = record {
  name = record {
    colon = (codes "b", refl, record { nonempty = omega arith; each = All-from_recursion (λ byte. IsTrue (is_token byte)) (codes "b") (refl, tt) });
    other = no_control_name;
  };
  lower_case = refl;
  value = record { each = All-nil _; first = refl; last = refl };
}

b_header : AreHeaders (field_b ∷ [])
b_header = (field_b ∷ [], [], refl, All-cons IsPseudoField field_b [] b_valid (All-nil IsPseudoField), All-nil IsRegularField)

abbrev b_text : Text
b_text = (mark parts.NameLength (2 ∷ []) ++ mark parts.Name (0x3a ∷ 0x62 ∷ [])) ++ (mark parts.ValueLength (0 ∷ []) ++ [])

b_lines : IsLinesWithin default_bounds (field_b ∷ []) (b_text ++ [])
b_lines = record {
  lines = (b_text, [], (0x3a ∷ 0x62 ∷ [], refl, (_, _, a_string parts.NameLength parts.Name (0x3a ∷ 0x62 ∷ []) (omega arith), a_string parts.ValueLength parts.Value [] (omega arith), refl)), refl, refl);
  total = omega arith;
  names = All-from_recursion (λ (f : Field). length f.name ≤ 8192) (field_b ∷ []) (omega arith, tt);
  values = All-from_recursion (λ (f : Field). length f.value ≤ 8192) (field_b ∷ []) (omega arith, tt);
}

b_section : IsSection default_bounds Known (field_b ∷ []) (mark parts.SectionLength (4 ∷ []) ++ b_text)
b_section = (b_text, b_lines, (_, b_text, one parts.SectionLength 4 (omega arith), refl, refl))

pub pseudo_field : PseudoField
pseudo_field = (
  (
    omega arith,
    record {
      text = _;
      spelled = record {
        valid = valid (field_b ∷ []) b_header;
        form = Known;
        text = (_, _, one parts.Framing 0 (omega arith), (request_text, _, request_spelled, (_, [], b_section, (refl, refl, refl, refl), refl), refl), refl);
      };
      same = refl;
    },
  ),
  refl,
)

pub input_too_long : InputTooLong
input_too_long = record {
  limit = refl;
  more = omega arith;
  viable = record { text = get_text; after = []; spelled = (get [], Both, 0, under_input (Some 15)); begins = refl };
}

-- ---- chunked content

post_valid : IsControl (record { method = codes "POST"; scheme = codes "https"; authority = []; path = codes "/" })
post_valid = record {
  method = record { nonempty = omega arith; each = All-from_recursion (λ byte. IsTrue (is_token byte)) (codes "POST") (refl, (refl, (refl, (refl, tt)))) };
  scheme = scheme_valid;
  authority = All-nil (λ byte. IsTrue (is_authority byte));
  path = record { each = All-from_recursion (λ byte. IsTrue (is_path byte)) (codes "/") (refl, tt); web = λ web. inl ([], refl) };
}

abbrev post_text : Text
post_text = (mark parts.MethodLength (4 ∷ []) ++ mark parts.Method (codes "POST"))
    ++ ((mark parts.SchemeLength (5 ∷ []) ++ mark parts.Scheme (codes "https"))
    ++ ((mark parts.AuthorityLength (0 ∷ []) ++ []) ++ (mark parts.PathLength (1 ∷ []) ++ mark parts.Path (codes "/"))))

post_spelled : IsRequestControl default_bounds (record { method = codes "POST"; scheme = codes "https"; authority = []; path = codes "/" }) post_text
post_spelled = record {
  scheme = codes "https";
  same_scheme = refl;
  text = (
    _,
    _,
    a_string parts.MethodLength parts.Method (codes "POST") (omega arith),
    (
      _,
      _,
      a_string parts.SchemeLength parts.Scheme (codes "https") (omega arith),
      (_, _, a_string parts.AuthorityLength parts.Authority [] (omega arith), a_string parts.PathLength parts.Path (codes "/") (omega arith), refl),
      refl,
    ),
    refl,
  );
  method_within = omega arith;
  scheme_within = omega arith;
  authority_within = omega arith;
  path_within = omega arith;
}

no_lines_ended : IsSection default_bounds Indeterminate [] (mark parts.NameLength (0 ∷ []))
no_lines_ended = ([], _, no_lines default_bounds, one parts.NameLength 0 (omega arith), refl)

abbrev chunk_text : Text
chunk_text = mark parts.ChunkLength (3 ∷ []) ++ mark parts.Content (codes "abc")

one_chunk : IsBody Indeterminate (codes "abc") (chunk_text ++ mark parts.ChunkLength (0 ∷ []))
one_chunk = (
  codes "abc" ∷ [],
  refl,
  All-from_recursion (λ (chunk : List ℕ). 0 < length chunk) (codes "abc" ∷ []) (omega arith, tt),
  (chunk_text, _, (chunk_text, [], a_string parts.ChunkLength parts.Content (codes "abc") (omega arith), refl, refl), one parts.ChunkLength 0 (omega arith), refl),
)

pub trailers_left_out : TrailersLeftOut
trailers_left_out = (
  (
    omega arith,
    record {
      text = _;
      spelled = record {
        valid = record {
          start = post_valid;
          fields = no_headers;
          content = All-from_recursion (λ (x : ℕ). x < 256) (codes "abc") (omega arith, (omega arith, (omega arith, tt)));
          trailers = All-nil IsRegularField;
        };
        form = Indeterminate;
        text = (_, _, one parts.Framing 2 (omega arith), (post_text, _, post_spelled, (_, _, no_lines_ended, (refl, refl, one_chunk), refl), refl), refl);
      };
      same = refl;
    },
  ),
  refl,
)

pub integer_vectors : IntegerVectors
integer_vectors = (refl, refl, refl, refl, refl)

pub integer_boundaries : IntegerBoundaries
integer_boundaries = (refl, refl, refl, refl, refl, refl, refl)
