-- There: what is written for a message is the cleaned message.
use Rattle.std.proofs.Common.{◌≡◌, ◌⊎◌, ◌<◌, ◌≤◌, ◌-◌, Bool, true, false, cond, not, ◌||◌, ◌&&◌, nat_eq, nat_lt, nat_le, leb, None, arith, ℕ, List, [], ◌∷◌, ◌++◌, length, map, filter, flat_map, All, IsTrue, IsFalse, codes, bytes_eq, slice_index, refl, sym, ap, ap₂, subst, subst₂, ◌∙◌, append-nil, inl, inr}
use Rattle.std.specs.List.{list_any, list_all}
use Rattle.std.proofs.lemmas.Bool.{false≢true, both_ways, or_parts, or_cases, and_parts, not-false, not-true, cond-false, eqb-true, eqb-false, leb-true, ltb-true, ltb-false, agree_below, agree_below_at}
use Rattle.std.proofs.lemmas.List.{length-append, map-append}
use Rattle.std.proofs.lemmas.List.Elements.{All-nil, All-head, All-tail, All-weaker, All-cons, All-append, All-filter, All-from_recursion, filter-append}
use Rattle.std.proofs.lemmas.List.Sums.{AllPass-from_list_all}
use Rattle.bh_spec.specs.Bounds.{Bounds, IsWithin, no_bounds}
use Rattle.bh_spec.specs.Bytes.{is_one_of, is_letter, is_token, is_text_value, is_blank, is_authority, is_path, is_digit, lower}
use Rattle.bh_spec.specs.Canonical.{FieldsFit}
use Rattle.bh_spec.specs.Messages.{Field, Control, Interim, Start, request, response, Message, IsPseudoField, IsRegularField, AreHeaders, IsWeb, IsControl, IsInterim, IsValid}
use Rattle.h1_spec.specs.declared.Scheme1.{Scheme1}
use Rattle.h1_spec.specs.declared.Framing1.{Framing1}
use Rattle.h1_spec.specs.declared.Framing1.TheVariants.{Empty, Counted, Chunked, ToEnd}
use Rattle.bh_spec.specs.declared.NoForm.TheVariants as no
use Rattle.bh_spec.specs.Texts.{◌then◌, AreEach}
use Rattle.h1_spec.specs.Grammar.{crlf}
use Rattle.h1_spec.specs.Heads.{request_line, status_line, is_target, IsRawTarget, IsTextValue}
use Rattle.h1_spec.specs.Cleaning.{is_empty, is_among, values_of, without, connection_names, kept_names, hops, names_in, clean, clean_trailers, clean_interim, clean_message, one_cookie}
use Rattle.h1_spec.specs.Targets.{scheme_of, path_behind, IsPathOrQuery, IsTargetOf, HasHost}
use Rattle.h1_spec.specs.Framing.{codings, lengths, IsCounted, IsLength, is_bodyless, body_by, framing}
use Rattle.h1_spec.specs.Bodies.{IsBody}
use Rattle.h1_spec.specs.Http1.{IsHeadWithin, IsInterimHead, interims_of, IsHttp1}
use Rattle.h1_spec.specs.Http1Text.{field_lines, status_text, target_text, interim_text, interims_text, framing_by, framing_written, is_bare, coding_lines, body_text, http1, is_host, is_length, is_web, of_interim, of_fields, of_head, of_body, is_pseudo, has_bad_value, head_text, no_form, KeepsLimits}
use Rattle.h1_spec.specs.Laws.{IsSchemeOf, There, ThereWithin}
use Rattle.h1_spec.proofs.Lists.{same_name}
use Rattle.h1_spec.proofs.Cleaned.{lacks_fewer, front_among, clean_lacks, clean_again, clean_twice, trailers_again, no_values, lacks_name, no_connection}
use Rattle.h1_spec.proofs.Reading.{no_fields_limit, no_start_limit}
use Rattle.h1_spec.specs.Heads.{IsHeadField}
use Rattle.h1_spec.proofs.HeadFields.{clean_regular}
use Rattle.h1_spec.proofs.Kept.{lengths_kept, hosts_kept}
use Rattle.h1_spec.proofs.Cases.{AreFree, none_free, free_front, free_back, each_free}
use Rattle.h1_spec.proofs.Back.{no_host}
use Rattle.h1_spec.proofs.Written.{section_written, status_written, request_written, chunked_written}

-- ---- fields that can be written

pub text_fields : (fs : List Field) → All IsRegularField fs → has_bad_value fs ≡ false → All IsHeadField fs
text_fields fs h v k d i =
    let good = AllPass-from_list_all (λ (f : Field). list_all is_text_value f.value) fs (not-false (list_all (λ (f : Field). list_all is_text_value f.value) fs) v) in
    let own = h k d i in
    record {
      name = own.name;
      lower_case = own.lower_case;
      value = record { each = AllPass-from_list_all is_text_value _ (good k d i); first = own.value.first; last = own.value.last };
    }

pseudo_shows : (f : Field) → IsPseudoField f → is_pseudo f ≡ true
pseudo_shows f h = ap (λ (name : List ℕ). list_any (λ byte. nat_eq byte 58) name) h.name.colon.1

regular_headers : (fs : List Field) → AreHeaders fs → list_any is_pseudo fs ≡ false → All IsRegularField fs
regular_headers fs h n = by_case h.0 h.1 h.2 h.3 h.4
  where
    by_case : (ps rs : List Field) → fs ≡ ps ++ rs → All IsPseudoField ps → All IsRegularField rs → All IsRegularField fs
    by_case [] rs e p r = subst (All IsRegularField) (sym e) r
    by_case (f ∷ ps) rs e p r =
        absurd (both_ways (is_pseudo f) (or_parts (is_pseudo f) _ (sym (ap (list_any is_pseudo) e) ∙ n)).0 (pseudo_shows f (All-head IsPseudoField f ps p)))

pub clean_headers : (drop_host : Bool) (fs : List Field) → AreHeaders fs → list_any is_pseudo fs ≡ false → has_bad_value (clean (hops fs) drop_host fs) ≡ false
    → All IsHeadField (clean (hops fs) drop_host fs)
clean_headers drop_host fs h n v =
    text_fields (clean (hops fs) drop_host fs) (clean_regular (hops fs) drop_host fs (regular_headers fs h n)) v

-- ---- informational responses

interim_written : (L : Bounds) (i : Interim) → IsInterim i → AreFree (of_interim i) → IsWithin L.section (length (interim_text (clean_interim i))) → FieldsFit L (clean_interim i).fields
    → IsInterimHead L (clean_interim i) (interim_text (clean_interim i))
interim_written L i h free within fits =
    let fields : All IsHeadField (clean (hops i.fields) false i.fields) = clean_headers false i.fields h.fields free.1.0 free.1.1.0 in
    let high : i.status ≤ 599 = omega (arith, h.number.high) in
    record {
      head = record { start = status_line i.status; fields = clean (hops i.fields) false i.fields };
      text = (
        within,
        (status_text i.status, field_lines (clean (hops i.fields) false i.fields) ++ crlf, status_written i.status h.number.low high, section_written (clean (hops i.fields) false i.fields) fields, refl),
      );
      status = refl;
      number = h.number;
      stays = eqb-false i.status 101 free.0;
      fields = sym (clean_twice (hops i.fields) false i.fields);
      fits = fits;
    }

abbrev IsShort : Bounds → Interim → Type 0
IsShort L i = IsWithin L.section (length (interim_text i))

interims_written : (L : Bounds) (is : List Interim) → All IsInterim is → All (λ i. AreFree (of_interim i)) is → All (IsShort L) (map clean_interim is)
    → All (λ i. FieldsFit L i.fields) (map clean_interim is) → AreEach (IsInterimHead L) (map clean_interim is) (flat_map interim_text (map clean_interim is))
interims_written L [] h k short fits = refl
interims_written L (i ∷ is) h k short fits = (
  interim_text (clean_interim i),
  flat_map interim_text (map clean_interim is),
  interim_written L i (All-head IsInterim i is h) (All-head (λ (j : Interim). AreFree (of_interim j)) i is k) (All-head (IsShort L) (clean_interim i) (map clean_interim is) short)
      (All-head (λ (j : Interim). FieldsFit L j.fields) (clean_interim i) (map clean_interim is) fits),
  interims_written L is (All-tail IsInterim i is h) (All-tail (λ (j : Interim). AreFree (of_interim j)) i is k) (All-tail (IsShort L) (clean_interim i) (map clean_interim is) short)
      (All-tail (λ (j : Interim). FieldsFit L j.fields) (clean_interim i) (map clean_interim is) fits),
  refl,
)

-- ---- targets

one_of_below : (xs : List ℕ) (b : ℕ) → list_all (λ x. nat_lt x 128) xs ≡ true → is_one_of xs b ≡ true → b < 128
one_of_below [] b h e = absurd (false≢true e)
one_of_below (x ∷ xs) b h e = by_case (or_cases (nat_eq b x) (is_one_of xs b) e) (one_of_below xs b (and_parts (nat_lt x 128) (list_all (λ y. nat_lt y 128) xs) h).1)
  where
    by_case : (nat_eq b x ≡ true) ⊎ (is_one_of xs b ≡ true) → (is_one_of xs b ≡ true → b < 128) → b < 128
    by_case (inl d) k = omega (arith, eqb-true b x d, ltb-true x 128 (and_parts (nat_lt x 128) (list_all (λ y. nat_lt y 128) xs) h).0)
    by_case (inr d) k = k d

class_below : (others : List ℕ) (b : ℕ) → list_all (λ x. nat_lt x 128) others ≡ true → (is_letter b || is_digit b || is_one_of others b) ≡ true → b < 128
class_below others b h e = last (or_cases (is_letter b || is_digit b) (is_one_of others b) e)
  where
    within : (low high : ℕ) → high < 128 → (nat_le low b && nat_le b high) ≡ true → b < 128
    within low high h d = omega (arith, leb-true b high (and_parts (nat_le low b) (nat_le b high) d).1)

    letter : ((nat_le 97 b && nat_le b 122) ≡ true) ⊎ ((nat_le 65 b && nat_le b 90) ≡ true) → b < 128
    letter (inl d) = within 97 122 (omega arith) d
    letter (inr d) = within 65 90 (omega arith) d

    first : (is_letter b ≡ true) ⊎ (is_digit b ≡ true) → b < 128
    first (inl d) = letter (or_cases (nat_le 97 b && nat_le b 122) (nat_le 65 b && nat_le b 90) d)
    first (inr d) = within 48 57 (omega arith) d

    last : ((is_letter b || is_digit b) ≡ true) ⊎ (is_one_of others b ≡ true) → b < 128
    last (inl d) = first (or_cases (is_letter b) (is_digit b) d)
    last (inr d) = one_of_below others b h d

-- A class of bytes lies in another one, by a table.
table : (test other : ℕ → Bool) (b : ℕ) → agree_below (λ c. not (test c) || other c) (λ c. true) 128 ≡ true → b < 128 → test b ≡ true → other b ≡ true
table test other b t h e = both (test b) (other b) e (agree_below_at (λ c. not (test c) || other c) (λ c. true) 128 b t h)
  where
    both : (p q : Bool) → p ≡ true → (not p || q) ≡ true → q ≡ true
    both true q h e = e
    both false q h e = absurd (false≢true h)

path_target : (b : ℕ) → IsTrue (is_path b) → IsTrue (is_target b)
path_target b h = table is_path is_target b refl (class_below (codes "-._~!$&'()*+,;=%:@/?") b refl h) h

authority_below : (b : ℕ) → IsTrue (is_authority b) → b < 128
authority_below b h = class_below (codes "-._~!$&'()*+,;=%:[]") b refl h

authority_target : (b : ℕ) → IsTrue (is_authority b) → IsTrue (is_target b)
authority_target b h = table is_authority is_target b refl (authority_below b h) h

authority_text : (b : ℕ) → IsTrue (is_authority b) → IsTrue (is_text_value b)
authority_text b h = table is_authority is_text_value b refl (authority_below b h) h

authority_visible : (b : ℕ) → IsTrue (is_authority b) → IsFalse (is_blank b)
authority_visible b h = not-true (is_blank b) (table is_authority (λ c. not (is_blank c)) b refl (authority_below b h) h)

authority_value : (a : List ℕ) → All (λ b. IsTrue (is_authority b)) a → IsTextValue a
authority_value [] h = record { each = All-nil (λ b. IsTrue (is_text_value b)); first = refl; last = refl }
authority_value (b ∷ a) h = record {
  each = All-weaker (λ c. IsTrue (is_authority c)) (λ c. IsTrue (is_text_value c)) authority_text (b ∷ a) h;
  first = authority_visible b (All-head (λ c. IsTrue (is_authority c)) b a h);
  last = authority_visible (slice_index (b ∷ a) (length (b ∷ a) - 1)) (h (length (b ∷ a) - 1) 0 (omega arith));
}

web_target : (scheme : List ℕ) → IsWeb scheme → All (λ b. IsTrue (is_target b)) scheme
web_target scheme (inl e) = subst (All (λ b. IsTrue (is_target b))) (sym e) (AllPass-from_list_all is_target (codes "http") refl)
web_target scheme (inr e) = subst (All (λ b. IsTrue (is_target b))) (sym e) (AllPass-from_list_all is_target (codes "https") refl)

pub is_web_of : (scheme : List ℕ) → not (is_web scheme) ≡ false → IsWeb scheme
is_web_of scheme e = by_case (or_cases (bytes_eq scheme (codes "http")) (bytes_eq scheme (codes "https")) (not-false (is_web scheme) e))
  where
    by_case : (bytes_eq scheme (codes "http") ≡ true) ⊎ (bytes_eq scheme (codes "https") ≡ true) → IsWeb scheme
    by_case (inl h) = inl (same_name scheme (codes "http") h)
    by_case (inr h) = inr (same_name scheme (codes "https") h)

-- a path of the web: it begins with a slash, or is the star of OPTIONS
abbrev IsSlashed : List ℕ → List ℕ → Type 0
IsSlashed method path = ((rest : List ℕ) × (path ≡ 47 ∷ rest)) ⊎ ((method ≡ codes "OPTIONS") × (path ≡ codes "*"))

some_path : (method path : List ℕ) → IsSlashed method path → 0 < length path
some_path method path (inl h) = omega (arith, ap (length {A = ℕ}) h.1)
some_path method path (inr h) = omega (arith, ap (length {A = ℕ}) h.1)

control_eta : (c : Control) (s a : List ℕ) → c.scheme ≡ s → c.authority ≡ a → c ≡ record { method = c.method; scheme = s; authority = a; path = c.path }
control_eta c s a p q = λ i. record { method = c.method; scheme = p i; authority = q i; path = c.path }

-- without an authority the path is the target
plain_target : (scheme : Scheme1) (c : Control) → c.scheme ≡ scheme_of scheme → c.authority ≡ [] → All (λ b. IsTrue (is_path b)) c.path → IsSlashed c.method c.path
    → IsTargetOf scheme c.method c.path c
plain_target scheme c s a each (inl h) = inr (inl (record { slash = h; each = each; gives = control_eta c (scheme_of scheme) [] s a }))
plain_target scheme c s a each (inr h) = inl (record { options = h.0; star = h.1; gives = control_eta c (scheme_of scheme) [] s a })

-- the path behind an authority
abbrev written_path : List ℕ → List ℕ
written_path path = cond (bytes_eq path (codes "*")) [] path

record IsWritten (method path : List ℕ) : Type 0 where
  behind : IsPathOrQuery (written_path path)
  each : All (λ b. IsTrue (is_path b)) (written_path path)
  again : path_behind method (written_path path) ≡ path

path_written : (method path : List ℕ) → All (λ b. IsTrue (is_path b)) path → IsSlashed method path → IsWritten method path
path_written method path each (inl h) =
    subst (IsWritten method) (sym h.1)
    (record { behind = inr (47, h.0, refl, inl refl); each = subst (All (λ b. IsTrue (is_path b))) h.1 each; again = refl })
path_written method path each (inr h) =
    subst₂ IsWritten (sym h.0) (sym h.1)
    (record { behind = inl refl; each = All-nil (λ b. IsTrue (is_path b)); again = refl })

whole_target : (scheme : Scheme1) (c : Control) → IsControl c → IsWeb c.scheme → 0 < length c.authority → IsSlashed c.method c.path
    → IsTargetOf scheme c.method (c.scheme ++ (codes "://" ++ (c.authority ++ written_path c.path))) c
whole_target scheme c h w some slashed =
    let path = path_written c.method c.path h.path.each slashed in
    inr (inr (record {
      name = c.scheme;
      authority = c.authority;
      rest = written_path c.path;
      web = subst IsWeb (sym h.scheme.lower_case) w;
      some = some;
      each = h.authority;
      behind = path.behind;
      path = path.each;
      written = refl;
      gives = λ i. record { method = c.method; scheme = sym h.scheme.lower_case i; authority = c.authority; path = sym path.again i };
    }))

pub asked_by : (scheme : Scheme1) (c : Control) (a : List ℕ) → c.authority ≡ a → IsControl c → (c.authority ≡ [] → c.scheme ≡ scheme_of scheme) → IsWeb c.scheme
    → IsRawTarget (cond (is_empty a) c.path (c.scheme ++ (codes "://" ++ (c.authority ++ written_path c.path))))
    × IsTargetOf scheme c.method (cond (is_empty a) c.path (c.scheme ++ (codes "://" ++ (c.authority ++ written_path c.path)))) c
asked_by scheme c [] e h s w = (
  record { nonempty = some_path c.method c.path (h.path.web w); each = All-weaker (λ b. IsTrue (is_path b)) (λ b. IsTrue (is_target b)) path_target c.path h.path.each },
  plain_target scheme c (s e) e h.path.each (h.path.web w),
)
asked_by scheme c (b ∷ a) e h s w =
    let path = path_written c.method c.path h.path.each (h.path.web w) in (
      record {
        nonempty = omega (arith, length-append c.scheme (codes "://" ++ (c.authority ++ written_path c.path)));
        each = All-append (λ b. IsTrue (is_target b)) c.scheme (codes "://" ++ (c.authority ++ written_path c.path)) (web_target c.scheme w)
            (All-append (λ b. IsTrue (is_target b)) (codes "://") (c.authority ++ written_path c.path) (AllPass-from_list_all is_target (codes "://") refl)
            (All-append (λ b. IsTrue (is_target b)) c.authority (written_path c.path)
            (All-weaker (λ b. IsTrue (is_authority b)) (λ b. IsTrue (is_target b)) authority_target c.authority h.authority)
            (All-weaker (λ b. IsTrue (is_path b)) (λ b. IsTrue (is_target b)) path_target (written_path c.path) path.each)));
      },
      whole_target scheme c h w (omega (arith, ap (length {A = ℕ}) e)) (h.path.web w),
    )

-- ---- the fields that are written

abbrev host_part : List ℕ → List Field
host_part a = cond (is_empty a) [] (record { name = codes "host"; value = a } ∷ [])

pub host_fields : (a : List ℕ) → All (λ b. IsTrue (is_authority b)) a → All IsHeadField (host_part a)
host_fields [] h = All-nil IsHeadField
host_fields (b ∷ a) h =
    All-cons IsHeadField (record { name = codes "host"; value = b ∷ a }) []
    (record {
      name = record { nonempty = omega arith; each = All-from_recursion (λ c. IsTrue (is_token c)) (codes "host") (refl, (refl, (refl, (refl, tt)))) };
      lower_case = refl;
      value = authority_value (b ∷ a) h;
    })
    (All-nil IsHeadField)

coding_fields : (f : Framing1) → All IsHeadField (coding_lines f)
coding_fields Empty = All-nil IsHeadField
coding_fields (Counted n) = All-nil IsHeadField
coding_fields ToEnd = All-nil IsHeadField
coding_fields Chunked =
    All-cons IsHeadField (record { name = codes "transfer-encoding"; value = codes "chunked" }) []
    (record {
      name = record { nonempty = omega arith; each = AllPass-from_list_all is_token (codes "transfer-encoding") refl };
      lower_case = refl;
      value = record { each = AllPass-from_list_all is_text_value (codes "chunked") refl; first = refl; last = refl };
    })
    (All-nil IsHeadField)

values_append : (name : List ℕ) (a b : List Field) → values_of name (a ++ b) ≡ values_of name a ++ values_of name b
values_append name a b =
    ap (map (λ (f : Field). f.value)) (filter-append (λ (f : Field). bytes_eq f.name name) a b)
    ∙ map-append (λ (f : Field). f.value) (filter (λ (f : Field). bytes_eq f.name name) a) (filter (λ (f : Field). bytes_eq f.name name) b)

values_three : (name : List ℕ) (a b c : List Field) → values_of name (a ++ (b ++ c)) ≡ values_of name a ++ (values_of name b ++ values_of name c)
values_three name a b c = values_append name a (b ++ c) ∙ ap (λ (vs : List (List ℕ)). values_of name a ++ vs) (values_append name b c)

without_append : (names : List (List ℕ)) (a b : List Field) → without names (a ++ b) ≡ without names a ++ without names b
without_append names a b = filter-append (λ (f : Field). not (is_among names f.name)) a b

-- names that neither line has
host_no : (name : List ℕ) → bytes_eq (codes "host") name ≡ false → (a : List ℕ) → values_of name (host_part a) ≡ []
host_no name e [] = refl
host_no name e (b ∷ a) = ap (map (λ (f : Field). f.value)) (cond-false (bytes_eq (codes "host") name) _ _ e)

coding_no : (name : List ℕ) → bytes_eq (codes "transfer-encoding") name ≡ false → (f : Framing1) → values_of name (coding_lines f) ≡ []
coding_no name e Empty = refl
coding_no name e (Counted n) = refl
coding_no name e ToEnd = refl
coding_no name e Chunked = ap (map (λ (f : Field). f.value)) (cond-false (bytes_eq (codes "transfer-encoding") name) _ _ e)

none_among : (names : List (List ℕ)) (other : List ℕ) → is_among names other ≡ false → All (λ name. bytes_eq other name ≡ false) names
none_among [] other h = All-nil (λ (name : List ℕ). bytes_eq other name ≡ false)
none_among (name ∷ names) other h =
    let both = or_parts (bytes_eq other name) (is_among names other) h in
    All-cons (λ (n : List ℕ). bytes_eq other n ≡ false) name names both.0 (none_among names other both.1)

no_coding : (other : List ℕ) → is_among connection_names other ≡ false → bytes_eq other (codes "transfer-encoding") ≡ false
no_coding other h = none_among connection_names other h 4 [] (omega arith)

host_dropped : (a : List ℕ) → without (connection_names ++ ([] ++ cond (not (is_empty a)) (codes "host" ∷ []) [])) (host_part a) ≡ []
host_dropped [] = refl
host_dropped (b ∷ a) = refl

coding_dropped : (more : List (List ℕ)) (f : Framing1) → without (connection_names ++ more) (coding_lines f) ≡ []
coding_dropped more Empty = refl
coding_dropped more (Counted n) = refl
coding_dropped more ToEnd = refl
coding_dropped more Chunked = refl

module _ (named : List (List ℕ)) (a : List ℕ) (source : List Field) (f : Framing1) where
  abbrev own : List Field
  own = clean named (not (is_empty a)) source

  abbrev all_fields : List Field
  all_fields = host_part a ++ (own ++ coding_lines f)

  no_name : (name : List ℕ) → ((other : List ℕ) → is_among connection_names other ≡ false → bytes_eq other name ≡ false) → values_of name own ≡ []
  no_name name h =
      no_values name own (lacks_name connection_names name h own
      (lacks_fewer (connection_names ++ (named ++ cond (not (is_empty a)) (codes "host" ∷ []) [])) connection_names
      (front_among connection_names (named ++ cond (not (is_empty a)) (codes "host" ∷ []) [])) own (clean_lacks named (not (is_empty a)) source)))

  written_hops : hops all_fields ≡ []
  written_hops =
      ap (λ (values : List (List ℕ)). filter (λ name. not (is_among kept_names name)) (flat_map names_in values))
      (values_three (codes "connection") (host_part a) own (coding_lines f)
      ∙ ap₂ (λ (x y : List (List ℕ)). x ++ y) (host_no (codes "connection") refl a)
      (ap₂ (λ (x y : List (List ℕ)). x ++ y) (no_name (codes "connection") no_connection) (coding_no (codes "connection") refl f)))

  written_codings : codings all_fields ≡ codings (coding_lines f)
  written_codings =
      values_three (codes "transfer-encoding") (host_part a) own (coding_lines f)
      ∙ ap₂ (λ (x y : List (List ℕ)). x ++ (y ++ codings (coding_lines f))) (host_no (codes "transfer-encoding") refl a) (no_name (codes "transfer-encoding") no_coding)

  written_lengths : lengths all_fields ≡ lengths own
  written_lengths =
      values_three (codes "content-length") (host_part a) own (coding_lines f)
      ∙ ap₂ (λ (x y : List (List ℕ)). x ++ (lengths own ++ y)) (host_no (codes "content-length") refl a) (coding_no (codes "content-length") refl f)
      ∙ append-nil (lengths own)

  written_clean : own ≡ clean (hops all_fields) (not (is_empty a)) all_fields
  written_clean =
      let names : List (List ℕ) = connection_names ++ ([] ++ cond (not (is_empty a)) (codes "host" ∷ []) []) in
      let kept : without names all_fields ≡ without names own =
      without_append names (host_part a) (own ++ coding_lines f)
      ∙ ap₂ (λ (x y : List Field). x ++ y) (host_dropped a) (without_append names own (coding_lines f))
      ∙ ap (λ (x : List Field). without names own ++ x) (coding_dropped ([] ++ cond (not (is_empty a)) (codes "host" ∷ []) []) f)
      ∙ append-nil (without names own) in
      sym (ap (λ (ns : List (List ℕ)). clean ns (not (is_empty a)) all_fields) written_hops ∙ ap one_cookie kept ∙ clean_again named (not (is_empty a)) source)

-- ---- the body

-- what the fields that are written say of the body, by how it is written
framing_request : (vs : List (List ℕ)) (bare : Bool) → body_by Empty (codings (coding_lines (framing_by vs bare))) vs ≡ framing_by vs bare
framing_request [] true = refl
framing_request [] false = refl
framing_request (v ∷ vs) bare = refl

framing_response : (bodyless : Bool) (vs : List (List ℕ))
    → cond bodyless Empty (body_by ToEnd (codings (coding_lines (cond bodyless Empty (framing_by vs false)))) vs) ≡ cond bodyless Empty (framing_by vs false)
framing_response true vs = refl
framing_response false [] = refl
framing_response false (v ∷ vs) = refl

abbrev IsCodedBy : List (List ℕ) → List (List ℕ) → Type 0
IsCodedBy cs vs = (cs ≡ []) ⊎ ((value : List ℕ) × (cs ≡ value ∷ []) × (lower value ≡ codes "chunked") × (vs ≡ []))

coded_written : (bodyless : Bool) (vs : List (List ℕ)) (bare : Bool) → IsCodedBy (codings (coding_lines (cond bodyless Empty (framing_by vs bare)))) vs
coded_written true vs bare = inl refl
coded_written false [] true = inl refl
coded_written false [] false = inr (codes "chunked", refl, refl, refl)
coded_written false (v ∷ vs) bare = inl refl

no_end : (bodyless : Bool) (vs : List (List ℕ)) (bare : Bool) → cond bodyless Empty (framing_by vs bare) ≡ ToEnd → ⊥
no_end true vs bare e = cc
no_end false [] true e = cc
no_end false [] false e = cc
no_end false (v ∷ vs) bare e = cc

no_length : {A : Type 0} (xs : List A) → not (nat_eq (length xs) 0) ≡ false → xs ≡ []
no_length [] h = refl
no_length (x ∷ xs) h = absurd (omega (arith, eqb-true (length (x ∷ xs)) 0 (not-false (nat_eq (length (x ∷ xs)) 0) h)))

body_values : (f : Framing1) (content : List ℕ) (trailers : List Field) → AreFree (of_body f content trailers) → has_bad_value trailers ≡ false
body_values Empty content trailers h = h.1.0
body_values (Counted n) content trailers h = h.1.0
body_values Chunked content trailers h = h.0
body_values ToEnd content trailers h = h.0

body_written : (L : Bounds) (f : Framing1) (m : Message) → (f ≡ ToEnd → ⊥) → AreFree (of_body f m.content m.trailers) → All IsHeadField m.trailers
    → IsWithin L.section (length (field_lines m.trailers ++ crlf)) → IsBody L f m.content m.trailers (body_text f m)
body_written L Empty m n h own within = (no_length m.content h.0, no_length m.trailers h.1.1.0, refl)
body_written L (Counted k) m n h own within =
    let same : length m.content ≡ k = omega (arith, ltb-false k (length m.content) h.0, ltb-false (length m.content) k h.1.1.0) in
    (same, no_length m.trailers h.1.1.1.0, refl)
body_written L Chunked m n h own within = chunked_written L m.content m.trailers own within
body_written L ToEnd m n h own within = absurd (n refl)

-- ---- all together

one_host : (vs : List (List ℕ)) → is_host [] vs ≡ true → (value : List ℕ) × (vs ≡ value ∷ []) × All (λ b. IsTrue (is_authority b)) value
one_host [] h = absurd (false≢true h)
one_host (v ∷ []) h = (v, refl, AllPass-from_list_all is_authority v h)
one_host (v ∷ w ∷ vs) h = absurd (false≢true h)

has_host : (c : Control) (a : List ℕ) (fs : List Field) (f : Framing1) → c.authority ≡ a → is_host a (values_of (codes "host") fs) ≡ true → HasHost c (all_fields (hops fs) a fs f)
has_host c [] fs f e h =
    let one = one_host (values_of (codes "host") fs) h in
    record {
      value = one.0;
      one = values_three (codes "host") [] (clean (hops fs) false fs) (coding_lines f)
          ∙ ap₂ (λ (x y : List (List ℕ)). x ++ y) (hosts_kept fs fs) (coding_no (codes "host") refl f) ∙ append-nil (values_of (codes "host") fs) ∙ one.1;
      each = λ d. one.2;
    }
has_host c (b ∷ a) fs f e h = record {
  value = b ∷ a;
  one = values_three (codes "host") (host_part (b ∷ a)) (clean (hops fs) true fs) (coding_lines f)
      ∙ ap₂ (λ (x y : List (List ℕ)). ((b ∷ a) ∷ []) ++ (x ++ y)) (no_host (hops fs) fs) (coding_no (codes "host") refl f);
  each = λ d. absurd (nil_cons (sym d ∙ e));
}
  where
    nil_cons : {x : ℕ} {y : List ℕ} → ◌≡◌ {A = List ℕ} [] (x ∷ y) → ⊥
    nil_cons e = cc

one_length : (vs : List (List ℕ)) → is_length vs ≡ true → (vs ≡ []) ⊎ ((value : List ℕ) × (vs ≡ value ∷ []) × IsLength value)
one_length [] h = inl refl
one_length (v ∷ []) h =
    let first = and_parts (leb 1 (length v)) (leb (length v) 18 && list_all is_digit v) h in
    let second = and_parts (leb (length v) 18) (list_all is_digit v) first.1 in
    inr (v, refl, record { some = leb-true 1 (length v) first.0; few = leb-true (length v) 18 second.0; each = AllPass-from_list_all is_digit v second.1 })
one_length (v ∷ w ∷ vs) h = absurd (false≢true h)

written_count : (fs : List Field) (a : List ℕ) (f : Framing1) → not (is_length (lengths fs)) ≡ false → IsCounted (all_fields (hops fs) a fs f)
written_count fs a f h =
    subst (λ (vs : List (List ℕ)). (vs ≡ []) ⊎ ((value : List ℕ) × (vs ≡ value ∷ []) × IsLength value))
    (sym (written_lengths (hops fs) a fs f ∙ lengths_kept fs fs (not (is_empty a))))
    (one_length (lengths fs) (not-false (is_length (lengths fs)) h))

whole_fields : (a : List ℕ) (fs : List Field) (f : Framing1) → All (λ b. IsTrue (is_authority b)) a → All IsHeadField (clean (hops fs) (not (is_empty a)) fs)
    → All IsHeadField (all_fields (hops fs) a fs f)
whole_fields a fs f h k = All-append IsHeadField (host_part a) (clean (hops fs) (not (is_empty a)) fs ++ coding_lines f) (host_fields a h)
    (All-append IsHeadField (clean (hops fs) (not (is_empty a)) fs) (coding_lines f) k (coding_fields f))

clean_tail : (fs ts : List Field) → hops fs ≡ [] → (named : List (List ℕ)) → clean_trailers named ts ≡ clean_trailers (hops fs) (clean_trailers named ts)
clean_tail fs ts e named = sym (ap (λ (names : List (List ℕ)). clean_trailers names (clean_trailers named ts)) e ∙ trailers_again named ts)

-- A text that is written for a message, how the end of its body is found, its heads, and its trailers.
pub record IsBuilt (L : Bounds) (scheme : Scheme1) (to_head : Bool) (m : Message) : Type 0 where
  pub whole : IsHttp1 L scheme to_head (clean_message m) (http1 to_head m)
  pub by : framing to_head whole.head ≡ framing_written to_head (clean_message m)
  pub heads : (AreEach (IsInterimHead L) (interims_of (clean_message m).start) then IsHeadWithin L whole.head)
      (interims_text (clean_message m).start ++ head_text (framing_written to_head (clean_message m)) (clean_message m))
  pub ends : All IsHeadField (clean_message m).trailers

built : (L : Bounds) (scheme : Scheme1) (to_head : Bool) (a : Start) (fs : List Field) (content : List ℕ) (ts : List Field)
    → let m : Message = record { start = a; fields = fs; content = content; trailers = ts } in
    IsValid m → IsSchemeOf a scheme → AreFree (of_head a fs) → AreFree (of_body (framing_written to_head (clean_message m)) content (clean_trailers (hops fs) ts))
    → KeepsLimits L to_head (clean_message m) → IsBuilt L scheme to_head m
built L scheme to_head (request c) fs content ts valid own_scheme free body keeps =
    let m : Message = record { start = request c; fields = fs; content = content; trailers = ts } in
    let n : Message = clean_message m in
    let f : Framing1 = framing_written to_head n in
    let asked = asked_by scheme c c.authority refl valid.start own_scheme (is_web_of c.scheme free.1.0) in
    let kept : All IsHeadField (clean (hops fs) (not (is_empty c.authority)) fs) = clean_headers (not (is_empty c.authority)) fs valid.fields free.1.1.0 free.1.1.1.0 in
    let all : List Field = all_fields (hops fs) c.authority fs f in
    let ends : All IsHeadField n.trailers = text_fields n.trailers (All-filter (λ (g : Field). not (is_among (connection_names ++ (hops fs ++ kept_names)) g.name)) IsRegularField ts valid.trailers) (body_values f content n.trailers body) in
    let by : framing to_head (record { start = request_line c.method (target_text c); fields = all }) ≡ f =
    ap₂ (λ (x y : List (List ℕ)). body_by Empty x y) (written_codings (hops fs) c.authority fs f) (written_lengths (hops fs) c.authority fs f)
    ∙ framing_request (lengths n.fields) (is_bare n (request c)) in
    let whole : IsHttp1 L scheme to_head n (http1 to_head m) = record {
      head = record { start = request_line c.method (target_text c); fields = all };
      trailers = n.trailers;
      text = (
        [],
        http1 to_head m,
        refl,
        (
          head_text f n,
          body_text f n,
          (
            keeps.head,
            (
              c.method ++ (32 ∷ (target_text c ++ (codes " HTTP/1.1" ++ crlf))),
              field_lines all ++ crlf,
              request_written c.method (target_text c) valid.start.method asked.0,
              section_written all (whole_fields c.authority fs f valid.start.authority kept),
              refl,
            ),
          ),
          subst (λ (g : Framing1). IsBody L g content n.trailers (body_text f n)) (sym by) (body_written L f n (no_end false (lengths n.fields) (is_bare n (request c))) body ends keeps.trailers),
          refl,
        ),
        refl,
      );
      start = (
        target_text c,
        refl,
        asked.1,
        (λ e. both_ways (bytes_eq c.method (codes "CONNECT")) free.0 (subst (λ (x : List ℕ). bytes_eq x (codes "CONNECT") ≡ true) (sym e) refl)),
        has_host c c.authority fs f refl (not-false (is_host c.authority (values_of (codes "host") fs)) free.1.1.1.1.0),
      );
      coded = subst₂ IsCodedBy (sym (written_codings (hops fs) c.authority fs f)) (sym (written_lengths (hops fs) c.authority fs f)) (coded_written false (lengths n.fields) (is_bare n (request c)));
      counted = written_count fs c.authority f free.1.1.1.1.1.0;
      fields = written_clean (hops fs) c.authority fs f;
      cleaned = clean_tail all ts (written_hops (hops fs) c.authority fs f) (hops fs);
      content = valid.content;
      fits = keeps.fits;
    } in
    record { whole = whole; by = by; heads = (whole.text.0, whole.text.3.0, whole.text.2, whole.text.3.2, refl); ends = ends }
built L scheme to_head (response is status) fs content ts valid own_scheme free body keeps =
    let m : Message = record { start = response is status; fields = fs; content = content; trailers = ts } in
    let n : Message = clean_message m in
    let f : Framing1 = framing_written to_head n in
    let rest = free_back (flat_map of_interim is) (of_fields (response is status) fs ++ ((no.LengthField, not (is_length (lengths fs))) ∷ [])) free in
    let kept : All IsHeadField (clean (hops fs) false fs) = clean_headers false fs valid.fields rest.0 rest.1.0 in
    let all : List Field = all_fields (hops fs) [] fs f in
    let ends : All IsHeadField n.trailers = text_fields n.trailers (All-filter (λ (g : Field). not (is_among (connection_names ++ (hops fs ++ kept_names)) g.name)) IsRegularField ts valid.trailers) (body_values f content n.trailers body) in
    let low : 100 ≤ status = omega (arith, valid.start.final.low) in
    let by : framing to_head (record { start = status_line status; fields = all }) ≡ f =
    ap₂ (λ (x y : List (List ℕ)). cond (is_bodyless to_head status) Empty (body_by ToEnd x y)) (written_codings (hops fs) [] fs f) (written_lengths (hops fs) [] fs f)
    ∙ framing_response (is_bodyless to_head status) (lengths n.fields) in
    let whole : IsHttp1 L scheme to_head n (http1 to_head m) = record {
      head = record { start = status_line status; fields = all };
      trailers = n.trailers;
      text = (
        flat_map interim_text (map clean_interim is),
        head_text f n ++ body_text f n,
        interims_written L is valid.start.each (each_free of_interim is (free_front (flat_map of_interim is) _ free)) keeps.interims keeps.fits.start.1,
        (
          head_text f n,
          body_text f n,
          (keeps.head, (status_text status, field_lines all ++ crlf, status_written status low valid.start.final.high, section_written all (whole_fields [] fs f (All-nil (λ b. IsTrue (is_authority b))) kept), refl)),
          subst (λ (g : Framing1). IsBody L g content n.trailers (body_text f n)) (sym by) (body_written L f n (no_end (is_bodyless to_head status) (lengths n.fields) false) body ends keeps.trailers),
          refl,
        ),
        refl,
      );
      start = (refl, valid.start.final.low);
      coded = subst₂ IsCodedBy (sym (written_codings (hops fs) [] fs f)) (sym (written_lengths (hops fs) [] fs f)) (coded_written (is_bodyless to_head status) (lengths n.fields) false);
      counted = written_count fs [] f rest.1.1.0;
      fields = written_clean (hops fs) [] fs f;
      cleaned = clean_tail all ts (written_hops (hops fs) [] fs f) (hops fs);
      content = valid.content;
      fits = keeps.fits;
    } in
    record { whole = whole; by = by; heads = (whole.text.0, whole.text.3.0, whole.text.2, whole.text.3.2, refl); ends = ends }

pub built_within : (L : Bounds) (scheme : Scheme1) (to_head : Bool) (m : Message) → IsValid m → IsSchemeOf m.start scheme → no_form to_head m ≡ None
    → KeepsLimits L to_head (clean_message m) → IsBuilt L scheme to_head m
built_within L scheme to_head m valid own_scheme form keeps =
    let free = none_free (of_head m.start m.fields ++ of_body (framing_written to_head (clean_message m)) m.content (clean_trailers (hops m.fields) m.trailers)) form in
    built L scheme to_head m.start m.fields m.content m.trailers valid own_scheme
    (free_front (of_head m.start m.fields) (of_body (framing_written to_head (clean_message m)) m.content (clean_trailers (hops m.fields) m.trailers)) free)
    (free_back (of_head m.start m.fields) (of_body (framing_written to_head (clean_message m)) m.content (clean_trailers (hops m.fields) m.trailers)) free)
    keeps

pub there_within : ThereWithin
there_within L scheme to_head m valid own_scheme form keeps = (built_within L scheme to_head m valid own_scheme form keeps).whole

-- without limits each text keeps them
pub no_limits : (to_head : Bool) (m : Message) → KeepsLimits no_bounds to_head m
no_limits to_head m = record {
  fits = record { start = no_start_limit m.start; fields = no_fields_limit m.fields; trailers = no_fields_limit m.trailers };
  interims = λ k d i. tt;
  head = tt;
  trailers = tt;
}

pub there : There
there scheme to_head m valid own_scheme form = there_within no_bounds scheme to_head m valid own_scheme form (no_limits to_head (clean_message m))
