-- Ways to show the worked cases: heads from what they are written of, what is read, and why a head is refused.
use Rattle.std.proofs.Common.{◌≡◌, ◌<◌, ◌≤◌, arith, ℕ, true, false, List, [], ◌∷◌, ◌++◌, map, flat_map, length, All, IsTrue, IsFalse, codes, slice_index, ◌-◌, bytes_eq, ◌^◌, refl, sym, subst, inl, inr}
use Rattle.std.specs.List.{list_all}
use Rattle.std.proofs.Math.Seq.{take-append_seam}
use Rattle.std.proofs.lemmas.Bool.{both_ways}
use Rattle.std.proofs.lemmas.List.Elements.{All-nil, All-cons}
use Rattle.std.proofs.lemmas.Slice.Eq.{bytes_eq-Decides}
use Rattle.std.proofs.lemmas.List.Sums.{AllPass-from_list_all}
use Rattle.bh_spec.specs.declared.H1Why.{H1Why}
use Rattle.bh_spec.specs.Bounds.{Bounds, IsWithin, default_bounds}
use Rattle.bh_spec.specs.Bytes.{AreBytes, is_authority, is_digit, is_token, is_text_value, is_blank, lower}
use Rattle.bh_spec.specs.Messages.{Field, Control, Interim, Start, request}
use Rattle.bh_spec.specs.Canonical.{lines, ControlFits, FieldsFit, StartFits}
use Rattle.bh_spec.specs.Texts.{AreEach}
use Rattle.h1_spec.specs.declared.Scheme1.TheVariants.{Https}
use Rattle.h1_spec.specs.Grammar.{Line, crlf}
use Rattle.h1_spec.specs.Heads.{request_line, status_line, Head, is_target, three_digits, IsStartLine, IsFieldLine, IsSection, IsHead}
use Rattle.h1_spec.specs.Targets.{IsTargetOf, HasHost}
use Rattle.h1_spec.specs.Cleaning.{values_of, hops, clean, clean_trailers, says_host}
use Rattle.h1_spec.specs.Framing.{IsCoded, IsLength, IsCounted, framing}
use Rattle.h1_spec.specs.Bodies.{IsBody}
use Rattle.h1_spec.specs.Http1.{IsInterimHead, interims_of, IsStartOf}
use Rattle.h1_spec.specs.Translation.{OfStart, IsCause, read, IsFromAnswer}
use Rattle.h1_spec.specs.Cases.{a_field, refuses}
use Rattle.h1_spec.proofs.Causes.{drop_seam}
use Rattle.h1_spec.proofs.Ends.{head_ends}

-- ---- heads from their pieces

-- a field line as it is written: the name, the blanks behind the colon, and the value
pub record Shown : Type 0 where
  pub name : List ℕ
  pub blanks : List ℕ
  pub value : List ℕ

abbrev pub shown : List ℕ → List ℕ → Shown
shown name value = record { name = name; blanks = codes " "; value = value }

abbrev pub field_of : Shown → Field
field_of s = a_field (lower s.name) s.value

abbrev pub line_of : Shown → List ℕ
line_of s = s.name ++ (58 ∷ (s.blanks ++ (s.value ++ [])))

abbrev pub lines_of : List Shown → List ℕ
lines_of ss = flat_map (λ s. line_of s ++ crlf) ss

-- what a look at the bytes says
abbrev pub AreGood : List Shown → Type 0
AreGood [] = Unit {0}
AreGood (s ∷ ss) = ((0 < length s.name) × (list_all is_token s.name ≡ true) × (list_all is_blank s.blanks ≡ true) × (list_all is_text_value s.value ≡ true)
    × IsFalse (is_blank (slice_index s.value 0)) × IsFalse (is_blank (slice_index s.value (length s.value - 1)))) × AreGood ss

lines_are : (ss : List Shown) → AreGood ss → AreEach (λ f. Line (IsFieldLine f)) (map field_of ss) (lines_of ss)
lines_are [] g = refl
lines_are (s ∷ ss) g =
    let p = g.0 in (
      line_of s ++ crlf,
      lines_of ss,
      (
        line_of s,
        crlf,
        record {
          name = s.name;
          before = s.blanks;
          after = [];
          token = record { nonempty = p.0; each = AllPass-from_list_all is_token s.name p.1 };
          same_name = refl;
          blank_before = AllPass-from_list_all is_blank s.blanks p.2;
          value = record { each = AllPass-from_list_all is_text_value s.value p.3; first = p.4; last = p.5 };
          blank_after = All-nil (λ b. IsTrue (is_blank b));
          written = refl;
        },
        refl,
        refl,
      ),
      lines_are ss g.1,
      refl,
    )

pub section_is : (ss : List Shown) → AreGood ss → IsSection (map field_of ss) (lines_of ss ++ crlf)
section_is ss g = (lines_of ss, crlf, lines_are ss g, refl, refl)

abbrev pub request_head : List ℕ → List ℕ → List Shown → Head
request_head method target ss = record { start = request_line method target; fields = map field_of ss }

abbrev pub request_text : List ℕ → List ℕ → List Shown → List ℕ
request_text method target ss = ((method ++ (32 ∷ (target ++ codes " HTTP/1.1"))) ++ crlf) ++ (lines_of ss ++ crlf)

pub request_is : (method target : List ℕ) (ss : List Shown) → 0 < length method → list_all is_token method ≡ true → 0 < length target → list_all is_target target ≡ true → AreGood ss
    → IsHead (request_head method target ss) (request_text method target ss)
request_is method target ss m mm t tt' g = (
  (method ++ (32 ∷ (target ++ codes " HTTP/1.1"))) ++ crlf,
  lines_of ss ++ crlf,
  (
    method ++ (32 ∷ (target ++ codes " HTTP/1.1")),
    crlf,
    (record { nonempty = m; each = AllPass-from_list_all is_token method mm }, record { nonempty = t; each = AllPass-from_list_all is_target target tt' }, refl),
    refl,
    refl,
  ),
  section_is ss g,
  refl,
)

abbrev pub status_head : ℕ → List Shown → Head
status_head status ss = record { start = status_line status; fields = map field_of ss }

-- the line of the status with a reason, and the field lines
pub status_is : (status : ℕ) (line reason : List ℕ) (ss : List Shown) → IsStartLine (status_line status) line → AreGood ss
    → IsHead (status_head status ss) ((line ++ crlf) ++ (lines_of ss ++ crlf))
status_is status line reason ss l g = (line ++ crlf, lines_of ss ++ crlf, (line, crlf, l, refl, refl), section_is ss g, refl)

-- ---- what is read, and what is refused

-- a head and a body, without informational responses
pub read_of : (start : Start) (h : Head) (content : List ℕ) (fs : List Field) (x y : List ℕ) → length (x ++ y) ≤ 2 ^ 40 → length x ≤ 65536 → interims_of start ≡ [] → IsHead h x
    → IsStartOf Https h start → IsCoded h.fields → IsCounted h.fields → IsBody default_bounds (framing false h) content fs y → AreBytes content
    → StartFits default_bounds start → FieldsFit default_bounds (clean (hops h.fields) (says_host start) h.fields) → FieldsFit default_bounds (clean_trailers (hops h.fields) fs)
    → IsFromAnswer default_bounds Https false (x ++ y)
    (read (record { start = start; fields = clean (hops h.fields) (says_host start) h.fields; content = content; trailers = clean_trailers (hops h.fields) fs }))
read_of start h content fs x y within short none head says coded counted body bytes fits lines trailers = (
  within,
  record {
    head = h;
    trailers = fs;
    text = ([], x ++ y, no_interims (interims_of start) none, (x, y, (short, head), body, refl), refl);
    start = says;
    coded = coded;
    counted = counted;
    fields = refl;
    cleaned = refl;
    content = bytes;
    fits = record { start = fits; fields = lines; trailers = trailers };
  },
)
  where
    no_interims : (is : List Interim) → is ≡ [] → AreEach (IsInterimHead default_bounds) is []
    no_interims [] e = refl
    no_interims (i ∷ is) e = absurd cc

-- a cause that stands behind one head
pub cause_of : (L : Bounds) (h : Head) (x y : List ℕ) (cause : H1Why) → IsWithin L.interims 0 → IsWithin L.section (length x) → IsHead h x → OfStart L Https false [] h y h.start cause
    → IsCause L Https false (x ++ y) cause
cause_of L h x y cause few short head says = record {
  interims = [];
  few = few;
  text = (
    [],
    x ++ y,
    refl,
    inr (inr (record {
      many = length x;
      ends = head_ends h x y head;
      within = short;
      says = inr (
        (λ n. n h (subst (IsHead h) (sym (take-append_seam x y)) head) tt),
        (h, subst (IsHead h) (sym (take-append_seam x y)) head, tt, subst (λ (z : List ℕ). OfStart L Https false [] h z h.start cause) (sym (drop_seam x y)) says),
      );
    })),
    refl,
  );
}

pub differ : (a b : List ℕ) → bytes_eq a b ≡ false → a ≡ b → ⊥
differ a b h e = both_ways (bytes_eq a b) h ((bytes_eq-Decides a b).1 e)

abbrev pub AreShort : List Field → Type 0
AreShort [] = Unit {0}
AreShort (f ∷ fs) = ((length f.name ≤ 8192) × (length f.value ≤ 8192)) × AreShort fs

pub fit : (fs : List Field) → AreShort fs → length (lines fs) ≤ 65536 → FieldsFit default_bounds fs
fit fs short total = record { names = names fs short; values = values fs short; total = total }
  where
    names : (gs : List Field) → AreShort gs → All (λ f. length f.name ≤ 8192) gs
    names [] h = All-nil (λ f. length f.name ≤ 8192)
    names (g ∷ gs) h = All-cons (λ f. length f.name ≤ 8192) g gs h.0.0 (names gs h.1)

    values : (gs : List Field) → AreShort gs → All (λ f. length f.value ≤ 8192) gs
    values [] h = All-nil (λ f. length f.value ≤ 8192)
    values (g ∷ gs) h = All-cons (λ f. length f.value ≤ 8192) g gs h.0.1 (values gs h.1)

pub none_fit : FieldsFit default_bounds []
none_fit = record { names = All-nil _; values = All-nil _; total = omega arith }

pub one_host : (control : Control) (fs : List Field) (value : List ℕ) → values_of (codes "host") fs ≡ value ∷ [] → list_all is_authority value ≡ true → HasHost control fs
one_host control fs value one each = record { value = value; one = one; each = λ e. AllPass-from_list_all is_authority value each }

-- a request by its control data, its target and its lines
pub asked : (control : Control) (target : List ℕ) (ss : List Shown) (content : List ℕ) (fs : List Field) (y : List ℕ)
    → IsHead (request_head control.method target ss) (request_text control.method target ss)
    → length (request_text control.method target ss ++ y) ≤ 2 ^ 40 → length (request_text control.method target ss) ≤ 65536
    → IsTargetOf Https control.method target control → bytes_eq control.method (codes "CONNECT") ≡ false → HasHost control (map field_of ss)
    → IsCoded (map field_of ss) → IsCounted (map field_of ss) → IsBody default_bounds (framing false (request_head control.method target ss)) content fs y → AreBytes content
    → ControlFits default_bounds control → FieldsFit default_bounds (clean (hops (map field_of ss)) (says_host (request control)) (map field_of ss))
    → FieldsFit default_bounds (clean_trailers (hops (map field_of ss)) fs)
    → IsFromAnswer default_bounds Https false (request_text control.method target ss ++ y)
    (read (record { start = request control; fields = clean (hops (map field_of ss)) (says_host (request control)) (map field_of ss); content = content; trailers = clean_trailers (hops (map field_of ss)) fs }))
asked control target ss content fs y head within short says connect host coded counted body bytes fits lines trailers =
    read_of (request control) (request_head control.method target ss) content fs (request_text control.method target ss) y within short refl head
    (target, refl, says, differ control.method (codes "CONNECT") connect, host) coded counted body bytes fits lines trailers

pub short_control : (c : Control) → length c.method ≤ 8192 → length c.scheme ≤ 8192 → length c.authority ≤ 8192 → length c.path ≤ 8192 → ControlFits default_bounds c
short_control c m s a p = record { method = m; scheme = s; authority = a; path = p }

pub status_line_is : (status : ℕ) (reason line : List ℕ) → 100 ≤ status → status ≤ 599 → All (λ b. IsTrue (is_text_value b)) reason → line ≡ codes "HTTP/1.1 " ++ (three_digits status ++ (32 ∷ reason)) → IsStartLine (status_line status) line
status_line_is status reason line low high each written = (low, high, (reason, each, written))

pub refused_by : (method target : List ℕ) (ss : List Shown) (y : List ℕ) (cause : H1Why) → IsHead (request_head method target ss) (request_text method target ss)
    → length (request_text method target ss ++ y) ≤ 2 ^ 40 → length (request_text method target ss) ≤ 65536
    → OfStart default_bounds Https false [] (request_head method target ss) y (request_line method target) cause → refuses (request_text method target ss ++ y) cause
refused_by method target ss y cause head within short says =
    inl (within, cause_of default_bounds (request_head method target ss) (request_text method target ss) y cause (omega arith) short head says)

pub nine : IsLength (codes "9")
nine = record { some = omega arith; few = omega arith; each = AllPass-from_list_all is_digit (codes "9") refl }
