-- What is written is a text of the grammar.
use Rattle.std.proofs.Common.{◌≡◌, ◌<◌, ◌≤◌, ◌-◌, arith, ℕ, zero, suc, List, [], ◌∷◌, ◌++◌, length, take, drop, map, All, flat_map, refl, sym, ap, ap₂, subst, ◌∙◌, append-nil}
use Rattle.std.specs.List.{concat}
use Rattle.std.specs.Char.{to_ascii_lowercase}
use Rattle.std.proofs.lemmas.List.{length-map, take-append-drop, length-take, length-drop, length-append, take_all, drop_all}
use Rattle.std.proofs.lemmas.List.Elements.{All-head, All-tail, All-nil, All-cons, All-weaker, All-append, All-same}
use Rattle.std.proofs.Math.Seq.{take-append_seam, drop-append_seam}
use Rattle.bh_spec.specs.declared.Part.{Part}
use Rattle.bh_spec.specs.declared.Part.TheVariants as parts
use Rattle.bh_spec.specs.declared.Form.{Form}
use Rattle.bh_spec.specs.declared.Form.TheVariants.{Known, Indeterminate}
use Rattle.bh_spec.specs.declared.Omitted.TheVariants.{Nothing}
use Rattle.bh_spec.specs.Integers.{int, least_width}
use Rattle.bh_spec.specs.Bounds.{Bounds, IsWithin}
use Rattle.bh_spec.specs.Bytes.{lower}
use Rattle.bh_spec.specs.Messages.{Field, Control, Interim, Start, request, response, Message, kind_of, IsPseudoField, IsRegularField, AreHeaders, IsInterim, IsStart, IsValid}
use Rattle.bh_spec.specs.Texts.{Text, mark, bytes_of, IsNumber, IsRun, ◌then◌, AreEach, IsString}
use Rattle.bh_spec.specs.Sections.{IsLine, IsLinesWithin, IsSection}
use Rattle.bh_spec.specs.Tails.{IsBody, IsTail}
use Rattle.bh_spec.specs.Spelling.{IsRequestControl, IsInterimText, IsStartText, framing}
use Rattle.bh_spec.specs.Viable.{SpellsBytes}
use Rattle.bh_spec.specs.Canonical.{string, line, lines, section, cut, cut_within, spelled_content, interim, start, spelling, FieldsFit, ControlFits, StartFits, Fits, greatest, integers}
use Rattle.bh_spec.specs.Laws.{CanonIsSpelled, KnownIsSpelled}
use Rattle.bh_spec.specs.declared.Kind.{Kind}
use Rattle.bh_spec.specs.declared.Kind.TheVariants.{Request, Response}
use Rattle.bh_spec.proofs.Sections.{IsChunkText}
use Rattle.bh_spec.proofs.Widths.{least_fits}
use Rattle.bh_spec.proofs.Marks.{bytes_of-append, unmark}

-- some text of the grammar has these bytes
abbrev pub Has : (Text → Type 0) → List ℕ → Type 0
Has R bytes = (t : Text) × R t × (bytes_of t ≡ bytes)

has_then : (R S : Text → Type 0) (x y : List ℕ) → Has R x → Has S y → Has (R then S) (x ++ y)
has_then R S x y h k =
    (h.0 ++ k.0, (h.0, k.0, h.1, k.1, refl), bytes_of-append h.0 k.0 ∙ ap₂ (λ (v w : List ℕ). v ++ w) h.2 k.2)

has_run : (part : Part) (x : List ℕ) → Has (IsRun part x) x
has_run part x = (mark part x, refl, unmark part x)

pub has_int : (part : Part) (n : ℕ) → n ≤ greatest → Has (IsNumber part n) (int n)
has_int part n h = (mark part (int n), record { width = least_width n; fits = least_fits n h; spelled = refl }, unmark part (int n))

has_string : (long part : Part) (x : List ℕ) → length x ≤ greatest → Has (IsString long part x) (string x)
has_string long part x h = has_then (IsNumber long (length x)) (IsRun part x) (int (length x)) x (has_int long (length x) h) (has_run part x)

has_each : {A : Type 0} (P : A → Type 0) (R : A → Text → Type 0) (f : A → List ℕ) → ((a : A) → P a → Has (R a) (f a)) → (xs : List A) → All P xs → Has (AreEach R xs) (flat_map f xs)
has_each P R f h [] p = ([], refl, refl)
has_each P R f h (x ∷ xs) p = has_then (R x) (AreEach R xs) (f x) (flat_map f xs) (h x (All-head P x xs p)) (has_each P R f h xs (All-tail P x xs p))

has_length : (t : Text) (x : List ℕ) → bytes_of t ≡ x → length t ≡ length x
has_length t x e = sym (length-map t (λ (b : Part × ℕ). b.1)) ∙ ap length e

-- ---- sections

-- a field in lower case whose lengths can be written
record IsWritten (field : Field) : Type 0 where
  lower_case : map to_ascii_lowercase field.name ≡ field.name
  name : length field.name ≤ greatest
  value : length field.value ≤ greatest

has_line : (f : Field) → IsWritten f → Has (IsLine f) (line f)
has_line f h =
    let both = has_then (IsString parts.NameLength parts.Name f.name) (IsString parts.ValueLength parts.Value f.value) (string f.name) (string f.value)
    (has_string parts.NameLength parts.Name f.name h.name) (has_string parts.ValueLength parts.Value f.value h.value) in
    (both.0, (f.name, h.lower_case, both.1), both.2)

has_lines : (L : Bounds) (fs : List Field) → All IsWritten fs → FieldsFit L fs → Has (IsLinesWithin L fs) (lines fs)
has_lines L fs w fits =
    let all = has_each IsWritten IsLine line has_line fs w in (
      all.0,
      record {
        lines = all.1;
        total = subst (IsWithin L.section) (sym (has_length all.0 (lines fs) all.2)) fits.total;
        names = fits.names;
        values = fits.values;
      },
      all.2,
    )

has_section : (L : Bounds) (form : Form) (fs : List Field) → All IsWritten fs → length (lines fs) ≤ greatest → FieldsFit L fs → Has (IsSection L form fs) (section form fs)
has_section L Known fs w long fits =
    let all = has_lines L fs w fits in
    let n : length all.0 ≡ length (lines fs) = has_length all.0 (lines fs) all.2 in
    let both = has_then (IsNumber parts.SectionLength (length all.0)) (λ rest. rest ≡ all.0) (int (length (lines fs))) (lines fs)
    (subst (λ (k : ℕ). Has (IsNumber parts.SectionLength k) (int (length (lines fs)))) (sym n) (has_int parts.SectionLength (length (lines fs)) long))
    (all.0, refl, all.2) in
    (both.0, (all.0, all.1, both.1), both.2)
has_section L Indeterminate fs w long fits =
    has_then (IsLinesWithin L fs) (IsNumber parts.NameLength 0) (lines fs) (int 0) (has_lines L fs w fits) (has_int parts.NameLength 0 (omega arith))

-- ---- bodies

abbrev pub IsPiece : List ℕ → Type 0
IsPiece x = (0 < length x) × (length x ≤ 8192)

piece : (b : ℕ) (xs : List ℕ) → IsPiece (take 8192 (b ∷ xs))
piece b xs = (omega (arith, length-take 8192 (b ∷ xs)), omega (arith, length-take 8192 (b ∷ xs)))

pub cut_pieces : (k : ℕ) (xs : List ℕ) → All IsPiece (cut_within k 8192 xs)
cut_pieces zero xs = All-nil IsPiece
cut_pieces (suc k) [] = All-nil IsPiece
cut_pieces (suc k) (b ∷ xs) = All-cons IsPiece (take 8192 (b ∷ xs)) (cut_within k 8192 (drop 8192 (b ∷ xs))) (piece b xs) (cut_pieces k (drop 8192 (b ∷ xs)))

pub cut_whole : (k : ℕ) (xs : List ℕ) → length xs ≤ k → concat (cut_within k 8192 xs) ≡ xs
cut_whole zero [] h = refl
cut_whole zero (b ∷ xs) h = absurd (omega arith)
cut_whole (suc k) [] h = refl
cut_whole (suc k) (b ∷ xs) h =
    ap (λ (y : List ℕ). take 8192 (b ∷ xs) ++ y) (cut_whole k (drop 8192 (b ∷ xs)) (omega (arith, length-drop 8192 (b ∷ xs)))) ∙ take-append-drop 8192 (b ∷ xs)

-- more turns than bytes make no difference
turns : (k j size : ℕ) (xs : List ℕ) → 0 < size → length xs ≤ k → length xs ≤ j → cut_within k size xs ≡ cut_within j size xs
turns zero zero size xs s h g = refl
turns zero (suc j) size [] s h g = refl
turns zero (suc j) size (x ∷ xs) s h g = absurd (omega arith)
turns (suc k) zero size [] s h g = refl
turns (suc k) zero size (x ∷ xs) s h g = absurd (omega arith)
turns (suc k) (suc j) size [] s h g = refl
turns (suc k) (suc j) size (x ∷ xs) s h g =
    let rest : length (drop size (x ∷ xs)) ≡ length (x ∷ xs) - size = length-drop size (x ∷ xs) in
    ap (λ (ys : List (List ℕ)). take size (x ∷ xs) ∷ ys) (turns k j size (drop size (x ∷ xs)) s (omega arith) (omega arith))

-- bytes are their first piece and the pieces of the rest
pub cut_once : (size : ℕ) (xs : List ℕ) → 0 < size → 0 < length xs → cut size xs ≡ take size xs ∷ cut size (drop size xs)
cut_once size [] s h = absurd (omega arith)
cut_once size (x ∷ xs) s h =
    let rest : length (drop size (x ∷ xs)) ≡ length (x ∷ xs) - size = length-drop size (x ∷ xs) in
    ap (λ (ys : List (List ℕ)). take size (x ∷ xs) ∷ ys) (turns (length xs) (length (drop size (x ∷ xs))) size (drop size (x ∷ xs)) s (omega arith) (omega arith))

-- a whole piece in front
pub cut_first : (size : ℕ) (full back : List ℕ) → 0 < size → length full ≡ size → cut size (full ++ back) ≡ full ∷ cut size back
cut_first size full back s e =
    cut_once size (full ++ back) s (omega (arith, e, length-append full back))
    ∙ ap₂ (λ (a b : List ℕ). a ∷ cut size b)
    (ap (λ (k : ℕ). take k (full ++ back)) (sym e) ∙ take-append_seam full back)
    (ap (λ (k : ℕ). drop k (full ++ back)) (sym e) ∙ drop-append_seam full back)

-- bytes that aren't more than one piece
pub cut_few : (size : ℕ) (xs : List ℕ) → 0 < length xs → length xs ≤ size → cut size xs ≡ xs ∷ []
cut_few size xs some few = cut_once size xs (omega arith) some ∙ ap₂ (λ (a b : List ℕ). a ∷ cut size b) (take_all size xs few) (drop_all size xs few)

-- what a form asks of content: its length stands in one integer, or it is cut into chunks
abbrev pub BodyFits : Form → List ℕ → Type 0
BodyFits Known x = length x ≤ greatest
BodyFits Indeterminate x = Unit {0}

has_body : (form : Form) (x : List ℕ) → BodyFits form x → Has (IsBody form x) (spelled_content form x)
has_body Known x h = has_string parts.ContentLength parts.Content x h
has_body Indeterminate x h =
    let pieces = cut_pieces (length x) x in
    let both = has_then (AreEach IsChunkText (cut 8192 x)) (IsNumber parts.ChunkLength 0) (flat_map string (cut 8192 x)) (int 0)
    (has_each IsPiece IsChunkText string (λ y p. has_string parts.ChunkLength parts.Content y (omega (arith, p.1))) (cut 8192 x) pieces)
    (has_int parts.ChunkLength 0 (omega arith)) in
    (both.0, (cut 8192 x, cut_whole (length x) x (omega arith), All-weaker IsPiece (λ y. 0 < length y) (λ y p. p.0) (cut 8192 x) pieces, both.1), both.2)

-- ---- starts and messages

abbrev pub IsLower : Field → Type 0
IsLower f = lower f.name ≡ f.name

pub trailers_lower : (fs : List Field) → All IsRegularField fs → All IsLower fs
trailers_lower fs h = All-weaker IsRegularField IsLower (λ f p. p.lower_case) fs h

pub headers_lower : (fs : List Field) → AreHeaders fs → All IsLower fs
headers_lower fs h =
    All-same IsLower fs (h.0 ++ h.1) h.2
    (All-append IsLower h.0 h.1 (All-weaker IsPseudoField IsLower (λ f p. p.lower_case) h.0 h.3) (trailers_lower h.1 h.4))

all_written : (fs : List Field) → All IsLower fs → FieldsFit integers fs → All IsWritten fs
all_written fs p q k d h = record { lower_case = p k d h; name = q.names k d h; value = q.values k d h }

abbrev pub Lines : Bounds → List Field → Type 0
Lines L fs = All IsLower fs × (FieldsFit integers fs × FieldsFit L fs)

pub has_written_section : (L : Bounds) (form : Form) (fs : List Field) → Lines L fs → Has (IsSection L form fs) (section form fs)
has_written_section L form fs h = has_section L form fs (all_written fs h.0 h.1.0) h.1.0.total h.1.1

has_request : (L : Bounds) (c : Control) → lower c.scheme ≡ c.scheme → ControlFits integers c → ControlFits L c
    → Has (IsRequestControl L c) (string c.method ++ (string c.scheme ++ (string c.authority ++ string c.path)))
has_request L c low small fits =
    let a = has_string parts.MethodLength parts.Method c.method small.method in
    let b = has_string parts.SchemeLength parts.Scheme c.scheme small.scheme in
    let d = has_string parts.AuthorityLength parts.Authority c.authority small.authority in
    let e = has_string parts.PathLength parts.Path c.path small.path in
    let de = has_then (IsString parts.AuthorityLength parts.Authority c.authority) (IsString parts.PathLength parts.Path c.path) (string c.authority) (string c.path) d e in
    let bde = has_then (IsString parts.SchemeLength parts.Scheme c.scheme) (IsString parts.AuthorityLength parts.Authority c.authority then IsString parts.PathLength parts.Path c.path)
    (string c.scheme) (string c.authority ++ string c.path) b de in
    let all = has_then (IsString parts.MethodLength parts.Method c.method)
    (IsString parts.SchemeLength parts.Scheme c.scheme then IsString parts.AuthorityLength parts.Authority c.authority then IsString parts.PathLength parts.Path c.path)
    (string c.method) (string c.scheme ++ (string c.authority ++ string c.path)) a bde in (
      all.0,
      record {
        scheme = c.scheme;
        same_scheme = low;
        text = all.1;
        method_within = fits.method;
        scheme_within = fits.scheme;
        authority_within = fits.authority;
        path_within = fits.path;
      },
      all.2,
    )

abbrev InterimReady : Bounds → Interim → Type 0
InterimReady L i = (i.status ≤ greatest) × Lines L i.fields

has_interim : (L : Bounds) (form : Form) (i : Interim) → InterimReady L i → Has (IsInterimText L form i) (interim form i)
has_interim L form i h =
    has_then (IsNumber parts.Status i.status) (IsSection L form i.fields) (int i.status) (section form i.fields)
    (has_int parts.Status i.status h.0) (has_written_section L form i.fields h.1)

interims_ready : (L : Bounds) (is : List Interim) → All IsInterim is → All (λ i. FieldsFit integers i.fields) is → All (λ i. FieldsFit L i.fields) is → All (InterimReady L) is
interims_ready L is p q r k d h =
    let i = p k d h in
    (omega (arith, i.number.high), (headers_lower _ i.fields, (q k d h, r k d h)))

pub has_start : (L : Bounds) (form : Form) (a : Start) → IsStart a → StartFits integers a → StartFits L a → Has (IsStartText L form a) (start form a)
has_start L form (request c) v small fits = has_request L c v.scheme.lower_case small fits
has_start L form (response is s) v small fits =
    let all = has_then (AreEach (IsInterimText L form) is) (IsNumber parts.Status s) (flat_map (interim form) is) (int s)
    (has_each (InterimReady L) (IsInterimText L form) (interim form) (has_interim L form) is (interims_ready L is v.each small.1 fits.1))
    (has_int parts.Status s (omega (arith, v.final.high))) in
    (all.0, (fits.0, all.1), all.2)

pub small_framing : (k : Kind) (form : Form) → framing k form ≤ greatest
small_framing Request Known = omega arith
small_framing Request Indeterminate = omega arith
small_framing Response Known = omega arith
small_framing Response Indeterminate = omega arith

-- what is written behind the framing number
pub has_after : (L : Bounds) (form : Form) (m : Message) → IsValid m → Fits integers m → BodyFits form m.content → Fits L m
    → Has (IsStartText L form m.start then IsSection L form m.fields then IsTail L form m.content m.trailers Nothing 0)
    (start form m.start ++ (section form m.fields ++ (spelled_content form m.content ++ section form m.trailers)))
has_after L form m v small content fits =
    let b = has_start L form m.start v.start small.start fits.start in
    let c = has_written_section L form m.fields (headers_lower m.fields v.fields, (small.fields, fits.fields)) in
    let d = has_body form m.content content in
    let e = has_written_section L form m.trailers (trailers_lower m.trailers v.trailers, (small.trailers, fits.trailers)) in
    let f = has_then (IsSection L form m.trailers) (IsRun parts.Padding []) (section form m.trailers) [] e (has_run parts.Padding []) in
    let tail : Has (IsTail L form m.content m.trailers Nothing 0) (spelled_content form m.content ++ section form m.trailers) =
    has_then (IsBody form m.content) (IsSection L form m.trailers then IsRun parts.Padding []) (spelled_content form m.content) (section form m.trailers)
    d (f.0, f.1, f.2 ∙ append-nil (section form m.trailers)) in
    let cd = has_then (IsSection L form m.fields) (IsTail L form m.content m.trailers Nothing 0) (section form m.fields) (spelled_content form m.content ++ section form m.trailers) c tail in
    has_then (IsStartText L form m.start) (IsSection L form m.fields then IsTail L form m.content m.trailers Nothing 0)
    (start form m.start) (section form m.fields ++ (spelled_content form m.content ++ section form m.trailers)) b cd

-- what is written is spelled, in both forms
is_spelled : (L : Bounds) (form : Form) (m : Message) → IsValid m → Fits integers m → BodyFits form m.content → Fits L m → SpellsBytes L m Nothing 0 (spelling form m)
is_spelled L form m v small content fits =
    let k = kind_of m.start in
    let a = has_int parts.Framing (framing k form) (small_framing k form) in
    let all = has_then (IsNumber parts.Framing (framing k form)) (IsStartText L form m.start then IsSection L form m.fields then IsTail L form m.content m.trailers Nothing 0)
    (int (framing k form)) (start form m.start ++ (section form m.fields ++ (spelled_content form m.content ++ section form m.trailers))) a (has_after L form m v small content fits) in
    record { text = all.0; spelled = record { valid = v; form = form; text = all.1 }; same = all.2 }

pub canonical : CanonIsSpelled
canonical L m v small fits = is_spelled L Indeterminate m v small tt fits

pub known_length : KnownIsSpelled
known_length L m v small fits = is_spelled L Known m v small.fits small.content fits
