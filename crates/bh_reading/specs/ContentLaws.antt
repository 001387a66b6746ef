-- In a text that completes a message from any state of the decoder the bytes of content are the items of content.
use Rattle.std.proofs.Common.{◌≡◌, ◌+◌, ℕ, Bool, true, false, if◌then◌else◌, nat_eq, List, [], ◌∷◌, ◌++◌, length, map, replicate, refl, ap, ◌∙◌, arith, inl, inr}
use Rattle.std.specs.List.{concat}
use Rattle.std.proofs.lemmas.List.{length-append}
use Rattle.bh_spec.specs.declared.Part.{Part}
use Rattle.bh_spec.specs.declared.Part.TheVariants as parts
use Rattle.bh_spec.specs.declared.Form.{Form}
use Rattle.bh_spec.specs.declared.Form.TheVariants.{Known, Indeterminate}
use Rattle.bh_spec.specs.declared.Kind.{Kind}
use Rattle.bh_spec.specs.declared.Kind.TheVariants.{Request, Response}
use Rattle.bh_spec.specs.Parts.{number_of}
use Rattle.bh_spec.specs.Integers.{vi}
use Rattle.bh_spec.specs.Bounds.{Bounds}
use Rattle.bh_spec.specs.Messages.{Field, Control, Interim}
use Rattle.bh_spec.specs.Texts.{Text, mark, content_in, IsNumber, AreEach, IsString}
use Rattle.bh_spec.specs.Sections.{IsLine, IsSection}
use Rattle.bh_spec.specs.Spelling.{IsRequestControl, IsInterimText}
use Rattle.bh_spec.specs.Yields.{Yields}
use Rattle.bh_spec.specs.Items.{Item, content_byte, Head}
use Rattle.bh_spec.proofs.Marks.{content-append}
use Rattle.bh_control.specs.Phases as control
use Rattle.bh_control.specs.Grammar as control_grammar
use Rattle.bh_control.specs.declared.progress.Phase.{Phase as ControlPhase}
use Rattle.bh_control.specs.declared.progress.Phase.TheVariants as control_phases
use Rattle.bh_control.specs.declared.strings.Place.{Place}
use Rattle.bh_control.specs.declared.strings.Place.TheVariants.{Method, Scheme, Authority, Path}
use Rattle.bh_control.specs.Control.{ControlOf}
use Rattle.bh_model.specs.declared.field.Place.TheVariants.{Header, Trailer}
use Rattle.bh_fields.specs.declared.walk.Phase.{Phase}
use Rattle.bh_fields.specs.declared.walk.Phase.TheVariants as phases
use Rattle.bh_varint.specs.Numbers.{NumberThen}
use Rattle.bh_fields.specs.Rests.{Spot, LinesEnd, LinesLeft, IsAtEnd, ValueLeft, ValueBody, NameLeft, NameBody, LengthBody}
use Rattle.bh_fields.specs.Middle.{SectionView, RestAt, Rest as section_rest}
use Rattle.bh_fields.specs.Sections.{SectionOf}
use Rattle.bh_push.specs.Completing.{PaddingRest, TrailersRest, AfterContent, ContentOf, KnownContent, Chunks, BodyRest, AfterRun, ContentRest, TailRest, HeaderRest, AfterStart, Opening, interim_item, ResponseRest, InterimRest, RequestRest, AfterFraming, MessageRest}
use Rattle.bh_push.specs.Decoders.{At, in_framing, in_control, in_status, before_interim, in_interim, before_header, in_header, behind_head, in_length, in_content, behind_content, in_trailers, in_padding, length_part, Rest}
use Rattle.bh_stream.specs.Decoding.{content_items}
use Rattle.bh_stream.proofs.Moving.{items-append, items-map}

-- ---- bytes of a part

-- the part isn't that of content
abbrev pub IsPlain : Part → Type 0
IsPlain part = nat_eq (number_of part) 18 ≡ false

off : (c : Bool) → c ≡ false → ◌≡◌ {A = ℕ} (if c then 1 else 0) 0
off false e = refl
off true e = absurd (cc)

none : (part : Part) → IsPlain part → (x : List ℕ) → content_in (mark part x) ≡ 0
none part e [] = refl
none part e (b ∷ x) = omega (arith, off (nat_eq (number_of part) 18) e, none part e x)

all : (x : List ℕ) → content_in (mark parts.Content x) ≡ length x
all [] = refl
all (b ∷ x) = omega (arith, all x)

-- behind bytes that are none of content
behind : (part : Part) → IsPlain part → (x : List ℕ) (t : Text) → content_in (mark part x ++ t) ≡ content_in t
behind part e x t = omega (arith, content-append (mark part x) t, none part e x)

pub number_none : (part : Part) → IsPlain part → (n : ℕ) (t : Text) → IsNumber part n t → content_in t ≡ 0
number_none part e n t h = ap content_in h.spelled ∙ none part e (vi n h.width)

string_none : (long part : Part) → IsPlain long → IsPlain part → (x : List ℕ) (t : Text) → IsString long part x t → content_in t ≡ 0
string_none long part e f x t h = omega (
  arith,
  ap content_in h.4,
  content-append h.0 h.1,
  number_none long e (length x) h.0 h.2,
  ap content_in h.3,
  none part f x,
)

pub each_none : {A : Type 0} (R : A → Text → Type 0) → ((a : A) (t : Text) → R a t → content_in t ≡ 0) → (xs : List A) (t : Text)
    → AreEach R xs t → content_in t ≡ 0
each_none R one [] t h = ap content_in h
each_none R one (x ∷ xs) t h = omega (arith, ap content_in h.4, content-append h.0 h.1, one x h.0 h.2, each_none R one xs h.1 h.3)

-- ---- sections

line_none : (f : Field) (t : Text) → IsLine f t → content_in t ≡ 0
line_none f t h =
    let s = h.2 in
    omega (
      arith,
      ap content_in s.4,
      content-append s.0 s.1,
      string_none parts.NameLength parts.Name refl refl h.0 s.0 s.2,
      string_none parts.ValueLength parts.Value refl refl f.value s.1 s.3,
    )

pub section_none : (L : Bounds) (form : Form) (fs : List Field) (t : Text) → IsSection L form fs t → content_in t ≡ 0
section_none L Known fs t h =
    let s = h.2 in
    omega (
      arith,
      ap content_in s.4,
      content-append s.0 s.1,
      number_none parts.SectionLength refl (length h.0) s.0 s.2,
      ap content_in s.3,
      each_none IsLine line_none fs h.0 h.1.lines,
    )
section_none L Indeterminate fs t h = omega (
  arith,
  ap content_in h.4,
  content-append h.0 h.1,
  each_none IsLine line_none fs h.0 h.2.lines,
  number_none parts.NameLength refl 0 h.1 h.3,
)

ends_none : (L : Bounds) (form : Form) (total used : ℕ) (more : List Field) (t : Text) → LinesEnd L form total used more t
    → content_in t ≡ 0
ends_none L Known total used more t h = each_none IsLine line_none more t h.0
ends_none L Indeterminate total used more t h =
    omega (
      arith,
      ap content_in h.4,
      content-append h.0 h.1,
      each_none IsLine line_none more h.0 h.2,
      number_none parts.NameLength refl 0 h.1 h.3,
    )

lines_none : (L : Bounds) (s : Spot) (fs : List Field) (t : Text) → LinesLeft L s fs t → content_in t ≡ 0
lines_none L s fs t h = ends_none L s.form s.total s.used h.more t h.ends

value_none : (L : Bounds) (s : Spot) (name value : List ℕ) (missing : ℕ) (fs : List Field) (t : Text)
    → ValueLeft L s name value missing fs t → content_in t ≡ 0
value_none L s name value missing fs t h = ap content_in h.spelled ∙ behind parts.Value refl h.tail h.behind
    ∙ lines_none L _ fs h.behind h.lines

number_then : (part : Part) → IsPlain part → (Body : ℕ → ℕ → Text → Type 0)
    → ((n bytes : ℕ) (t : Text) → Body n bytes t → content_in t ≡ 0) → (t : Text) → NumberThen part Body t → content_in t ≡ 0
number_then part e Body body t h = ap content_in h.spelled ∙ behind part e (vi h.number h.width) h.behind ∙ body h.number _ h.behind h.body

name_none : (L : Bounds) (s : Spot) (name : List ℕ) (missing : ℕ) (fs : List Field) (t : Text) → NameLeft L s name missing fs t
    → content_in t ≡ 0
name_none L s name missing fs t h =
    ap content_in h.spelled ∙ behind parts.Name refl h.tail h.behind
    ∙ number_then parts.ValueLength refl (ValueBody L s _ fs) (λ n bytes u b. value_none L _ _ [] n fs u b) h.behind h.value

ended_none : (L : Bounds) (s : Spot) (fs : List Field) (t : Text) → IsAtEnd L s fs t → content_in t ≡ 0
ended_none L s fs t h = ap content_in h.nothing

name_body_none : (L : Bounds) (s : Spot) (fs : List Field) (n bytes : ℕ) (t : Text) → NameBody L s fs n bytes t → content_in t ≡ 0
name_body_none L s fs n bytes t (inl h) = ended_none L s fs t h.2
name_body_none L s fs n bytes t (inr h) = name_none L _ [] n fs t h.1

-- behind a number that was begun
begun_none : (part : Part) → IsPlain part → (Body : ℕ → ℕ → Text → Type 0)
    → ((n bytes : ℕ) (t : Text) → Body n bytes t → content_in t ≡ 0) → (begun : List ℕ) (t : Text)
    → NumberThen part Body (mark part begun ++ t) → content_in t ≡ 0
begun_none part e Body body begun t h = omega (arith, behind part e begun t, number_then part e Body body (mark part begun ++ t) h)

at_none : (phase : Phase) (L : Bounds) (s : Spot) (number : List ℕ) (line : Field) (fs : List Field) (t : Text)
    → RestAt phase L s number line fs t → content_in t ≡ 0
at_none phases.Idle L s number line fs t h = absurd h
at_none phases.SectionLength L s number line fs t h = begun_none parts.SectionLength refl (LengthBody L s fs) (λ n bytes u b.
    lines_none L _ fs u b) number t h
at_none phases.NameLength L s number line fs t h = begun_none parts.NameLength refl (NameBody L s fs) (name_body_none L s fs) number t h
at_none (phases.Name missing) L s number line fs t h = name_none L s line.name missing fs t h
at_none phases.ValueLength L s number line fs t h = begun_none parts.ValueLength refl (ValueBody L s line.name fs) (λ n bytes u b.
    value_none L _ _ [] n fs u b) number t h
at_none (phases.Value missing first) L s number line fs t h = value_none L s line.name line.value missing fs t h
at_none phases.Whole L s number line fs t h = ended_none L s fs t h
at_none phases.Refused L s number line fs t h = absurd h

rest_none : (L : Bounds) (v : SectionView) (fs : List Field) (t : Text) → section_rest L v fs t → content_in t ≡ 0
rest_none L v fs t h = at_none v.phase L _ v.number v.line fs t h

-- ---- control data

long_plain : (place : Place) → IsPlain (control.long_of place)
long_plain Method = refl
long_plain Scheme = refl
long_plain Authority = refl
long_plain Path = refl

part_plain : (place : Place) → IsPlain (control.part_of place)
part_plain Method = refl
part_plain Scheme = refl
part_plain Authority = refl
part_plain Path = refl

has_none : (K : Bounds) (place : Place) (c : Control) (A : Text → Type 0) → ((t : Text) → A t → content_in t ≡ 0) → (t : Text)
    → control_grammar.HasString K place c A t → content_in t ≡ 0
has_none K place c A more t h =
    omega (
      arith,
      ap content_in h.joined,
      behind (control.long_of place) (long_plain place) (vi (length h.string) h.width) (mark (control.part_of place) h.string ++ h.rest),
      behind (control.part_of place) (part_plain place) h.string h.rest,
      more h.rest h.behind,
    )

nothing_none : (t : Text) → control_grammar.BehindPath t → content_in t ≡ 0
nothing_none t h = ap content_in h

authority_none : (K : Bounds) (c : Control) (t : Text) → control_grammar.BehindAuthority K c t → content_in t ≡ 0
authority_none K c t h = has_none K Path c control_grammar.BehindPath nothing_none t h

scheme_none : (K : Bounds) (c : Control) (t : Text) → control_grammar.BehindScheme K c t → content_in t ≡ 0
scheme_none K c t h = has_none K Authority c (control_grammar.BehindAuthority K c) (authority_none K c) t h

behind_none : (K : Bounds) (place : Place) (c : Control) (t : Text) → control_grammar.Behind K place c t → content_in t ≡ 0
behind_none K Path c t h = nothing_none t h
behind_none K Authority c t h = authority_none K c t h
behind_none K Scheme c t h = scheme_none K c t h
behind_none K Method c t h = has_none K Scheme c (control_grammar.BehindScheme K c) (scheme_none K c) t h

left_none : (K : Bounds) (place : Place) (c : Control) (kept : List ℕ) (left : ℕ) (t : Text) → control_grammar.HasRest K place c kept left t
    → content_in t ≡ 0
left_none K place c kept left t h = omega (
  arith,
  ap content_in h.joined,
  behind (control.part_of place) (part_plain place) h.more h.rest,
  behind_none K place c h.rest h.behind,
)

control_none : (K : Bounds) (phase : ControlPhase) (r : control.Read) (c : Control) (t : Text) → control_grammar.RestAt K phase r c t
    → content_in t ≡ 0
control_none K control_phases.Idle r c t h = absurd h
control_none K (control_phases.Length place) r c t h =
    omega (
      arith,
      behind (control.long_of place) (long_plain place) r.begun t,
      has_none K place c (control_grammar.Behind K place c) (behind_none K place c) (mark (control.long_of place) r.begun ++ t) h.2,
    )
control_none K (control_phases.Bytes place left) r c t h = left_none K place c (control.string_at place r.control) left t h.2
control_none K control_phases.Whole r c t h = ap content_in h.2
control_none K control_phases.Refused r c t h = absurd h

pub request_none : (L : Bounds) (c : Control) (t : Text) → IsRequestControl L c t → content_in t ≡ 0
request_none L c t h =
    let a = h.text in
    let b = a.3 in
    let d = b.3 in
    omega (
      arith,
      ap content_in a.4,
      content-append a.0 a.1,
      string_none parts.MethodLength parts.Method refl refl c.method a.0 a.2,
      ap content_in b.4,
      content-append b.0 b.1,
      string_none parts.SchemeLength parts.Scheme refl refl h.scheme b.0 b.2,
      ap content_in d.4,
      content-append d.0 d.1,
      string_none parts.AuthorityLength parts.Authority refl refl c.authority d.0 d.2,
      string_none parts.PathLength parts.Path refl refl c.path d.1 d.3,
    )

pub interim_none : (L : Bounds) (form : Form) (i : Interim) (t : Text) → IsInterimText L form i t → content_in t ≡ 0
interim_none L form i t h = omega (
  arith,
  ap content_in h.4,
  content-append h.0 h.1,
  number_none parts.Status refl i.status h.0 h.2,
  section_none L form i.fields h.1 h.3,
)

-- ---- from the end to the front

yields_count : {I : Type 0} (A : I → Text → Type 0) (gives : I → List Item) (S : I → List Item → Text → Type 0)
    → ((i : I) (t : Text) → A i t → content_in t ≡ content_items (gives i))
    → ((i : I) (q : List Item) (t : Text) → S i q t → content_in t ≡ content_items q) → (q : List Item) (t : Text)
    → Yields A gives S q t → content_in t ≡ content_items q
yields_count A gives S a s q t y =
    omega (
      arith,
      ap content_in y.joined,
      content-append y.text y.rest,
      a y.thing y.text y.spelled,
      s y.thing y.more y.rest y.behind,
      ap content_items y.items,
      items-append (gives y.thing) y.more,
    )

padding_count : (before : ℕ) (q : List Item) (t : Text) → PaddingRest before q t → content_in t ≡ content_items q
padding_count before q t h = omega (arith, ap content_in h.2, none parts.Padding refl (replicate h.0 0), ap content_items h.1)

trailers_count : (A : List Field → Text → Type 0) → ((fs : List Field) (t : Text) → A fs t → content_in t ≡ 0)
    → (q : List Item) (t : Text) → TrailersRest A q t → content_in t ≡ content_items q
trailers_count A a q t h = yields_count A _ _ a (λ fs p u k. padding_count 0 p u k) q t h

after_content : (L : Bounds) (form : Form) (q : List Item) (t : Text) → AfterContent L form q t → content_in t ≡ content_items q
after_content L form q t (inl h) = omega (arith, ap content_in h.1, ap content_items h.0)
after_content L form q t (inr h) = trailers_count (SectionOf L form Trailer) (λ fs u k. section_none L form fs u k.0) q t h

known_count : (c : List ℕ) (t : Text) → KnownContent c t → content_in t ≡ content_items (map content_byte c)
known_count c t h =
    let s = h.spelled in
    omega (
      arith,
      ap content_in s.4,
      content-append s.0 s.1,
      number_none parts.ContentLength refl (length c) s.0 s.2,
      ap content_in s.3,
      all c,
      items-map c,
    )

chunk_count : (cs : List (List ℕ)) (t : Text) → AreEach (IsString parts.ChunkLength parts.Content) cs t → content_in t ≡ length (concat cs)
chunk_count [] t h = ap content_in h
chunk_count (c ∷ cs) t h =
    let s = h.2 in
    omega (
      arith,
      ap content_in h.4,
      content-append h.0 h.1,
      ap content_in s.4,
      content-append s.0 s.1,
      number_none parts.ChunkLength refl (length c) s.0 s.2,
      ap content_in s.3,
      all c,
      chunk_count cs h.1 h.3,
      length-append c (concat cs),
    )

chunks_count : (cs : List (List ℕ)) (t : Text) → Chunks cs t → content_in t ≡ content_items (map content_byte (concat cs))
chunks_count cs t h =
    let s = h.spelled in
    omega (
      arith,
      ap content_in s.4,
      content-append s.0 s.1,
      chunk_count cs s.0 s.2,
      number_none parts.ChunkLength refl 0 s.1 s.3,
      items-map (concat cs),
    )

body_count : (L : Bounds) (form : Form) (q : List Item) (t : Text) → BodyRest L form q t → content_in t ≡ content_items q
body_count L Known q t h = yields_count KnownContent _ _ known_count (λ c p u k. after_content L Known p u k) q t h
body_count L Indeterminate q t h = yields_count Chunks _ _ chunks_count (λ c p u k. after_content L Indeterminate p u k) q t h

after_run : (L : Bounds) (form : Form) (q : List Item) (t : Text) → AfterRun L form q t → content_in t ≡ content_items q
after_run L Known q t h = after_content L Known q t h
after_run L Indeterminate q t h = body_count L Indeterminate q t h

content_count : (L : Bounds) (form : Form) (missing : ℕ) (q : List Item) (t : Text) → ContentRest L form missing q t
    → content_in t ≡ content_items q
content_count L form missing q t h =
    yields_count (ContentOf missing) _ _ (λ c u k. omega
    (arith, ap content_in k.spelled, all c, items-map c)) (λ c p u k. after_run L form p u k) q t h

tail_count : (L : Bounds) (form : Form) (q : List Item) (t : Text) → TailRest L form q t → content_in t ≡ content_items q
tail_count L form q t (inl h) = omega (arith, ap content_in h.1, ap content_items h.0)
tail_count L form q t (inr h) = body_count L form q t h

header_count : (L : Bounds) (form : Form) (of : Head) (A : List Field → Text → Type 0)
    → ((fs : List Field) (t : Text) → A fs t → content_in t ≡ 0)
    → (q : List Item) (t : Text) → HeaderRest L form of A q t → content_in t ≡ content_items q
header_count L form of A a q t h = yields_count A _ _ a (λ fs p u k. tail_count L form p u k) q t h

start_count : (L : Bounds) (form : Form) (of : Head) (q : List Item) (t : Text) → AfterStart L form of q t → content_in t ≡ content_items q
start_count L form of q t h = header_count L form of (SectionOf L form Header) (λ fs u k. section_none L form fs u k.0) q t h

interims_none : (is : List Interim) → content_items (map interim_item is) ≡ 0
interims_none [] = refl
interims_none (i ∷ is) = interims_none is

opening_none : (L : Bounds) (form : Form) (before : ℕ) (found : List Interim × ℕ) (t : Text) → Opening L form before found t
    → content_in t ≡ content_items (map interim_item found.0)
opening_none L form before found t h =
    let s = h.spelled in
    omega (
      arith,
      ap content_in s.4,
      content-append s.0 s.1,
      each_none (IsInterimText L form) (interim_none L form) found.0 s.0 s.2,
      number_none parts.Status refl found.1 s.1 s.3,
      interims_none found.0,
    )

response_count : (L : Bounds) (form : Form) (before : ℕ) (q : List Item) (t : Text) → ResponseRest L form before q t
    → content_in t ≡ content_items q
response_count L form before q t h = yields_count (Opening L form before) _ _ (opening_none L form before) (λ found p u k. start_count
    L form _ p u k) q t h

interim_count : (L : Bounds) (form : Form) (before status : ℕ) (A : List Field → Text → Type 0)
    → ((fs : List Field) (t : Text) → A fs t → content_in t ≡ 0)
    → (q : List Item) (t : Text) → InterimRest L form before status A q t → content_in t ≡ content_items q
interim_count L form before status A a q t h = yields_count A _ _ a (λ fs p u k. response_count L form (before + 1) p u k) q t h

request_count : (L : Bounds) (form : Form) (A : Control → Text → Type 0) → ((c : Control) (t : Text) → A c t → content_in t ≡ 0)
    → (q : List Item) (t : Text) → RequestRest L form A q t → content_in t ≡ content_items q
request_count L form A a q t h = yields_count A _ _ a (λ c p u k. start_count L form _ p u k) q t h

after_framing : (L : Bounds) (k : Kind × Form) (q : List Item) (t : Text) → AfterFraming L k q t → content_in t ≡ content_items q
after_framing L (Request, form) q t h = request_count L form (ControlOf L) (λ c u k. request_none L c u k.spelled) q t h
after_framing L (Response, form) q t h = response_count L form 0 q t h

message_count : (L : Bounds) (q : List Item) (t : Text) → MessageRest L q t → content_in t ≡ content_items q
message_count L q t h = yields_count _ _ _ (λ k u n. number_none parts.Framing refl _ u n) (λ k p u a. after_framing L k p u a) q t h

length_plain : (form : Form) → IsPlain (length_part form)
length_plain Known = refl
length_plain Indeterminate = refl

pub content_of_rest : (L : Bounds) (at : At) (q : List Item) (t : Text) → Rest L at q t → content_in t ≡ content_items q
content_of_rest L (in_framing begun) q t h = omega (
  arith,
  behind parts.Framing refl begun t,
  message_count L q (mark parts.Framing begun ++ t) h,
)
content_of_rest L (in_control form read) q t h =
    request_count L form (control_grammar.Rest L read) (λ c u k. control_none L read.phase read c
    u k) q t h
content_of_rest L (in_status form before begun) q t h = omega (
  arith,
  behind parts.Status refl begun t,
  response_count L form before q (mark parts.Status begun ++ t) h,
)
content_of_rest L (before_interim form before status) q t h = interim_count L form before status (SectionOf L form Header) (λ fs u k.
    section_none L form fs u k.0) q t h
content_of_rest L (in_interim form before status v) q t h = interim_count L form before status (section_rest L v) (rest_none L v) q t h
content_of_rest L (before_header form of) q t h = start_count L form of q t h
content_of_rest L (in_header form of v) q t h = header_count L form of (section_rest L v) (rest_none L v) q t h
content_of_rest L (behind_head form) q t h = tail_count L form q t h
content_of_rest L (in_length form begun) q t h = omega (
  arith,
  behind (length_part form) (length_plain form) begun t,
  body_count L form q (mark (length_part form) begun ++ t) h,
)
content_of_rest L (in_content form missing) q t h = content_count L form missing q t h
content_of_rest L (behind_content form) q t h = after_content L form q t h
content_of_rest L (in_trailers form v) q t h = trailers_count (section_rest L v) (rest_none L v) q t h
content_of_rest L (in_padding before) q t h = padding_count before q t h
