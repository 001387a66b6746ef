-- The first number of a message.
use Rattle.std.proofs.Common.{◌≡◌, ◌<◌, ◌≤◌, arith, ℕ, zero, suc, false, List, [], ◌∷◌, ◌++◌, length, None, refl, sym, ap, ap₂, subst, ◌∙◌, append_assoc, inl, inr}
use Rattle.std.proofs.lemmas.List.Elements.{All-nil, All-cons}
use Rattle.bh_spec.specs.declared.Width.{Width}
use Rattle.bh_spec.specs.declared.Width.TheVariants.{One, Two, Four, Eight}
use Rattle.bh_spec.specs.declared.Omitted.{Omitted}
use Rattle.bh_spec.specs.declared.Part.{Part}
use Rattle.bh_spec.specs.declared.Part.TheVariants as parts
use Rattle.bh_spec.specs.declared.Form.{Form}
use Rattle.bh_spec.specs.declared.Form.TheVariants.{Known, Indeterminate}
use Rattle.bh_spec.specs.declared.Kind.{Kind}
use Rattle.bh_spec.specs.declared.Kind.TheVariants.{Request, Response}
use Rattle.bh_spec.specs.declared.Omitted.TheVariants.{Nothing, Both}
use Rattle.bh_spec.specs.declared.Allowed.{Allowed}
use Rattle.bh_spec.specs.Integers.{vi, byte_count, IsAllowed, Begins, SomeBegins}
use Rattle.bh_spec.specs.Intervals.{width_of, IsAlive}
use Rattle.bh_spec.specs.Bounds.{Bounds, IsWithin, no_bounds, default_bounds}
use Rattle.bh_spec.specs.Messages.{Message, IsInterim, IsRegularField, IsValid, kind_of}
use Rattle.bh_spec.specs.Texts.{Text, mark, bytes_of, IsNumber, ◌then◌}
use Rattle.bh_spec.specs.Sections.{IsSection}
use Rattle.bh_spec.specs.Tails.{IsTail}
use Rattle.bh_spec.specs.Spelling.{IsStartText, framing, Spells}
use Rattle.bh_spec.specs.Viable.{IsViable, NextPart}
use Rattle.bh_spec.specs.Canonical.{FieldsFit, Fits, integers}
use Rattle.bh_spec.specs.Alive.{FramingAlive}
use Rattle.bh_spec.specs.Cases.{get, ok, FramingTooGreat}
use Rattle.bh_spec.proofs.Widths.{length-vi}
use Rattle.bh_spec.proofs.Marks.{marked_bytes}
use Rattle.bh_spec.proofs.Within.{zero_within, within_less, no_headers}
use Rattle.bh_spec.proofs.Prefixes.{front_width, alive_by_interval}
use Rattle.bh_spec.proofs.Cases.{valid, get_text, get_spelled}
use Rattle.bh_spec.proofs.Written.{BodyFits, has_after}

-- ---- a number at the front of a text

-- two splits of one list: one front continues the other
split : (x y a b : List ℕ) → x ++ y ≡ a ++ b → length a ≤ length x → (m : List ℕ) × (x ≡ a ++ m) × (b ≡ m ++ y)
split x y [] b e h = (x, refl, sym e)
split [] y (c ∷ a) b e h = absurd (omega arith)
split (d ∷ x) y (c ∷ a) b e h =
    let head : d ≡ c = cc in
    let tail : x ++ y ≡ a ++ b = cc in
    let m = split x y a b tail (omega arith) in
    (m.0, ap₂ (λ (p : ℕ) (q : List ℕ). p ∷ q) head m.1, m.2)

-- What a text that begins with a number shows, as long as the bytes lie within the number.
number_front : (part : Part) (n : ℕ) (x y : Text) (byte : ℕ) (rest after : List ℕ) (number : IsNumber part n x)
    → length rest < byte_count (width_of byte) → bytes_of (x ++ y) ≡ (byte ∷ rest) ++ after → Begins (byte ∷ rest) n number.width
number_front part n x y byte rest after number within begins =
    let w = number.width in
    let bytes : vi n w ++ bytes_of y ≡ (byte ∷ rest) ++ after =
    sym (marked_bytes part (vi n w) y) ∙ ap (λ (v : Text). bytes_of (v ++ y)) (sym number.spelled) ∙ begins in
    let same : width_of byte ≡ w = front_width w n byte (rest ++ after) (bytes_of y) number.fits bytes in
    let front = split (vi n w) (bytes_of y) (byte ∷ rest) after bytes (omega (arith, length-vi n w, ap byte_count same)) in
    (number.fits, (front.0, front.1))

number_back : (part : Part) (n : ℕ) (w : Width) (y : Text) (bytes : List ℕ) (h : Begins bytes n w)
    → bytes_of (mark part (vi n w) ++ y) ≡ bytes ++ (h.1.0 ++ bytes_of y)
number_back part n w y bytes h =
    marked_bytes part (vi n w) y ∙ ap (λ (x : List ℕ). x ++ bytes_of y) h.1.1
    ∙ append_assoc bytes h.1.0 (bytes_of y)

-- ---- some message of each kind and form

no_fields : (L : Bounds) → FieldsFit L []
no_fields L = record { names = All-nil _; values = All-nil _; total = zero_within L.section }

get_fits : (L : Bounds) → IsWithin L.part 5 → Fits L (get [])
get_fits L h = record {
  start = record {
    method = within_less L.part 3 5 (omega arith) h;
    scheme = h;
    authority = within_less L.part 0 5 (omega arith) h;
    path = within_less L.part 1 5 (omega arith) h;
  };
  fields = no_fields L;
  trailers = no_fields L;
}

ok_fits : (L : Bounds) → Fits L ok
ok_fits L = record { start = (zero_within L.interims, All-nil _); fields = no_fields L; trailers = no_fields L }

ok_valid : IsValid ok
ok_valid = record { start = record { each = All-nil IsInterim; final = record { low = omega arith; high = omega arith } }; fields = no_headers; content = All-nil _; trailers = All-nil IsRegularField }

abbrev After : Bounds → Form → Message → Text → Type 0
After L form m t = (IsStartText L form m.start then IsSection L form m.fields then IsTail L form m.content m.trailers Nothing 0) t

record SomeOf (L : Bounds) (kind : Kind) (form : Form) : Type 0 where
  message : Message
  is_kind : kind_of message.start ≡ kind
  valid : IsValid message
  text : Text
  after : After L form message text

no_body : (form : Form) → BodyFits form []
no_body Known = omega arith
no_body Indeterminate = tt

some : (L : Bounds) (kind : Kind) (form : Form) → IsWithin L.part 5 → SomeOf L kind form
some L Request form h =
    let t = has_after L form (get []) (valid [] no_headers) (get_fits integers (omega arith)) (no_body form) (get_fits L h) in
    record { message = get []; is_kind = refl; valid = valid [] no_headers; text = t.0; after = t.1 }
some L Response form h =
    let t = has_after L form ok ok_valid (ok_fits integers) (no_body form) (ok_fits L) in
    record { message = ok; is_kind = refl; valid = ok_valid; text = t.0; after = t.1 }

-- ---- the framing number

record FramingOf (n : ℕ) : Type 0 where
  kind : Kind
  form : Form
  same : framing kind form ≡ n

framing_of : (n : ℕ) → n ≤ 3 → FramingOf n
framing_of zero h = record { kind = Request; form = Known; same = refl }
framing_of (suc zero) h = record { kind = Response; form = Known; same = refl }
framing_of (suc (suc zero)) h = record { kind = Request; form = Indeterminate; same = refl }
framing_of (suc (suc (suc zero))) h = record { kind = Response; form = Indeterminate; same = refl }
framing_of (suc (suc (suc (suc n)))) h = absurd (omega arith)

framing_small : (k : Kind) (form : Form) → framing k form ≤ 3
framing_small Request Known = omega arith
framing_small Request Indeterminate = omega arith
framing_small Response Known = omega arith
framing_small Response Indeterminate = omega arith

abbrev zero_to_three : Allowed
zero_to_three = record { zero = false; span = record { low = 0; high = 3 }; rest = None }

is_small : (n bytes : ℕ) → IsAllowed zero_to_three bytes n → n ≤ 3
is_small n bytes (inl z) = absurd cc
is_small n bytes (inr h) = h.0.1

viable_if : (L : Bounds) (byte : ℕ) (rest : List ℕ) → IsWithin L.part 5 → SomeBegins zero_to_three (byte ∷ rest) → IsViable L (byte ∷ rest)
viable_if L byte rest h s =
    let n = s.0 in
    let w = s.1 in
    let f = framing_of n (is_small n (byte_count w) s.3) in
    let m = some L f.kind f.form h in
    let number = mark parts.Framing (vi n w) in
    let is : n ≡ framing (kind_of m.message.start) f.form = sym f.same ∙ ap (λ (k : Kind). framing k f.form) (sym m.is_kind) in
    record {
      text = number ++ m.text;
      after = s.2.1.0 ++ bytes_of m.text;
      spelled = (
        m.message,
        Nothing,
        0,
        record {
          valid = m.valid;
          form = f.form;
          text = (number, m.text, subst (λ (k : ℕ). IsNumber parts.Framing k number) is (record { width = w; fits = s.2.0; spelled = refl }), m.after, refl);
        },
      );
      begins = number_back parts.Framing n w m.text (byte ∷ rest) s.2;
    }

begins_if : (L : Bounds) (byte : ℕ) (rest : List ℕ) → length rest < byte_count (width_of byte) → IsViable L (byte ∷ rest) → SomeBegins zero_to_three (byte ∷ rest)
begins_if L byte rest within v =
    let spells = v.spelled.3 in
    let text = spells.text in
    let kind = kind_of v.spelled.0.start in
    let n = framing kind spells.form in (
      n,
      text.2.width,
      number_front parts.Framing n text.0 text.1 byte rest v.after text.2 within (sym (ap bytes_of text.4) ∙ v.begins),
      inr ((omega arith, framing_small kind spells.form), tt),
    )

pub framing_alive : FramingAlive
framing_alive L byte rest part within = (begins_if L byte rest within, viable_if L byte rest part)

-- ---- a first byte that is refused

dead_number : SomeBegins zero_to_three (0x41 ∷ []) → ⊥
dead_number h = not_alive ((alive_by_interval zero_to_three 0x41 [] (All-cons (λ x. x < 256) 0x41 [] (omega arith) (All-nil _)) (omega arith)).0 h)
  where
    not_alive : IsAlive zero_to_three 2 256 511 → ⊥
    not_alive (inl z) = absurd cc
    not_alive (inr l) = omega (arith, l)

dead_first : (L : Bounds) → IsViable L (0x41 ∷ []) → ⊥
dead_first L v = dead_number (begins_if L 0x41 [] (omega arith) v)

record Opens (t : Text) : Type 0 where
  byte : ℕ
  more : Text
  same : t ≡ (parts.Framing, byte) ∷ more

opens : (w : Width) (n : ℕ) (t : Text) → t ≡ mark parts.Framing (vi n w) → Opens t
opens One n t e = record { byte = _; more = _; same = e }
opens Two n t e = record { byte = _; more = _; same = e }
opens Four n t e = record { byte = _; more = _; same = e }
opens Eight n t e = record { byte = _; more = _; same = e }

-- the first byte of a message belongs to its framing number
first_part : (L : Bounds) (m : Message) (o : Omitted) (z : ℕ) (t : Text) → Spells L m o z t → NextPart L [] parts.Framing
first_part L m o z t h =
    let number = h.text.2 in
    let x = opens number.width (framing (kind_of m.start) h.form) h.text.0 number.spelled in
    record {
      before = [];
      byte = x.byte;
      after = x.more ++ h.text.1;
      spelled = (m, o, z, subst (Spells L m o z) (h.text.4 ∙ ap (λ (y : Text). y ++ h.text.1) x.same) h);
      begins = refl;
    }

nothing_next : NextPart default_bounds [] parts.Framing
nothing_next = first_part default_bounds (get []) Both 0 get_text get_spelled

pub framing_too_great : FramingTooGreat
framing_too_great = (
  record { seen = omega arith; first = record { inside = omega arith; next = nothing_next; after = dead_first default_bounds } },
  dead_first no_bounds,
)
