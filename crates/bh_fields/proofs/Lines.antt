-- What may follow before a line is a number and what it says; and at the end nothing.
use Rattle.std.proofs.Common.{◌≡◌, ◌<◌, ◌+◌, arith, ℕ, suc, List, [], ◌∷◌, ◌++◌, length, All, refl, sym, ap, ap₂, subst, ◌∙◌, inl, inr, append_assoc, append-nil}
use Rattle.std.specs.Char.{to_ascii_lowercase}
use Rattle.std.proofs.lemmas.List.{length-append, length-map}
use Rattle.std.proofs.lemmas.List.Elements.{All-head}
use Rattle.bh_spec.specs.declared.Form.{Form}
use Rattle.bh_spec.specs.declared.Form.TheVariants.{Known, Indeterminate}
use Rattle.bh_spec.specs.declared.Part.{Part}
use Rattle.bh_spec.specs.declared.Part.TheVariants as parts
use Rattle.bh_spec.specs.declared.Width.{Width}
use Rattle.bh_spec.specs.Integers.{vi, limit_of, byte_count}
use Rattle.bh_spec.specs.Bounds.{Bounds, IsWithin}
use Rattle.bh_spec.specs.Bytes.{lower}
use Rattle.bh_spec.specs.Messages.{Field}
use Rattle.bh_spec.specs.Texts.{Text, mark, IsNumber}
use Rattle.bh_spec.specs.Sections.{IsLine}
use Rattle.bh_spec.proofs.Sections.{IsNamed, line_nonempty}
use Rattle.bh_spec.proofs.Widths.{length-vi}
use Rattle.bh_varint.specs.Numbers.{NumberThen}
use Rattle.bh_fields.specs.Rests.{Spot, further, with_line, AreGood, HasMore, LinesEnd, LinesLeft, IsAtEnd, ValueLeft, ValueBody, NameLeft, NameBody}
use Rattle.bh_spec.proofs.Marks.{length-mark}
use Rattle.bh_fields.proofs.Strings.{line_of}
use Rattle.bh_fields.proofs.Tracking.{lines_named}

-- a line among the lines up to the end
record LineFirst (L : Bounds) (form : Form) (total used : ℕ) (line : Field) (more : List Field) (t : Text) : Type 0 where
  text : Text
  behind : Text
  is : IsLine line text
  joined : t ≡ text ++ behind
  ends : LinesEnd L form total (used + length text) more behind

line_first : (L : Bounds) (form : Form) (total used : ℕ) (line : Field) (more : List Field) (t : Text) → LinesEnd L form total used (line ∷ more) t
    → LineFirst L form total used line more t
line_first L Known total used line more t h = record {
  text = h.0.0;
  behind = h.0.1;
  is = h.0.2;
  joined = h.0.4;
  ends = (h.0.3, omega (arith, h.1, ap length h.0.4, length-append h.0.0 h.0.1), h.2);
}
line_first L Indeterminate total used line more t h =
    let l = h.2 in
    record {
      text = l.0;
      behind = l.1 ++ h.1;
      is = l.2;
      joined = h.4 ∙ ap (λ (x : Text). x ++ h.1) l.4 ∙ append_assoc l.0 l.1 h.1;
      ends = (l.1, h.1, l.3, h.3, refl, subst (IsWithin L.section) (omega (arith, ap length l.4, length-append l.0 l.1)) h.5);
    }

line_before : (L : Bounds) (form : Form) (total used : ℕ) (line : Field) (more : List Field) (x y : Text) → IsLine line x
    → LinesEnd L form total (used + length x) more y → LinesEnd L form total used (line ∷ more) (x ++ y)
line_before L Known total used line more x y is h = ((x, y, is, h.0, refl), omega (arith, h.1, length-append x y), h.2)
line_before L Indeterminate total used line more x y is h = (
  x ++ h.0,
  h.1,
  (x, h.0, is, h.2, refl),
  h.3,
  ap (λ (z : Text). x ++ z) h.4 ∙ sym (append_assoc x h.0 h.1),
  subst (IsWithin L.section) (omega (arith, length-append x h.0)) h.5,
)

number_long : (part : Part) (n : ℕ) (w : Width) → length (mark part (vi n w)) ≡ byte_count w
number_long part n w = length-mark part (vi n w) ∙ length-vi n w

-- a line is a name's length, a name, a value's length and a value
line_to_number : (L : Bounds) (s : Spot) (fields : List Field) (line : Field) (more : List Field) (t : Text) → fields ≡ s.done ++ (line ∷ more) → AreGood L s.place fields
    → LineFirst L s.form s.total s.used line more t → IsNamed line → NumberThen parts.NameLength (NameBody L s fields) t
line_to_number L s fields line more t whole good f named =
    let name = f.is.0 in
    let a = f.is.2.2 in
    let b = f.is.2.3 in
    let parted = f.is.2.4 in
    let lowered : lower name ≡ line.name = f.is.1 in
    let behind_name : Text = b.0 ++ (b.1 ++ f.behind) in
    let v = line.value in
    let k = byte_count a.2.width in
    let l = byte_count b.2.width in
    let long : length f.text ≡ (k + length name) + (l + length v) =
    omega (
      arith,
      ap length parted,
      length-append f.is.2.0 f.is.2.1,
      ap length a.4,
      length-append a.0 a.1,
      ap length a.2.spelled,
      number_long parts.NameLength (length name) a.2.width,
      ap length a.3,
      length-mark parts.Name name,
      ap length b.4,
      length-append b.0 b.1,
      ap length b.2.spelled,
      number_long parts.ValueLength (length v) b.2.width,
      ap length b.3,
      length-mark parts.Value v,
    ) in
    let s1 = further (k + length name) s in
    let s2 = further (l + length v) s1 in
    let named_so : Field = record { name = lower name; value = v } in
    let same : line ≡ named_so = ap (λ (x : List ℕ). let z : Field = record { name = x; value = v } in z) (sym lowered) in
    let ends : LinesEnd L s.form s.total s2.used more f.behind =
    subst (λ (u : ℕ). LinesEnd L s.form s.total u more f.behind) (omega (arith, long)) f.ends in
    let lines : LinesLeft L (with_line named_so s2) fields f.behind =
    record {
      more = more;
      whole = whole ∙ ap (λ (x : Field). s.done ++ (x ∷ more)) same ∙ sym (append_assoc s.done (named_so ∷ []) more);
      good = good;
      ends = ends;
    } in
    record {
      number = length name;
      width = a.2.width;
      behind = a.1 ++ (b.0 ++ (b.1 ++ f.behind));
      fits = a.2.fits;
      spelled = f.joined
          ∙ ap (λ (x : Text). x ++ f.behind) (parted ∙ ap₂ (λ (x y : Text). x ++ y) a.4 b.4)
          ∙ append_assoc (a.0 ++ a.1) (b.0 ++ b.1) f.behind
          ∙ append_assoc a.0 a.1 ((b.0 ++ b.1) ++ f.behind)
          ∙ ap (λ (x : Text). a.0 ++ (a.1 ++ x)) (append_assoc b.0 b.1 f.behind)
          ∙ ap (λ (x : Text). x ++ (a.1 ++ (b.0 ++ (b.1 ++ f.behind)))) a.2.spelled;
      body = inr (
        omega (arith, named, ap length lowered, length-map name to_ascii_lowercase),
        record {
          tail = name;
          behind = behind_name;
          long = refl;
          spelled = ap (λ (x : Text). x ++ (b.0 ++ (b.1 ++ f.behind))) a.3;
          value = record {
            number = length v;
            width = b.2.width;
            behind = b.1 ++ f.behind;
            fits = b.2.fits;
            spelled = ap (λ (x : Text). x ++ (b.1 ++ f.behind)) b.2.spelled;
            body = record {
              tail = v;
              behind = f.behind;
              long = refl;
              spelled = ap (λ (x : Text). x ++ f.behind) b.3;
              lines = lines;
            };
          };
        },
      );
    }

pub lines_to_number : (L : Bounds) (s : Spot) (fields : List Field) (t : Text) → HasMore s.form s.total s.used → LinesLeft L s fields t → NumberThen parts.NameLength (NameBody L s fields) t
lines_to_number L s fields t has h = at h.more h.whole h.ends
  where
    none : (form : Form) → s.form ≡ form → HasMore form s.total s.used → fields ≡ s.done → LinesEnd L form s.total s.used [] t → NumberThen parts.NameLength (NameBody L s fields) t
    none Known f more w e = absurd (omega (arith, e.1, ap length e.0))
    none Indeterminate f more w e = record {
      number = 0;
      width = e.3.width;
      behind = [];
      fits = e.3.fits;
      spelled = e.4 ∙ ap (λ (x : Text). x ++ e.1) e.2 ∙ e.3.spelled ∙ sym (append-nil (mark parts.NameLength (vi 0 e.3.width)));
      body = inl (
        f,
        refl,
        record {
          nothing = refl;
          whole = w;
          good = h.good;
          within = subst (IsWithin L.section) (omega (arith, ap length e.2)) e.5;
        },
      );
    }

    at : (more : List Field) → fields ≡ s.done ++ more → LinesEnd L s.form s.total s.used more t → NumberThen parts.NameLength (NameBody L s fields) t
    at [] w e = none s.form refl has (w ∙ append-nil s.done) e
    at (line ∷ more) w e =
        line_to_number L s fields line more t w h.good (line_first L s.form s.total s.used line more t e)
        (last s.done fields w (lines_named s.place fields h.good.valid))
      where
        last : (xs fs : List Field) → fs ≡ xs ++ (line ∷ more) → All IsNamed fs → IsNamed line
        last xs fs e p = inside xs (subst (All IsNamed) e p)
          where
            inside : (ys : List Field) → All IsNamed (ys ++ (line ∷ more)) → IsNamed line
            inside [] q = All-head IsNamed line more q
            inside (y ∷ ys) q = inside ys (λ k d i. q (suc k) d (omega arith))

-- a line that was read stands before those to come
pub number_to_lines : (L : Bounds) (s : Spot) (fields : List Field) (t : Text) → NumberThen parts.NameLength (NameBody L s fields) t → LinesLeft L s fields t
number_to_lines L s fields t h = at h.body
  where
    ended : (form : Form) → form ≡ Indeterminate → (w : Width) → 0 < limit_of w → IsWithin L.section s.used → LinesEnd L form s.total s.used [] (mark parts.NameLength (vi 0 w))
    ended Known e w f i = absurd cc
    ended Indeterminate e w f i =
        ([], mark parts.NameLength (vi 0 w), refl, record { width = w; fits = f; spelled = refl }, refl, subst (IsWithin L.section) (omega arith) i)

    at : NameBody L s fields h.number (byte_count h.width) h.behind → LinesLeft L s fields t
    at (inl e) = record {
      more = [];
      whole = e.2.whole ∙ sym (append-nil s.done);
      good = e.2.good;
      ends = subst (LinesEnd L s.form s.total s.used [])
          (ap (λ (n : ℕ). mark parts.NameLength (vi n h.width)) (sym e.1) ∙ sym (append-nil (mark parts.NameLength (vi h.number h.width)))
          ∙ ap (λ (x : Text). mark parts.NameLength (vi h.number h.width) ++ x) (sym e.2.nothing) ∙ sym h.spelled)
          (ended s.form e.0 h.width (subst (λ (n : ℕ). n < limit_of h.width) e.1 h.fits) e.2.within);
    }
    at (inr p) =
        let n = p.1 in
        let v = n.value in
        let b = v.body in
        let l = b.lines in
        let name = n.tail in
        let line : Field = record { name = lower name; value = b.tail } in
        let x1 = mark parts.NameLength (vi h.number h.width) in
        let x2 = mark parts.Name name in
        let y1 = mark parts.ValueLength (vi v.number v.width) in
        let y2 = mark parts.Value b.tail in
        let x : Text = (x1 ++ x2) ++ (y1 ++ y2) in
        let is_name : IsNumber parts.NameLength (length name) x1 =
        subst (λ (m : ℕ). IsNumber parts.NameLength m x1) (sym n.long) (record { width = h.width; fits = h.fits; spelled = refl }) in
        let is_value : IsNumber parts.ValueLength (length b.tail) y1 =
        subst (λ (m : ℕ). IsNumber parts.ValueLength m y1) (sym b.long) (record { width = v.width; fits = v.fits; spelled = refl }) in
        let is : IsLine line x = (name, refl, (x1 ++ x2, y1 ++ y2, (x1, x2, is_name, refl, refl), (y1, y2, is_value, refl, refl), refl)) in
        let long : length x ≡ (byte_count h.width + h.number) + (byte_count v.width + v.number) =
        omega (
          arith,
          length-append (x1 ++ x2) (y1 ++ y2),
          length-append x1 x2,
          length-append y1 y2,
          number_long parts.NameLength h.number h.width,
          number_long parts.ValueLength v.number v.width,
          length-mark parts.Name name,
          length-mark parts.Value b.tail,
          n.long,
          b.long,
        ) in
        let joined : t ≡ x ++ b.behind =
        h.spelled
        ∙ ap (λ (z : Text). x1 ++ z) (n.spelled ∙ ap (λ (z : Text). x2 ++ z) (v.spelled ∙ ap (λ (z : Text). y1 ++ z) b.spelled ∙ sym (append_assoc y1 y2 b.behind)))
        ∙ sym (append_assoc x1 x2 ((y1 ++ y2) ++ b.behind))
        ∙ sym (append_assoc (x1 ++ x2) (y1 ++ y2) b.behind) in
        let ends : LinesEnd L s.form s.total (s.used + length x) l.more b.behind =
        subst (λ (u : ℕ). LinesEnd L s.form s.total u l.more b.behind) (omega (arith, long)) l.ends in
        record {
          more = line ∷ l.more;
          whole = l.whole ∙ append_assoc s.done (line ∷ []) l.more;
          good = l.good;
          ends = subst (LinesEnd L s.form s.total s.used (line ∷ l.more)) (sym joined) (line_before L s.form s.total s.used line l.more x b.behind is ends);
        }

-- at the end of a known length nothing but the end may follow
nothing_in : (t : Text) → length t ≡ 0 → t ≡ []
nothing_in [] e = refl
nothing_in (b ∷ t) e = absurd (omega arith)

pub lines_to_end : (L : Bounds) (s : Spot) (fields : List Field) (t : Text) → s.form ≡ Known → s.used ≡ s.total → LinesLeft L s fields t → IsAtEnd L s fields t
lines_to_end L s fields t known full h = at h.more h.whole (subst (λ (f : Form). LinesEnd L f s.total s.used h.more t) known h.ends)
  where
    at : (more : List Field) → fields ≡ s.done ++ more → LinesEnd L Known s.total s.used more t → IsAtEnd L s fields t
    at [] e g = record {
      nothing = nothing_in t (omega (arith, g.1, full));
      whole = e ∙ append-nil s.done;
      good = h.good;
      within = subst (IsWithin L.section) (sym full) g.2;
    }
    at (line ∷ more) e g = absurd (omega (arith, g.1, full, line_nonempty line g.0.0 g.0.2, ap length g.0.4, length-append g.0.0 g.0.1))

pub end_to_lines : (L : Bounds) (s : Spot) (fields : List Field) (t : Text) → s.form ≡ Known → s.used ≡ s.total → IsAtEnd L s fields t → LinesLeft L s fields t
end_to_lines L s fields t known full h = record {
  more = [];
  whole = h.whole ∙ sym (append-nil s.done);
  good = h.good;
  ends = subst (λ (f : Form). LinesEnd L f s.total s.used [] t) (sym known)
      (h.nothing, omega (arith, full, ap length h.nothing), subst (IsWithin L.section) full h.within);
}

-- ---- inside names and values

-- a byte more of a run
run_on : (part : Part) (tail : List ℕ) (m byte : ℕ) (t behind : Text) → length tail ≡ suc m → (part, byte) ∷ t ≡ mark part tail ++ behind
    → (rest : List ℕ) × (tail ≡ byte ∷ rest) × (length rest ≡ m) × (t ≡ mark part rest ++ behind)
run_on part [] m byte t behind long e = absurd (omega arith)
run_on part (c ∷ rest) m byte t behind long e =
    let a : Part × ℕ = (part, byte) in
    let b : Part × ℕ = (part, c) in
    let pair : a ≡ b = cc in
    let head : byte ≡ c = ap (λ (x : Part × ℕ). x.1) pair in
    let short : length rest ≡ m = omega arith in
    let same : t ≡ mark part rest ++ behind = cc in
    (rest, ap (λ (x : ℕ). x ∷ rest) (sym head), short, same)

no_run : (part : Part) (tail : List ℕ) (t behind : Text) → length tail ≡ 0 → t ≡ mark part tail ++ behind → (tail ≡ []) × (t ≡ behind)
no_run part [] t behind long e = (refl, e)
no_run part (c ∷ rest) t behind long e = absurd (omega arith)

pub name_forth : (L : Bounds) (s : Spot) (name : List ℕ) (m byte : ℕ) (fields : List Field) (t : Text) → NameLeft L s name (suc m) fields ((parts.Name, byte) ∷ t)
    → NameLeft L s (name ++ to_ascii_lowercase byte ∷ []) m fields t
name_forth L s name m byte fields t h =
    let r = run_on parts.Name h.tail m byte t h.behind h.long h.spelled in
    let same : name ++ lower h.tail ≡ (name ++ to_ascii_lowercase byte ∷ []) ++ lower r.0 =
    ap (λ (x : List ℕ). name ++ lower x) r.1 ∙ sym (append_assoc name (to_ascii_lowercase byte ∷ []) (lower r.0)) in
    record {
      tail = r.0;
      behind = h.behind;
      long = r.2;
      spelled = r.3;
      value = subst (λ (x : List ℕ). NumberThen parts.ValueLength (ValueBody L s x fields) h.behind) same h.value;
    }

pub name_back : (L : Bounds) (s : Spot) (name : List ℕ) (m byte : ℕ) (fields : List Field) (t : Text) → NameLeft L s (name ++ to_ascii_lowercase byte ∷ []) m fields t
    → NameLeft L s name (suc m) fields ((parts.Name, byte) ∷ t)
name_back L s name m byte fields t h =
    record {
      tail = byte ∷ h.tail;
      behind = h.behind;
      long = ap suc h.long;
      spelled = ap (λ (x : Text). (parts.Name, byte) ∷ x) h.spelled;
      value = subst (λ (x : List ℕ). NumberThen parts.ValueLength (ValueBody L s x fields) h.behind) (append_assoc name (to_ascii_lowercase byte ∷ []) (lower h.tail)) h.value;
    }

pub name_to_value : (L : Bounds) (s : Spot) (name : List ℕ) (fields : List Field) (t : Text) → NameLeft L s name 0 fields t → NumberThen parts.ValueLength (ValueBody L s name fields) t
name_to_value L s name fields t h =
    let r = no_run parts.Name h.tail t h.behind h.long h.spelled in
    subst (λ (x : Text). NumberThen parts.ValueLength (ValueBody L s name fields) x) (sym r.1)
    (subst (λ (x : List ℕ). NumberThen parts.ValueLength (ValueBody L s x fields) h.behind) (ap (λ (x : List ℕ). name ++ lower x) r.0 ∙ append-nil name) h.value)

pub value_to_name : (L : Bounds) (s : Spot) (name : List ℕ) (fields : List Field) (t : Text) → NumberThen parts.ValueLength (ValueBody L s name fields) t → NameLeft L s name 0 fields t
value_to_name L s name fields t h = record {
  tail = [];
  behind = t;
  long = refl;
  spelled = refl;
  value = subst (λ (x : List ℕ). NumberThen parts.ValueLength (ValueBody L s x fields) t) (sym (append-nil name)) h;
}

pub value_forth : (L : Bounds) (s : Spot) (name value : List ℕ) (m byte : ℕ) (fields : List Field) (t : Text) → ValueLeft L s name value (suc m) fields ((parts.Value, byte) ∷ t)
    → ValueLeft L s name (value ++ byte ∷ []) m fields t
value_forth L s name value m byte fields t h =
    let r = run_on parts.Value h.tail m byte t h.behind h.long h.spelled in
    let same : value ++ h.tail ≡ (value ++ byte ∷ []) ++ r.0 = ap (λ (x : List ℕ). value ++ x) r.1 ∙ sym (append_assoc value (byte ∷ []) r.0) in
    record {
      tail = r.0;
      behind = h.behind;
      long = r.2;
      spelled = r.3;
      lines = subst (λ (x : List ℕ). LinesLeft L (with_line (line_of name x) s) fields h.behind) same h.lines;
    }

pub value_back : (L : Bounds) (s : Spot) (name value : List ℕ) (m byte : ℕ) (fields : List Field) (t : Text) → ValueLeft L s name (value ++ byte ∷ []) m fields t
    → ValueLeft L s name value (suc m) fields ((parts.Value, byte) ∷ t)
value_back L s name value m byte fields t h = record {
  tail = byte ∷ h.tail;
  behind = h.behind;
  long = ap suc h.long;
  spelled = ap (λ (x : Text). (parts.Value, byte) ∷ x) h.spelled;
  lines = subst (λ (x : List ℕ). LinesLeft L (with_line (line_of name x) s) fields h.behind) (append_assoc value (byte ∷ []) h.tail) h.lines;
}

pub value_to_lines : (L : Bounds) (s : Spot) (name value : List ℕ) (fields : List Field) (t : Text) → ValueLeft L s name value 0 fields t
    → LinesLeft L (with_line (line_of name value) s) fields t
value_to_lines L s name value fields t h =
    let r = no_run parts.Value h.tail t h.behind h.long h.spelled in
    subst (λ (x : Text). LinesLeft L (with_line (line_of name value) s) fields x) (sym r.1)
    (subst (λ (x : List ℕ). LinesLeft L (with_line (line_of name x) s) fields h.behind) (ap (λ (x : List ℕ). value ++ x) r.0 ∙ append-nil value) h.lines)

pub lines_to_value : (L : Bounds) (s : Spot) (name value : List ℕ) (fields : List Field) (t : Text) → LinesLeft L (with_line (line_of name value) s) fields t
    → ValueLeft L s name value 0 fields t
lines_to_value L s name value fields t h = record {
  tail = [];
  behind = t;
  long = refl;
  spelled = refl;
  lines = subst (λ (x : List ℕ). LinesLeft L (with_line (line_of name x) s) fields t) (sym (append-nil value)) h;
}
