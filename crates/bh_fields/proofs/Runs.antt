-- Bytes inside a name or a value, taken at once.
use Rattle.std.proofs.Common.{◌≡◌, ◌<◌, ◌-◌, arith, ℕ, suc, Bool, false, List, [], ◌∷◌, ◌++◌, length, Option, Some, None, All, IsTrue, refl, sym, ap, subst, ◌∙◌, append_assoc, append-nil}
use Rattle.std.specs.Prelude.{option_map}
use Rattle.std.proofs.lemmas.Bool.{false≢true}
use Rattle.std.proofs.lemmas.List.Elements.{All-head, All-tail}
use Rattle.std.specs.Char.{to_ascii_lowercase}
use Rattle.std.proofs.lemmas.List.{length-append}
use Rattle.std.proofs.lemmas.Bool.Decides.{nat_tests}
use Rattle.bh_spec.specs.Bytes.{is_token, is_value, lower}
use Rattle.bh_spec.specs.Messages.{Field}
use Rattle.bh_spec.specs.Readings.{reading}
use Rattle.bh_spec.proofs.Residuals.{residual_here, residual_on}
use Rattle.bh_model.specs.Lines.{FieldsView, name_grown_by, value_grown_by}
use Rattle.bh_spec.specs.declared.Judged.TheVariants as judged
use Rattle.bh_fields.specs.declared.walk.Phase.{Phase}
use Rattle.bh_fields.specs.declared.walk.Phase.TheVariants as phases
use Rattle.bh_fields.specs.Middle.{Rest, stage_of}
use Rattle.bh_fields.specs.Names.{NameTakes, flag_behind, ValueTakes}
use Rattle.bh_fields.specs.Points.{Point, IsSized}
use Rattle.bh_fields.specs.Stepping.{IsStep, IsRun}
use Rattle.bh_fields.specs.States.{making_of, NameState, ValueState}
use Rattle.bh_fields.specs.Views.{view_at, IsSoundAt}
use Rattle.bh_fields.specs.Readers.{IsOnTheWay}
use Rattle.bh_fields.proofs.Strings.{line_of}
use Rattle.bh_fields.proofs.Changes.{with_lines}
use Rattle.bh_fields.proofs.Bytes.{IsGrownBy, IsValuedOn, valued_point, name_step, sized_valued, value_step, value_steps, pushed_some}
use Rattle.bh_fields.proofs.Beginning.{take_more}

-- the lines with a byte more of the one that is being made
abbrev grown : (Field → Field) → FieldsView → FieldsView
grown grow old = record { lines = old.lines; making = option_map grow old.making; spare = old.spare - 1; free = old.free }

grown_on : (grow : Field → Field) (old : FieldsView) → 0 < old.spare → IsGrownBy grow 1 old (grown grow old)
grown_on grow old some = record { lines = refl; making = refl; spare = omega arith; free = refl }

grown_rest : (all first rest : Field → Field) (n : ℕ) (old new : FieldsView) → ((line : Field) → all line ≡ rest (first line)) → IsGrownBy all (suc n) old new
    → IsGrownBy rest n (grown first old) new
grown_rest all first rest n old new same s = record { lines = s.lines; making = s.making ∙ on old.making; spare = omega (arith, s.spare); free = s.free }
  where
    on : (o : Option Field) → option_map all o ≡ option_map rest (option_map first o)
    on None = refl
    on (Some line) = ap (λ (x : Field). Some x) (same line)

grown_none : (grow : Field → Field) (old new : FieldsView) → ((line : Field) → grow line ≡ line) → IsGrownBy grow 0 old new → new ≡ old
grown_none grow old new same s =
    ap (λ (x : List Field). let f : FieldsView = record { lines = x; making = new.making; spare = new.spare; free = new.free } in f) s.lines
    ∙ ap (λ (x : Option Field). let f : FieldsView = record { lines = old.lines; making = x; spare = new.spare; free = new.free } in f) (s.making ∙ on old.making)
    ∙ ap (λ (x : ℕ). let f : FieldsView = record { lines = old.lines; making = old.making; spare = x; free = new.free } in f) (let e : new.spare ≡ old.spare = omega (arith, s.spare) in e)
    ∙ ap (λ (x : ℕ). let f : FieldsView = record { lines = old.lines; making = old.making; spare = old.spare; free = x } in f) s.free
  where
    on : (o : Option Field) → option_map grow o ≡ o
    on None = refl
    on (Some line) = ap (λ (x : Field). Some x) (same line)

-- ---- names

token_is_byte : (b : ℕ) → IsTrue (is_token b) → b < 256
token_is_byte b t = grind (arith, nat_tests)

inner_flag : (flag : Bool) (name : List ℕ) (byte : ℕ) → 0 < length name → flag ≡ flag_behind flag name byte
inner_flag flag [] byte some = absurd (omega arith)
inner_flag flag (x ∷ rest) byte some = refl

inner_takes : (flag : Bool) (name : List ℕ) (missing byte : ℕ) → 0 < length name → 1 < missing → IsTrue (is_token byte) → NameTakes flag name missing byte
inner_takes flag [] missing byte some more t = absurd (omega arith)
inner_takes flag (x ∷ rest) missing byte some more t = (t, λ one. absurd (omega (arith, one)))

-- the name of the line that is being made isn't empty
abbrev pub IsBegun : FieldsView → Type 0
IsBegun f = (name : List ℕ) → f.making ≡ making_of name [] → 0 < length name

pub begun_by : (f : FieldsView) (front : List ℕ) → option_map (λ (line : Field). line.name) f.making ≡ Some front → 0 < length front → IsBegun f
begun_by f front e some name g =
    let both : Some front ≡ Some name = sym e ∙ ap (option_map (λ (line : Field). line.name)) g in
    let same : front ≡ name = cc in
    subst (λ (x : List ℕ). 0 < length x) same some

begun_on : (name : List ℕ) (byte : ℕ) (old : FieldsView) → old.making ≡ making_of name [] → IsBegun (grown (name_grown_by (byte ∷ [])) old)
begun_on name byte old e =
    begun_by (grown (name_grown_by (byte ∷ [])) old) (name ++ to_ascii_lowercase byte ∷ [])
    (ap (λ (o : Option Field). option_map (λ (line : Field). line.name) (option_map (name_grown_by (byte ∷ [])) o)) e)
    (omega (arith, length-append name (to_ascii_lowercase byte ∷ [])))

-- token bytes behind a name's first byte, fewer than are missing, are steps that go on
pub name_run : (bytes : List ℕ) (p : Point) (missing : ℕ) (fields : FieldsView) → IsSized p → NameState p missing → IsBegun p.fields → All (λ byte. IsTrue (is_token byte)) bytes
    → length bytes < missing → IsGrownBy (name_grown_by bytes) (length bytes) p.fields fields → IsRun (phases.Name missing) p bytes (phases.Name (missing - length bytes)) (with_lines fields p)
name_run [] p missing fields z h begun each few s = (
  ap (λ (m : ℕ). phases.Name m) (let e : missing - length {A = ℕ} [] ≡ missing = omega arith in e),
  ap (λ (f : FieldsView). with_lines f p) (grown_none (name_grown_by []) p.fields fields (λ line. ap (λ (n : List ℕ). line_of n line.value) (append-nil line.name)) s),
)
name_run (byte ∷ rest) p missing fields z h begun each few s =
    let next : FieldsView = grown (name_grown_by (byte ∷ [])) p.fields in
    let q : Point = with_lines next p in
    let token : IsTrue (is_token byte) = All-head (λ (b : ℕ). IsTrue (is_token b)) byte rest each in
    let some : 0 < length h.name = begun h.name h.making in
    let more : 1 < missing = omega (arith, few) in
    let step : IsStep judged.More (phases.Name missing) p byte (phases.Name (missing - 1)) q =
    name_step p missing byte p.flag next (token_is_byte byte token) z h more (inner_takes p.flag h.name missing byte some more token) (inner_flag p.flag h.name byte some)
    (grown_on (name_grown_by (byte ∷ [])) p.fields (omega (arith, s.spare))) in
    let left : missing - 1 - length rest ≡ missing - length (byte ∷ rest) = omega arith in (
      (phases.Name (missing - 1), q),
      step,
      subst (λ (m : ℕ). IsRun (phases.Name (missing - 1)) q rest (phases.Name m) (with_lines fields p)) left
          (name_run rest q (missing - 1) fields step.0 step.1 (begun_on h.name byte p.fields h.making) (All-tail (λ (b : ℕ). IsTrue (is_token b)) byte rest each) (omega (arith, few))
          (grown_rest (name_grown_by (byte ∷ rest)) (name_grown_by (byte ∷ [])) (name_grown_by rest) (length rest) p.fields fields
          (λ line. ap (λ (n : List ℕ). line_of n line.value) (sym (append_assoc line.name (to_ascii_lowercase byte ∷ []) (lower rest)))) s)),
    )

-- ---- values

-- value bytes, fewer than are missing, are steps that go on
pub value_run : (bytes : List ℕ) (p : Point) (missing : ℕ) (fields : FieldsView) → IsSized p → ValueState p missing false → All (λ byte. IsTrue (is_value byte)) bytes
    → length bytes < missing → IsGrownBy (value_grown_by bytes) (length bytes) p.fields fields → IsRun (phases.Value missing false) p bytes (phases.Value (missing - length bytes) false) (valued_point fields p)
value_run [] p missing fields z h each few s =
    (ap (λ (m : ℕ). phases.Value m false) (let e : missing - length {A = ℕ} [] ≡ missing = omega arith in e), ap (λ (f : FieldsView). valued_point f p) (grown_none (value_grown_by []) p.fields fields (λ line. ap (λ (v : List ℕ). line_of line.name v) (append-nil line.value)) s))
value_run (byte ∷ rest) p missing fields z h each few s =
    let next : FieldsView = grown (value_grown_by (byte ∷ [])) p.fields in
    let on : IsValuedOn byte p.fields next = grown_on (value_grown_by (byte ∷ [])) p.fields (omega (arith, s.spare)) in
    let q : Point = valued_point next p in
    let takes : ValueTakes h.value missing byte = record {
      is = All-head (λ (b : ℕ). IsTrue (is_value b)) byte rest each;
      first = λ e. absurd (false≢true (h.first_is.1 e));
      last = λ e. absurd (omega (arith, e, few));
    } in
    let sized = sized_valued p byte h.value missing next z h.inside on in
    let state : ValueState q (missing - 1) false = record {
      value = h.value ++ byte ∷ [];
      inside = value_step p h.value missing byte next z h.inside h.some takes on;
      some = omega (arith, few);
      first_is = pushed_some h.value byte;
    } in
    let left : missing - 1 - length rest ≡ missing - length (byte ∷ rest) = omega arith in (
      (phases.Value (missing - 1) false, q),
      (sized, state, record { limits = refl; form = refl; place = refl }, value_steps p h.value missing byte false false next h.inside h.some on),
      subst (λ (m : ℕ). IsRun (phases.Value (missing - 1) false) q rest (phases.Value m false) (valued_point fields p)) left
          (value_run rest q (missing - 1) fields sized state (All-tail (λ (b : ℕ). IsTrue (is_value b)) byte rest each) (omega (arith, few))
          (grown_rest (value_grown_by (byte ∷ rest)) (value_grown_by (byte ∷ [])) (value_grown_by rest) (length rest) p.fields fields
          (λ line. ap (λ (v : List ℕ). line_of line.name v) (sym (append_assoc line.value (byte ∷ []) rest))) s)),
    )

-- what so many steps make of a reader
pub run_taken : (bytes : List ℕ) (now : Phase) (p : Point) (phase : Phase) (q : Point) → IsSoundAt now p → stage_of now ≡ reading → IsRun now p bytes phase q
    → IsSoundAt phase q × IsOnTheWay (view_at now p) bytes (view_at phase q)
run_taken [] now p phase q s e h =
    subst (λ (x : Phase). IsSoundAt x q × IsOnTheWay (view_at now p) [] (view_at x q)) (sym h.0)
    (subst (λ (x : Point). IsSoundAt now x × IsOnTheWay (view_at now p) [] (view_at now x)) (sym h.1)
    (s, record { same = record { limits = refl; form = refl; place = refl }; stage = e; leads = λ L. residual_here (Rest L (view_at now p)) }))
run_taken (byte ∷ rest) now p phase q s e h =
    let m = h.0 in
    let t = take_more now p byte m.0 m.1 s e h.1 in
    let r = run_taken rest m.0 m.1 phase q t.0 t.1.1 h.2 in (
      r.0,
      record {
        same = record { limits = r.1.same.limits ∙ t.1.0.limits; form = r.1.same.form ∙ t.1.0.form; place = r.1.same.place ∙ t.1.0.place };
        stage = r.1.stage;
        leads = λ L. residual_on (Rest L (view_at now p)) (byte ∷ []) (λ fields. fields) (Rest L (view_at m.0 m.1)) rest (λ fields. fields) (Rest L (view_at phase q)) (t.1.2 L) (r.1.leads L);
      },
    )
