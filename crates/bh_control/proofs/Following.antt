-- The bytes since a reader began, and what completes them.
use Rattle.std.proofs.Common.{◌≡◌, ◌↔◌, arith, ℕ, zero, suc, List, [], ◌∷◌, ◌++◌, length, refl, sym, ap, ap₂, subst, ◌∙◌, append_assoc, append-nil}
use Rattle.std.proofs.lemmas.List.{length-map}
use Rattle.bh_spec.specs.declared.Part.{Part}
use Rattle.bh_spec.specs.declared.Part.TheVariants as parts
use Rattle.bh_spec.specs.Integers.{vi}
use Rattle.bh_spec.specs.Bounds.{Bounds, IsWithin}
use Rattle.bh_spec.specs.Messages.{Control}
use Rattle.bh_spec.specs.Spelling.{IsRequestControl}
use Rattle.bh_spec.specs.Texts.{Text, mark, bytes_of, ◌then◌, IsString}
use Rattle.bh_spec.proofs.Meeting.{meets_map, meets_one}
use Rattle.bh_spec.proofs.Agreement.{Agree}
use Rattle.bh_spec.proofs.Whole.{request_agrees}
use Rattle.bh_control.specs.declared.strings.Place.{Place}
use Rattle.bh_control.specs.declared.strings.Place.TheVariants.{Method, Scheme, Authority, Path}
use Rattle.bh_control.specs.declared.progress.Phase.{Phase}
use Rattle.bh_control.specs.declared.progress.Phase.TheVariants.{Idle, Length, Bytes, Whole, Refused}
use Rattle.bh_spec.specs.Pieces.{SomeOf, CanBecome, IsNext}
use Rattle.bh_control.specs.Control.{ControlOf, IsControlText}
use Rattle.bh_control.specs.Phases.{Read, long_of, part_of, part_now}
use Rattle.bh_control.specs.Rules.{IsOpenAt}
use Rattle.bh_control.specs.Grammar.{Holds, HasString, BehindPath, BehindAuthority, BehindScheme, BehindMethod, Rest, Steps, HasNone, HasSome}
use Rattle.bh_control.specs.Stored.{no_strings}
use Rattle.bh_control.specs.Reading.{IsReading}
use Rattle.bh_spec.specs.Residuals.{IsResidual}
use Rattle.bh_spec.proofs.Residuals.{residual_same, residual_step}
use Rattle.bh_control.specs.Laws.{OneControl, OneNextPart}
use Rattle.bh_spec.proofs.Pieces.{one_next}
use Rattle.bh_control.proofs.Steps.{read_at, part_length, part_byte}

-- ---- the grammar of control data, and the strings of a reader

text_of : (K : Bounds) (place : Place) (c : Control) (A B : Text → Type 0) (s : List ℕ) (t : Text) (h : HasString K place c A t) → h.string ≡ s → B h.rest
    → (IsString (long_of place) (part_of place) s then B) t
text_of K place c A B s t h e b =
    let number = mark (long_of place) (vi (length h.string) h.width) in
    let run = mark (part_of place) h.string in (
      number ++ run,
      h.rest,
      subst (λ (x : List ℕ). IsString (long_of place) (part_of place) x (number ++ run)) e
          (number, run, record { width = h.width; fits = h.fits; spelled = refl }, refl, refl),
      b,
      sym h.joined ∙ sym (append_assoc number run h.rest),
    )

path_of : (K : Bounds) (c : Control) (t : Text) → HasString K Path c BehindPath t → IsString parts.PathLength parts.Path c.path t
path_of K c t h =
    let number = mark parts.PathLength (vi (length h.string) h.width) in
    let run = mark parts.Path h.string in
    subst (λ (x : List ℕ). IsString parts.PathLength parts.Path x t) h.holds
    (number, run, record { width = h.width; fits = h.fits; spelled = refl }, refl, sym h.joined ∙ ap (λ (x : Text). number ++ (run ++ x)) h.behind ∙ ap (λ (x : Text). number ++ x) (append-nil run))

short : (K : Bounds) (a b : List ℕ) → length a ≡ length b → IsWithin K.part (length a) → IsWithin K.part (length b)
short K a b e h = subst (IsWithin K.part) e h

request_of : (K : Bounds) (c : Control) (t : Text) → HasString K Method c (BehindMethod K c) t → IsRequestControl K c t
request_of K c t m =
    let s = m.behind in
    let a = s.behind in
    let p = a.behind in
    record {
      scheme = s.string;
      same_scheme = s.holds;
      text = text_of K Method c (BehindMethod K c) (IsString parts.SchemeLength parts.Scheme s.string then IsString parts.AuthorityLength parts.Authority c.authority then IsString parts.PathLength parts.Path c.path)
          c.method t m m.holds
          (text_of K Scheme c (BehindScheme K c) (IsString parts.AuthorityLength parts.Authority c.authority then IsString parts.PathLength parts.Path c.path) s.string m.rest s refl
          (text_of K Authority c (BehindAuthority K c) (IsString parts.PathLength parts.Path c.path) c.authority s.rest a a.holds (path_of K c a.rest p)));
      method_within = short K m.string c.method (ap length m.holds) m.within;
      scheme_within = short K s.string c.scheme (sym (length-map s.string _) ∙ ap length s.holds) s.within;
      authority_within = short K a.string c.authority (ap length a.holds) a.within;
      path_within = short K p.string c.path (ap length p.holds) p.within;
    }

string_from : (K : Bounds) (place : Place) (c : Control) (A : Text → Type 0) (s : List ℕ) (x y t : Text) → IsString (long_of place) (part_of place) s x → t ≡ x ++ y
    → IsWithin K.part (length s) → Holds place c [] s → A y → HasString K place c A t
string_from K place c A s x y t h e within holds a = record {
  string = s;
  width = h.2.width;
  rest = y;
  fits = h.2.fits;
  within = within;
  holds = holds;
  behind = a;
  joined =
      let number = mark (long_of place) (vi (length s) h.2.width) in
      let run = mark (part_of place) s in
      sym (append_assoc number run y) ∙ sym (ap (λ (z : Text). z ++ y) (h.4 ∙ ap₂ (λ (u v : Text). u ++ v) h.2.spelled h.3)) ∙ sym e;
}

request_from : (K : Bounds) (c : Control) (t : Text) → IsRequestControl K c t → HasString K Method c (BehindMethod K c) t
request_from K c t r =
    let m = r.text in
    let s = m.3 in
    let a = s.3 in
    string_from K Method c (BehindMethod K c) c.method m.0 m.1 t m.2 m.4 r.method_within refl
    (string_from K Scheme c (BehindScheme K c) r.scheme s.0 s.1 m.1 s.2 s.4
    (short K c.scheme r.scheme (sym (ap length r.same_scheme) ∙ length-map r.scheme _) r.scheme_within) r.same_scheme
    (string_from K Authority c (BehindAuthority K c) c.authority a.0 a.1 s.1 a.2 a.4 r.authority_within refl
    (string_from K Path c BehindPath c.path a.1 [] a.1 a.3 (sym (append-nil a.1)) r.path_within refl refl)))

-- at the beginning control data is left
pub start_is : (K : Bounds) (c : Control) (t : Text) → Rest K (read_at (Length Method) [] no_strings) c t ↔ ControlOf K c t
start_is K c t = (λ h. record { valid = h.0; spelled = request_of K c t h.2 }, λ h. (h.valid, tt, request_from K c t h.spelled))

pub start_left : (K : Bounds) → IsResidual (ControlOf K) [] (λ c. c) (λ c t. Rest K (read_at (Length Method) [] no_strings) c t)
start_left K =
    residual_same (ControlOf K) (λ c. c) (λ c t. Rest K (read_at (Length Method) [] no_strings) c t) (λ c t h. (c, refl, (start_is K c t).1 h)) (λ c t h. (start_is K c t).0 h)

-- no control data begins another
pub controls_once : (K L : Bounds) → Agree ⊥ (Unit {0}) (IsControlText K) (IsControlText L)
controls_once K L t u r s = meets_map ⊥ (r.0 ≡ s.0) (Unit {0}) t u (λ e. tt) (request_agrees K L r.0 s.0 t u r.1.spelled s.1.spelled)

-- ---- a byte more

-- every text that completes what is open has one part first
pub one_part : (K : Bounds) (most : ℕ) (phase : Phase) (begun : List ℕ) (d : Control) (byte : ℕ) → IsReading phase → IsOpenAt phase most (read_at phase begun d)
    → (c : Control) (part : Part) (t : Text) → Rest K (read_at phase begun d) c ((part, byte) ∷ t) → part ≡ part_now phase
one_part K most Idle begun d byte reading o c part t h = absurd reading
one_part K most (Length place) begun d byte reading o c part t h = part_length K place begun d byte o.unfinished c part t h
one_part K most (Bytes place zero) begun d byte reading o c part t h = absurd (omega (arith, o.some))
one_part K most (Bytes place (suc left)) begun d byte reading o c part t h = part_byte K place left d byte c part t h
one_part K most Whole begun d byte reading o c part t h = absurd reading
one_part K most Refused begun d byte reading o c part t h = absurd reading

pub step_leaves : (K : Bounds) (r s : Read) (byte : ℕ) → ((c : Control) (part : Part) (t : Text) → Rest K r c ((part, byte) ∷ t) → part ≡ part_now r.phase)
    → Steps K r byte s → IsResidual (Rest K r) (byte ∷ []) (λ c. c) (Rest K s)
step_leaves K r s byte one steps =
    residual_step (Rest K r) (part_now r.phase) byte (λ c. c) (Rest K s)
    (record {
      part_is = one;
      forth = λ c t h. (c, refl, steps.on c t h);
      back = λ c t h. steps.back c t h;
    })

-- ---- what is said of the next byte

pub none_goes : (K : Bounds) (r : Read) (byte : ℕ) → HasNone K r byte → CanBecome (SomeOf (Rest K r)) (byte ∷ []) → ⊥
none_goes K r byte none h = at h.text h.spelled.1 h.begins
  where
    at : (t : Text) → Rest K r h.spelled.0 t → bytes_of t ≡ (byte ∷ []) ++ h.after → ⊥
    at [] c e = absurd cc
    at ((part, value) ∷ t) c e =
        let same : value ≡ byte = cc in
        none h.spelled.0 part t (subst (λ (v : ℕ). Rest K r h.spelled.0 ((part, v) ∷ t)) same c)

pub some_goes : (K : Bounds) (r : Read) (byte : ℕ) → HasSome K r byte → CanBecome (SomeOf (Rest K r)) (byte ∷ [])
some_goes K r byte h = record { text = (part_now r.phase, byte) ∷ h.text; after = bytes_of h.text; spelled = (h.control, h.rest); begins = refl }

pub some_next : (K : Bounds) (r : Read) (byte : ℕ) → HasSome K r byte → IsNext (SomeOf (Rest K r)) [] (part_now r.phase)
some_next K r byte h = record { before = []; byte = byte; after = h.text; spelled = (h.control, h.rest); begins = refl }

-- ---- the laws

pub one_control : OneControl
one_control K L c d bytes g h =
    meets_one ⊥ (c ≡ d) g.text h.text (request_agrees K L c d g.text h.text g.spelled.spelled h.spelled.spelled) (g.same ∙ sym h.same)

pub one_next_part : OneNextPart
one_next_part K L bytes p q g h = one_next (Unit {0}) (IsControlText K) (IsControlText L) (controls_once K L) bytes p q g h
