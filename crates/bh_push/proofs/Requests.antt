-- The phase in which the control data of a request is read, and that of an interim response's section.
use Rattle.std.proofs.Common.{◌≡◌, ◌+◌, ℕ, List, [], ◌∷◌, ◌++◌, refl, sym, ap, ap₂, subst, ◌∙◌, append-nil, inl, arith}
use Rattle.std.proofs.lemmas.List.Elements.{All-nil}
use Rattle.bh_spec.specs.declared.Form.{Form}
use Rattle.bh_spec.specs.declared.Form.TheVariants.{Known, Indeterminate}
use Rattle.bh_spec.specs.declared.Omitted.TheVariants.{Both}
use Rattle.bh_spec.specs.declared.Part.{Part}
use Rattle.bh_spec.specs.declared.Part.TheVariants as parts
use Rattle.bh_spec.specs.declared.Width.TheVariants.{One, Two}
use Rattle.bh_spec.specs.Integers.{vi}
use Rattle.bh_spec.specs.Bounds.{Bounds, IsWithin, no_bounds}
use Rattle.bh_spec.specs.Messages.{Field, Control, IsInterim}
use Rattle.bh_spec.specs.Texts.{Text, mark, bytes_of, IsNumber}
use Rattle.bh_spec.specs.Pieces.{SomeOf, IsText, IsNext, GoesOn, IsDead, IsLimit}
use Rattle.bh_spec.proofs.Limits.{request_anyway}
use Rattle.bh_spec.proofs.Marks.{bytes_of-append}
use Rattle.bh_spec.proofs.Within.{no_lines, no_headers}
use Rattle.bh_model.specs.declared.field.Place.TheVariants.{Header, Trailer}
use Rattle.bh_spec.specs.Residuals.{IsResidual}
use Rattle.bh_spec.specs.Items.{Item, Head, of_request, of_response, interim_response, head, ending}
use Rattle.bh_spec.specs.Readers.{Follows, Moves}
use Rattle.bh_spec.proofs.Residuals.{front_of, once_behind}
use Rattle.bh_spec.proofs.Readers.{IsReader, reader_goes_on, reader_whole, reader_dead, reader_limit}
use Rattle.bh_fields.specs.Sections.{SectionOf}
use Rattle.bh_fields.specs.Middle.{SectionView, Rest as section_rest}
use Rattle.bh_fields.specs.Views.{Leads as SectionLeads}
use Rattle.bh_control.specs.Control.{ControlOf, ControlState, Rest as state_rest, IsWanted, IsUnlimited, Leads, IsLeft}
use Rattle.bh_control.specs.Phases.{Read}
use Rattle.bh_control.proofs.Following.{controls_once, one_control}
use Rattle.bh_push.specs.Completing.{AfterStart, ResponseRest}
use Rattle.bh_push.specs.Decoders.{Rest, first_part_of, in_control, in_interim, in_status}
use Rattle.bh_push.proofs.Sections.{IsBegun, section_reader, both}

-- ---- something may stand behind a start

-- a message may end behind an empty header section
zero_number : (part : Part) → IsNumber part 0 ((part, 0) ∷ [])
zero_number part = record { width = One; fits = omega arith; spelled = refl }

pub no_section : (L : Bounds) (form : Form) → (t : Text) × SectionOf L form Header [] t
no_section L Known = ((parts.SectionLength, 0) ∷ [], (([], no_lines L, ((parts.SectionLength, 0) ∷ [], [], zero_number parts.SectionLength, refl, refl)), no_headers))
no_section L Indeterminate = ((parts.NameLength, 0) ∷ [], (([], (parts.NameLength, 0) ∷ [], no_lines L, zero_number parts.NameLength, refl), no_headers))

-- the first byte of a header section
pub first_of_header : (L : Bounds) (form : Form) → IsNext (SomeOf (SectionOf L form Header)) [] (first_part_of form)
unfolding no_section
first_of_header L Known = record { before = []; byte = 0; after = []; spelled = ([], (no_section L Known).1); begins = refl }
first_of_header L Indeterminate = record { before = []; byte = 0; after = []; spelled = ([], (no_section L Indeterminate).1); begins = refl }

-- and of a trailer section
no_trailers : (L : Bounds) (form : Form) → (t : Text) × SectionOf L form Trailer [] t
no_trailers L Known = ((parts.SectionLength, 0) ∷ [], (([], no_lines L, ((parts.SectionLength, 0) ∷ [], [], zero_number parts.SectionLength, refl, refl)), All-nil _))
no_trailers L Indeterminate = ((parts.NameLength, 0) ∷ [], (([], (parts.NameLength, 0) ∷ [], no_lines L, zero_number parts.NameLength, refl), All-nil _))

pub first_of_trailers : (L : Bounds) (form : Form) → IsNext (SomeOf (SectionOf L form Trailer)) [] (first_part_of form)
unfolding no_trailers
first_of_trailers L Known = record { before = []; byte = 0; after = []; spelled = ([], (no_trailers L Known).1); begins = refl }
first_of_trailers L Indeterminate = record { before = []; byte = 0; after = []; spelled = ([], (no_trailers L Indeterminate).1); begins = refl }

pub after_start : (L : Bounds) (form : Form) (of : Head) → (q : List Item) × (t : Text) × AfterStart L form of q t
after_start L form of =
    let s = no_section L form in (
      head of [] ∷ ending Both 0 ∷ [],
      s.0 ++ [],
      record { thing = []; text = s.0; rest = []; more = ending Both 0 ∷ []; spelled = s.1; behind = inl (refl, refl); items = refl; joined = refl },
    )

pub behind_control : (L : Bounds) (form : Form) (A : Control → Text → Type 0) → Follows A (λ c. AfterStart L form (of_request c))
behind_control L form A c t a = after_start L form (of_request c)

-- ---- the reader of control data

whole_control : (L K : Bounds) (R : Control → Text → Type 0) (bytes : List ℕ) → IsResidual (ControlOf K) bytes (λ c. c) R → (c : Control) (more : List ℕ) → IsText (R c) more
    → IsText (ControlOf K c) (bytes ++ more)
whole_control L K R bytes r c more t = record {
  text = r.text ++ t.text;
  spelled = r.back c t.text t.spelled;
  same = bytes_of-append r.text t.text ∙ ap₂ (λ (x y : List ℕ). x ++ y) r.same t.same;
}

pub weaker : (L : Bounds) (v : ControlState) → IsLeft L v → (c : Control) (t : Text) → state_rest L v c t → state_rest no_bounds v c t
weaker L v h c t r =
    let a = h.within in
    let b = h.anyway in
    let s = a.back c t r in
    let free : ControlOf no_bounds c (a.text ++ t) = record { valid = s.valid; spelled = request_anyway L c (a.text ++ t) s.spelled } in
    let p = b.forth c (a.text ++ t) (bytes_of t) free (bytes_of-append a.text t ∙ ap (λ (x : List ℕ). x ++ bytes_of t) a.same) in
    let same : bytes_of a.text ≡ bytes_of b.text ++ [] = a.same ∙ sym b.same ∙ sym (append-nil (bytes_of b.text)) in
    let f = front_of b.text a.text p.rest t [] p.joined same in
    subst (λ (i : Control). state_rest no_bounds v i t) (sym p.same) (subst (state_rest no_bounds v p.thing) (f.1 ∙ ap (λ (x : Text). x ++ t) (none f.0 f.2)) p.spelled)
  where
    none : (u : Text) → bytes_of u ≡ [] → u ≡ []
    none [] e = refl
    none (x ∷ u) e = absurd cc

pub control_reader : (L : Bounds) (v : ControlState) → IsLeft L v → IsReader (state_rest L v) (state_rest no_bounds v)
control_reader L v h = record {
  once = once_behind (ControlOf L) h.bytes (λ c. c) (state_rest L v) h.within (controls_once L L);
  free_once = once_behind (ControlOf no_bounds) h.bytes (λ c. c) (state_rest no_bounds v) h.anyway (controls_once no_bounds no_bounds);
  one = λ c d bytes a b. one_control L L c d (h.bytes ++ bytes) (whole_control L L (state_rest L v) h.bytes h.within c bytes a) (whole_control L L (state_rest L v) h.bytes h.within d bytes b);
  free_one = λ c d bytes a b. one_control no_bounds no_bounds c d (h.bytes ++ bytes) (whole_control L no_bounds (state_rest no_bounds v) h.bytes h.anyway c bytes a)
      (whole_control L no_bounds (state_rest no_bounds v) h.bytes h.anyway d bytes b);
  weaker = λ c t r. weaker L v h c t r;
}

-- what is stored of it
abbrev pub read_in : ControlState → Read
read_in v = record { phase = v.phase; begun = v.begun; control = v.control }

pub control_goes_on : (form : Form) (v w : ControlState) (piece : List ℕ) → IsLeft v.limits v → Leads v.limits v piece w → GoesOn (IsWanted v) [] piece
    → Moves (Rest v.limits (in_control form (read_in v))) (Rest no_bounds (in_control form (read_in v))) (Rest v.limits (in_control form (read_in w))) (Rest no_bounds (in_control form (read_in w))) piece []
control_goes_on form v w piece h leads g =
    reader_goes_on (state_rest v.limits v) (state_rest no_bounds v) (state_rest v.limits w) (state_rest no_bounds w) (λ c. []) (λ K c. AfterStart K form (of_request c)) v.limits piece
    (control_reader v.limits v h) (record { within = leads.within; anyway = leads.anyway }) g (behind_control v.limits form (state_rest v.limits w))

pub control_whole : (form : Form) (v w : ControlState) (bytes : List ℕ) (c : Control) → IsLeft v.limits v → Leads v.limits v bytes w → state_rest v.limits w c [] → state_rest no_bounds w c []
    → Moves (Rest v.limits (in_control form (read_in v))) (Rest no_bounds (in_control form (read_in v))) (AfterStart v.limits form (of_request c)) (AfterStart no_bounds form (of_request c)) bytes []
control_whole form v w bytes c h leads r free =
    reader_whole (state_rest v.limits v) (state_rest no_bounds v) (state_rest v.limits w) (state_rest no_bounds w) (λ d. []) (λ K d. AfterStart K form (of_request d)) v.limits bytes c
    (control_reader v.limits v h) (record { within = leads.within; anyway = leads.anyway }) r free (behind_control v.limits form (state_rest v.limits w))

pub control_dead : (form : Form) (v : ControlState) (piece : List ℕ) (offset : ℕ) (part : Part) → IsLeft v.limits v → IsDead (IsWanted v) (IsUnlimited v) [] piece offset part
    → IsDead (SomeOf (Rest v.limits (in_control form (read_in v)))) (SomeOf (Rest no_bounds (in_control form (read_in v)))) [] piece offset part
control_dead form v piece offset part h d =
    reader_dead (state_rest v.limits v) (state_rest no_bounds v) (λ c. []) (λ K c. AfterStart K form (of_request c)) v.limits (control_reader v.limits v h)
    (behind_control v.limits form (state_rest v.limits v)) piece offset part d

pub control_limit : (form : Form) (v : ControlState) (piece : List ℕ) (offset : ℕ) (part : Part) → IsLeft v.limits v → IsLimit (IsWanted v) (IsUnlimited v) [] piece offset part
    → IsLimit (SomeOf (Rest v.limits (in_control form (read_in v)))) (SomeOf (Rest no_bounds (in_control form (read_in v)))) [] piece offset part
control_limit form v piece offset part h d =
    reader_limit (state_rest v.limits v) (state_rest no_bounds v) (λ c. []) (λ K c. AfterStart K form (of_request c)) v.limits (control_reader v.limits v h)
    (behind_control v.limits form (state_rest v.limits v)) (behind_control no_bounds form (state_rest no_bounds v)) piece offset part d

-- ---- the section of an interim response

-- behind so many interim responses, as many as there may be, a final one may stand
pub response_some : (L : Bounds) (form : Form) (before : ℕ) → IsWithin L.interims before → (q : List Item) × (t : Text) × ResponseRest L form before q t
response_some L form before few =
    let a = after_start L form (of_response 200) in
    let number : Text = mark parts.Status (vi 200 Two) in (
      a.0,
      number ++ a.1,
      record {
        thing = ([], 200);
        text = number;
        rest = a.1;
        more = a.0;
        spelled = record {
          each = All-nil IsInterim;
          final = record { low = omega arith; high = omega arith };
          few = subst (IsWithin L.interims) (let e : before ≡ before + 0 = omega arith in e) few;
          spelled = ([], number, refl, record { width = Two; fits = omega arith; spelled = refl }, refl);
        };
        behind = a.2;
        items = refl;
        joined = refl;
      },
    )

pub interim_whole : (form : Form) (before status : ℕ) (v w : SectionView) (bytes : List ℕ) (fields : List Field) → IsWithin v.limits.interims (before + 1) → IsBegun v → SectionLeads v bytes w
    → section_rest v.limits w fields [] → section_rest no_bounds w fields []
    → Moves (Rest v.limits (in_interim form before status v)) (Rest no_bounds (in_interim form before status v)) (Rest v.limits (in_status form (before + 1) [])) (Rest no_bounds (in_status form (before + 1) []))
    bytes (interim_response status fields ∷ [])
interim_whole form before status v w bytes fields few h leads r free =
    reader_whole (section_rest v.limits v) (section_rest no_bounds v) (section_rest v.limits w) (section_rest no_bounds w) (λ i. interim_response status i ∷ [])
    (λ K i. ResponseRest K form (before + 1)) v.limits bytes fields (section_reader v h) (both v w bytes leads) r free
    (λ i t a. response_some v.limits form (before + 1) few)
