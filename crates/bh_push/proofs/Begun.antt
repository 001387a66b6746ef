-- Readers at the beginning: exactly a section, or control data, is left, and it isn't empty.
use Rattle.std.proofs.Common.{◌≡◌, ◌+◌, ◌<◌, ℕ, List, [], ◌∷◌, ◌++◌, length, refl, sym, ap, subst, ◌∙◌, append-nil, arith, inl, None}
use Rattle.std.proofs.lemmas.List.{length-append}
use Rattle.bh_spec.specs.declared.Form.{Form}
use Rattle.bh_spec.specs.declared.Form.TheVariants.{Known, Indeterminate}
use Rattle.bh_spec.specs.declared.Part.{Part}
use Rattle.bh_spec.specs.Bounds.{Bounds, IsWithin, no_bounds}
use Rattle.bh_spec.specs.Integers.{vi}
use Rattle.bh_spec.specs.Messages.{Control, Field}
use Rattle.bh_spec.specs.Texts.{Text, bytes_of, IsNumber}
use Rattle.bh_spec.proofs.Marks.{unmark}
use Rattle.bh_spec.proofs.Widths.{length-vi, count_1}
use Rattle.bh_model.specs.declared.field.Place.{Place}
use Rattle.bh_fields.specs.Sections.{SectionOf}
use Rattle.bh_fields.specs.Middle.{SectionView, begun_view, Rest as section_rest}
use Rattle.bh_fields.proofs.History.{begun_is_a_section}
use Rattle.bh_control.specs.Control.{ControlOf, ControlState, begun_state, Rest as state_rest}
use Rattle.bh_control.proofs.Following.{start_left}
use Rattle.bh_model.specs.declared.field.Place.TheVariants.{Header}
use Rattle.bh_spec.specs.Items.{Item, Head, of_request, interim_response, head}
use Rattle.bh_spec.specs.Residuals.{IsResidual}
use Rattle.bh_spec.proofs.Residuals.{residual_same}
use Rattle.bh_push.specs.declared.course.Course.{Course}
use Rattle.bh_push.specs.declared.course.Stage.{Stage}
use Rattle.bh_push.specs.declared.course.Stage.TheVariants as stages
use Rattle.bh_push.specs.Completing.{RequestRest, ResponseRest, InterimRest, TailRest, AfterStart}
use Rattle.bh_push.specs.Decoders.{At, Rest, in_control, before_interim, in_interim, before_header, in_header}
use Rattle.bh_push.proofs.Requests.{after_start}
use Rattle.bh_push.proofs.StatusBytes.{interim_some}
use Rattle.bh_push.specs.Standing.{read_in}
use Rattle.bh_push.specs.Courses.{head_shown, shown_head, InSection, head_of, at_by, place_of, zeros_of, IsAt, IsOpenBy, IsOpen, IsSection, IsControlData, IsCourse, Walked, Says}
use Rattle.bh_push.specs.declared.course.Stepped.{Stepped}
use Rattle.bh_push.proofs.Courses.{header_kind, interim_kind}
use Rattle.bh_push.proofs.Ends.{yields_into}
use Rattle.bh_push.proofs.Walking.{begun_says}

-- ---- a number has a byte

number_some : (part : Part) (n : ℕ) (x : Text) → IsNumber part n x → 0 < length x
number_some part n x h = at x (ap bytes_of h.spelled ∙ unmark part (vi n h.width))
  where
    at : (y : Text) → bytes_of y ≡ vi n h.width → 0 < length y
    at [] e = absurd (omega (arith, ap length e, length-vi n h.width, count_1 h.width))
    at (b ∷ y) e = omega arith

front_some : (x y : Text) → 0 < length x → [] ≡ x ++ y → ⊥
front_some [] y some e = omega (arith, some)
front_some (b ∷ x) y some e = cc

back_some : (x y : Text) → 0 < length y → [] ≡ x ++ y → ⊥
back_some [] [] some e = omega (arith, some)
back_some [] (b ∷ y) some e = cc
back_some (b ∷ x) y some e = cc

pub section_some : (L : Bounds) (form : Form) (place : Place) (fields : List Field) → SectionOf L form place fields [] → ⊥
section_some L Known place fields h = let s = h.0.2 in front_some s.0 s.1 (number_some _ _ s.0 s.2) s.4
section_some L Indeterminate place fields h = let s = h.0 in back_some s.0 s.1 (number_some _ _ s.1 s.3) s.4

pub control_some : (L : Bounds) (c : Control) → ControlOf L c [] → ⊥
control_some L c h =
    let t = h.spelled.text in
    let m = t.2 in
    front_some t.0 t.1 (omega (arith, number_some _ _ m.0 m.2, ap length m.4, length-append m.0 m.1)) t.4

-- ---- at the beginning

pub section_begun : (form : Form) (place : Place) (v : SectionView) → IsSection (begun_view form place v)
section_begun form place v = record {
  stage = refl;
  left = (
    [],
    λ K. residual_same (SectionOf K form place) (λ fields. fields) (section_rest K (begun_view form place v))
        (λ fields t h. (fields, refl, (begun_is_a_section K form place v fields t).1 h))
        (λ fields t h. (begun_is_a_section K form place v fields t).0 h),
  );
  more = λ fields h. section_some v.limits form place fields ((begun_is_a_section v.limits form place v fields []).0 h);
}

nothing : (t : Text) → bytes_of t ≡ [] → t ≡ []
nothing [] e = refl
nothing (b ∷ t) e = absurd cc

pub control_begun : (v : ControlState) → IsControlData (begun_state v)
control_begun v = record {
  stage = refl;
  left = record { bytes = []; within = start_left v.limits; anyway = start_left no_bounds };
  more = λ c h. control_some v.limits c (subst (ControlOf v.limits c) (nothing ((start_left v.limits).text ++ []) (ap bytes_of (append-nil (start_left v.limits).text) ∙ (start_left v.limits).same))
      ((start_left v.limits).back c [] h));
}

-- ---- what stands behind control data and statuses

pub header_at : (d : Course) (form : Form) (v : SectionView) (of : Head) → d.stage ≡ stages.Header form → d.section ≡ begun_view form Header v → head_of d.status d.control.control ≡ of
    → IsAt (λ K. AfterStart K form of) d
header_at d form v of e f same = record {
  zeros = ap zeros_of e;
  to = λ K q t h. subst (λ (x : At). Rest K x q t) (sym place) (to K q t h);
  from = λ K q t h. from K q t (subst (λ (x : At). Rest K x q t) place h);
}
  where
    place : place_of d ≡ in_header form of (begun_view form Header v)
    place = ap (λ (s : Stage). at_by s d) e ∙ ap (λ (x : Head). in_header form x d.section) same ∙ ap (in_header form of) f

    to : (K : Bounds) (q : List Item) (t : Text) → AfterStart K form of q t → Rest K (in_header form of (begun_view form Header v)) q t
    to K q t h =
        yields_into (SectionOf K form Header) (section_rest K (begun_view form Header v)) (λ fields. head of fields ∷ []) (λ fields. TailRest K form)
        (λ fields u y. (begun_is_a_section K form Header v fields u).1 y) q t h

    from : (K : Bounds) (q : List Item) (t : Text) → Rest K (in_header form of (begun_view form Header v)) q t → AfterStart K form of q t
    from K q t h =
        yields_into (section_rest K (begun_view form Header v)) (SectionOf K form Header) (λ fields. head of fields ∷ []) (λ fields. TailRest K form)
        (λ fields u y. (begun_is_a_section K form Header v fields u).0 y) q t h

pub interim_at : (d : Course) (form : Form) (before status : ℕ) (v : SectionView) → d.stage ≡ stages.Interim form before status → d.section ≡ begun_view form Header v
    → IsAt (λ K. InterimRest K form before status (SectionOf K form Header)) d
interim_at d form before status v e f = record {
  zeros = ap zeros_of e;
  to = λ K q t h. subst (λ (x : At). Rest K x q t) (sym place)
      (yields_into (SectionOf K form Header) (section_rest K (begun_view form Header v)) (λ fields. interim_response status fields ∷ []) (λ fields. ResponseRest K form (before + 1))
      (λ fields u y. (begun_is_a_section K form Header v fields u).1 y) q t h);
  from = λ K q t h. yields_into (section_rest K (begun_view form Header v)) (SectionOf K form Header) (λ fields. interim_response status fields ∷ []) (λ fields. ResponseRest K form (before + 1))
      (λ fields u y. (begun_is_a_section K form Header v fields u).0 y) q t (subst (λ (x : At). Rest K x q t) place h);
}
  where
    place : place_of d ≡ in_interim form before status (begun_view form Header v)
    place = ap (λ (s : Stage). at_by s d) e ∙ ap (in_interim form before status) f

pub request_at : (d : Course) (form : Form) (v : ControlState) → d.stage ≡ stages.Control form → d.control ≡ begun_state v → IsAt (λ K. RequestRest K form (ControlOf K)) d
request_at d form v e f = record {
  zeros = ap zeros_of e;
  to = λ K q t h. subst (λ (x : At). Rest K x q t) (sym place)
      (yields_into (ControlOf K) (state_rest K (begun_state v)) (λ c. []) (λ c. AfterStart K form (of_request c)) (λ c u y. left K c u y) q t h);
  from = λ K q t h. yields_into (state_rest K (begun_state v)) (ControlOf K) (λ c. []) (λ c. AfterStart K form (of_request c)) (λ c u y. back K c u y) q t
      (subst (λ (x : At). Rest K x q t) place h);
}
  where
    place : place_of d ≡ in_control form (read_in (begun_state v))
    place = ap (λ (s : Stage). at_by s d) e ∙ ap (λ (x : ControlState). in_control form (read_in x)) f

    back : (K : Bounds) (c : Control) (u : Text) → state_rest K (begun_state v) c u → ControlOf K c u
    back K c u y = subst (λ (x : Text). ControlOf K c (x ++ u)) (nothing (start_left K).text (start_left K).same) ((start_left K).back c u y)

    left : (K : Bounds) (c : Control) (u : Text) → ControlOf K c u → state_rest K (begun_state v) c u
    left K c u y =
        let p = (start_left K).forth c u (bytes_of u) y refl in
        subst (state_rest K (begun_state v) c) (sym (p.joined ∙ ap (λ (x : Text). x ++ p.rest) (nothing (start_left K).text (start_left K).same)))
        (subst (λ (x : Control). state_rest K (begun_state v) x p.rest) (sym p.same) p.spelled)

-- ---- a section begins before its first byte

-- exactly R completes a message from where it stands
pub record IsPlaced (c : Course) (R : Bounds → List Item → Text → Type 0) : Type 0 where
  pub to : (K : Bounds) (q : List Item) (t : Text) → Rest K (place_of c) q t → R K q t
  pub from : (K : Bounds) (q : List Item) (t : Text) → R K q t → Rest K (place_of c) q t

begun_course : (c b : Course) → IsCourse c → b.limits ≡ c.limits → b.control.limits ≡ c.control.limits → b.section.limits ≡ c.section.limits → IsCourse b
begun_course c b h e f g = record {
  five = subst (λ (L : Bounds). IsWithin L.part 5) (sym e) h.five;
  control = f ∙ h.control ∙ sym e;
  section = g ∙ h.section ∙ sym e;
}

begun_place : (c b : Course) (R : Bounds → List Item → Text → Type 0) (K : Bounds) → ((q : List Item) (t : Text) → Rest K (place_of c) q t → R K q t)
    → ((q : List Item) (t : Text) → R K q t → Rest K (place_of c) q t) → IsAt R b → IsResidual (Rest K (place_of c)) [] (λ q. q) (Rest K (place_of b))
begun_place c b R K to from a =
    residual_same (Rest K (place_of c)) (λ q. q) (Rest K (place_of b))
    (λ q t h. (q, refl, a.to K q t (to q t h)))
    (λ q t h. from q t (a.from K q t h))

walked_begun : (c b : Course) (piece : List ℕ) (R : Bounds → List Item → Text → Type 0) (s : Stage) → IsPlaced c R → IsAt R b → (q : List Item) (t : Text) → R c.limits q t → c.stage ≡ s
    → head_shown s (head_of c.status c.control.control) ≡ None → shown_head b ≡ None → InSection b.stage → b.limits ≡ c.limits → IsOpen b → Walked c piece 0 [] b
walked_begun c b piece R s at a q t r e hidden silent inside limits opened = record {
  inside = omega arith;
  comes = record {
    within = begun_place c b R c.limits (at.to c.limits) (at.from c.limits) a;
    anyway = begun_place c b R no_bounds (at.to no_bounds) (at.from no_bounds) a;
    goes_on = record { text = t; after = bytes_of t; spelled = (q, a.to c.limits q t r); begins = refl };
  };
  limits = limits;
  stays = opened;
  zeros = omega (arith, a.zeros);
  head = silent ∙ sym (ap (λ (x : Stage). head_shown x (head_of c.status c.control.control)) e ∙ hidden);
  lines = inl inside;
  right = tt;
}

-- a section of this head
pub header_walked : (c b : Course) (form : Form) (piece : List ℕ) → c.stage ≡ stages.BeforeHeader form → b.stage ≡ stages.Header form → b.section ≡ begun_view form Header c.section
    → head_of b.status b.control.control ≡ head_of c.status c.control.control → b.limits ≡ c.limits → IsOpen b → Walked c piece 0 [] b
header_walked c b form piece e f begun same limits opened =
    let of : Head = head_of c.status c.control.control in
    let some = after_start c.limits form of in
    let place : place_of c ≡ before_header form of = ap (λ (s : Stage). at_by s c) e in
    walked_begun c b piece (λ K. AfterStart K form of) (stages.BeforeHeader form)
    (record { to = λ K q t h. subst (λ (x : At). Rest K x q t) place h; from = λ K q t h. subst (λ (x : At). Rest K x q t) (sym place) h })
    (header_at b form c.section of f begun same) some.0 some.1 some.2 e refl
    (ap (λ (s : Stage). head_shown s (head_of b.status b.control.control)) f) (subst InSection (sym f) tt) limits opened

pub interim_walked : (c b : Course) (form : Form) (before status : ℕ) (piece : List ℕ) → c.stage ≡ stages.BeforeInterim form before status → b.stage ≡ stages.Interim form before status
    → b.section ≡ begun_view form Header c.section → b.limits ≡ c.limits → IsWithin c.limits.interims (before + 1) → IsOpen b → Walked c piece 0 [] b
interim_walked c b form before status piece e f begun limits few opened =
    let some = interim_some c.limits form before status few in
    let place : place_of c ≡ before_interim form before status = ap (λ (s : Stage). at_by s c) e in
    walked_begun c b piece (λ K. InterimRest K form before status (SectionOf K form Header)) (stages.BeforeInterim form before status)
    (record { to = λ K q t h. subst (λ (x : At). Rest K x q t) place h; from = λ K q t h. subst (λ (x : At). Rest K x q t) (sym place) h })
    (interim_at b form before status c.section f begun) some.0 some.1 some.2 e refl
    (ap (λ (s : Stage). head_shown s (head_of b.status b.control.control)) f) (subst InSection (sym f) tt) limits opened

pub header_begun_open : (c b : Course) (form : Form) → b.stage ≡ stages.Header form → b.section ≡ begun_view form Header c.section → IsCourse c → b.limits ≡ c.limits
    → b.control.limits ≡ c.control.limits → IsOpen b
header_begun_open c b form e f h limits control = record {
  course = begun_course c b h limits control (ap (λ (x : SectionView). x.limits) f);
  at = subst (λ (x : Stage). IsOpenBy x b) (sym e) (subst IsSection (sym f) (section_begun form Header c.section));
}

pub interim_begun_open : (c b : Course) (form : Form) (before status : ℕ) → b.stage ≡ stages.Interim form before status → b.section ≡ begun_view form Header c.section → IsCourse c
    → b.limits ≡ c.limits → b.control.limits ≡ c.control.limits → IsWithin c.limits.interims (before + 1) → IsOpen b
interim_begun_open c b form before status e f h limits control few = record {
  course = begun_course c b h limits control (ap (λ (x : SectionView). x.limits) f);
  at = subst (λ (x : Stage). IsOpenBy x b) (sym e)
      (subst (λ (L : Bounds). IsWithin L.interims (before + 1)) (sym limits) few, subst IsSection (sym f) (section_begun form Header c.section));
}

-- what is said of the rest is said of the whole
pub header_says : (c b d : Course) (form : Form) (piece : List ℕ) (r : Stepped) → c.stage ≡ stages.BeforeHeader form → b.stage ≡ stages.Header form → b.status ≡ c.status → Walked c piece 0 [] b
    → Says b piece r d → Says c piece r d
header_says c b d form piece r e f status a s = begun_says c b d piece r a (header_kind c b form e f status) s

pub interim_says : (c b d : Course) (form : Form) (before code : ℕ) (piece : List ℕ) (r : Stepped) → c.stage ≡ stages.BeforeInterim form before code → b.stage ≡ stages.Interim form before code
    → b.status ≡ c.status → Walked c piece 0 [] b → Says b piece r d → Says c piece r d
interim_says c b d form before code piece r e f status a s = begun_says c b d piece r a (interim_kind c b form before code e f status) s
