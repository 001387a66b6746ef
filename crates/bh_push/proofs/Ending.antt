-- Where the input may end, and where it may not; and the start.
use Rattle.std.proofs.Common.{◌≡◌, ◌+◌, ℕ, Option, Some, None, List, [], ◌∷◌, ◌++◌, refl, sym, ap, subst, ◌∙◌, append-nil, inl, inr, arith}
use Rattle.bh_spec.specs.declared.Form.{Form}
use Rattle.bh_spec.specs.declared.Omitted.TheVariants.{Nothing}
use Rattle.bh_spec.specs.declared.Part.{Part}
use Rattle.bh_spec.specs.declared.Part.TheVariants as parts
use Rattle.bh_spec.specs.declared.Refusal.{Refusal}
use Rattle.bh_spec.specs.declared.Refusal.TheVariants.{Ended}
use Rattle.bh_spec.specs.declared.Width.TheVariants.{One}
use Rattle.bh_spec.specs.Bounds.{Bounds, IsWithin}
use Rattle.bh_spec.specs.Integers.{vi}
use Rattle.bh_spec.specs.Pieces.{SomeOf, IsText, CanBecome, IsNext}
use Rattle.bh_spec.specs.Texts.{Text, mark, bytes_of}
use Rattle.bh_spec.proofs.Marks.{marked_bytes}
use Rattle.bh_spec.specs.Items.{Item, Head, interim_response, head, trailer_section, ending, of_request}
use Rattle.bh_spec.specs.Yields.{Yields}
use Rattle.bh_varint.specs.Step.{IsUnfinished}
use Rattle.bh_varint.proofs.Reading.{unfinished_nil}
use Rattle.bh_model.specs.declared.field.Place.TheVariants.{Header}
use Rattle.bh_varint.proofs.Numbers.{begins_nil}
use Rattle.bh_fields.specs.Middle.{Rest as section_rest}
use Rattle.bh_fields.specs.Sections.{SectionOf}
use Rattle.bh_control.specs.Control.{Rest as state_rest}
use Rattle.bh_control.specs.Numbers.{numbers}
use Rattle.bh_push.specs.declared.body.Phase.{Phase}
use Rattle.bh_push.specs.declared.body.Phase.TheVariants as phases
use Rattle.bh_push.specs.declared.course.Course.{Course}
use Rattle.bh_push.specs.declared.course.End.{End}
use Rattle.bh_push.specs.declared.course.Stage.{Stage}
use Rattle.bh_push.specs.declared.course.Stage.TheVariants as stages
use Rattle.bh_push.specs.Bodies.{at_of, IsBody}
use Rattle.bh_push.specs.Completing.{AfterStart, MessageRest, ResponseRest, TailRest, PaddingRest}
use Rattle.bh_push.specs.Courses.{at_by, place_of, head_of, IsCourse, IsCounted, IsOpenBy, IsOpen}
use Rattle.bh_push.specs.Decoders.{At, Rest, in_framing}
use Rattle.bh_push.specs.Ending.{end_in, end_at}
use Rattle.bh_push.specs.Pushes.{Fails}
use Rattle.bh_push.proofs.Begun.{section_some}
use Rattle.bh_push.proofs.Finishing.{length_unfinished, run_unfinished}
use Rattle.bh_push.proofs.Framings.{framing_numbered, framing_next}
use Rattle.bh_push.proofs.Handing.{view}
use Rattle.bh_push.proofs.Nexts.{some_least}
use Rattle.bh_push.proofs.Numbered.{IsNumbered, Behind}
use Rattle.bh_push.proofs.Statuses.{AfterNumber, AfterStatus}
use Rattle.bh_push.proofs.StatusBytes.{status_numbered}

nothing : (t : Text) → bytes_of t ≡ [] → t ≡ []
nothing [] e = refl
nothing (b ∷ t) e = absurd cc

-- ---- it may end

ends_in : (L : Bounds) (form : Form) (number : List ℕ) (end : End) (phase : Phase) → end_in phase ≡ Some end → Rest L (at_of phase form number) (ending end.omitted end.padding ∷ []) []
ends_in L form number end phases.Head e =
    let same : record { omitted = _; padding = 0 } ≡ end = cc in
    inl (ap (λ (x : End). ending x.omitted x.padding ∷ []) (sym same), refl)
ends_in L form number end phases.Length e = absurd cc
ends_in L form number end (phases.Run missing) e = absurd cc
ends_in L form number end phases.Over e =
    let same : record { omitted = _; padding = 0 } ≡ end = cc in
    inl (ap (λ (x : End). ending x.omitted x.padding ∷ []) (sym same), refl)

ends_by : (c : Course) (end : End) (s : Stage) → end_at s c.body.phase ≡ Some end → Rest c.limits (at_by s c) (ending end.omitted end.padding ∷ []) []
ends_by c end stages.Framing e = absurd cc
ends_by c end (stages.Control form) e = absurd cc
ends_by c end (stages.Status form before) e = absurd cc
ends_by c end (stages.BeforeInterim form before status) e = absurd cc
ends_by c end (stages.Interim form before status) e = absurd cc
ends_by c end (stages.BeforeHeader form) e = absurd cc
ends_by c end (stages.Header form) e = absurd cc
ends_by c end stages.Content e = ends_in c.limits c.body.form c.body.number end c.body.phase e
ends_by c end (stages.Trailers form) e = absurd cc
ends_by c end (stages.Padding before) e =
    let same : record { omitted = _; padding = before } ≡ end = cc in
    (0, ap (λ (x : End). ending x.omitted x.padding ∷ []) (sym same) ∙ ap (λ (n : ℕ). ending Nothing n ∷ []) (let z : before ≡ before + 0 = omega arith in z), refl)

-- ---- or it may not

pub no_end : (o : Option End) → ((end : End) → o ≡ Some end → ⊥) → o ≡ None
no_end None h = refl
no_end (Some end) h = absurd (h end refl)

number_unfinished : (part : Part) (R : List Item → Text → Type 0) (Body : List Item → ℕ → ℕ → Text → Type 0) → IsNumbered part R Body → (begun : List ℕ) → IsUnfinished begun
    → IsText (SomeOf (Behind part R begun)) [] → ⊥
number_unfinished part R Body is begun un h =
    let none : h.text ≡ [] = nothing h.text h.same in
    let n = is.to h.spelled.0 (mark part begun ++ h.text) h.spelled.1 in
    un.none n.number n.width (bytes_of n.behind) n.fits
    (sym (marked_bytes part (vi n.number n.width) n.behind) ∙ sym (ap bytes_of n.spelled) ∙ ap (λ (x : Text). bytes_of (mark part begun ++ x)) none
    ∙ marked_bytes part begun [] ∙ append-nil begun)

front_nothing : (x y : Text) → [] ≡ x ++ y → x ≡ []
front_nothing [] y e = refl
front_nothing (b ∷ x) y e = absurd cc

-- a thing that isn't empty
thing_unfinished : {I : Type 0} (A : I → Text → Type 0) (gives : I → List Item) (S : I → List Item → Text → Type 0) → ((i : I) → A i [] → ⊥) → IsText (SomeOf (Yields A gives S)) [] → ⊥
thing_unfinished A gives S some h =
    let y = h.spelled.1 in
    some y.thing (subst (A y.thing) (front_nothing y.text y.rest (sym (nothing h.text h.same) ∙ y.joined)) y.spelled)

unfinished_in : (L : Bounds) (form : Form) (number : List ℕ) (phase : Phase) → IsBody phase number → end_in phase ≡ None → IsText (SomeOf (Rest L (at_of phase form number))) [] → ⊥
unfinished_in L form number phases.Head b e = absurd cc
unfinished_in L form number phases.Length b e = length_unfinished L form number b
unfinished_in L form number (phases.Run missing) b e = run_unfinished L form missing b.0
unfinished_in L form number phases.Over b e = absurd cc

unfinished_of : (L M : Bounds) (v : At) → M ≡ L → (IsText (SomeOf (Rest M v)) [] → ⊥) → IsText (SomeOf (Rest L v)) [] → ⊥
unfinished_of L M v e h t = h (subst (λ (K : Bounds). IsText (SomeOf (Rest K v)) []) (sym e) t)

unfinished_by : (c : Course) (s : Stage) → IsCourse c → IsOpenBy s c → end_at s c.body.phase ≡ None → IsText (SomeOf (Rest c.limits (at_by s c))) [] → ⊥
unfinished_by c stages.Framing h o e = number_unfinished parts.Framing (MessageRest c.limits) (AfterNumber c.limits) (framing_numbered c.limits) c.number o.unfinished
unfinished_by c (stages.Control form) h o e =
    let v = c.control in
    unfinished_of c.limits v.limits (at_by (stages.Control form) c) h.control
    (thing_unfinished (state_rest v.limits v) (λ control. []) (λ control. AfterStart v.limits form (of_request control)) o.more)
unfinished_by c (stages.Status form before) h o e =
    let least = some_least c.limits before in
    number_unfinished parts.Status (ResponseRest c.limits form before) (AfterStatus c.limits form before) (status_numbered c.limits form before o.0) c.number (o.1 least.0 least.1).unfinished
unfinished_by c (stages.BeforeInterim form before status) h o e =
    thing_unfinished (SectionOf c.limits form Header) (λ i. interim_response status i ∷ []) (λ i. ResponseRest c.limits form (before + 1)) (λ fields. section_some c.limits form Header fields)
unfinished_by c (stages.Interim form before status) h o e =
    let v = c.section in
    unfinished_of c.limits v.limits (at_by (stages.Interim form before status) c) h.section
    (thing_unfinished (section_rest v.limits v) (λ i. interim_response status i ∷ []) (λ i. ResponseRest v.limits form (before + 1)) o.1.more)
unfinished_by c (stages.BeforeHeader form) h o e =
    let of : Head = head_of c.status c.control.control in
    thing_unfinished (SectionOf c.limits form Header) (λ i. head of i ∷ []) (λ i. TailRest c.limits form) (λ fields. section_some c.limits form Header fields)
unfinished_by c (stages.Header form) h o e =
    let v = c.section in
    let of : Head = head_of c.status c.control.control in
    unfinished_of c.limits v.limits (at_by (stages.Header form) c) h.section
    (thing_unfinished (section_rest v.limits v) (λ i. head of i ∷ []) (λ i. TailRest v.limits form) o.more)
unfinished_by c stages.Content h o e = unfinished_in c.limits c.body.form c.body.number c.body.phase o e
unfinished_by c (stages.Trailers form) h o e =
    let v = c.section in
    unfinished_of c.limits v.limits (at_by (stages.Trailers form) c) h.section
    (thing_unfinished (section_rest v.limits v) (λ i. trailer_section i ∷ []) (λ i. PaddingRest 0) o.more)
unfinished_by c (stages.Padding before) h o e = absurd cc

pub fails_at : (c : Course) (taken : ℕ) (refusal : Option Refusal) (part : Part) → refusal ≡ None → IsOpen c → end_at c.stage c.body.phase ≡ None → IsWithin c.limits.input taken
    → IsNext (SomeOf (Rest c.limits (place_of c))) [] part
    → Fails refusal (view c taken refusal) (Ended taken part) (view c taken (Some (Ended taken part)))
fails_at c taken None part n o e w next = (record { input = w; place = refl; unfinished = unfinished_by c c.stage o.course o.at e; next = next }, refl)
fails_at c taken (Some r) part n o e w next = absurd cc

-- ---- the start

pub start_open : (c : Course) → c.stage ≡ stages.Framing → c.number ≡ [] → IsCourse c → IsOpen c
start_open c e f h = record {
  course = h;
  at = subst (λ (s : Stage). IsOpenBy s c) (sym e) (subst (IsCounted (numbers 0 3)) (sym f)
      (record { live = begins_nil (numbers 0 3) 0 One (omega arith) (inr ((omega arith, omega arith), tt)); unfinished = unfinished_nil }));
}

pub start_alive : (L : Bounds) (number : List ℕ) → number ≡ [] → IsWithin L.part 5 → CanBecome (SomeOf (Rest L (in_framing number))) []
start_alive L number e five =
    let n = framing_next L [] five unfinished_nil (begins_nil (numbers 0 3) 0 One (omega arith) (inr ((omega arith, omega arith), tt))) in
    subst (λ (x : List ℕ). CanBecome (SomeOf (Rest L (in_framing x))) []) (sym e)
    (record { text = n.before ++ ((parts.Framing, n.byte) ∷ n.after); after = bytes_of (n.before ++ ((parts.Framing, n.byte) ∷ n.after)); spelled = n.spelled; begins = refl })
