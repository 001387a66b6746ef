-- The part of the next byte, in each stage.
use Rattle.std.proofs.Common.{◌≡◌, ◌≤◌, ◌+◌, ◌<◌, ◌⊎◌, ℕ, Option, Some, None, List, [], ◌∷◌, refl, sym, subst, inl, inr, arith}
use Rattle.std.proofs.lemmas.Bool.{cases_lt}
use Rattle.bh_spec.specs.declared.Form.{Form}
use Rattle.bh_spec.specs.declared.Omitted.TheVariants.{Nothing}
use Rattle.bh_spec.specs.declared.Part.{Part}
use Rattle.bh_spec.specs.declared.Part.TheVariants as parts
use Rattle.bh_spec.specs.Bounds.{Bounds, IsWithin}
use Rattle.bh_spec.specs.Pieces.{SomeOf, IsNext}
use Rattle.bh_spec.specs.Items.{Head, interim_response, head, trailer_section, ending, of_request}
use Rattle.bh_spec.proofs.Yields.{next_then}
use Rattle.bh_model.specs.declared.field.Place.TheVariants.{Header, Trailer}
use Rattle.bh_fields.specs.Middle.{Rest as section_rest}
use Rattle.bh_fields.specs.Readers.{IsWanted}
use Rattle.bh_fields.specs.Sections.{SectionOf}
use Rattle.bh_control.specs.Control.{IsWanted as ControlWanted, Rest as state_rest}
use Rattle.bh_push.specs.declared.body.Phase.{Phase}
use Rattle.bh_push.specs.declared.body.Phase.TheVariants as phases
use Rattle.bh_push.specs.declared.course.Course.{Course}
use Rattle.bh_push.specs.declared.course.Stage.{Stage}
use Rattle.bh_push.specs.declared.course.Stage.TheVariants as stages
use Rattle.bh_push.specs.Bodies.{at_of, IsBody}
use Rattle.bh_push.specs.Completing.{AfterStart, ResponseRest, TailRest, PaddingRest}
use Rattle.bh_push.specs.Courses.{at_by, place_of, head_of, IsOpen}
use Rattle.bh_push.specs.Decoders.{At, Rest, length_part, first_part_of, in_control, in_interim, in_header, in_trailers}
use Rattle.bh_push.specs.Standing.{IsLeastStatus, read_in}
use Rattle.bh_push.proofs.Bodies.{next_at}
use Rattle.bh_push.proofs.Courses.{open_by}
use Rattle.bh_push.proofs.Finishing.{run_next}
use Rattle.bh_push.proofs.Framings.{framing_next}
use Rattle.bh_push.proofs.Requests.{behind_control, first_of_header, first_of_trailers}
use Rattle.bh_push.proofs.Responding.{behind_interim}
use Rattle.bh_push.proofs.Sections.{behind_header, behind_trailers}
use Rattle.bh_push.proofs.StatusBytes.{status_next}

-- by the stage
next_in : (c : Course) (s : Stage) (part : Part) → c.stage ≡ s → IsNext (SomeOf (Rest c.limits (at_by s c))) [] part → IsNext (SomeOf (Rest c.limits (place_of c))) [] part
next_in c s part e n = subst (λ (x : Stage). IsNext (SomeOf (Rest c.limits (at_by x c))) [] part) (sym e) n

-- by the limits of a reader
next_of : (L M : Bounds) (v : At) (part : Part) → M ≡ L → IsNext (SomeOf (Rest M v)) [] part → IsNext (SomeOf (Rest L v)) [] part
next_of L M v part e n = subst (λ (K : Bounds). IsNext (SomeOf (Rest K v)) [] part) e n

pub next_framing : (c : Course) → c.stage ≡ stages.Framing → IsOpen c → IsNext (SomeOf (Rest c.limits (place_of c))) [] parts.Framing
next_framing c e o =
    let s = open_by c stages.Framing e o in
    next_in c stages.Framing parts.Framing e (framing_next c.limits c.number o.course.five s.unfinished s.live)

pub next_control : (c : Course) (form : Form) (part : Part) → c.stage ≡ stages.Control form → IsOpen c → IsNext (ControlWanted c.control) [] part → IsNext (SomeOf (Rest c.limits (place_of c))) [] part
next_control c form part e o n =
    let v = c.control in
    next_in c (stages.Control form) part e
    (next_of c.limits v.limits (in_control form (read_in v)) part o.course.control
    (next_then (state_rest v.limits v) (λ control. []) (λ control. AfterStart v.limits form (of_request control)) (behind_control v.limits form (state_rest v.limits v)) [] part n))

decide : (o : Option ℕ) (n : ℕ) → IsWithin o n ⊎ (IsWithin o n → ⊥)
decide None n = inl tt
decide (Some most) n = at (cases_lt most n)
  where
    at : (most < n) ⊎ (n ≤ most) → (n ≤ most) ⊎ (n ≤ most → ⊥)
    at (inl lt) = inr (λ h. omega (arith, lt, h))
    at (inr ge) = inl ge

pub some_least : (L : Bounds) (before : ℕ) → (least : ℕ) × IsLeastStatus L before least
some_least L before = at (decide L.interims (before + 1))
  where
    at : IsWithin L.interims (before + 1) ⊎ (IsWithin L.interims (before + 1) → ⊥) → (least : ℕ) × IsLeastStatus L before least
    at (inl h) = (100, inl (refl, h))
    at (inr h) = (200, inr (refl, h))

pub next_status : (c : Course) (form : Form) (before : ℕ) → c.stage ≡ stages.Status form before → IsOpen c → IsNext (SomeOf (Rest c.limits (place_of c))) [] parts.Status
next_status c form before e o =
    let s = open_by c (stages.Status form before) e o in
    let least = some_least c.limits before in
    let b = s.1 least.0 least.1 in
    next_in c (stages.Status form before) parts.Status e (status_next c.limits form before least.0 c.number s.0 least.1 b.unfinished b.live)

pub next_before_interim : (c : Course) (form : Form) (before status : ℕ) → c.stage ≡ stages.BeforeInterim form before status → IsOpen c
    → IsNext (SomeOf (Rest c.limits (place_of c))) [] (first_part_of form)
next_before_interim c form before status e o =
    let few = open_by c (stages.BeforeInterim form before status) e o in
    next_in c (stages.BeforeInterim form before status) (first_part_of form) e
    (next_then (SectionOf c.limits form Header) (λ i. interim_response status i ∷ []) (λ i. ResponseRest c.limits form (before + 1))
    (behind_interim c.limits form before (SectionOf c.limits form Header) few) [] (first_part_of form) (first_of_header c.limits form))

pub next_before_header : (c : Course) (form : Form) → c.stage ≡ stages.BeforeHeader form → IsNext (SomeOf (Rest c.limits (place_of c))) [] (first_part_of form)
next_before_header c form e =
    let of : Head = head_of c.status c.control.control in
    next_in c (stages.BeforeHeader form) (first_part_of form) e
    (next_then (SectionOf c.limits form Header) (λ i. head of i ∷ []) (λ i. TailRest c.limits form)
    (behind_header form of c.limits (SectionOf c.limits form Header)) [] (first_part_of form) (first_of_header c.limits form))

pub next_interim : (c : Course) (form : Form) (before status : ℕ) (part : Part) → c.stage ≡ stages.Interim form before status → IsOpen c → IsNext (IsWanted c.section) [] part
    → IsNext (SomeOf (Rest c.limits (place_of c))) [] part
next_interim c form before status part e o n =
    let v = c.section in
    let s = open_by c (stages.Interim form before status) e o in
    let few : IsWithin v.limits.interims (before + 1) = subst (λ (L : Bounds). IsWithin L.interims (before + 1)) (sym o.course.section) s.0 in
    next_in c (stages.Interim form before status) part e
    (next_of c.limits v.limits (in_interim form before status v) part o.course.section
    (next_then (section_rest v.limits v) (λ i. interim_response status i ∷ []) (λ i. ResponseRest v.limits form (before + 1))
    (behind_interim v.limits form before (section_rest v.limits v) few) [] part n))

pub next_header : (c : Course) (form : Form) (part : Part) → c.stage ≡ stages.Header form → IsOpen c → IsNext (IsWanted c.section) [] part → IsNext (SomeOf (Rest c.limits (place_of c))) [] part
next_header c form part e o n =
    let v = c.section in
    let of : Head = head_of c.status c.control.control in
    next_in c (stages.Header form) part e
    (next_of c.limits v.limits (in_header form of v) part o.course.section
    (next_then (section_rest v.limits v) (λ i. head of i ∷ []) (λ i. TailRest v.limits form) (behind_header form of v.limits (section_rest v.limits v)) [] part n))

pub next_trailers : (c : Course) (form : Form) (part : Part) → c.stage ≡ stages.Trailers form → IsOpen c → IsNext (IsWanted c.section) [] part → IsNext (SomeOf (Rest c.limits (place_of c))) [] part
next_trailers c form part e o n =
    let v = c.section in
    next_in c (stages.Trailers form) part e
    (next_of c.limits v.limits (in_trailers form v) part o.course.section
    (next_then (section_rest v.limits v) (λ i. trailer_section i ∷ []) (λ i. PaddingRest 0) (behind_trailers (section_rest v.limits v)) [] part n))

pub next_padding : (c : Course) (before : ℕ) → c.stage ≡ stages.Padding before → IsNext (SomeOf (Rest c.limits (place_of c))) [] parts.Padding
next_padding c before e =
    next_in c (stages.Padding before) parts.Padding e (record { before = []; byte = 0; after = []; spelled = (ending Nothing (before + 1) ∷ [], (1, refl, refl)); begins = refl })

-- ---- content

-- the part that is next by the phase
abbrev pub IsPart : Phase → Form → Part → Type 0
IsPart phases.Head form part = part ≡ length_part form
IsPart phases.Length form part = part ≡ length_part form
IsPart (phases.Run missing) form part = part ≡ parts.Content
IsPart phases.Over form part = part ≡ first_part_of form

next_body : (L : Bounds) (phase : Phase) (form : Form) (number : List ℕ) (part : Part) → IsBody phase number → IsPart phase form part → IsNext (SomeOf (Rest L (at_of phase form number))) [] part
next_body L phases.Head form number part b e = subst (IsNext (SomeOf (Rest L (at_of phases.Head form number))) []) (sym e) (next_at L phases.Head form number b tt)
next_body L phases.Length form number part b e = subst (IsNext (SomeOf (Rest L (at_of phases.Length form number))) []) (sym e) (next_at L phases.Length form number b tt)
next_body L (phases.Run missing) form number part b e = subst (IsNext (SomeOf (Rest L (at_of (phases.Run missing) form number))) []) (sym e) (run_next L form missing b.0)
next_body L phases.Over form number part b e =
    let n = next_then (SectionOf L form Trailer) (λ i. trailer_section i ∷ []) (λ i. PaddingRest 0) (behind_trailers (SectionOf L form Trailer)) [] (first_part_of form) (first_of_trailers L form) in
    subst (IsNext (SomeOf (Rest L (at_of phases.Over form number))) []) (sym e)
    (record { before = n.before; byte = n.byte; after = n.after; spelled = (n.spelled.0, inr n.spelled.1); begins = n.begins })

pub next_content : (c : Course) (phase : Phase) (part : Part) → c.stage ≡ stages.Content → IsOpen c → c.body.phase ≡ phase → IsPart phase c.body.form part
    → IsNext (SomeOf (Rest c.limits (place_of c))) [] part
next_content c phase part e o f p =
    next_in c stages.Content part e
    (next_body c.limits c.body.phase c.body.form c.body.number part (open_by c stages.Content e o) (subst (λ (x : Phase). IsPart x c.body.form part) (sym f) p))
