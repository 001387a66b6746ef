-- A message by phases: where it stands, what is known of it, and what a step says.
use Rattle.std.specs.Prelude.{ℕ, ◌≡◌, ◌<◌, ◌≤◌, ◌+◌, ◌⊎◌, nat_lt, if◌then◌else◌, Option, Some, None, List, [], ◌∷◌, length, take, map}
use Rattle.bh_spec.specs.declared.Allowed.{Allowed}
use Rattle.bh_spec.specs.declared.Form.{Form}
use Rattle.bh_spec.specs.declared.Form.TheVariants.{Known, Indeterminate}
use Rattle.bh_spec.specs.declared.Part.{Part}
use Rattle.bh_spec.specs.declared.Kind.{Kind}
use Rattle.bh_spec.specs.Bounds.{Bounds, IsWithin, no_bounds}
use Rattle.bh_spec.specs.Integers.{SomeBegins}
use Rattle.bh_spec.specs.Messages.{Control, Field}
use Rattle.bh_spec.specs.Pieces.{SomeOf, CanBecome, IsDead, IsLimit}
use Rattle.bh_spec.specs.Spelling.{framing}
use Rattle.bh_spec.specs.Texts.{Text}
use Rattle.bh_varint.specs.Step.{IsUnfinished}
use Rattle.bh_model.specs.declared.field.Place.TheVariants.{Header}
use Rattle.bh_spec.specs.Readings.{Stage as SectionStage, idle, reading, whole, refused}
use Rattle.bh_fields.specs.Middle.{SectionView, Rest as section_rest}
use Rattle.bh_fields.specs.Sections.{SectionOf}
use Rattle.bh_fields.specs.Bytewise.{IsLeft as IsLeftOfSections}
use Rattle.bh_control.specs.Control.{ControlState, IsLeft, Rest as control_rest}
use Rattle.bh_control.specs.Numbers.{numbers}
use Rattle.bh_spec.specs.Items.{Item, Head, of_request, of_response, interim_response, head, content_byte, trailer_section}
use Rattle.bh_push.specs.declared.course.Course.{Course}
use Rattle.bh_push.specs.declared.course.Stage.{Stage}
use Rattle.bh_push.specs.declared.course.Stage.TheVariants as stages
use Rattle.bh_push.specs.declared.course.Stepped.{Stepped}
use Rattle.bh_push.specs.declared.course.Stepped.TheVariants as stepped
use Rattle.bh_push.specs.declared.course.Walked.{Walked as Walking}
use Rattle.bh_push.specs.declared.course.Walked.TheVariants as walking
use Rattle.bh_push.specs.Bodies.{at_of, IsBody}
use Rattle.bh_push.specs.Completing.{AfterFraming, InterimRest, AfterStart}
use Rattle.bh_push.specs.Hands.{kind_at}
use Rattle.bh_push.specs.Decoders.{At, Rest, in_framing, in_control, in_status, before_interim, in_interim, before_header, in_header, in_trailers, in_padding}
use Rattle.bh_push.specs.Standing.{Comes, IsLeastStatus, read_in, head_behind, LinesAre, IsRight, EndsWith, IsRunOver, IsPrompt}

-- ---- where it stands

-- the start of a head: the status of a response, or control data
abbrev pub head_of : Option ℕ → Control → Head
head_of None control = of_request control
head_of (Some status) control = of_response status

abbrev pub at_by : Stage → Course → At
at_by stages.Framing c = in_framing c.number
at_by (stages.Control form) c = in_control form (read_in c.control)
at_by (stages.Status form before) c = in_status form before c.number
at_by (stages.Interim form before status) c = in_interim form before status c.section
at_by (stages.BeforeInterim form before status) c = before_interim form before status
at_by (stages.BeforeHeader form) c = before_header form (head_of c.status c.control.control)
at_by (stages.Header form) c = in_header form (head_of c.status c.control.control) c.section
at_by stages.Content c = at_of c.body.phase c.body.form c.body.number
at_by (stages.Trailers form) c = in_trailers form c.section
at_by (stages.Padding before) c = in_padding before

abbrev pub place_of : Course → At
place_of c = at_by c.stage c

abbrev pub zeros_of : Stage → ℕ
zeros_of stages.Framing = 0
zeros_of (stages.Control form) = 0
zeros_of (stages.Status form before) = 0
zeros_of (stages.Interim form before status) = 0
zeros_of (stages.BeforeInterim form before status) = 0
zeros_of (stages.BeforeHeader form) = 0
zeros_of (stages.Header form) = 0
zeros_of stages.Content = 0
zeros_of (stages.Trailers form) = 0
zeros_of (stages.Padding before) = before

-- ---- what is known of it

-- a number of the set is begun
pub record IsCounted (set : Allowed) (begun : List ℕ) : Type 0 where
  pub live : SomeBegins set begun
  pub unfinished : IsUnfinished begun

-- some bytes lead to the section that is read, and it has a byte more
pub record IsSection (v : SectionView) : Type 0 where
  pub stage : v.stage ≡ reading
  pub left : IsLeftOfSections v.form v.place (λ K. section_rest K v)
  pub more : (fields : List Field) → section_rest v.limits v fields [] → ⊥

pub record IsControlData (v : ControlState) : Type 0 where
  pub stage : v.stage ≡ reading
  pub left : IsLeft v.limits v
  pub more : (control : Control) → control_rest v.limits v control [] → ⊥

-- the readers have its limits
pub record IsCourse (c : Course) : Type 0 where
  pub five : IsWithin c.limits.part 5
  pub control : c.control.limits ≡ c.limits
  pub section : c.section.limits ≡ c.limits

abbrev pub IsOpenBy : Stage → Course → Type 0
IsOpenBy stages.Framing c = IsCounted (numbers 0 3) c.number
IsOpenBy (stages.Control form) c = IsControlData c.control
IsOpenBy (stages.Status form before) c = IsWithin c.limits.interims before
    × ((least : ℕ) → IsLeastStatus c.limits before least → IsCounted (numbers least 599) c.number)
IsOpenBy (stages.BeforeInterim form before status) c = IsWithin c.limits.interims (before + 1)
IsOpenBy (stages.Interim form before status) c = IsWithin c.limits.interims (before + 1) × IsSection c.section
IsOpenBy (stages.BeforeHeader form) c = Unit {0}
IsOpenBy (stages.Header form) c = IsSection c.section
IsOpenBy stages.Content c = IsBody c.body.phase c.body.number
IsOpenBy (stages.Trailers form) c = IsSection c.section
IsOpenBy (stages.Padding before) c = Unit {0}

pub record IsOpen (c : Course) : Type 0 where
  pub course : IsCourse c
  pub at : IsOpenBy c.stage c

-- something completes a message from there, within the limits
abbrev pub IsAlive : Course → Type 0
IsAlive c = CanBecome (SomeOf (Rest c.limits (place_of c))) []

-- ---- what is shown of it

-- from the end of the header section on
abbrev pub head_shown : Stage → Head → Option Head
head_shown stages.Framing of = None
head_shown (stages.Control form) of = None
head_shown (stages.Status form before) of = None
head_shown (stages.BeforeInterim form before status) of = None
head_shown (stages.Interim form before status) of = None
head_shown (stages.BeforeHeader form) of = None
head_shown (stages.Header form) of = None
head_shown stages.Content of = Some of
head_shown (stages.Trailers form) of = Some of
head_shown (stages.Padding before) of = Some of

abbrev pub shown_head : Course → Option Head
shown_head c = head_shown c.stage (head_of c.status c.control.control)

-- the lines of a whole section
abbrev pub lines_in : SectionStage → List Field → Option (List Field)
lines_in idle lines = None
lines_in reading lines = None
lines_in whole lines = Some lines
lines_in refused lines = None

abbrev pub shown_lines : Course → Option (List Field)
shown_lines c = lines_in c.section.stage c.section.lines

-- a byte of a section was taken, and it isn't whole
abbrev pub InSection : Stage → Type 0
InSection stages.Framing = ⊥
InSection (stages.Control form) = ⊥
InSection (stages.Status form before) = ⊥
InSection (stages.BeforeInterim form before status) = ⊥
InSection (stages.Interim form before status) = Unit {0}
InSection (stages.BeforeHeader form) = ⊥
InSection (stages.Header form) = Unit {0}
InSection stages.Content = ⊥
InSection (stages.Trailers form) = Unit {0}
InSection (stages.Padding before) = ⊥

-- ---- what a step says

-- no section is read, and the lines stay
abbrev pub LinesKept : Course → Course → Type 0
LinesKept v w = (InSection v.stage → ⊥) × (shown_lines w ≡ shown_lines v)

-- so many bytes of the piece were taken, and yield the items
pub record Walked (v : Course) (piece : List ℕ) (taken : ℕ) (yields : List Item) (w : Course) : Type 0 where
  pub inside : taken ≤ length piece
  pub comes : Comes v.limits (place_of v) (take taken piece) yields (place_of w)
  pub limits : w.limits ≡ v.limits
  pub stays : IsOpen w
  pub zeros : zeros_of w.stage ≤ zeros_of v.stage + taken
  pub head : shown_head w ≡ head_behind yields (shown_head v)
  pub lines : LinesAre yields (InSection w.stage) (LinesKept v w) (shown_lines w)
  pub right : IsRight yields (place_of w)

-- one at least
pub record Taken (v : Course) (piece : List ℕ) (taken : ℕ) (yields : List Item) (w : Course) : Type 0 where
  pub some : 0 < taken
  pub walked : Walked v piece taken yields w

-- all the content of the length or chunk was taken, or all of the piece
abbrev pub IsFull : List ℕ → ℕ → At → Type 0
IsFull piece taken at = (taken ≡ length piece) ⊎ IsRunOver at

-- where a byte was refused, the limits and what is shown stay
pub record Stays (v w : Course) : Type 0 where
  pub limits : w.limits ≡ v.limits
  pub course : IsCourse w
  pub head : shown_head w ≡ shown_head v
  pub lines : InSection w.stage ⊎ LinesKept v w

-- the kind of the message
abbrev pub kind_now : Course → Option Kind
kind_now c = kind_at (place_of c) (shown_head c)

-- Where a byte stood that is refused: the bytes of the piece before it lead there and yield nothing, no event stands there, and the kind
-- is the one there.
pub record Stood (v : Course) (piece : List ℕ) (offset : ℕ) (w : Course) : Type 0 where
  pub at : At
  pub comes : Comes v.limits (place_of v) (take offset piece) [] at
  pub prompt : IsPrompt v.limits at
  pub kind : kind_now w ≡ kind_at at (shown_head v)

-- the same within a phase, in which the kind stays
pub record Halts (v : Course) (piece : List ℕ) (offset : ℕ) (w : Course) : Type 0 where
  pub at : At
  pub comes : Comes v.limits (place_of v) (take offset piece) [] at
  pub prompt : IsPrompt v.limits at
  pub there : kind_at at (shown_head v) ≡ kind_now v
  pub kind : kind_now w ≡ kind_now v

abbrev pub IsDeadAt : Course → List ℕ → ℕ → Part → Type 0
IsDeadAt v piece offset part = IsDead (SomeOf (Rest v.limits (place_of v))) (SomeOf (Rest no_bounds (place_of v))) [] piece offset part

abbrev pub IsLimitAt : Course → List ℕ → ℕ → Part → Type 0
IsLimitAt v piece offset part = IsLimit (SomeOf (Rest v.limits (place_of v))) (SomeOf (Rest no_bounds (place_of v))) [] piece offset part

abbrev pub Says : Course → List ℕ → Stepped → Course → Type 0
Says v piece (stepped.On taken) w = Taken v piece taken [] w
Says v piece (stepped.Interim taken status) w = Taken v piece taken (interim_response status w.section.lines ∷ []) w
Says v piece (stepped.Head taken) w = Taken v piece taken (head (head_of w.status w.control.control) w.section.lines ∷ []) w
Says v piece (stepped.Content taken bytes) w =
    Taken v piece taken (map content_byte bytes.now) w × EndsWith piece taken bytes.now × IsFull piece taken (place_of w)
Says v piece (stepped.Trailers taken) w = Taken v piece taken (trailer_section w.section.lines ∷ []) w
Says v piece (stepped.Dead offset part) w = IsDeadAt v piece offset part × Stays v w × Halts v piece offset w
Says v piece (stepped.Limit offset part) w = IsLimitAt v piece offset part × Stays v w × Halts v piece offset w

-- what the steps say, up to the first event
abbrev pub Walks : Course → List ℕ → Walking → Course → Type 0
Walks v piece walking.Need w = Walked v piece (length piece) [] w
Walks v piece (walking.Interim taken status) w = (0 < taken) × Walked v piece taken (interim_response status w.section.lines ∷ []) w
Walks v piece (walking.Head taken) w = (0 < taken) × Walked v piece taken (head (head_of w.status w.control.control) w.section.lines ∷ []) w
Walks v piece (walking.Content taken bytes) w =
    Walked v piece taken (map content_byte bytes.now) w × EndsWith piece taken bytes.now × IsFull piece taken (place_of w)
Walks v piece (walking.Trailers taken) w = (0 < taken) × Walked v piece taken (trailer_section w.section.lines ∷ []) w
Walks v piece (walking.Dead offset part) w = IsDeadAt v piece offset part × Stays v w × Stood v piece offset w
Walks v piece (walking.Limit offset part) w = IsLimitAt v piece offset part × Stays v w × Stood v piece offset w

-- ---- what follows a number

-- no head and no section is shown of it yet, and the lines before stay
pub record IsSilent (v w : Course) : Type 0 where
  pub head : shown_head w ≡ None
  pub outside : InSection w.stage → ⊥
  pub section : w.section ≡ v.section

abbrev pub form_at : ℕ → Form
form_at n = if nat_lt n 2 then Known else Indeterminate

-- exactly R completes a message from there, and no zero of padding came
pub record IsAt (R : Bounds → List Item → Text → Type 0) (w : Course) : Type 0 where
  pub zeros : zeros_of w.stage ≡ 0
  pub to : (K : Bounds) (q : List Item) (t : Text) → R K q t → Rest K (place_of w) q t
  pub from : (K : Bounds) (q : List Item) (t : Text) → Rest K (place_of w) q t → R K q t

-- what follows the framing number
pub record FollowsFraming (n : ℕ) (w : Course) : Type 0 where
  pub kind : Kind
  pub same : framing kind (form_at n) ≡ n
  pub at : IsAt (λ K. AfterFraming K (kind, form_at n)) w

-- what follows a status
abbrev pub FollowsInterim : Form → ℕ → ℕ → Course → Type 0
FollowsInterim form before status w = IsAt (λ K. InterimRest K form before status (SectionOf K form Header)) w

abbrev pub FollowsFinal : Form → ℕ → Course → Type 0
FollowsFinal form status w = IsAt (λ K. AfterStart K form (of_response status)) w
