-- A step from a phase to a phase.
use Rattle.std.proofs.Common.{◌≡◌, ◌≤◌, ◌+◌, ◌<◌, ℕ, zero, suc, Option, Some, None, List, [], ◌∷◌, ◌++◌, length, take, get_or, refl, sym, ap, subst, ◌∙◌, append-nil, arith, inl, inr, ◌⊎◌}
use Rattle.std.proofs.Math.Seq.{take-length}
use Rattle.bh_spec.specs.declared.Form.{Form}
use Rattle.bh_spec.specs.declared.Kind.{Kind}
use Rattle.bh_spec.specs.declared.Kind.TheVariants.{Request, Response}
use Rattle.bh_spec.specs.declared.Part.{Part}
use Rattle.bh_spec.specs.declared.Part.TheVariants as parts
use Rattle.bh_spec.specs.declared.Omitted.TheVariants.{Nothing}
use Rattle.bh_spec.specs.Bounds.{Bounds, IsWithin, no_bounds}
use Rattle.bh_spec.specs.Messages.{Control}
use Rattle.bh_spec.specs.Pieces.{SomeOf, IsText, CanBecome, Ends, GoesOn, IsNext, IsRefused, IsDead, IsLimit}
use Rattle.bh_spec.specs.Texts.{Text, bytes_of}
use Rattle.bh_spec.specs.declared.PieceStep.{PieceStep}
use Rattle.bh_spec.specs.Readings.{Stage as SectionStage, whole, Shows as ReaderShows}
use Rattle.bh_fields.specs.Middle.{SectionView, Rest as section_rest}
use Rattle.bh_control.specs.Control.{ControlState}
use Rattle.bh_fields.specs.Readers.{IsWanted, IsUnlimited, IsOnTheWay, IsBehind}
use Rattle.bh_spec.specs.declared.PieceStep.TheVariants as sections
use Rattle.bh_spec.specs.Items.{Item, Head, head, trailer_section, ending}
use Rattle.bh_spec.specs.Readers.{Moves}
use Rattle.bh_spec.specs.Residuals.{IsResidual}
use Rattle.bh_push.specs.declared.course.Course.{Course}
use Rattle.bh_push.specs.declared.course.Stage.{Stage}
use Rattle.bh_push.specs.declared.course.Stage.TheVariants as stages
use Rattle.bh_push.specs.declared.course.Stepped.TheVariants as stepped
use Rattle.bh_push.specs.declared.body.Phase.{Phase}
use Rattle.bh_push.specs.declared.body.Phase.TheVariants as phases
use Rattle.bh_push.specs.Bodies.{at_of, IsBody}
use Rattle.bh_push.specs.Decoders.{At, Rest, in_header, behind_head, in_trailers, in_padding}
use Rattle.bh_push.specs.Hands.{kind_of_head, kind_of_shown, kind_at}
use Rattle.bh_push.specs.Ending.{kind_by_status}
use Rattle.bh_push.specs.Standing.{Comes, head_behind, LinesAre, IsRight, IsWhole, IsPrompt}
use Rattle.bh_push.specs.Courses.{head_shown, shown_head, lines_in, shown_lines, InSection, LinesKept, Stays, Halts, kind_now, head_of, at_by, place_of, zeros_of, IsSection, IsCourse, IsOpenBy, IsOpen, Taken, Says, IsAt}
use Rattle.bh_spec.proofs.Residuals.{residual_here, residual_step}
use Rattle.bh_spec.proofs.Pieces.{next_becomes, next_unfinished}
use Rattle.bh_push.proofs.Ends.{padding_zero, padding_dead}
use Rattle.bh_push.proofs.Framings.{byte_dead}
use Rattle.bh_push.proofs.Sections.{header_goes_on, header_whole, header_dead, header_limit, trailers_go_on, trailers_whole, trailers_dead, trailers_limit, section_reader, begun_on, weaker}

-- ---- generic

-- what is shown, by the stages before and behind
pub record Shown (c d : Course) (yields : List Item) (s t : Stage) : Type 0 where
  pub head : head_shown t (head_of d.status d.control.control) ≡ head_behind yields (head_shown s (head_of c.status c.control.control))
  pub lines : LinesAre yields (InSection t) ((InSection s → ⊥) × (shown_lines d ≡ shown_lines c)) (shown_lines d)
  pub right : IsRight yields (at_by t d)

pub taken_of : (c d : Course) (piece : List ℕ) (taken : ℕ) (yields : List Item) (s t : Stage) → c.stage ≡ s → d.stage ≡ t → 0 < taken → taken ≤ length piece
    → Comes c.limits (at_by s c) (take taken piece) yields (at_by t d) → d.limits ≡ c.limits → IsCourse d → IsOpenBy t d → zeros_of t ≤ zeros_of s + taken → Shown c d yields s t
    → Taken c piece taken yields d
taken_of c d piece taken yields s t e f some inside comes limits course at zeros shown = record {
  some = some;
  walked = record {
    inside = inside;
    comes = subst (λ (x : Stage). Comes c.limits (at_by x c) (take taken piece) yields (place_of d)) (sym e)
        (subst (λ (x : Stage). Comes c.limits (at_by s c) (take taken piece) yields (at_by x d)) (sym f) comes);
    limits = limits;
    stays = record { course = course; at = subst (λ (x : Stage). IsOpenBy x d) (sym f) at };
    zeros = subst (λ (x : Stage). zeros_of d.stage ≤ zeros_of x + taken) (sym e) (subst (λ (x : Stage). zeros_of x ≤ zeros_of s + taken) (sym f) zeros);
    head = subst (λ (x : Stage). head_shown x (head_of d.status d.control.control) ≡ head_behind yields (shown_head c)) (sym f)
        (subst (λ (x : Stage). head_shown t (head_of d.status d.control.control) ≡ head_behind yields (head_shown x (head_of c.status c.control.control))) (sym e) shown.head);
    lines = subst (λ (x : Stage). LinesAre yields (InSection x) (LinesKept c d) (shown_lines d)) (sym f)
        (subst (λ (x : Stage). LinesAre yields (InSection t) ((InSection x → ⊥) × (shown_lines d ≡ shown_lines c)) (shown_lines d)) (sym e) shown.lines);
    right = subst (λ (x : Stage). IsRight yields (at_by x d)) (sym f) shown.right;
  };
}

-- a byte is refused in a stage
pub stays_in : (c d : Course) (s : Stage) → c.stage ≡ s → d.stage ≡ s → IsOpen c → d.limits ≡ c.limits → d.control.limits ≡ c.control.limits → d.section.limits ≡ c.section.limits
    → head_shown s (head_of d.status d.control.control) ≡ head_shown s (head_of c.status c.control.control) → InSection s ⊎ ((InSection s → ⊥) × (shown_lines d ≡ shown_lines c)) → Stays c d
stays_in c d s e f o limits control section shows lines = record {
  limits = limits;
  course = record {
    five = subst (λ (L : Bounds). IsWithin L.part 5) (sym limits) o.course.five;
    control = control ∙ o.course.control ∙ sym limits;
    section = section ∙ o.course.section ∙ sym limits;
  };
  head = subst (λ (x : Stage). head_shown x (head_of d.status d.control.control) ≡ shown_head c) (sym f)
      (subst (λ (x : Stage). head_shown s (head_of d.status d.control.control) ≡ head_shown x (head_of c.status c.control.control)) (sym e) shows);
  lines = subst (λ (x : Stage). InSection x ⊎ LinesKept c d) (sym f)
      (subst (λ (x : Stage). InSection s ⊎ ((InSection x → ⊥) × (shown_lines d ≡ shown_lines c))) (sym e) lines);
}

-- ---- the kind, and where a byte stood that is refused

-- the kind in a stage
abbrev kind_in : Stage → Option ℕ → Option Kind
kind_in stages.Framing status = None
kind_in (stages.Control form) status = Some Request
kind_in (stages.Status form before) status = Some Response
kind_in (stages.BeforeInterim form before code) status = Some Response
kind_in (stages.Interim form before code) status = Some Response
kind_in (stages.BeforeHeader form) status = Some (kind_by_status status)
kind_in (stages.Header form) status = Some (kind_by_status status)
kind_in stages.Content status = Some (kind_by_status status)
kind_in (stages.Trailers form) status = Some (kind_by_status status)
kind_in (stages.Padding before) status = Some (kind_by_status status)

kind_of_start : (status : Option ℕ) (control : Control) → kind_of_head (head_of status control) ≡ kind_by_status status
kind_of_start None control = refl
kind_of_start (Some status) control = refl

pub body_kind : (phase : Phase) (form : Form) (number : List ℕ) (shown : Option Head) → kind_at (at_of phase form number) shown ≡ kind_of_shown shown
body_kind phases.Head form number shown = refl
body_kind phases.Length form number shown = refl
body_kind (phases.Run missing) form number shown = refl
body_kind phases.Over form number shown = refl

stage_kind : (s : Stage) (c : Course) → kind_at (at_by s c) (head_shown s (head_of c.status c.control.control)) ≡ kind_in s c.status
stage_kind stages.Framing c = refl
stage_kind (stages.Control form) c = refl
stage_kind (stages.Status form before) c = refl
stage_kind (stages.BeforeInterim form before code) c = refl
stage_kind (stages.Interim form before code) c = refl
stage_kind (stages.BeforeHeader form) c = ap (λ (k : Kind). Some k) (kind_of_start c.status c.control.control)
stage_kind (stages.Header form) c = ap (λ (k : Kind). Some k) (kind_of_start c.status c.control.control)
stage_kind stages.Content c =
    body_kind c.body.phase c.body.form c.body.number (Some (head_of c.status c.control.control)) ∙ ap (λ (k : Kind). Some k) (kind_of_start c.status c.control.control)
stage_kind (stages.Trailers form) c = ap (λ (k : Kind). Some k) (kind_of_start c.status c.control.control)
stage_kind (stages.Padding before) c = ap (λ (k : Kind). Some k) (kind_of_start c.status c.control.control)

kind_by_stage : (c : Course) (s : Stage) → c.stage ≡ s → kind_now c ≡ kind_in s c.status
kind_by_stage c s e = stage_kind c.stage c ∙ ap (λ (x : Stage). kind_in x c.status) e

-- the kind is of the stage and the status
same_kind : (c d : Course) (s t : Stage) → c.stage ≡ s → d.stage ≡ t → kind_in t c.status ≡ kind_in s c.status → d.status ≡ c.status → kind_now d ≡ kind_now c
same_kind c d s t e f same status = kind_by_stage d t f ∙ ap (kind_in t) status ∙ same ∙ sym (kind_by_stage c s e)

pub header_kind : (c d : Course) (form : Form) → c.stage ≡ stages.BeforeHeader form → d.stage ≡ stages.Header form → d.status ≡ c.status → kind_now d ≡ kind_now c
header_kind c d form e f status = same_kind c d (stages.BeforeHeader form) (stages.Header form) e f refl status

pub interim_kind : (c d : Course) (form : Form) (before code : ℕ) → c.stage ≡ stages.BeforeInterim form before code → d.stage ≡ stages.Interim form before code → d.status ≡ c.status → kind_now d ≡ kind_now c
interim_kind c d form before code e f status = same_kind c d (stages.BeforeInterim form before code) (stages.Interim form before code) e f refl status

pub halts_at : (c d : Course) (piece : List ℕ) (offset : ℕ) (s : Stage) (at : At) → c.stage ≡ s → d.stage ≡ s → d.status ≡ c.status → Comes c.limits (at_by s c) (take offset piece) [] at
    → IsPrompt c.limits at → ((shown : Option Head) → kind_at at shown ≡ kind_at (at_by s c) shown) → Halts c piece offset d
halts_at c d piece offset s at e f status comes prompt kind = record {
  at = at;
  comes = subst (λ (x : Stage). Comes c.limits (at_by x c) (take offset piece) [] at) (sym e) comes;
  prompt = prompt;
  there = kind (shown_head c) ∙ ap (λ (x : Stage). kind_at (at_by x c) (shown_head c)) (sym e);
  kind = same_kind c d s s e f refl status;
}

-- no byte before it
pub comes_here : (L : Bounds) (v : At) (part : Part) → IsNext (SomeOf (Rest L v)) [] part → Comes L v [] [] v
comes_here L v part next = record { within = residual_here (Rest L v); anyway = residual_here (Rest no_bounds v); goes_on = next_becomes (SomeOf (Rest L v)) [] part next }

pub halts_here : (c d : Course) (piece : List ℕ) (part : Part) (s : Stage) → c.stage ≡ s → d.stage ≡ s → d.status ≡ c.status → IsPrompt c.limits (at_by s c) → IsNext (SomeOf (Rest c.limits (at_by s c))) [] part
    → Halts c piece 0 d
halts_here c d piece part s e f status prompt next = halts_at c d piece 0 s (at_by s c) e f status (comes_here c.limits (at_by s c) part next) prompt (λ shown. refl)

pub dead_of : (c d : Course) (piece : List ℕ) (offset : ℕ) (part : Part) (s : Stage) → c.stage ≡ s → IsDead (SomeOf (Rest c.limits (at_by s c))) (SomeOf (Rest no_bounds (at_by s c))) [] piece offset part
    → Stays c d → Halts c piece offset d → Says c piece (stepped.Dead offset part) d
dead_of c d piece offset part s e h stays halts =
    (subst (λ (x : Stage). IsDead (SomeOf (Rest c.limits (at_by x c))) (SomeOf (Rest no_bounds (at_by x c))) [] piece offset part) (sym e) h, stays, halts)

pub limit_of : (c d : Course) (piece : List ℕ) (offset : ℕ) (part : Part) (s : Stage) → c.stage ≡ s → IsLimit (SomeOf (Rest c.limits (at_by s c))) (SomeOf (Rest no_bounds (at_by s c))) [] piece offset part
    → Stays c d → Halts c piece offset d → Says c piece (stepped.Limit offset part) d
limit_of c d piece offset part s e h stays halts =
    (subst (λ (x : Stage). IsLimit (SomeOf (Rest c.limits (at_by x c))) (SomeOf (Rest no_bounds (at_by x c))) [] piece offset part) (sym e) h, stays, halts)

-- the lines of a whole section are shown
pub whole_lines : (d : Course) → d.section.stage ≡ whole → shown_lines d ≡ Some d.section.lines
whole_lines d e = ap (λ (s : SectionStage). lines_in s d.section.lines) e

-- a reader that stays shows the same
pub same_lines_shown : (c d : Course) → d.section ≡ c.section → shown_lines d ≡ shown_lines c
same_lines_shown c d e = ap (λ (v : SectionView). lines_in v.stage v.lines) e

pub open_by : (c : Course) (s : Stage) → c.stage ≡ s → IsOpen c → IsOpenBy s c
open_by c s e h = subst (λ (x : Stage). IsOpenBy x c) e h.at

-- the same in other words
pub residual_into : (R S T : List Item → Text → Type 0) (bytes : List ℕ) (f : List Item → List Item) → IsResidual R bytes f S → ((q : List Item) (t : Text) → S q t → T q t)
    → ((q : List Item) (t : Text) → T q t → S q t) → IsResidual R bytes f T
residual_into R S T bytes f r to from = record {
  text = r.text;
  same = r.same;
  forth = λ q u more h e.
      let p = r.forth q u more h e in
      record { thing = p.thing; rest = p.rest; spelled = to p.thing p.rest p.spelled; same = p.same; joined = p.joined };
  back = λ q t h. r.back q t (from q t h);
}

becomes_into : (S T : List Item → Text → Type 0) → ((q : List Item) (t : Text) → S q t → T q t) → CanBecome (SomeOf S) [] → CanBecome (SomeOf T) []
becomes_into S T to c = record { text = c.text; after = c.after; spelled = (c.spelled.0, to c.spelled.0 c.text c.spelled.1); begins = c.begins }

-- where exactly R completes a message
pub moves_at : (L : Bounds) (v : At) (R : Bounds → List Item → Text → Type 0) (w : Course) (bytes : List ℕ) (yields : List Item) → Moves (Rest L v) (Rest no_bounds v) (R L) (R no_bounds) bytes yields
    → IsAt R w → Comes L v bytes yields (place_of w)
moves_at L v R w bytes yields m a = record {
  within = residual_into (Rest L v) (R L) (Rest L (place_of w)) bytes (λ q. yields ++ q) m.within (a.to L) (a.from L);
  anyway = residual_into (Rest no_bounds v) (R no_bounds) (Rest no_bounds (place_of w)) bytes (λ q. yields ++ q) m.anyway (a.to no_bounds) (a.from no_bounds);
  goes_on = becomes_into (R L) (Rest L (place_of w)) (a.to L) m.goes_on;
}

-- ---- sections

-- what the answer of the reader says of a piece
abbrev pub SectionShows : SectionView → List ℕ → PieceStep → Type 0
SectionShows v piece step = ReaderShows (IsWanted v) (IsUnlimited v) [] piece step

-- nothing more completes what goes on
pub goes_more : {I : Type 0} (A B : I → Text → Type 0) (piece : List ℕ) → IsResidual A piece (λ i. i) B → GoesOn (SomeOf A) [] piece → (i : I) → B i [] → ⊥
goes_more A B piece r g i h =
    g.unfinished (length piece) (record {
      within = omega arith;
      whole = subst (IsText (SomeOf A)) (sym (take-length piece)) (record { text = r.text ++ []; spelled = (i, r.back i [] h); same = ap bytes_of (append-nil r.text) ∙ r.same });
    })

pub section_on : (v w : SectionView) (piece : List ℕ) → IsSection v → IsBehind v piece sections.Need w → SectionShows v piece sections.Need → IsSection w
section_on v w piece s b g = record {
  stage = b.stage;
  left = begun_on v w piece s.left b.leads b.form b.place;
  more = λ fields h.
      goes_more (section_rest v.limits v) (section_rest v.limits w) piece (b.leads v.limits) g fields (subst (λ (L : Bounds). section_rest L w fields []) b.limits h);
}

-- what isn't whole with nothing more takes a byte at least
pub some_taken : {I : Type 0} (A : I → Text → Type 0) (piece : List ℕ) (taken : ℕ) → ((i : I) → A i [] → ⊥) → Ends (SomeOf A) [] piece taken → 0 < taken
some_taken A piece (suc taken) more e = omega arith
some_taken A piece zero more e = absurd (at e.whole.text e.whole.spelled.1 e.whole.same)
  where
    at : (t : Text) → A e.whole.spelled.0 t → bytes_of t ≡ [] → ⊥
    at [] h f = more e.whole.spelled.0 h
    at (b ∷ t) h f = cc

pub whole_some : (v : SectionView) (piece : List ℕ) (taken : ℕ) → IsSection v → SectionShows v piece (sections.Whole taken) → 0 < taken
whole_some v piece taken s e = some_taken (section_rest v.limits v) piece taken s.more e

pub keeps : (c d : Course) → IsCourse c → d.limits ≡ c.limits → d.control.limits ≡ c.control.limits → d.section.limits ≡ c.section.limits → IsCourse d
keeps c d h e f g = record {
  five = subst (λ (L : Bounds). IsWithin L.part 5) (sym e) h.five;
  control = f ∙ h.control ∙ sym e;
  section = g ∙ h.section ∙ sym e;
}

-- the head stays where what it is made of does
pub head_kept : (c d : Course) → d.control ≡ c.control → d.status ≡ c.status → Some (head_of d.status d.control.control) ≡ Some (head_of c.status c.control.control)
head_kept c d control status = ap (λ (x : Option ℕ). Some (head_of x d.control.control)) status ∙ ap (λ (x : ControlState). Some (head_of c.status x.control)) control

-- ---- the header section

pub header_need : (c d : Course) (form : Form) (piece : List ℕ) → c.stage ≡ stages.Header form → d.stage ≡ stages.Header form → IsOpen c → 0 < length piece
    → IsBehind c.section piece sections.Need d.section → SectionShows c.section piece sections.Need → d.limits ≡ c.limits → d.control.limits ≡ c.control.limits
    → head_of c.status c.control.control ≡ head_of d.status d.control.control → Says c piece (stepped.On (length piece)) d
header_need c d form piece e f o some b g limits control same =
    let v = c.section in
    let w = d.section in
    let of : Head = head_of c.status c.control.control in
    let s : IsSection v = open_by c (stages.Header form) e o in
    let m : Comes v.limits (in_header form of v) piece [] (in_header form of w) = header_goes_on form of v w piece s.left b.leads b.limits g in
    let n : Comes c.limits (in_header form of v) piece [] (in_header form of w) = subst (λ (L : Bounds). Comes L (in_header form of v) piece [] (in_header form of w)) o.course.section m in
    taken_of c d piece (length piece) [] (stages.Header form) (stages.Header form) e f some (omega arith)
    (subst (λ (x : List ℕ). Comes c.limits (in_header form of v) x [] (in_header form (head_of d.status d.control.control) w)) (sym (take-length piece))
    (subst (λ (x : Head). Comes c.limits (in_header form of v) piece [] (in_header form x w)) same n))
    limits (keeps c d o.course limits control b.limits) (section_on v w piece s b g) (omega arith) (record { head = refl; lines = inl tt; right = tt })

-- what a reader refuses
pub dead_in : (L M : Bounds) (v : At) (piece : List ℕ) (offset : ℕ) (part : Part) → M ≡ L → IsDead (SomeOf (Rest M v)) (SomeOf (Rest no_bounds v)) [] piece offset part
    → IsDead (SomeOf (Rest L v)) (SomeOf (Rest no_bounds v)) [] piece offset part
dead_in L M v piece offset part e h = subst (λ (K : Bounds). IsDead (SomeOf (Rest K v)) (SomeOf (Rest no_bounds v)) [] piece offset part) e h

pub limit_in : (L M : Bounds) (v : At) (piece : List ℕ) (offset : ℕ) (part : Part) → M ≡ L → IsLimit (SomeOf (Rest M v)) (SomeOf (Rest no_bounds v)) [] piece offset part
    → IsLimit (SomeOf (Rest L v)) (SomeOf (Rest no_bounds v)) [] piece offset part
limit_in L M v piece offset part e h = subst (λ (K : Bounds). IsLimit (SomeOf (Rest K v)) (SomeOf (Rest no_bounds v)) [] piece offset part) e h

-- the lines that are read complete the section with nothing more, without limits too
pub free_lines : (v w : SectionView) (piece : List ℕ) (taken : ℕ) → IsSection v → IsBehind v piece (sections.Whole taken) w → section_rest no_bounds w w.lines []
free_lines v w piece taken s b =
    weaker w (begun_on v w (take taken piece) s.left b.leads.0 b.form b.place) w.limits w.lines [] b.leads.1

pub same_lines : (v w : SectionView) (piece : List ℕ) (taken : ℕ) → IsBehind v piece (sections.Whole taken) w → section_rest v.limits w w.lines []
same_lines v w piece taken b = subst (λ (L : Bounds). section_rest L w w.lines []) b.limits b.leads.1

pub header_end : (c d : Course) (form : Form) (piece : List ℕ) (taken : ℕ) → c.stage ≡ stages.Header form → d.stage ≡ stages.Content → d.body.form ≡ form → d.body.phase ≡ phases.Head
    → d.body.number ≡ [] → IsOpen c → SectionShows c.section piece (sections.Whole taken) → IsBehind c.section piece (sections.Whole taken) d.section → d.limits ≡ c.limits → d.control.limits ≡ c.control.limits
    → head_of c.status c.control.control ≡ head_of d.status d.control.control → Says c piece (stepped.Head taken) d
header_end c d form piece taken e f formed headed none o ends b limits control same =
    let v = c.section in
    let w = d.section in
    let of : Head = head_of c.status c.control.control in
    let s : IsSection v = open_by c (stages.Header form) e o in
    let m : Comes v.limits (in_header form of v) (take taken piece) (head of w.lines ∷ []) (behind_head form) =
    header_whole form of v w (take taken piece) w.lines s.left b.leads.0 (same_lines v w piece taken b) (free_lines v w piece taken s b) in
    let n : Comes c.limits (in_header form of v) (take taken piece) (head of w.lines ∷ []) (behind_head form) =
    subst (λ (L : Bounds). Comes L (in_header form of v) (take taken piece) (head of w.lines ∷ []) (behind_head form)) o.course.section m in
    let here : behind_head form ≡ at_by stages.Content d = ap behind_head (sym formed) ∙ ap (λ (x : Phase). at_of x d.body.form d.body.number) (sym headed) in
    taken_of c d piece taken (head (head_of d.status d.control.control) w.lines ∷ []) (stages.Header form) stages.Content e f (whole_some v piece taken s ends) ends.within
    (subst (λ (x : At). Comes c.limits (in_header form of v) (take taken piece) (head (head_of d.status d.control.control) w.lines ∷ []) x) here
    (subst (λ (x : Head). Comes c.limits (in_header form of v) (take taken piece) (head x w.lines ∷ []) (behind_head form)) same n))
    limits (keeps c d o.course limits control b.limits) (subst (λ (x : Phase). IsBody x d.body.number) (sym headed) none) (omega arith) (record { head = refl; lines = whole_lines d b.stage; right = (form, sym here) })

-- a section goes on up to a byte that is refused
pub refused_on : (v : SectionView) (piece : List ℕ) (offset : ℕ) (part : Part) → IsSection v → IsRefused (IsWanted v) [] piece offset part → GoesOn (IsWanted v) [] (take offset piece)
refused_on v piece offset part s r = next_unfinished (IsWanted v) (section_reader v s.left).once [] (take offset piece) part r.next

-- and isn't whole before it
pub way_prompt : (L : Bounds) (v u : SectionView) (piece : List ℕ) (offset : ℕ) (part : Part) → v.limits ≡ L → IsSection v → IsRefused (IsWanted v) [] piece offset part
    → IsOnTheWay v (take offset piece) u → IsWhole L u → ⊥
way_prompt L v u piece offset part e s r k w =
    goes_more (section_rest v.limits v) (section_rest v.limits u) (take offset piece) (k.leads v.limits) (refused_on v piece offset part s r) w.0 (subst (λ (K : Bounds). section_rest K u w.0 []) (sym e) w.1)

header_halts : (c d : Course) (form : Form) (piece : List ℕ) (offset : ℕ) (part : Part) → c.stage ≡ stages.Header form → d.stage ≡ stages.Header form → IsOpen c → d.status ≡ c.status
    → IsRefused (IsWanted c.section) [] piece offset part → (u : SectionView) → IsOnTheWay c.section (take offset piece) u → Halts c piece offset d
header_halts c d form piece offset part e f o status r u k =
    let v = c.section in
    let of : Head = head_of c.status c.control.control in
    let s : IsSection v = open_by c (stages.Header form) e o in
    let m : Comes v.limits (in_header form of v) (take offset piece) [] (in_header form of u) =
    header_goes_on form of v u (take offset piece) s.left k.leads k.same.limits (refused_on v piece offset part s r) in
    halts_at c d piece offset (stages.Header form) (in_header form of u) e f status
    (subst (λ (L : Bounds). Comes L (in_header form of v) (take offset piece) [] (in_header form of u)) o.course.section m) (way_prompt c.limits v u piece offset part o.course.section s r k) (λ shown. refl)

pub header_refused : (c d : Course) (form : Form) (piece : List ℕ) (offset : ℕ) (part : Part) → c.stage ≡ stages.Header form → d.stage ≡ stages.Header form → IsOpen c
    → SectionShows c.section piece (sections.Dead offset part) → IsBehind c.section piece (sections.Dead offset part) d.section → d.limits ≡ c.limits → d.control.limits ≡ c.control.limits
    → d.status ≡ c.status → Says c piece (stepped.Dead offset part) d
header_refused c d form piece offset part e f o h b limits control status =
    let of : Head = head_of c.status c.control.control in
    dead_of c d piece offset part (stages.Header form) e
    (dead_in c.limits c.section.limits (in_header form of c.section) piece offset part o.course.section
    (header_dead form of c.section piece offset part (open_by c (stages.Header form) e o).left h))
    (stays_in c d (stages.Header form) e f o limits control b.limits refl (inl tt)) (header_halts c d form piece offset part e f o status h.refused b.stood.0 b.stood.1)

pub header_limited : (c d : Course) (form : Form) (piece : List ℕ) (offset : ℕ) (part : Part) → c.stage ≡ stages.Header form → d.stage ≡ stages.Header form → IsOpen c
    → SectionShows c.section piece (sections.Limit offset part) → IsBehind c.section piece (sections.Limit offset part) d.section → d.limits ≡ c.limits → d.control.limits ≡ c.control.limits
    → d.status ≡ c.status → Says c piece (stepped.Limit offset part) d
header_limited c d form piece offset part e f o h b limits control status =
    let of : Head = head_of c.status c.control.control in
    limit_of c d piece offset part (stages.Header form) e
    (limit_in c.limits c.section.limits (in_header form of c.section) piece offset part o.course.section
    (header_limit form of c.section piece offset part (open_by c (stages.Header form) e o).left h))
    (stays_in c d (stages.Header form) e f o limits control b.limits refl (inl tt)) (header_halts c d form piece offset part e f o status h.refused b.stood.0 b.stood.1)

-- ---- the trailer section

pub trailers_need : (c d : Course) (form : Form) (piece : List ℕ) → c.stage ≡ stages.Trailers form → d.stage ≡ stages.Trailers form → IsOpen c → 0 < length piece
    → IsBehind c.section piece sections.Need d.section → SectionShows c.section piece sections.Need → d.limits ≡ c.limits → d.control ≡ c.control → d.status ≡ c.status
    → Says c piece (stepped.On (length piece)) d
trailers_need c d form piece e f o some b g limits control status =
    let v = c.section in
    let w = d.section in
    let s : IsSection v = open_by c (stages.Trailers form) e o in
    let m : Comes v.limits (in_trailers form v) piece [] (in_trailers form w) = trailers_go_on form v w piece s.left b.leads g in
    let n : Comes c.limits (in_trailers form v) piece [] (in_trailers form w) = subst (λ (L : Bounds). Comes L (in_trailers form v) piece [] (in_trailers form w)) o.course.section m in
    taken_of c d piece (length piece) [] (stages.Trailers form) (stages.Trailers form) e f some (omega arith)
    (subst (λ (x : List ℕ). Comes c.limits (in_trailers form v) x [] (in_trailers form w)) (sym (take-length piece)) n)
    limits (keeps c d o.course limits (ap (λ (x : ControlState). x.limits) control) b.limits) (section_on v w piece s b g) (omega arith) (record { head = head_kept c d control status; lines = inl tt; right = tt })

pub trailers_end : (c d : Course) (form : Form) (piece : List ℕ) (taken : ℕ) → c.stage ≡ stages.Trailers form → d.stage ≡ stages.Padding 0 → IsOpen c → SectionShows c.section piece (sections.Whole taken)
    → IsBehind c.section piece (sections.Whole taken) d.section → d.limits ≡ c.limits → d.control ≡ c.control → d.status ≡ c.status → Says c piece (stepped.Trailers taken) d
trailers_end c d form piece taken e f o ends b limits control status =
    let v = c.section in
    let w = d.section in
    let s : IsSection v = open_by c (stages.Trailers form) e o in
    let m : Comes v.limits (in_trailers form v) (take taken piece) (trailer_section w.lines ∷ []) (in_padding 0) =
    trailers_whole form v w (take taken piece) w.lines s.left b.leads.0 (same_lines v w piece taken b) (free_lines v w piece taken s b) in
    taken_of c d piece taken (trailer_section w.lines ∷ []) (stages.Trailers form) (stages.Padding 0) e f (whole_some v piece taken s ends) ends.within
    (subst (λ (L : Bounds). Comes L (in_trailers form v) (take taken piece) (trailer_section w.lines ∷ []) (in_padding 0)) o.course.section m)
    limits (keeps c d o.course limits (ap (λ (x : ControlState). x.limits) control) b.limits) tt (omega arith) (record { head = head_kept c d control status; lines = whole_lines d b.stage; right = refl })

trailers_halts : (c d : Course) (form : Form) (piece : List ℕ) (offset : ℕ) (part : Part) → c.stage ≡ stages.Trailers form → d.stage ≡ stages.Trailers form → IsOpen c → d.status ≡ c.status
    → IsRefused (IsWanted c.section) [] piece offset part → (u : SectionView) → IsOnTheWay c.section (take offset piece) u → Halts c piece offset d
trailers_halts c d form piece offset part e f o status r u k =
    let v = c.section in
    let s : IsSection v = open_by c (stages.Trailers form) e o in
    let m : Comes v.limits (in_trailers form v) (take offset piece) [] (in_trailers form u) =
    trailers_go_on form v u (take offset piece) s.left k.leads (refused_on v piece offset part s r) in
    halts_at c d piece offset (stages.Trailers form) (in_trailers form u) e f status
    (subst (λ (L : Bounds). Comes L (in_trailers form v) (take offset piece) [] (in_trailers form u)) o.course.section m) (way_prompt c.limits v u piece offset part o.course.section s r k) (λ shown. refl)

pub trailers_refused : (c d : Course) (form : Form) (piece : List ℕ) (offset : ℕ) (part : Part) → c.stage ≡ stages.Trailers form → d.stage ≡ stages.Trailers form → IsOpen c
    → SectionShows c.section piece (sections.Dead offset part) → IsBehind c.section piece (sections.Dead offset part) d.section → d.limits ≡ c.limits → d.control ≡ c.control → d.status ≡ c.status
    → Says c piece (stepped.Dead offset part) d
trailers_refused c d form piece offset part e f o h b limits control status =
    dead_of c d piece offset part (stages.Trailers form) e
    (dead_in c.limits c.section.limits (in_trailers form c.section) piece offset part o.course.section
    (trailers_dead form c.section piece offset part (open_by c (stages.Trailers form) e o).left h))
    (stays_in c d (stages.Trailers form) e f o limits (ap (λ (x : ControlState). x.limits) control) b.limits (head_kept c d control status) (inl tt))
    (trailers_halts c d form piece offset part e f o status h.refused b.stood.0 b.stood.1)

pub trailers_limited : (c d : Course) (form : Form) (piece : List ℕ) (offset : ℕ) (part : Part) → c.stage ≡ stages.Trailers form → d.stage ≡ stages.Trailers form → IsOpen c
    → SectionShows c.section piece (sections.Limit offset part) → IsBehind c.section piece (sections.Limit offset part) d.section → d.limits ≡ c.limits → d.control ≡ c.control → d.status ≡ c.status
    → Says c piece (stepped.Limit offset part) d
trailers_limited c d form piece offset part e f o h b limits control status =
    limit_of c d piece offset part (stages.Trailers form) e
    (limit_in c.limits c.section.limits (in_trailers form c.section) piece offset part o.course.section
    (trailers_limit form c.section piece offset part (open_by c (stages.Trailers form) e o).left h))
    (stays_in c d (stages.Trailers form) e f o limits (ap (λ (x : ControlState). x.limits) control) b.limits (head_kept c d control status) (inl tt))
    (trailers_halts c d form piece offset part e f o status h.refused b.stood.0 b.stood.1)

-- ---- padding

padding_some : (L : Bounds) (before : ℕ) → CanBecome (SomeOf (Rest L (in_padding before))) []
padding_some L before = record { text = []; after = []; spelled = (ending Nothing (before + 0) ∷ [], (0, refl, refl)); begins = refl }

pub padding_on : (c d : Course) (before : ℕ) (piece : List ℕ) → c.stage ≡ stages.Padding before → d.stage ≡ stages.Padding (before + 1) → IsOpen c → 0 < length piece → get_or piece 0 0 ≡ 0
    → d.limits ≡ c.limits → d.control ≡ c.control → d.status ≡ c.status → d.section ≡ c.section → Says c piece (stepped.On 1) d
padding_on c d before [] e f o some is limits control status section = absurd (omega (arith, some))
padding_on c d before (byte ∷ piece) e f o some is limits control status section =
    taken_of c d (byte ∷ piece) 1 [] (stages.Padding before) (stages.Padding (before + 1)) e f (omega arith) (omega arith)
    (subst (λ (x : ℕ). Comes c.limits (in_padding before) (x ∷ []) [] (in_padding (before + 1))) (sym is)
    (record { within = step c.limits; anyway = step no_bounds; goes_on = padding_some c.limits (before + 1) }))
    limits (keeps c d o.course limits (ap (λ (x : ControlState). x.limits) control) (ap (λ (x : SectionView). x.limits) section)) tt (omega arith)
    (record { head = head_kept c d control status; lines = inr (λ x. x, same_lines_shown c d section); right = tt })
  where
    step : (K : Bounds) → IsResidual (Rest K (in_padding before)) (0 ∷ []) (λ q. q) (Rest K (in_padding (before + 1)))
    step K = residual_step (Rest K (in_padding before)) parts.Padding 0 (λ q. q) (Rest K (in_padding (before + 1))) (padding_zero K before)

pub padding_refused : (c : Course) (before : ℕ) (piece : List ℕ) → c.stage ≡ stages.Padding before → IsOpen c → 0 < length piece → (get_or piece 0 0 ≡ 0 → ⊥)
    → Says c piece (stepped.Dead 0 parts.Padding) c
padding_refused c before piece e o some other =
    dead_of c c piece 0 parts.Padding (stages.Padding before) e
    (byte_dead (SomeOf (Rest c.limits (in_padding before))) (SomeOf (Rest no_bounds (in_padding before))) piece parts.Padding some (next c.limits) (none c.limits) (none no_bounds))
    (stays_in c c (stages.Padding before) e e o refl refl refl refl (inr (λ x. x, refl))) (halts_here c c piece parts.Padding (stages.Padding before) e e refl tt (next c.limits))
  where
    next : (K : Bounds) → IsNext (SomeOf (Rest K (in_padding before))) [] parts.Padding
    next K = record { before = []; byte = 0; after = []; spelled = (ending Nothing (before + 1) ∷ [], (1, refl, refl)); begins = refl }

    none : (K : Bounds) → CanBecome (SomeOf (Rest K (in_padding before))) (get_or piece 0 0 ∷ []) → ⊥
    none K h = at h.text h.spelled.1 h.begins
      where
        at : (t : Text) → Rest K (in_padding before) h.spelled.0 t → bytes_of t ≡ (get_or piece 0 0 ∷ []) ++ h.after → ⊥
        at [] r g = absurd cc
        at ((part, value) ∷ t) r g =
            let same : value ≡ get_or piece 0 0 = cc in
            padding_dead K before value (λ z. other (sym same ∙ z)) h.spelled.0 part t r
