-- Steps of the framing number and of control data.
use Rattle.std.proofs.Common.{◌≡◌, ◌≤◌, ◌<◌, ℕ, Option, None, List, [], ◌∷◌, ◌++◌, length, take, get_or, refl, sym, ap, subst, ◌∙◌, inl, inr, arith}
use Rattle.std.proofs.Math.Seq.{take-length}
use Rattle.bh_spec.specs.declared.Form.{Form}
use Rattle.bh_spec.specs.declared.Part.{Part}
use Rattle.bh_spec.specs.declared.Kind.{Kind}
use Rattle.bh_spec.specs.declared.Kind.TheVariants.{Request}
use Rattle.bh_spec.specs.Spelling.{framing}
use Rattle.bh_spec.specs.declared.Width.TheVariants.{Two}
use Rattle.bh_spec.proofs.Within.{zero_within}
use Rattle.bh_varint.proofs.Reading.{unfinished_nil}
use Rattle.bh_varint.proofs.Numbers.{begins_nil}
use Rattle.bh_push.proofs.Framings.{framing_more, framing_whole, framing_some, framing_dead}
use Rattle.bh_spec.specs.declared.Part.TheVariants as parts
use Rattle.bh_spec.specs.declared.Width.{Width}
use Rattle.bh_spec.specs.Bounds.{Bounds, no_bounds}
use Rattle.bh_spec.specs.Integers.{SomeBegins}
use Rattle.bh_spec.specs.Pieces.{IsRefused}
use Rattle.bh_spec.proofs.Pieces.{next_unfinished}
use Rattle.bh_varint.specs.Step.{IsWhole, IsUnfinished}
use Rattle.bh_fields.specs.Middle.{SectionView}
use Rattle.bh_spec.specs.declared.PieceStep.{PieceStep}
use Rattle.bh_spec.specs.Readings.{Shows as ReaderShows}
use Rattle.bh_control.specs.Control.{IsWanted, IsUnlimited, ControlState, IsLeft, Leads, IsOnTheWay, IsBehind, begun_state, Rest as state_rest}
use Rattle.bh_spec.specs.declared.PieceStep.TheVariants as controls
use Rattle.bh_control.specs.Numbers.{numbers}
use Rattle.bh_spec.specs.Items.{Head, of_request}
use Rattle.bh_spec.specs.Readers.{Moves}
use Rattle.bh_spec.proofs.Residuals.{residual_on}
use Rattle.bh_control.specs.Control.{ControlOf}
use Rattle.bh_push.specs.declared.course.Course.{Course}
use Rattle.bh_push.specs.declared.course.Stage.{Stage}
use Rattle.bh_push.specs.declared.course.Stage.TheVariants as stages
use Rattle.bh_push.specs.declared.course.Stepped.TheVariants as stepped
use Rattle.bh_push.specs.Completing.{AfterStart, AfterFraming}
use Rattle.bh_push.specs.Decoders.{Rest, in_framing, in_control, before_header}
use Rattle.bh_push.specs.Standing.{Comes, IsLeastStatus, read_in}
use Rattle.bh_push.specs.Courses.{IsSilent, Halts, head_of, place_of, form_at, IsCounted, IsControlData, IsCourse, IsOpenBy, IsOpen, Says, FollowsFraming}
use Rattle.bh_push.proofs.Begun.{request_at, control_begun}
use Rattle.bh_push.proofs.Courses.{stays_in, halts_at, halts_here, same_lines_shown, taken_of, dead_of, limit_of, dead_in, limit_in, goes_more, some_taken, keeps, open_by, moves_at}
use Rattle.bh_push.proofs.Requests.{control_reader, control_goes_on, control_whole, control_dead, control_limit, weaker}

-- ---- control data

-- what the answer of the reader says of a piece
abbrev pub ControlShows : ControlState → List ℕ → PieceStep → Type 0
ControlShows v piece step = ReaderShows (IsWanted v) (IsUnlimited v) [] piece step

left_on : (v w : ControlState) (bytes : List ℕ) → IsLeft v.limits v → w.limits ≡ v.limits → Leads v.limits v bytes w → IsLeft w.limits w
left_on v w bytes h e leads = subst (λ (L : Bounds). IsLeft L w) (sym e) (record {
  bytes = h.bytes ++ bytes;
  within = residual_on (ControlOf v.limits) h.bytes (λ c. c) (state_rest v.limits v) bytes (λ c. c) (state_rest v.limits w) h.within leads.within;
  anyway = residual_on (ControlOf no_bounds) h.bytes (λ c. c) (state_rest no_bounds v) bytes (λ c. c) (state_rest no_bounds w) h.anyway leads.anyway;
})

control_on : (v w : ControlState) (piece : List ℕ) → IsControlData v → IsBehind v piece controls.Need w → ControlShows v piece controls.Need → IsControlData w
control_on v w piece s b g = record {
  stage = b.stage;
  left = left_on v w piece s.left b.limits b.leads;
  more = λ c h.
      goes_more (state_rest v.limits v) (state_rest v.limits w) piece b.leads.within g c (subst (λ (L : Bounds). state_rest L w c []) b.limits h);
}

pub control_need : (c d : Course) (form : Form) (piece : List ℕ) → c.stage ≡ stages.Control form → d.stage ≡ stages.Control form → IsOpen c → 0 < length piece
    → IsBehind c.control piece controls.Need d.control → ControlShows c.control piece controls.Need → d.limits ≡ c.limits → d.section ≡ c.section
    → Says c piece (stepped.On (length piece)) d
control_need c d form piece e f o some b g limits section =
    let v = c.control in
    let w = d.control in
    let s : IsControlData v = open_by c (stages.Control form) e o in
    let m : Comes v.limits (in_control form (read_in v)) piece [] (in_control form (read_in w)) = control_goes_on form v w piece s.left b.leads g in
    taken_of c d piece (length piece) [] (stages.Control form) (stages.Control form) e f some (omega arith)
    (subst (λ (x : List ℕ). Comes c.limits (in_control form (read_in v)) x [] (in_control form (read_in w))) (sym (take-length piece))
    (subst (λ (L : Bounds). Comes L (in_control form (read_in v)) piece [] (in_control form (read_in w))) o.course.control m))
    limits (keeps c d o.course limits b.limits (ap (λ (x : SectionView). x.limits) section)) (control_on v w piece s b g) (omega arith)
    (record { head = refl; lines = inr (λ x. x, same_lines_shown c d section); right = tt })

-- behind its last byte stands the header section
pub control_end : (c d : Course) (form : Form) (piece : List ℕ) (taken : ℕ) → c.stage ≡ stages.Control form → d.stage ≡ stages.BeforeHeader form → IsOpen c
    → ControlShows c.control piece (controls.Whole taken) → IsBehind c.control piece (controls.Whole taken) d.control → d.status ≡ None → d.limits ≡ c.limits → d.section ≡ c.section
    → Says c piece (stepped.On taken) d
control_end c d form piece taken e f o ends b none limits section =
    let v = c.control in
    let w = d.control in
    let s : IsControlData v = open_by c (stages.Control form) e o in
    let free : state_rest no_bounds w w.control [] = weaker v.limits w (subst (λ (L : Bounds). IsLeft L w) b.limits (left_on v w (take taken piece) s.left b.limits b.leads.0)) w.control [] b.leads.1 in
    let m : Moves (Rest v.limits (in_control form (read_in v))) (Rest no_bounds (in_control form (read_in v))) (AfterStart v.limits form (of_request w.control)) (AfterStart no_bounds form (of_request w.control))
    (take taken piece) [] = control_whole form v w (take taken piece) w.control s.left b.leads.0 b.leads.1 free in
    let n : Moves (Rest c.limits (in_control form (read_in v))) (Rest no_bounds (in_control form (read_in v))) (AfterStart c.limits form (of_request w.control)) (AfterStart no_bounds form (of_request w.control))
    (take taken piece) [] = subst (λ (L : Bounds). Moves (Rest L (in_control form (read_in v))) (Rest no_bounds (in_control form (read_in v))) (AfterStart L form (of_request w.control))
    (AfterStart no_bounds form (of_request w.control)) (take taken piece) []) o.course.control m in
    taken_of c d piece taken [] (stages.Control form) (stages.BeforeHeader form) e f (some_taken (state_rest v.limits v) piece taken s.more ends) ends.within
    (subst (λ (x : Head). Comes c.limits (in_control form (read_in v)) (take taken piece) [] (before_header form x)) (sym (ap (λ (x : Option ℕ). head_of x w.control) none)) n)
    limits (keeps c d o.course limits b.limits (ap (λ (x : SectionView). x.limits) section)) tt (omega arith)
    (record { head = refl; lines = inr (λ x. x, same_lines_shown c d section); right = tt })

control_halts : (c d : Course) (form : Form) (piece : List ℕ) (offset : ℕ) (part : Part) → c.stage ≡ stages.Control form → d.stage ≡ stages.Control form → IsOpen c → d.status ≡ c.status
    → IsRefused (IsWanted c.control) [] piece offset part → (u : ControlState) → IsOnTheWay c.control (take offset piece) u → Halts c piece offset d
control_halts c d form piece offset part e f o status r u k =
    let v = c.control in
    let s : IsControlData v = open_by c (stages.Control form) e o in
    let g = next_unfinished (IsWanted v) (control_reader v.limits v s.left).once [] (take offset piece) part r.next in
    let m : Comes v.limits (in_control form (read_in v)) (take offset piece) [] (in_control form (read_in u)) = control_goes_on form v u (take offset piece) s.left k.leads g in
    halts_at c d piece offset (stages.Control form) (in_control form (read_in u)) e f status
    (subst (λ (L : Bounds). Comes L (in_control form (read_in v)) (take offset piece) [] (in_control form (read_in u))) o.course.control m) tt (λ shown. refl)

pub control_refused : (c d : Course) (form : Form) (piece : List ℕ) (offset : ℕ) (part : Part) → c.stage ≡ stages.Control form → d.stage ≡ stages.Control form → IsOpen c
    → ControlShows c.control piece (controls.Dead offset part) → IsBehind c.control piece (controls.Dead offset part) d.control → d.limits ≡ c.limits → d.section ≡ c.section
    → d.status ≡ c.status → Says c piece (stepped.Dead offset part) d
control_refused c d form piece offset part e f o h b limits section status =
    dead_of c d piece offset part (stages.Control form) e
    (dead_in c.limits c.control.limits (in_control form (read_in c.control)) piece offset part o.course.control
    (control_dead form c.control piece offset part (open_by c (stages.Control form) e o).left h))
    (stays_in c d (stages.Control form) e f o limits b.limits (ap (λ (x : SectionView). x.limits) section) refl (inr (λ x. x, same_lines_shown c d section)))
    (control_halts c d form piece offset part e f o status h.refused b.stood.0 b.stood.1)

pub control_limited : (c d : Course) (form : Form) (piece : List ℕ) (offset : ℕ) (part : Part) → c.stage ≡ stages.Control form → d.stage ≡ stages.Control form → IsOpen c
    → ControlShows c.control piece (controls.Limit offset part) → IsBehind c.control piece (controls.Limit offset part) d.control → d.limits ≡ c.limits → d.section ≡ c.section
    → d.status ≡ c.status → Says c piece (stepped.Limit offset part) d
control_limited c d form piece offset part e f o h b limits section status =
    limit_of c d piece offset part (stages.Control form) e
    (limit_in c.limits c.control.limits (in_control form (read_in c.control)) piece offset part o.course.control
    (control_limit form c.control piece offset part (open_by c (stages.Control form) e o).left h))
    (stays_in c d (stages.Control form) e f o limits b.limits (ap (λ (x : SectionView). x.limits) section) refl (inr (λ x. x, same_lines_shown c d section)))
    (control_halts c d form piece offset part e f o status h.refused b.stood.0 b.stood.1)

-- ---- the framing number

pub take_one : (piece : List ℕ) → 0 < length piece → take 1 piece ≡ get_or piece 0 0 ∷ []
take_one [] some = absurd (omega (arith, some))
take_one (b ∷ piece) some = refl

pub framing_on : (c d : Course) (piece : List ℕ) → c.stage ≡ stages.Framing → d.stage ≡ stages.Framing → IsOpen c → 0 < length piece → d.number ≡ c.number ++ get_or piece 0 0 ∷ []
    → SomeBegins (numbers 0 3) (c.number ++ get_or piece 0 0 ∷ []) → IsUnfinished (c.number ++ get_or piece 0 0 ∷ []) → d.limits ≡ c.limits → d.control.limits ≡ c.control.limits
    → d.section ≡ c.section → Says c piece (stepped.On 1) d
framing_on c d piece e f o some kept' live un limits control section =
    let s = open_by c stages.Framing e o in
    let m : Comes c.limits (in_framing c.number) (get_or piece 0 0 ∷ []) [] (in_framing (c.number ++ get_or piece 0 0 ∷ [])) =
    framing_more c.limits c.number (get_or piece 0 0) o.course.five s.unfinished live in
    taken_of c d piece 1 [] stages.Framing stages.Framing e f (omega arith) (omega (arith, some))
    (subst (λ (x : List ℕ). Comes c.limits (in_framing c.number) x [] (in_framing d.number)) (sym (take_one piece some))
    (subst (λ (x : List ℕ). Comes c.limits (in_framing c.number) (get_or piece 0 0 ∷ []) [] (in_framing x)) (sym kept') m))
    limits (keeps c d o.course limits control (ap (λ (x : SectionView). x.limits) section)) (subst (IsCounted (numbers 0 3)) (sym kept') (record { live = live; unfinished = un })) (omega arith)
    (record { head = refl; lines = inr (λ x. x, same_lines_shown c d section); right = tt })

pub framing_end : (c d : Course) (piece : List ℕ) (n : ℕ) (w : Width) → c.stage ≡ stages.Framing → IsOpen c → 0 < length piece → IsWhole (numbers 0 3) (c.number ++ get_or piece 0 0 ∷ []) n w
    → IsOpen d → d.limits ≡ c.limits → FollowsFraming n d → IsSilent c d → Says c piece (stepped.On 1) d
framing_end c d piece n w e o some whole stays limits follows same =
    let s = open_by c stages.Framing e o in
    let k : Kind × Form = (follows.kind, form_at n) in
    let m : Moves (Rest c.limits (in_framing c.number)) (Rest no_bounds (in_framing c.number)) (AfterFraming c.limits k) (AfterFraming no_bounds k) (get_or piece 0 0 ∷ []) [] = record {
      within = framing_whole c.limits c.number (get_or piece 0 0) n w k o.course.five s.unfinished whole follows.same c.limits;
      anyway = framing_whole c.limits c.number (get_or piece 0 0) n w k o.course.five s.unfinished whole follows.same no_bounds;
      goes_on = framing_some c.limits (c.number ++ get_or piece 0 0 ∷ []) n w k o.course.five whole follows.same;
    } in
    taken_of c d piece 1 [] stages.Framing d.stage e refl (omega arith) (omega (arith, some))
    (subst (λ (x : List ℕ). Comes c.limits (in_framing c.number) x [] (place_of d)) (sym (take_one piece some))
    (moves_at c.limits (in_framing c.number) (λ K. AfterFraming K k) d (get_or piece 0 0 ∷ []) [] m follows.at))
    limits stays.course stays.at (omega (arith, follows.at.zeros))
    (record { head = same.head; lines = inr (λ x. x, same_lines_shown c d same.section); right = tt })

pub framing_refused : (c d : Course) (piece : List ℕ) → c.stage ≡ stages.Framing → d.stage ≡ stages.Framing → IsOpen c → d.limits ≡ c.limits → d.control.limits ≡ c.control.limits
    → d.section ≡ c.section → d.status ≡ c.status → 0 < length piece → (SomeBegins (numbers 0 3) (c.number ++ get_or piece 0 0 ∷ []) → ⊥)
    → Says c piece (stepped.Dead 0 parts.Framing) d
framing_refused c d piece e f o limits control section status some dead =
    let s = open_by c stages.Framing e o in
    let h = framing_dead c.limits c.number piece some o.course.five s.unfinished s.live dead in
    dead_of c d piece 0 parts.Framing stages.Framing e h
    (stays_in c d stages.Framing e f o limits control (ap (λ (x : SectionView). x.limits) section) refl (inr (λ x. x, same_lines_shown c d section)))
    (halts_here c d piece parts.Framing stages.Framing e f status tt h.refused.next)

-- what follows the number
pub request_open : (c d : Course) (form : Form) → d.stage ≡ stages.Control form → d.control ≡ begun_state c.control → IsCourse c → d.limits ≡ c.limits → d.section.limits ≡ c.section.limits → IsOpen d
request_open c d form e f h limits section = record {
  course = keeps c d h limits (ap (λ (x : ControlState). x.limits) f) section;
  at = subst (λ (s : Stage). IsOpenBy s d) (sym e) (subst IsControlData (sym f) (control_begun c.control));
}

pub request_follows : (c d : Course) (n : ℕ) (form : Form) → form ≡ form_at n → framing Request (form_at n) ≡ n → d.stage ≡ stages.Control form → d.control ≡ begun_state c.control → FollowsFraming n d
request_follows c d n form g same e f = record {
  kind = Request;
  same = same;
  at = request_at d (form_at n) c.control (e ∙ ap stages.Control g) f;
}

pub counted_nil : (low : ℕ) → low ≤ 200 → IsCounted (numbers low 599) []
counted_nil low h = record { live = begins_nil (numbers low 599) 200 Two (omega arith) (inr ((h, omega arith), tt)); unfinished = unfinished_nil }

pub least_few : (L : Bounds) (before least : ℕ) → IsLeastStatus L before least → least ≤ 200
least_few L before least (inl e) = omega (arith, e.0)
least_few L before least (inr e) = omega (arith, e.0)

pub response_open : (c d : Course) (form : Form) → d.stage ≡ stages.Status form 0 → d.number ≡ [] → IsCourse c → d.limits ≡ c.limits → d.control.limits ≡ c.control.limits
    → d.section.limits ≡ c.section.limits → IsOpen d
response_open c d form e f h limits control section = record {
  course = keeps c d h limits control section;
  at = subst (λ (s : Stage). IsOpenBy s d) (sym e)
      (zero_within d.limits.interims, λ least is. subst (IsCounted (numbers least 599)) (sym f) (counted_nil least (least_few d.limits 0 least is)));
}
