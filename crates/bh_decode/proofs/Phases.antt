-- Each phase of a message: what was read, and what may stand behind it.
use Rattle.std.proofs.Common.{◌<◌, ◌≤◌, ℕ, suc, List, [], subst, append-nil, arith, inl, inr}
use Rattle.bh_spec.specs.declared.Form.{Form}
use Rattle.bh_spec.specs.declared.Kind.{Kind}
use Rattle.bh_spec.specs.declared.Kind.TheVariants.{Request}
use Rattle.bh_spec.specs.Bounds.{Bounds, IsWithin}
use Rattle.bh_spec.specs.Messages.{Field, Control}
use Rattle.bh_spec.specs.Texts.{Text}
use Rattle.bh_control.specs.Control.{ControlOf}
use Rattle.bh_control.specs.Statuses.{StatusOf}
use Rattle.bh_spec.specs.Pieces.{SomeOf, IsText}
use Rattle.bh_decode.specs.declared.stop.Stop.{Stop}
use Rattle.bh_decode.specs.declared.stop.Stop.TheVariants.{Dead, Limit, Ended}
use Rattle.bh_decode.specs.Stops.{Stops, StopsThing}
use Rattle.bh_spec.specs.Viable.{IsMessageText}
use Rattle.bh_decode.specs.Grammar.{IsRestText, IsAfterStart, IsResponseText, IsAfterFraming, IsFramed, status_left, AfterStatus}
use Rattle.bh_decode.proofs.Contexts.{Context, context_on, context_behind, context_same, AreOnce, SomeThen, Follows, next_then, dead_then, limit_then, unfinished_then}
use Rattle.bh_decode.proofs.Grammars.{message_framed, framed_message, framed_once, control_once, section_once, status_once, one_more, one_before}
use Rattle.bh_model.specs.declared.field.Place.TheVariants.{Header}
use Rattle.bh_fields.specs.Sections.{SectionOf}

-- ---- behind what was read

pub behind_framing : (L : Bounds) (kind : Kind) (form : Form) (bytes : List ℕ) → IsText (IsFramed (kind, form)) bytes → Context (IsMessageText L) (IsAfterFraming L (kind, form)) bytes 0
behind_framing L kind form bytes h =
    context_on (IsMessageText L) (SomeThen IsFramed (IsAfterFraming L)) (IsAfterFraming L (kind, form)) [] bytes 0 0 (omega arith)
    (context_same (IsMessageText L) (SomeThen IsFramed (IsAfterFraming L)) (message_framed L) (framed_message L))
    (context_behind IsFramed (IsAfterFraming L) framed_once (kind, form) bytes h)

pub behind_control : (L : Bounds) (form : Form) (c : Control) (bytes : List ℕ) → IsText (ControlOf L c) bytes → Context (IsAfterFraming L (Request, form)) (IsAfterStart L form) bytes 0
behind_control L form c bytes h = context_behind (ControlOf L) (λ (d : Control). IsAfterStart L form) (control_once L) c bytes h

pub behind_headers : (L : Bounds) (form : Form) (fields : List Field) (bytes : List ℕ) → IsText (SectionOf L form Header fields) bytes → Context (IsAfterStart L form) (IsRestText L form) bytes 0
behind_headers L form fields bytes h = context_behind (SectionOf L form Header) (λ (fs : List Field). IsRestText L form) (section_once L form Header) fields bytes h

-- inside an interim response: its section, and then the response
abbrev pub IsInterimRest : Bounds → Form → ℕ → Text → Type 0
IsInterimRest L form k t = SomeThen (SectionOf L form Header) (λ (fs : List Field). IsResponseText L form (suc k)) t

behind_status : (L : Bounds) (form : Form) (k status : ℕ) (bytes : List ℕ) → IsWithin L.interims k → IsText (StatusOf (status_left L.interims k) status) bytes
    → Context (IsResponseText L form k) (AfterStatus L form k status) bytes 0
behind_status L form k status bytes within h =
    context_on (IsResponseText L form k) (SomeThen (StatusOf (status_left L.interims k)) (AfterStatus L form k)) (AfterStatus L form k status) [] bytes 0 0 (omega arith)
    (context_same (IsResponseText L form k) (SomeThen (StatusOf (status_left L.interims k)) (AfterStatus L form k)) (one_more L form k) (one_before L form k within))
    (context_behind (StatusOf (status_left L.interims k)) (AfterStatus L form k) (status_once (status_left L.interims k)) status bytes h)

pub behind_final : (L : Bounds) (form : Form) (k status : ℕ) (bytes : List ℕ) → IsWithin L.interims k → 200 ≤ status → IsText (StatusOf (status_left L.interims k) status) bytes
    → Context (IsResponseText L form k) (IsAfterStart L form) bytes 0
behind_final L form k status bytes within final h =
    subst (λ (x : List ℕ). Context (IsResponseText L form k) (IsAfterStart L form) x 0) (append-nil bytes)
    (context_on (IsResponseText L form k) (AfterStatus L form k status) (IsAfterStart L form) bytes [] 0 0 (omega arith)
    (behind_status L form k status bytes within h)
    (context_same (AfterStatus L form k status) (IsAfterStart L form) to (λ t s. inr (final, s))))
  where
    to : (t : Text) → AfterStatus L form k status t → IsAfterStart L form t
    to t (inl s) = absurd (omega (arith, s.0))
    to t (inr s) = s.1

pub behind_interim_status : (L : Bounds) (form : Form) (k status : ℕ) (bytes : List ℕ) → IsWithin L.interims k → status < 200 → IsText (StatusOf (status_left L.interims k) status) bytes
    → Context (IsResponseText L form k) (IsInterimRest L form k) bytes 0
behind_interim_status L form k status bytes within small h =
    subst (λ (x : List ℕ). Context (IsResponseText L form k) (IsInterimRest L form k) x 0) (append-nil bytes)
    (context_on (IsResponseText L form k) (AfterStatus L form k status) (IsInterimRest L form k) bytes [] 0 0 (omega arith)
    (behind_status L form k status bytes within h)
    (context_same (AfterStatus L form k status) (IsInterimRest L form k) to (λ t s. inl (small, s))))
  where
    to : (t : Text) → AfterStatus L form k status t → IsInterimRest L form k t
    to t (inl s) = s.1
    to t (inr s) = absurd (omega (arith, s.0))

pub behind_interim : (L : Bounds) (form : Form) (k : ℕ) (fields : List Field) (bytes : List ℕ) → IsText (SectionOf L form Header fields) bytes → Context (IsInterimRest L form k) (IsResponseText L form (suc k)) bytes 0
behind_interim L form k fields bytes h = context_behind (SectionOf L form Header) (λ (fs : List Field). IsResponseText L form (suc k)) (section_once L form Header) fields bytes h

-- ---- what stops inside a thing stops inside what begins with it

pub stops_then : {I : Type 0} (A S B T : I → Text → Type 0) → AreOnce A → AreOnce B → Follows A S → Follows B T → ((i : I) (t : Text) → A i t → B i t) → (bytes : List ℕ) (stop : Stop)
    → StopsThing (SomeOf A) (SomeOf B) bytes stop → Stops (SomeThen A S) (SomeThen B T) bytes stop
stops_then A S B T once_a once_b follows_a follows_b weaker bytes (Dead at part) h = dead_then A S B T once_a once_b follows_a weaker bytes at part h
stops_then A S B T once_a once_b follows_a follows_b weaker bytes (Limit at part) h = limit_then A S B T once_a follows_a follows_b bytes at part h
stops_then A S B T once_a once_b follows_a follows_b weaker bytes (Ended part) h = record {
  next = next_then A S follows_a bytes part h.next;
  unfinished = unfinished_then A S bytes h.on;
}
