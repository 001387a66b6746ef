-- The judge of one whole head: what is kept of it, and what its calls answer.
use Rattle.std.specs.Prelude.{ℕ, ◌≡◌, ◌<◌, ◌≤◌, ◌+◌, ◌*◌, ◌^◌, Bool, false, Option, Some, None, Result, Ok, Err, List, [], length, vec_len}
use Rattle.bh_spec.specs.Bounds.{Bounds, IsWithin}
use Rattle.bh_spec.specs.Messages.{Field, Control, Interim}
use Rattle.bh_spec.specs.Canonical.{ControlFits, FieldsFit}
use Rattle.bh_spec.specs.Items.{Head as Said, of_request, of_response}
use Rattle.bh_spec.specs.declared.H1Why.{H1Why}
use Rattle.bh_spec.specs.declared.H1Why.TheVariants as why
use Rattle.bh_model.specs.Lines.{FieldsView}
use Rattle.bh_control.specs.Stored.{control_in, HasRoom as HasStringRoom}
use Rattle.bh_control.specs.declared.strings.Strings.{Strings}
use Rattle.h1_spec.specs.declared.Framing1.{Framing1}
use Rattle.h1_spec.specs.declared.Scheme1.{Scheme1}
use Rattle.h1_spec.specs.Heads.{status_line, Head}
use Rattle.h1_spec.specs.Http1.{IsHeadWithin, IsInterimHead, IsStartOf, start_of}
use Rattle.h1_spec.specs.Bodies.{IsTrailerSection}
use Rattle.h1_spec.specs.Cleaning.{hops, clean, clean_trailers, says_host}
use Rattle.h1_spec.specs.Framing.{IsCoded, IsCounted, framing}
use Rattle.h1_spec.specs.Translation.{OfStart, OfWholeHead}
use Rattle.h1_head.specs.Room.{room_in, count_in}
use Rattle.h1_rules.specs.Hopping.{HopsView}
use Rattle.h1_rules.specs.declared.targets.TargetWhy.{TargetWhy}
use Rattle.h1_rules.specs.declared.targets.TargetWhy.TheVariants as target
use Rattle.h1_read.specs.declared.heads.Kept.{Kept}
use Rattle.h1_read.specs.declared.heads.Kept.TheVariants as kept
use Rattle.h1_read.specs.declared.heads.HeadRead.{HeadRead}
use Rattle.h1_read.specs.declared.heads.HeadRead.TheVariants.{Interim as InterimRead, Final}
use Rattle.h1_read.specs.declared.heads.HeadJudge.{HeadJudge}

-- What contracts see of a judge: what the message's head says, once it was read; the names that the last header section keeps to its
-- connection; and the last section's cleaned lines.
pub record JudgeView : Type 0 where
  pub limits : Bounds
  pub scheme : Scheme1
  pub to_head : Bool
  pub head : Option Said
  pub named : List (List ℕ)
  pub lines : List Field

abbrev pub head_kept : Kept → Control → Option Said
head_kept kept.Nothing control = None
head_kept kept.Request control = Some (of_request control)
head_kept (kept.Response status) control = Some (of_response status)

abbrev pub view_of : HeadJudge → JudgeView
view_of j = record {
  limits = j.limits;
  scheme = j.scheme;
  to_head = j.to_head;
  head = head_kept j.kept (control_in j.control);
  named = j.hops.names;
  lines = j.cleaned.lines;
}

abbrev pub start_view : Bounds → Scheme1 → Bool → JudgeView
start_view L scheme to_head = record { limits = L; scheme = scheme; to_head = to_head; head = None; named = []; lines = [] }

-- There is memory for any head of at most so many bytes: to parse it, for its cleaned lines and their hops, and for its control data.
pub record HasRoom (section part : ℕ) (spans : ℕ) (raw : FieldsView) (named : HopsView) (cleaned : FieldsView) (control : Strings)
    : Type 0 where
  pub small : section ≤ 2 ^ 24
  pub spans_room : section ≤ 4 * spans + 1
  pub raw_room : section ≤ room_in raw
  pub raw_count : section ≤ 3 * count_in raw + 2
  pub names : room_in raw ≤ named.room
  pub room : room_in raw ≤ room_in cleaned
  pub count : count_in raw ≤ count_in cleaned
  pub strings : HasStringRoom part control

-- what is true of it between two calls
pub record IsSound (j : HeadJudge) : Type 0 where
  pub section : ℕ
  pub part : ℕ
  pub section_is : j.limits.section ≡ Some section
  pub part_is : j.limits.part ≡ Some part
  pub room : HasRoom section part (vec_len j.spans) j.raw j.hops j.cleaned j.control
  pub ended : j.cleaned.making ≡ None

-- the limits, the scheme and what the message answers stay
pub record IsSame (v w : JudgeView) : Type 0 where
  pub limits : w.limits ≡ v.limits
  pub scheme : w.scheme ≡ v.scheme
  pub to_head : w.to_head ≡ v.to_head

-- ---- parts of a call

-- the lines that were parsed are cleaned by their own hops, and all else stays
pub record HasCleaned (j : HeadJudge) (drops_host : Bool) (k : HeadJudge) : Type 0 where
  pub same : IsSame (view_of j) (view_of k)
  pub head : (view_of k).head ≡ (view_of j).head
  pub raw : k.raw ≡ j.raw
  pub named : k.hops.names ≡ hops j.raw.lines
  pub lines : k.cleaned.lines ≡ clean (hops j.raw.lines) drops_host j.raw.lines

-- the control data is kept as what the head says, and all else stays
pub record HasKept (j : HeadJudge) (control : Control) (k : HeadJudge) : Type 0 where
  pub same : IsSame (view_of j) (view_of k)
  pub head : (view_of k).head ≡ Some (of_request control)
  pub named : k.hops.names ≡ j.hops.names
  pub lines : k.cleaned.lines ≡ j.cleaned.lines

-- ---- answers

-- What a start line and fields say behind so many informational responses, whatever stands behind them.
pub record SaysInterim (v : JudgeView) (head : Head) (before status : ℕ) (w : JudgeView) : Type 0 where
  pub start : head.start ≡ status_line status
  pub high : status ≤ 199
  pub stays : status ≡ 101 → ⊥
  pub few : IsWithin v.limits.interims (before + 1)
  pub lines : w.lines ≡ clean (hops head.fields) false head.fields
  pub fits : FieldsFit v.limits w.lines
  pub head_is : w.head ≡ v.head

pub record SaysFinal (v : JudgeView) (head : Head) (body : Framing1) (w : JudgeView) : Type 0 where
  pub of : Said
  pub start : IsStartOf v.scheme head (start_of of)
  pub coded : IsCoded head.fields
  pub counted : IsCounted head.fields
  pub control : (c : Control) → of ≡ of_request c → ControlFits v.limits c
  pub named : w.named ≡ hops head.fields
  pub lines : w.lines ≡ clean (hops head.fields) (says_host (start_of of)) head.fields
  pub fits : FieldsFit v.limits w.lines
  pub body_is : body ≡ framing v.to_head head
  pub head_is : w.head ≡ Some of

pub record SaysWrong (v : JudgeView) (head : Head) (before : ℕ) (cause : H1Why) (w : JudgeView) : Type 0 where
  pub cause_is : (interims : List Interim) (rest : List ℕ) → length interims ≡ before
      → OfStart v.limits v.scheme v.to_head interims head rest head.start cause
  pub not_end : cause ≡ why.Ended → ⊥
  pub head_is : w.head ≡ v.head

abbrev pub SaysStart : JudgeView → Head → ℕ → Result HeadRead H1Why → JudgeView → Type 0
SaysStart v head before (Ok (InterimRead status)) w = SaysInterim v head before status w
SaysStart v head before (Ok (Final body)) w = SaysFinal v head body w
SaysStart v head before (Err cause) w = SaysWrong v head before cause w

-- The bytes are the head of an informational response, whose cleaned lines are shown.
pub record IsInterim (v : JudgeView) (bytes : List ℕ) (before status : ℕ) (w : JudgeView) : Type 0 where
  pub read : IsInterimHead v.limits (record { status = status; fields = w.lines }) bytes
  pub few : IsWithin v.limits.interims (before + 1)
  pub head_is : w.head ≡ v.head

-- The bytes are the head of a request, or of a final response, and say this of the body.
pub record IsFinal (v : JudgeView) (bytes : List ℕ) (before : ℕ) (body : Framing1) (w : JudgeView) : Type 0 where
  pub head : Head
  pub text : IsHeadWithin v.limits head bytes
  pub says : SaysFinal v head body w
  pub later : 0 < before → (status : ℕ) × (says.of ≡ of_response status)

-- They are neither, for this cause, whatever stands behind them.
pub record IsWrong (v : JudgeView) (bytes : List ℕ) (before : ℕ) (cause : H1Why) (w : JudgeView) : Type 0 where
  pub cause_is : (interims : List Interim) (rest : List ℕ) → length interims ≡ before
      → OfWholeHead v.limits v.scheme v.to_head interims bytes rest cause
  pub not_end : cause ≡ why.Ended → ⊥
  pub head_is : w.head ≡ v.head

abbrev pub Judges : JudgeView → List ℕ → ℕ → Result HeadRead H1Why → JudgeView → Type 0
Judges v bytes before (Ok (InterimRead status)) w = IsInterim v bytes before status w
Judges v bytes before (Ok (Final body)) w = IsFinal v bytes before body w
Judges v bytes before (Err cause) w = IsWrong v bytes before cause w

-- the cause that a target's is
abbrev pub cause_of : TargetWhy → H1Why
cause_of target.Connect = why.Connect
cause_of target.Target = why.Target
cause_of target.Host = why.Host
cause_of target.NoMemory = why.Target

-- ---- trailer sections

-- the lines are those of a trailer section within the limit
abbrev pub AreTrailers : Bounds → List Field → Type 0
AreTrailers L trailers = (bytes : List ℕ) × IsTrailerSection L trailers bytes

-- the cleaned lines of a trailer section are shown, and all else stays
pub record IsTrailing (v : JudgeView) (trailers : List Field) (w : JudgeView) : Type 0 where
  pub same : IsSame v w
  pub head : w.head ≡ v.head
  pub named : w.named ≡ v.named
  pub lines : w.lines ≡ clean_trailers v.named trailers
