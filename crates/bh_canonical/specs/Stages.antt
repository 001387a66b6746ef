-- Where a message stands that is written, and what may be written there.
use Rattle.std.specs.Prelude.{◌≡◌, Bool, true, false, Option, Some, List}
use Rattle.bh_spec.specs.declared.Kind.TheVariants.{Response}
use Rattle.bh_spec.specs.Bounds.{Bounds}
use Rattle.bh_spec.specs.Messages.{Field}
use Rattle.bh_spec.specs.Items.{Head, of_request, of_response}
use Rattle.bh_model.specs.Ranges.{AreLimits}
use Rattle.bh_encode.specs.Calls.{Call, request_head, response_head}
use Rattle.bh_reading.specs.Coming.{HeadComes}
use Rattle.bh_canonical.specs.declared.sending.Stage.{Stage}
use Rattle.bh_canonical.specs.declared.sending.Stage.TheVariants as stages

-- did something go out?
abbrev pub is_begun : Stage → Bool
is_begun stages.Start = false
is_begun (stages.Interims encoder) = true
is_begun (stages.Content encoder) = true
is_begun stages.Ended = true

abbrev pub IsBeforeHead : Stage → Type 0
IsBeforeHead stages.Start = Unit {0}
IsBeforeHead (stages.Interims encoder) = encoder ≡ record { kind = Response; begun = true }
IsBeforeHead (stages.Content encoder) = ⊥
IsBeforeHead stages.Ended = ⊥

abbrev pub IsInContent : Stage → Type 0
IsInContent stages.Start = ⊥
IsInContent (stages.Interims encoder) = ⊥
IsInContent (stages.Content encoder) = Unit {0}
IsInContent stages.Ended = ⊥

-- the call for a head
abbrev pub head_call : Head → List Field → Call
head_call (of_request control) fields = request_head control fields
head_call (of_response status) fields = response_head status fields

-- a head is shown with its lines, within limits, and it may come
pub record HeadDue (begun : Bool) (showing : Option Head) (section : Option (List Field)) : Type 0 where
  pub of : Head
  pub fields : List Field
  pub shown : showing ≡ Some of
  pub lines : section ≡ Some fields
  pub limits : Bounds
  pub range : AreLimits limits
  pub comes : HeadComes limits begun of fields
