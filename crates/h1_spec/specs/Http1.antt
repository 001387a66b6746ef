-- The message that an HTTP/1.1 text is (RFC 9112, sections 2 to 7; docs/HTTP1.md).
use Rattle.std.specs.Prelude.{ℕ, ◌≡◌, ◌≤◌, Bool, false, List, [], length, codes}
use Rattle.bh_spec.specs.Bounds.{Bounds, IsWithin}
use Rattle.bh_spec.specs.Bytes.{AreBytes}
use Rattle.bh_spec.specs.Messages.{Field, Interim, Start, request, response, Message, IsInterimStatus}
use Rattle.bh_spec.specs.Canonical.{FieldsFit, Fits}
use Rattle.bh_spec.specs.Items.{of_request, of_response, Head as Said}
use Rattle.h1_spec.specs.declared.Scheme1.{Scheme1}
use Rattle.bh_spec.specs.Texts.{◌then◌, AreEach}
use Rattle.h1_spec.specs.Heads.{request_line, status_line, Head, IsHead}
use Rattle.h1_spec.specs.Cleaning.{hops, clean, clean_trailers, says_host}
use Rattle.h1_spec.specs.Targets.{IsTargetOf, HasHost}
use Rattle.h1_spec.specs.Framing.{IsCoded, IsCounted, framing}
use Rattle.h1_spec.specs.Bodies.{IsBody}

-- a head within the limit
abbrev pub IsHeadWithin : Bounds → Head → List ℕ → Type 0
IsHeadWithin L head bytes = IsWithin L.section (length bytes) × IsHead head bytes

-- The head of an informational response, which ends with its head; 101 would end the protocol (RFC 9110, section 15.2).
pub record IsInterimHead (L : Bounds) (interim : Interim) (bytes : List ℕ) : Type 0 where
  pub head : Head
  pub text : IsHeadWithin L head bytes
  pub status : head.start ≡ status_line interim.status
  pub number : IsInterimStatus interim.status
  pub stays : interim.status ≡ 101 → ⊥
  pub fields : interim.fields ≡ clean (hops head.fields) false head.fields
  pub fits : FieldsFit L interim.fields

abbrev pub interims_of : Start → List Interim
interims_of (request control) = []
interims_of (response interims status) = interims

-- what a head says alone, without the informational responses before it
abbrev pub start_of : Said → Start
start_of (of_request control) = request control
start_of (of_response status) = response [] status

-- What the start line of a request, or of a final response, says.
abbrev pub IsStartOf : Scheme1 → Head → Start → Type 0
IsStartOf scheme head (request control) = (target : List ℕ) × (head.start ≡ request_line control.method target)
    × IsTargetOf scheme control.method target control × (control.method ≡ codes "CONNECT" → ⊥) × HasHost control head.fields
IsStartOf scheme head (response interims status) = (head.start ≡ status_line status) × (200 ≤ status)

-- The bytes are the message m within the limits: the heads of informational responses, a request's head or a final
-- response's, and a body. The caller says the scheme of a request whose target names none, and whether a response answers HEAD.
pub record IsHttp1 (L : Bounds) (scheme : Scheme1) (to_head : Bool) (m : Message) (bytes : List ℕ) : Type 0 where
  pub head : Head
  pub trailers : List Field
  pub text : (AreEach (IsInterimHead L) (interims_of m.start) then IsHeadWithin L head then IsBody L
      (framing to_head head) m.content trailers) bytes
  pub start : IsStartOf scheme head m.start
  pub coded : IsCoded head.fields
  pub counted : IsCounted head.fields
  pub fields : m.fields ≡ clean (hops head.fields) (says_host m.start) head.fields
  pub cleaned : m.trailers ≡ clean_trailers (hops head.fields) trailers
  pub content : AreBytes m.content
  pub fits : Fits L m
