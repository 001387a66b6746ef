-- What a contract sees of an encoder, and the text that each call sends.
use Rattle.std.specs.Prelude.{◌≡◌, ℕ, Bool, true, false, List, [], ◌∷◌, ◌++◌, map, All}
use Rattle.bh_spec.specs.declared.Kind.{Kind}
use Rattle.bh_spec.specs.declared.Form.TheVariants.{Indeterminate}
use Rattle.bh_spec.specs.Integers.{int}
use Rattle.bh_spec.specs.Messages.{Field, Control, Interim, IsInterim, Start, request, response, Message, kind_of}
use Rattle.bh_spec.specs.Spelling.{framing}
use Rattle.bh_spec.specs.Canonical.{string, section, interim, start, cut, canon, ControlFits, integers}

-- the kind of the message, and whether a call was made
pub record Encoder : Type 0 where
  pub kind : Kind
  pub begun : Bool

abbrev pub at_start : Kind → Encoder
at_start kind = record { kind = kind; begun = false }

abbrev pub after : Encoder → Encoder
after e = record { kind = e.kind; begun = true }

-- a call, with what it is given
pub data Call : Type 0 where
  interim_call : Interim → Call
  request_head : Control → List Field → Call
  response_head : ℕ → List Field → Call
  chunk : List ℕ → Call
  finish : List Field → Call

-- the framing number, before anything else
abbrev pub framing_number : Bool → Kind → List ℕ
framing_number false kind = int (framing kind Indeterminate)
framing_number true kind = []

-- the text that a call sends
abbrev pub text_of : Encoder → Call → List ℕ
text_of e (interim_call i) = framing_number e.begun e.kind ++ interim Indeterminate i
text_of e (request_head control fields) = framing_number e.begun e.kind
    ++ (start Indeterminate (request control) ++ section Indeterminate fields)
text_of e (response_head status fields) = framing_number e.begun e.kind ++ (int status ++ section Indeterminate fields)
text_of e (chunk piece) = string piece
text_of e (finish trailers) = int 0 ++ section Indeterminate trailers

-- the text that calls send together
abbrev pub texts : Encoder → List Call → List ℕ
texts e [] = []
texts e (call ∷ calls) = text_of e call ++ texts (after e) calls

-- the calls that a message begins with
abbrev pub head_calls : Start → List Field → List Call
head_calls (request control) fields = request_head control fields ∷ []
head_calls (response interims status) fields = map interim_call interims ++ response_head status fields ∷ []

-- the calls for a message, with its content cut at 8,192 bytes
abbrev pub calls_of : Message → List Call
calls_of m = head_calls m.start m.fields ++ (map chunk (cut 8192 m.content) ++ finish m.trailers ∷ [])

-- Together they send the canonical text.
abbrev pub SendsCanon : Type 0
SendsCanon = (m : Message) → texts (at_start (kind_of m.start)) (calls_of m) ≡ canon m

-- the encoder behind calls
abbrev pub left : Encoder → List Call → Encoder
left e [] = e
left e (call ∷ calls) = left (after e) calls

-- each of them is valid
abbrev pub AreInterims : List Interim → Type 0
AreInterims interims = All IsInterim interims

-- integers can hold the lengths of the control data
abbrev pub StartHasLengths : Start → Type 0
StartHasLengths (request control) = ControlFits integers control
StartHasLengths (response interims status) = Unit {0}
