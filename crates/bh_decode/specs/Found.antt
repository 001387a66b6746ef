-- What was read, by the values that hold it.
use Rattle.std.specs.Prelude.{ℕ, List, [], map, take}
use Rattle.bh_spec.specs.declared.Kind.{Kind}
use Rattle.bh_spec.specs.declared.Form.{Form}
use Rattle.bh_spec.specs.Bounds.{Bounds}
use Rattle.bh_model.specs.Values.{interim_of}
use Rattle.bh_spec.specs.Pieces.{IsText, Ends}
use Rattle.bh_decode.specs.declared.head.AfterControl.{AfterControl}
use Rattle.bh_decode.specs.declared.opening.Opening.{Opening}
use Rattle.bh_decode.specs.declared.tail.Tail.{Tail}
use Rattle.bh_decode.specs.declared.whole.Whole.{Whole}
use Rattle.bh_decode.specs.Contexts.{Context}
use Rattle.bh_decode.specs.Grammar.{IsResponseText, IsAfterStart, RestOf, AfterOf, FramedOf}
use Rattle.bh_decode.specs.Responses.{OpeningOf}

-- the bytes are content, trailer section and padding, as far as they aren't left out
abbrev pub IsTailOf : Bounds → Form → List ℕ → Tail → Type 0
IsTailOf L form bytes tail = IsText (RestOf L form tail.content tail.trailers.lines tail.omitted tail.padding) bytes

-- the bytes are a header section and what stands behind it
abbrev pub IsAfterControl : Bounds → Form → List ℕ → AfterControl → Type 0
IsAfterControl L form bytes after =
    IsText (AfterOf L form after.fields.lines after.tail.content after.tail.trailers.lines after.tail.omitted after.tail.padding) bytes

-- the bytes begin with the interim responses and the final status, which have `taken` of them
abbrev pub IsOpening : Bounds → Form → List ℕ → Opening → Type 0
IsOpening L form bytes opening = Ends (OpeningOf L form (map interim_of opening.interims) opening.status) [] bytes opening.taken

-- behind these bytes of a response stands what stands behind its final status
abbrev pub IsBehindOpening : Bounds → Form → List ℕ → Opening → Type 0
IsBehindOpening L form bytes opening = Context (IsResponseText L form 0) (IsAfterStart L form) (take opening.taken bytes) 0

-- the bytes are a message of this kind and form, behind its framing number
abbrev pub IsFramedMessage : Bounds → Kind → Form → List ℕ → Whole → Type 0
IsFramedMessage L kind form bytes read = IsText (FramedOf L kind form read.message read.omitted read.padding) bytes
