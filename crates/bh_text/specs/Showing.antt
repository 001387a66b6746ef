-- What a contract sees of the writer of a listing, and the lines that each of its calls sends.
use Rattle.std.specs.Prelude.{◌≡◌, ◌*◌, ◌/◌, ℕ, Bool, true, false, List, [], ◌∷◌, ◌++◌, length, take, drop, map, flat_map}
use Rattle.bh_spec.specs.declared.Kind.{Kind}
use Rattle.bh_spec.specs.declared.Kind.TheVariants.{Request, Response}
use Rattle.bh_spec.specs.Messages.{Field, Control, Interim, Start, request, response, Message, kind_of}
use Rattle.bh_spec.specs.Listing.{Line, a_request, a_response, method, scheme, authority, path, status, field, trailer, the_end, interim_lines, content_lines, joined, show}

-- the kind of the message, whether a line was sent, and the content that isn't in a line yet
pub record Writer : Type 0 where
  pub kind : Kind
  pub begun : Bool
  pub waiting : List ℕ

abbrev pub at_start : Kind → Writer
at_start kind = record { kind = kind; begun = false; waiting = [] }

-- a call, with what it is given
pub data Call : Type 0 where
  interim_call : Interim → Call
  request_head : Control → List Field → Call
  response_head : ℕ → List Field → Call
  content : List ℕ → Call
  finish : List Field → Call

-- the first line, before anything else
abbrev pub first_line : Bool → Kind → List Line
first_line true kind = []
first_line false Request = a_request ∷ []
first_line false Response = a_response ∷ []

abbrev pub control_lines : Control → List Line
control_lines c = method c.method ∷ scheme c.scheme ∷ authority c.authority ∷ path c.path ∷ []

-- the front of the content that fills lines of 32 bytes, and what is left of it
abbrev pub filled : List ℕ → List ℕ
filled bytes = take (length bytes / 32 * 32) bytes

abbrev pub unfilled : List ℕ → List ℕ
unfilled bytes = drop (length bytes / 32 * 32) bytes

-- the lines that a call sends: a content line as soon as it has 32 bytes, and the shorter last one at the end
abbrev pub lines_sent : Writer → Call → List Line
lines_sent w (interim_call i) = first_line w.begun w.kind ++ interim_lines i
lines_sent w (request_head c fields) = first_line w.begun w.kind ++ (control_lines c ++ map field fields)
lines_sent w (response_head n fields) = first_line w.begun w.kind ++ (status n ∷ map field fields)
lines_sent w (content piece) = content_lines (filled (w.waiting ++ piece))
lines_sent w (finish trailers) = content_lines w.waiting ++ (map trailer trailers ++ (the_end ∷ []))

-- and their text
abbrev pub text_of : Writer → Call → List ℕ
text_of w call = joined (lines_sent w call)

-- the writer behind a call, whether its writes went well or not
abbrev pub waits : Writer → Call → List ℕ
waits w (interim_call i) = w.waiting
waits w (request_head c fields) = w.waiting
waits w (response_head n fields) = w.waiting
waits w (content piece) = unfilled (w.waiting ++ piece)
waits w (finish trailers) = []

abbrev pub after : Writer → Call → Writer
after w call = record { kind = w.kind; begun = true; waiting = waits w call }

-- the text that calls send together
abbrev pub texts : Writer → List Call → List ℕ
texts w [] = []
texts w (call ∷ calls) = text_of w call ++ texts (after w call) calls

-- the calls that a message begins with
abbrev pub head_calls : Start → List Field → List Call
head_calls (request control) fields = request_head control fields ∷ []
head_calls (response interims n) fields = map interim_call interims ++ response_head n fields ∷ []

-- the calls for a message whose content comes in these pieces
abbrev pub calls_of : Message → List (List ℕ) → List Call
calls_of m pieces = head_calls m.start m.fields ++ (map content pieces ++ finish m.trailers ∷ [])

-- However the content is cut, together they send the listing.
abbrev pub SendsListing : Type 0
SendsListing = (m : Message) (pieces : List (List ℕ)) → m.content ≡ flat_map (λ piece. piece) pieces
    → texts (at_start (kind_of m.start)) (calls_of m pieces) ≡ show m
