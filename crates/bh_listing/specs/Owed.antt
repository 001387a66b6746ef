-- What is still to be written of a listing, by the items that are still to come.
use Rattle.std.specs.Prelude.{◌≡◌, ℕ, Bool, true, false, List, [], ◌∷◌, ◌++◌, length, flat_map}
use Rattle.bh_spec.specs.declared.Kind.{Kind}
use Rattle.bh_spec.specs.declared.Kind.TheVariants.{Request, Response}
use Rattle.bh_spec.specs.Listing.{Line, a_request, a_response, method, scheme, authority, path, interim, status, field, content, trailer, the_end, text_of}
use Rattle.bh_spec.specs.Messages.{Field}
use Rattle.bh_spec.specs.Items.{Item, interim_response, head, content_byte, trailer_section, ending, Head, of_request, of_response}
use Rattle.bh_push.specs.Hands.{kind_of_head}
use Rattle.bh_stream.specs.Outputs.{Output, plain}
use Rattle.bh_text.specs.Showing.{Writer, Call, interim_call, request_head, response_head, finish, lines_sent, after}
use Rattle.bh_text.specs.Showing as calls

-- What contracts see of a writer of listings: the writer of the lines, and whether the last line was sent.
pub record Lister : Type 0 where
  pub writer : Writer
  pub ended : Bool

abbrev pub at_start : Lister
at_start = record { writer = calls.at_start Request; ended = false }

-- the bytes of content of a line
abbrev pub content_of : Line → ℕ
content_of a_request = 0
content_of a_response = 0
content_of (method m) = 0
content_of (scheme s) = 0
content_of (authority a) = 0
content_of (path p) = 0
content_of (interim n) = 0
content_of (status n) = 0
content_of (field f) = 0
content_of (content bytes) = length bytes
content_of (trailer f) = 0
content_of the_end = 0

-- lines as output: the content of a line is whole with its line feed
abbrev pub line_output : Line → Output
line_output line = plain (text_of line) ++ ((content_of line, 10) ∷ [])

abbrev pub output : List Line → Output
output lines = flat_map line_output lines

-- a writer that sent nothing becomes one of this kind
abbrev pub of_kind : Bool → Kind → Writer → Writer
of_kind true kind w = w
of_kind false kind w = calls.at_start kind

abbrev pub for_kind : Kind → Writer → Writer
for_kind kind w = of_kind w.begun kind w

-- the call for a head
abbrev pub head_call : Head → List Field → Call
head_call (of_request control) fields = request_head control fields
head_call (of_response n) fields = response_head n fields

-- the lines at the end, where the last line was sent or no trailer section came
abbrev pub last_lines : Bool → Writer → List Line
last_lines true w = []
last_lines false w = lines_sent w (finish [])

-- the lines that are sent for an item
abbrev pub lines_now : Bool → Writer → Item → List Line
lines_now ended w (interim_response n fields) = lines_sent (for_kind Response w) (interim_call (record { status = n; fields = fields }))
lines_now ended w (head of fields) = lines_sent (for_kind (kind_of_head of) w) (head_call of fields)
lines_now ended w (content_byte x) = lines_sent w (calls.content (x ∷ []))
lines_now ended w (trailer_section fields) = lines_sent w (finish fields)
lines_now ended w (ending omitted padding) = last_lines ended w

-- and the writer behind it
abbrev pub behind : Lister → Item → Lister
behind s (interim_response n fields) =
    record { writer = after (for_kind Response s.writer) (interim_call (record { status = n; fields = fields })); ended = s.ended }
behind s (head of fields) = record { writer = after (for_kind (kind_of_head of) s.writer) (head_call of fields); ended = s.ended }
behind s (content_byte x) = record { writer = after s.writer (calls.content (x ∷ [])); ended = s.ended }
behind s (trailer_section fields) = record { writer = after s.writer (finish fields); ended = true }
behind s (ending omitted padding) = s

-- the lines that are still to be written
abbrev pub lines_owed : Lister → List Item → List Line
lines_owed s [] = []
lines_owed s (item ∷ q) = lines_now s.ended s.writer item ++ lines_owed (behind s item) q

abbrev pub owed : Lister → List Item → Output
owed s q = output (lines_owed s q)

-- how many bytes of content wait for a line
abbrev pub held : Lister → ℕ
held s = length s.writer.waiting

-- nothing waits before the first line
abbrev pub takes : Lister → List Item → Type 0
takes s q = s.writer.begun ≡ false → s.writer.waiting ≡ []
