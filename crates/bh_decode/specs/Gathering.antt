-- What is gathered of the items that were handed out, in any order of their kinds.
use Rattle.std.specs.Prelude.{ℕ, ◌≡◌, ◌<◌, None, List, [], ◌∷◌, ◌++◌, map, option_map}
use Rattle.bh_spec.specs.Messages.{Field, Interim, Start, request, response, Message}
use Rattle.bh_spec.specs.Items.{Item, interim_response, head, content_byte, trailer_section, ending}
use Rattle.bh_model.specs.Values.{control_of, interim_of, IsEnded, AreEnded, control_in, status_in}
use Rattle.bh_push.specs.declared.decoder.Pushed.TheVariants as pushed
use Rattle.bh_push.specs.Hands.{Held, Handed, Hands, control_shown, status_shown}
use Rattle.bh_push.specs.Standing.{head_behind}
use Rattle.bh_decode.specs.declared.gathered.Gathered.{Gathered}
use Rattle.bh_decode.specs.declared.spelling.ReadError.{ReadError}
use Rattle.bh_decode.specs.declared.spelling.ReadError.TheVariants.{Refused, NoMemory}

-- the interim responses
abbrev pub interims_handed : List Item → List Interim
interims_handed [] = []
interims_handed (interim_response status fields ∷ q) = record { status = status; fields = fields } ∷ interims_handed q
interims_handed (head of fields ∷ q) = interims_handed q
interims_handed (content_byte x ∷ q) = interims_handed q
interims_handed (trailer_section fields ∷ q) = interims_handed q
interims_handed (ending omitted padding ∷ q) = interims_handed q

-- the header section that came last, or else that before
abbrev pub header_handed : List Item → List Field → List Field
header_handed [] before = before
header_handed (interim_response status fields ∷ q) before = header_handed q before
header_handed (head of fields ∷ q) before = header_handed q fields
header_handed (content_byte x ∷ q) before = header_handed q before
header_handed (trailer_section fields ∷ q) before = header_handed q before
header_handed (ending omitted padding ∷ q) before = header_handed q before

-- the content
abbrev pub content_handed : List Item → List ℕ
content_handed [] = []
content_handed (interim_response status fields ∷ q) = content_handed q
content_handed (head of fields ∷ q) = content_handed q
content_handed (content_byte x ∷ q) = x ∷ content_handed q
content_handed (trailer_section fields ∷ q) = content_handed q
content_handed (ending omitted padding ∷ q) = content_handed q

-- the trailer section that came last, or else that before
abbrev pub trailers_handed : List Item → List Field → List Field
trailers_handed [] before = before
trailers_handed (interim_response status fields ∷ q) before = trailers_handed q before
trailers_handed (head of fields ∷ q) before = trailers_handed q before
trailers_handed (content_byte x ∷ q) before = trailers_handed q before
trailers_handed (trailer_section fields ∷ q) before = trailers_handed q fields
trailers_handed (ending omitted padding ∷ q) before = trailers_handed q before

-- these are what the items were
pub record IsGathered (g : Gathered) (q : List Item) : Type 0 where
  pub interims : map interim_of g.interims ≡ interims_handed q
  pub control : option_map control_of g.control ≡ control_shown (head_behind q None)
  pub status : g.status ≡ status_shown (head_behind q None)
  pub fields : g.fields.lines ≡ header_handed q []
  pub content : g.content.items ≡ content_handed q
  pub trailers : g.trailers.lines ≡ trailers_handed q []
  pub interims_ended : AreEnded g.interims
  pub fields_ended : IsEnded g.fields
  pub trailers_ended : IsEnded g.trailers

-- items were added
abbrev pub Adds : Gathered → List Item → Gathered → Type 0
Adds g yields h = (q : List Item) → IsGathered g q → IsGathered h (q ++ yields)

-- so many bytes of the piece were taken, one at least, and what they yield was added
abbrev pub Gathers : Held → Gathered → List ℕ → ℕ → Held → Gathered → Type 0
Gathers v g piece taken w h = (0 < taken) × (yields : List Item) × Handed v piece taken yields w × Adds g yields h

-- the piece is refused, unless memory ran out
abbrev pub IsRefusal : Held → List ℕ → Held → ReadError → Type 0
IsRefusal v piece w (Refused refusal) = Hands v piece (pushed.Refused refusal) w
IsRefusal v piece w NoMemory = Unit {0}

abbrev pub interims_of : Start → List Interim
interims_of (request control) = []
interims_of (response interims status) = interims

-- these are the parts of the message
pub record AreParts (g : Gathered) (m : Message) : Type 0 where
  pub interims : map interim_of g.interims ≡ interims_of m.start
  pub control : option_map control_of g.control ≡ control_in m.start
  pub status : g.status ≡ status_in m.start
  pub fields : g.fields.lines ≡ m.fields
  pub content : g.content.items ≡ m.content
  pub trailers : g.trailers.lines ≡ m.trailers
  pub interims_ended : AreEnded g.interims
  pub fields_ended : IsEnded g.fields
  pub trailers_ended : IsEnded g.trailers
