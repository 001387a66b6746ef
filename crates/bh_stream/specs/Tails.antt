-- What the items behind a head say: the content, and the trailer section.
use Rattle.std.specs.Prelude.{ℕ, List, [], ◌∷◌}
use Rattle.bh_spec.specs.Messages.{Field}
use Rattle.bh_spec.specs.Items.{Item, interim_response, head, content_byte, trailer_section, ending}

-- the content that items begin with
abbrev pub content_of : List Item → List ℕ
content_of [] = []
content_of ((interim_response status fields) ∷ q) = []
content_of ((head of fields) ∷ q) = []
content_of ((content_byte x) ∷ q) = x ∷ content_of q
content_of ((trailer_section fields) ∷ q) = []
content_of ((ending omitted padding) ∷ q) = []

-- the lines of the trailer section that stands behind it, if one does
abbrev pub trailers_of : List Item → List Field
trailers_of [] = []
trailers_of ((interim_response status fields) ∷ q) = []
trailers_of ((head of fields) ∷ q) = []
trailers_of ((content_byte x) ∷ q) = trailers_of q
trailers_of ((trailer_section fields) ∷ q) = fields
trailers_of ((ending omitted padding) ∷ q) = []
