-- What was seen of a message, item by item, and the moments that come with an item.
use Rattle.std.specs.Prelude.{ℕ, ◌+◌, List, [], ◌∷◌, ◌++◌}
use Rattle.bh_spec.specs.declared.Omitted.{Omitted}
use Rattle.bh_spec.specs.declared.Omitted.TheVariants.{Nothing, Trailers, Both}
use Rattle.bh_spec.specs.Messages.{Field, Interim, Start, request, response}
use Rattle.bh_spec.specs.Items.{Item, Head, of_request, of_response, interim_response, head, content_byte, trailer_section, ending}
use Rattle.h1_spec.specs.Moments.{Moment, interim_ended, head_ended, content_read, trailers_ended, input_ended}

pub data Seen : Type 0 where
  -- interim responses, and no head yet
  interims_seen : List Interim → Seen
  -- a head, and so many bytes of content
  head_seen : Start → List Field → ℕ → Seen

-- at the start of a message
abbrev pub nothing_seen : Seen
nothing_seen = interims_seen []

abbrev pub start_with : List Interim → Head → Start
start_with interims (of_request control) = request control
start_with interims (of_response status) = response interims status

-- behind an item
abbrev pub see : Seen → Item → Seen
see (interims_seen interims) (interim_response status fields) = interims_seen (interims ++ record { status = status; fields = fields } ∷ [])
see (interims_seen interims) (head of fields) = head_seen (start_with interims of) fields 0
see (interims_seen interims) (content_byte byte) = interims_seen interims
see (interims_seen interims) (trailer_section trailers) = interims_seen interims
see (interims_seen interims) (ending omitted padding) = interims_seen interims
see (head_seen start fields n) (interim_response status more) = head_seen start fields n
see (head_seen start fields n) (head of more) = head_seen start fields n
see (head_seen start fields n) (content_byte byte) = head_seen start fields (n + 1)
see (head_seen start fields n) (trailer_section trailers) = head_seen start fields n
see (head_seen start fields n) (ending omitted padding) = head_seen start fields n

abbrev pub seen_behind : Seen → List Item → Seen
seen_behind seen [] = seen
seen_behind seen (item ∷ q) = seen_behind (see seen item) q

-- Where the trailer section isn't left out, the last moment came with it.
abbrev pub end_moments : Start → List Field → ℕ → Omitted → List Moment
end_moments start fields n Nothing = []
end_moments start fields n Trailers = input_ended start fields n ∷ []
end_moments start fields n Both = input_ended start fields n ∷ []

-- The moments that come with an item: one, or none where the item can't stand there.
abbrev pub moments_of : Seen → Item → List Moment
moments_of (interims_seen interims) (interim_response status fields) = interim_ended (record { status = status; fields = fields }) ∷ []
moments_of (interims_seen interims) (head of fields) = head_ended (start_with interims of) fields ∷ []
moments_of (interims_seen interims) (content_byte byte) = []
moments_of (interims_seen interims) (trailer_section trailers) = []
moments_of (interims_seen interims) (ending omitted padding) = []
moments_of (head_seen start fields n) (interim_response status more) = []
moments_of (head_seen start fields n) (head of more) = []
moments_of (head_seen start fields n) (content_byte byte) = content_read start fields (n + 1) ∷ []
moments_of (head_seen start fields n) (trailer_section trailers) = trailers_ended start fields n trailers ∷ []
moments_of (head_seen start fields n) (ending omitted padding) = end_moments start fields n omitted

abbrev pub moments_in : Seen → List Item → List Moment
moments_in seen [] = []
moments_in seen (item ∷ q) = moments_of seen item ++ moments_in (see seen item) q
