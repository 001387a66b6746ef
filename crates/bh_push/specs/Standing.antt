-- From one place of a decoder to another, within limits and without.
use Rattle.std.specs.Prelude.{ℕ, ◌≡◌, ◌+◌, ◌⊎◌, ◌<◌, Option, Some, List, [], ◌∷◌, ◌++◌, length, take}
use Rattle.bh_spec.specs.declared.Form.{Form}
use Rattle.bh_spec.specs.Bounds.{Bounds, IsWithin, no_bounds}
use Rattle.bh_spec.specs.Messages.{Field}
use Rattle.bh_spec.specs.Items.{Item, Head, interim_response, head, content_byte, trailer_section, ending}
use Rattle.bh_spec.specs.Readers.{Moves}
use Rattle.bh_control.specs.Control.{ControlState}
use Rattle.bh_control.specs.Phases.{Read}
use Rattle.bh_fields.specs.Middle.{SectionView, Rest as section_rest}
use Rattle.bh_push.specs.Decoders.{At, Rest, in_framing, in_control, in_status, before_interim, in_interim, before_header, in_header, behind_head, in_length, in_content, behind_content, in_trailers, in_padding, IsBehindContent}

-- the bytes, which yield the items, lead from v to w
abbrev pub Comes : Bounds → At → List ℕ → List Item → At → Type 0
Comes L v bytes yields w = Moves (Rest L v) (Rest no_bounds v) (Rest L w) (Rest no_bounds w) bytes yields

-- The least status that may come behind so many interim responses: of one more, or of a final response.
abbrev pub IsLeastStatus : Bounds → ℕ → ℕ → Type 0
IsLeastStatus L before least = ((least ≡ 100) × IsWithin L.interims (before + 1)) ⊎ ((least ≡ 200) × (IsWithin L.interims (before + 1) → ⊥))

-- what is stored of control data that is read
abbrev pub read_in : ControlState → Read
read_in v = record { phase = v.phase; begun = v.begun; control = v.control }

-- the head that was handed out last, behind these items
abbrev pub head_behind : List Item → Option Head → Option Head
head_behind [] before = before
head_behind (interim_response status fields ∷ q) before = head_behind q before
head_behind (head of fields ∷ q) before = head_behind q (Some of)
head_behind (content_byte x ∷ q) before = head_behind q before
head_behind (trailer_section fields ∷ q) before = head_behind q before
head_behind (ending omitted padding ∷ q) before = head_behind q before

-- The lines that are shown are those of the section that was handed out last, until a byte of the next section is taken.
abbrev pub LinesAre : List Item → (inside same : Type 0) → Option (List Field) → Type 0
LinesAre [] inside same shown = inside ⊎ same
LinesAre (interim_response status fields ∷ q) inside same shown = shown ≡ Some fields
LinesAre (head of fields ∷ q) inside same shown = shown ≡ Some fields
LinesAre (content_byte x ∷ q) inside same shown = same
LinesAre (trailer_section fields ∷ q) inside same shown = shown ≡ Some fields
LinesAre (ending omitted padding ∷ q) inside same shown = same

-- the bytes taken end with these bytes of content, of which there is one at least
pub record EndsWith (piece : List ℕ) (taken : ℕ) (bytes : List ℕ) : Type 0 where
  pub some : 0 < length bytes
  pub front : List ℕ
  pub ends : take taken piece ≡ front ++ bytes

-- no byte of the content, or of the chunk, is missing
abbrev pub IsRunOver : At → Type 0
IsRunOver at = (form : Form) (missing : ℕ) → at ≡ in_content form missing → ⊥

-- the place right behind the thing that was handed out last: no byte behind it was taken
abbrev pub IsRight : List Item → At → Type 0
IsRight [] w = Unit {0}
IsRight (interim_response status fields ∷ q) w = (form : Form) × (before : ℕ) × (w ≡ in_status form (before + 1) [])
IsRight (head of fields ∷ q) w = (form : Form) × (w ≡ behind_head form)
IsRight (content_byte x ∷ q) w = IsBehindContent w
IsRight (trailer_section fields ∷ q) w = w ≡ in_padding 0
IsRight (ending omitted padding ∷ q) w = Unit {0}

-- Nothing more would complete the section: it is whole.
abbrev pub IsWhole : Bounds → SectionView → Type 0
IsWhole L v = (fields : List Field) × section_rest L v fields []

-- No event stands at the place: no section is whole whose event is still to come. A byte of content is an item of its own.
abbrev pub IsPrompt : Bounds → At → Type 0
IsPrompt L (in_framing begun) = Unit {0}
IsPrompt L (in_control form read) = Unit {0}
IsPrompt L (in_status form before begun) = Unit {0}
IsPrompt L (before_interim form before status) = Unit {0}
IsPrompt L (in_interim form before status v) = IsWhole L v → ⊥
IsPrompt L (before_header form of) = Unit {0}
IsPrompt L (in_header form of v) = IsWhole L v → ⊥
IsPrompt L (behind_head form) = Unit {0}
IsPrompt L (in_length form begun) = Unit {0}
IsPrompt L (in_content form missing) = Unit {0}
IsPrompt L (behind_content form) = Unit {0}
IsPrompt L (in_trailers form v) = IsWhole L v → ⊥
IsPrompt L (in_padding before) = Unit {0}
