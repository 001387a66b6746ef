-- What a decoder hands out, and what it shows beside where it stands.
use Rattle.std.specs.Prelude.{ℕ, ◌≡◌, ◌<◌, ◌+◌, ◌⊎◌, Option, Some, None, List, [], ◌∷◌, length, map}
use Rattle.bh_spec.specs.declared.Form.{Form}
use Rattle.bh_spec.specs.declared.Kind.{Kind}
use Rattle.bh_spec.specs.declared.Kind.TheVariants.{Request, Response}
use Rattle.bh_spec.specs.Messages.{Control, Field}
use Rattle.bh_spec.specs.Bounds.{Bounds}
use Rattle.bh_spec.specs.Items.{Item, Head, of_request, of_response, interim_response, head, content_byte, trailer_section}
use Rattle.bh_push.specs.declared.decoder.Pushed.{Pushed}
use Rattle.bh_push.specs.declared.decoder.Pushed.TheVariants as pushed
use Rattle.bh_push.specs.Decoders.{At, in_framing, in_control, in_status, before_interim, in_interim, before_header, in_header, behind_head, in_length, in_content, behind_content, in_trailers, in_padding, IsBehindContent}
use Rattle.bh_push.specs.Standing.{head_behind, LinesAre, EndsWith, IsRunOver}
use Rattle.bh_push.specs.Pushes.{DecoderView, start_view, Took, Refuses}

-- A decoder, the head of the message once it was handed out, and the lines of the section that was handed out last, until the next
-- begins.
pub record Held : Type 0 where
  pub decoder : DecoderView
  pub head : Option Head
  pub lines : Option (List Field)

-- at the start of a message
abbrev pub start_held : Bounds → Option (List Field) → Held
start_held L lines = record { decoder = start_view L; head = None; lines = lines }

-- a byte of a section was taken, and it isn't whole
abbrev pub IsInSection : At → Type 0
IsInSection (in_framing begun) = ⊥
IsInSection (in_control form read) = ⊥
IsInSection (in_status form before begun) = ⊥
IsInSection (before_interim form before status) = ⊥
IsInSection (in_interim form before status v) = Unit {0}
IsInSection (before_header form of) = ⊥
IsInSection (in_header form of v) = Unit {0}
IsInSection (behind_head form) = ⊥
IsInSection (in_length form begun) = ⊥
IsInSection (in_content form missing) = ⊥
IsInSection (behind_content form) = ⊥
IsInSection (in_trailers form v) = Unit {0}
IsInSection (in_padding before) = ⊥

-- So many bytes of the piece were taken, and yield the items. The head is the last that was handed out, and the lines stay until a
-- byte of the next section is taken.
pub record Handed (v : Held) (piece : List ℕ) (count : ℕ) (yields : List Item) (w : Held) : Type 0 where
  pub took : Took v.decoder piece count yields w.decoder
  pub head : w.head ≡ head_behind yields v.head
  pub lines : LinesAre yields (IsInSection w.decoder.at) (w.lines ≡ v.lines) w.lines

-- Of content as many bytes were taken as the piece has of its length or chunk, and the limit of the input allows.
abbrev pub IsLong : Held → List ℕ → ℕ → Held → Type 0
IsLong v piece taken w = (taken ≡ length piece) ⊎ (IsRunOver w.decoder.at ⊎ (v.decoder.limits.input ≡ Some w.decoder.taken))

-- what is shown stays where something is refused
pub record Keeps (v w : Held) : Type 0 where
  pub head : w.head ≡ v.head
  pub lines : IsInSection w.decoder.at ⊎ (w.lines ≡ v.lines)

-- From some bytes of the piece come these items. An event is given with its last byte.
abbrev pub Hands : Held → List ℕ → Pushed → Held → Type 0
Hands v piece pushed.Need w = Handed v piece (length piece) [] w
Hands v piece (pushed.Interim taken status) w = (0 < taken) × (fields : List Field)
    × Handed v piece taken (interim_response status fields ∷ []) w
Hands v piece (pushed.Head taken) w = (0 < taken) × (of : Head) × (fields : List Field) × Handed v piece taken (head of fields ∷ []) w
Hands v piece (pushed.Content taken bytes) w =
    Handed v piece taken (map content_byte bytes.now) w × EndsWith piece taken bytes.now × IsLong v piece taken w
Hands v piece (pushed.Trailers taken) w = (0 < taken) × (fields : List Field) × Handed v piece taken (trailer_section fields ∷ []) w
Hands v piece (pushed.Refused r) w = Refuses v.decoder.refusal v.decoder piece r w.decoder × Keeps v w

-- Behind an event the decoder stands right behind the thing that was handed out: it comes with its last byte, and takes nothing
-- behind it.
abbrev pub IsRightBehind : Pushed → At → Type 0
IsRightBehind pushed.Need w = Unit {0}
IsRightBehind (pushed.Interim taken status) w = (form : Form) × (before : ℕ) × (w ≡ in_status form (before + 1) [])
IsRightBehind (pushed.Head taken) w = (form : Form) × (w ≡ behind_head form)
IsRightBehind (pushed.Content taken bytes) w = IsBehindContent w
IsRightBehind (pushed.Trailers taken) w = w ≡ in_padding 0
IsRightBehind (pushed.Refused r) w = Unit {0}

-- ---- what is read off a decoder

abbrev pub kind_of_head : Head → Kind
kind_of_head (of_request control) = Request
kind_of_head (of_response status) = Response

abbrev pub kind_of_shown : Option Head → Option Kind
kind_of_shown None = None
kind_of_shown (Some of) = Some (kind_of_head of)

-- the kind of the message, from the framing number on
abbrev pub kind_at : At → Option Head → Option Kind
kind_at (in_framing begun) shown = None
kind_at (in_control form read) shown = Some Request
kind_at (in_status form before begun) shown = Some Response
kind_at (before_interim form before status) shown = Some Response
kind_at (in_interim form before status v) shown = Some Response
kind_at (before_header form of) shown = Some (kind_of_head of)
kind_at (in_header form of v) shown = Some (kind_of_head of)
kind_at (behind_head form) shown = kind_of_shown shown
kind_at (in_length form begun) shown = kind_of_shown shown
kind_at (in_content form missing) shown = kind_of_shown shown
kind_at (behind_content form) shown = kind_of_shown shown
kind_at (in_trailers form v) shown = kind_of_shown shown
kind_at (in_padding before) shown = kind_of_shown shown

abbrev pub status_shown : Option Head → Option ℕ
status_shown None = None
status_shown (Some (of_request control)) = None
status_shown (Some (of_response status)) = Some status

abbrev pub control_shown : Option Head → Option Control
control_shown None = None
control_shown (Some (of_request control)) = Some control
control_shown (Some (of_response status)) = None
