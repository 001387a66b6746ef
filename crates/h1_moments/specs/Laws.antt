-- The laws that join the items of the push decoder to the moments of judging. Bytes lead from the start of a message to a state (`Comes`)
-- and hand out items; a state is prompt where no event stands that wasn't handed out.
use Rattle.std.specs.Prelude.{ℕ, ◌≡◌, ◌+◌, ◌-◌, Bool, List, [], ◌∷◌, ◌++◌, length, flat_map, Option, Some, None}
use Rattle.std.specs.List.{Contains}
use Rattle.bh_spec.specs.declared.NoForm.{NoForm}
use Rattle.bh_spec.specs.declared.Omitted.{Omitted}
use Rattle.bh_spec.specs.declared.Refusal.{Refusal}
use Rattle.bh_spec.specs.Bounds.{Bounds, IsWithin}
use Rattle.bh_spec.specs.Messages.{Field, Interim, Start, Message}
use Rattle.bh_spec.specs.Items.{Item, interim_response, head, content_byte, trailer_section, ending, items}
use Rattle.bh_push.specs.Decoders.{At, Rest, in_framing}
use Rattle.bh_push.specs.Standing.{Comes, IsRight, IsPrompt}
use Rattle.bh_push.specs.Pushes.{DecoderView, RefusesFirst, MissesAs}
use Rattle.bh_stream.specs.Decoding.{content_items}
use Rattle.h1_spec.specs.Moments.{Moment, cases_at, first_of}
use Rattle.h1_spec.specs.Judging.{ComesAt, NoneIsJudged, IsJudgedAt, IsUnjudged, end_says}
use Rattle.h1_spec.specs.Translation.{dead, IsIntoAnswer}
use Rattle.h1_moments.specs.Seen.{interims_seen, head_seen, nothing_seen, seen_behind, moments_of, moments_in}

-- ---- no moment comes unseen

-- Where bytes of a message lead to a prompt state, a moment that comes with one of them is one of those of the items that were handed out.
abbrev pub NoneComesUnseen : Type 0
NoneComesUnseen = (L : Bounds) (bytes front more : List ℕ) (i : List Item) (w : At) (moment : Moment) → Comes L (in_framing []) bytes i w
    → IsPrompt L w → bytes ≡ front ++ more → ComesAt L front moment → Contains (moments_in nothing_seen i) moment

-- no rule holds at a moment of the items
abbrev pub AreFree : Bool → List Item → Type 0
AreFree to_head i = first_of (flat_map (cases_at to_head) (moments_in nothing_seen i)) ≡ None

-- the first rule that holds at the moment of an item behind others
abbrev pub form_with : Bool → List Item → Item → Option NoForm
form_with to_head i item = first_of (flat_map (cases_at to_head) (moments_of (seen_behind nothing_seen i) item))

-- So if no rule holds at the items, none of the bytes is judged.
abbrev pub NoneIsJudgedYet : Type 0
NoneIsJudgedYet = (L : Bounds) (to_head : Bool) (bytes more : List ℕ) (i : List Item) (w : At) → Comes L (in_framing []) bytes i w
    → IsPrompt L w → AreFree to_head i → NoneIsJudged L to_head (bytes ++ more) (length bytes)

-- ---- an item's moment comes with its last byte

-- Interim responses and a head stand before any head, and all else behind one.
abbrev pub StandsBehind : List Item → Item → Type 0
StandsBehind i (interim_response status fields) = (interims : List Interim) × (seen_behind nothing_seen i ≡ interims_seen interims)
StandsBehind i (head of fields) = (interims : List Interim) × (seen_behind nothing_seen i ≡ interims_seen interims)
StandsBehind i (content_byte byte) = (start : Start) × (fields : List Field)
    × (seen_behind nothing_seen i ≡ head_seen start fields (content_items i))
StandsBehind i (trailer_section trailers) = (start : Start) × (fields : List Field)
    × (seen_behind nothing_seen i ≡ head_seen start fields (content_items i))
StandsBehind i (ending omitted padding) = (start : Start) × (fields : List Field)
    × (seen_behind nothing_seen i ≡ head_seen start fields (content_items i))

abbrev pub StandsInPlace : Type 0
StandsInPlace = (L : Bounds) (bytes : List ℕ) (i j : List Item) (item : Item) (w : At) → Comes L (in_framing []) bytes (i ++ item ∷ j) w
    → StandsBehind i item

-- The last item, behind the items j, was whole with the last of the bytes: the state is right behind it, or each byte was content.
abbrev pub IsLast : List ℕ → List Item → Item → At → Type 0
IsLast bytes j (interim_response status fields) w = IsRight (interim_response status fields ∷ []) w
IsLast bytes j (head of fields) w = IsRight (head of fields ∷ []) w
IsLast bytes j (content_byte byte) w = length bytes ≡ content_items j + 1
IsLast bytes j (trailer_section trailers) w = IsRight (trailer_section trailers ∷ []) w
IsLast bytes j (ending omitted padding) w = ⊥

-- Some bytes lead from the start to v and hand out i, and a run of others from there to w and hand out j and the item, its last.
pub record LeadsToLast (L : Bounds) (bytes run : List ℕ) (i j : List Item) (item : Item) (v w : At) : Type 0 where
  pub before : Comes L (in_framing []) bytes i v
  pub comes : Comes L v run (j ++ item ∷ []) w
  pub last : IsLast run j item w

abbrev pub ItsMomentComes : Type 0
ItsMomentComes = (L : Bounds) (bytes run : List ℕ) (i j : List Item) (item : Item) (v w : At) (moment : Moment)
    → LeadsToLast L bytes run i j item v w → Contains (moments_of (seen_behind nothing_seen (i ++ j)) item) moment
    → ComesAt L (bytes ++ run) moment

-- ---- the answers

-- Where no rule holds at the items before the last, and one at the last, the last of the bytes is the first that is judged.
abbrev pub JudgedThere : Type 0
JudgedThere = (L : Bounds) (to_head : Bool) (bytes run more : List ℕ) (i j : List Item) (item : Item) (v w : At) (form : NoForm)
    → LeadsToLast L bytes run i j item v w → IsPrompt L w → IsWithin L.input (length (bytes ++ run)) → AreFree to_head (i ++ j)
    → form_with to_head (i ++ j) item ≡ Some form → IsJudgedAt L to_head ((bytes ++ run) ++ more) (length (bytes ++ run) - 1) form

-- a decoder that read the bytes of a message from its start and handed out the items, at which no rule holds
pub record HasRead (L : Bounds) (to_head : Bool) (bytes : List ℕ) (i : List Item) (v : DecoderView) : Type 0 where
  pub comes : Comes L (in_framing []) bytes i v.at
  pub limits : v.limits ≡ L
  pub taken : v.taken ≡ length bytes
  pub free : AreFree to_head i

-- What it refuses is refused, whatever follows,
abbrev pub RefusedWhereFree : Type 0
RefusedWhereFree = (L : Bounds) (to_head : Bool) (bytes piece after : List ℕ) (i : List Item) (v : DecoderView) (r : Refusal)
    → HasRead L to_head bytes i v → RefusesFirst v piece r → IsIntoAnswer L to_head (bytes ++ (piece ++ after)) (dead r)

-- and so is an input that ends too soon.
abbrev pub MissedWhereFree : Type 0
MissedWhereFree = (L : Bounds) (to_head : Bool) (bytes : List ℕ) (i : List Item) (v : DecoderView) (r : Refusal)
    → HasRead L to_head bytes i v → IsPrompt L v.at → MissesAs v r → IsIntoAnswer L to_head bytes (dead r)

-- A message that ends there is judged at none of its bytes, and this is what its end says.
abbrev pub EndsAs : Bounds → Bool → List ℕ → Message → Omitted → ℕ → Option NoForm → Type 0
EndsAs L to_head bytes m omitted padding form = IsUnjudged L to_head bytes m omitted padding × (end_says to_head m omitted ≡ form)

abbrev pub FinishedWhereFree : Type 0
FinishedWhereFree = (L : Bounds) (to_head : Bool) (bytes : List ℕ) (i : List Item) (v : DecoderView) (omitted : Omitted) (padding : ℕ)
    → HasRead L to_head bytes i v → IsPrompt L v.at → IsWithin L.input (length bytes) → Rest L v.at (ending omitted padding ∷ []) []
    → (m : Message) × (items m omitted padding ≡ i ++ ending omitted padding ∷ [])
    × EndsAs L to_head bytes m omitted padding (form_with to_head i (ending omitted padding))
