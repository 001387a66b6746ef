-- The decoder of a call, with what is counted for the summary, as the loop sees it.
use Rattle.std.specs.Prelude.{ℕ, ◌≡◌, ◌≤◌, ◌+◌, ◌-◌, ◌^◌, min, Option, Some, None, List, [], ◌∷◌, length}
use Rattle.bh_spec.specs.declared.Kind.{Kind}
use Rattle.bh_spec.specs.declared.Omitted.{Omitted}
use Rattle.bh_spec.specs.declared.Refusal.{Refusal}
use Rattle.bh_spec.specs.declared.Summary.{Summary}
use Rattle.bh_spec.specs.Bounds.{Bounds, no_bounds}
use Rattle.bh_spec.specs.Texts.{Text}
use Rattle.bh_spec.specs.Items.{Item, interim_response, head, content_byte, trailer_section, ending}
use Rattle.bh_spec.specs.Readers.{Moves}
use Rattle.bh_push.specs.Decoders.{Rest as rest_at}
use Rattle.bh_push.specs.Pushes.{start_view, RefusesFirst, MissesAs}
use Rattle.bh_push.specs.Hands.{Held, kind_of_head}
use Rattle.bh_stream.specs.Decoding.{content_items}
use Rattle.bh_stream.specs.declared.traits.Event.{Event}
use Rattle.bh_reading.specs.Handing.{ShowsAs}

-- the decoder, and the kind, the field lines and the content of what was handed out
pub record Counted : Type 0 where
  pub held : Held
  pub kind : Kind
  pub lines : ℕ
  pub content : ℕ

-- what completes the message
abbrev pub rest : Counted → List Item → Text → Type 0
rest v q t = rest_at v.held.decoder.limits v.held.decoder.at q t

-- the limits that it keeps
abbrev pub limits : Counted → Bounds
limits v = v.held.decoder.limits

-- how many bytes are within the limit of the input, behind those that were taken
abbrev pub within_limit : Option ℕ → ℕ → ℕ
within_limit None taken = 0
within_limit (Some limit) taken = limit - taken

abbrev pub room : Counted → ℕ
room v = within_limit v.held.decoder.limits.input v.held.decoder.taken

-- the field lines of items, and the kind that they say
abbrev pub lines_in : List Item → ℕ
lines_in [] = 0
lines_in ((interim_response status fields) ∷ q) = length fields + lines_in q
lines_in ((head of fields) ∷ q) = length fields + lines_in q
lines_in ((content_byte x) ∷ q) = lines_in q
lines_in ((trailer_section fields) ∷ q) = length fields + lines_in q
lines_in ((ending omitted padding) ∷ q) = lines_in q

abbrev pub kind_behind : List Item → Kind → Kind
kind_behind [] kind = kind
kind_behind ((interim_response status fields) ∷ q) kind = kind_behind q kind
kind_behind ((head of fields) ∷ q) kind = kind_behind q (kind_of_head of)
kind_behind ((content_byte x) ∷ q) kind = kind_behind q kind
kind_behind ((trailer_section fields) ∷ q) kind = kind_behind q kind
kind_behind ((ending omitted padding) ∷ q) kind = kind_behind q kind

-- a counter stands at its last value
abbrev pub count : ℕ → ℕ
count n = min n (2 ^ 64 - 1)

-- the input has a limit, and so many bytes are within it
pub record IsInput (L : Bounds) (bytes : ℕ) : Type 0 where
  pub limit : ℕ
  pub limit_is : L.input ≡ Some limit
  pub few : bytes ≤ limit

-- The bytes lead from v to w and hand out these items.
pub record Moved (v : Counted) (bytes : List ℕ) (items : List Item) (w : Counted) : Type 0 where
  pub input : IsInput v.held.decoder.limits (v.held.decoder.taken + length bytes)
  pub comes : Moves (rest_at v.held.decoder.limits v.held.decoder.at) (rest_at no_bounds v.held.decoder.at)
      (rest_at v.held.decoder.limits w.held.decoder.at) (rest_at no_bounds w.held.decoder.at) bytes items
  pub limits : w.held.decoder.limits ≡ v.held.decoder.limits
  pub taken : w.held.decoder.taken ≡ v.held.decoder.taken + length bytes
  pub refusal : w.held.decoder.refusal ≡ None
  pub kind : w.kind ≡ kind_behind items v.kind
  pub lines : w.lines ≡ count (v.lines + lines_in items)
  pub content : w.content ≡ count (v.content + content_items items)

-- nothing was refused, and something completes the message
pub record IsReady (v : Counted) : Type 0 where
  pub refusal : v.held.decoder.refusal ≡ None
  pub input : IsInput v.held.decoder.limits v.held.decoder.taken
  pub items : List Item
  pub text : Text
  pub alive : rest v items text
  pub lines : v.lines ≤ 2 ^ 64 - 1
  pub content : v.content ≤ 2 ^ 64 - 1

-- the item of an event, as the decoder shows it
abbrev pub shows : Counted → Event → Item → Type 0
shows v event item = ShowsAs v.held.head v.held.lines event item

abbrev pub refuses : Counted → List ℕ → Refusal → Type 0
refuses v piece r = RefusesFirst v.held.decoder piece r

abbrev pub misses : Counted → Refusal → Type 0
misses v r = MissesAs v.held.decoder r

abbrev pub tells : Counted → Omitted → ℕ → Summary → Type 0
tells v omitted padding s = s ≡ record {
  kind = v.kind;
  bytes = v.held.decoder.taken;
  lines = v.lines;
  content = v.content;
  padding = padding;
  omitted = omitted;
}

-- a decoder at the start of a message within the limits
pub record IsAtStart (L : Bounds) (v : Counted) : Type 0 where
  pub decoder : v.held.decoder ≡ start_view L
  pub lines : v.lines ≡ 0
  pub content : v.content ≡ 0
