-- What is known behind the items of a message for its judgement, what is looked at with each item, and the items of the cleaned message.
use Rattle.std.specs.Prelude.{ℕ, ◌≡◌, ◌+◌, Bool, false, List, [], ◌∷◌, Option, None}
use Rattle.bh_spec.specs.Messages.{Field}
use Rattle.bh_spec.specs.Items.{Item, interim_response, head, content_byte, trailer_section, ending}
use Rattle.bh_spec.specs.declared.NoForm.{NoForm}
use Rattle.h1_spec.specs.declared.Framing1.{Framing1}
use Rattle.h1_spec.specs.declared.Framing1.TheVariants.{Empty, Counted, Chunked, ToEnd}
use Rattle.h1_spec.specs.Cleaning.{hops, clean, clean_trailers, says_host}
use Rattle.h1_spec.specs.Http1Text.{Case, of_interim, of_head}
use Rattle.h1_spec.specs.Moments.{announced, of_byte, of_trailers, first_of}
use Rattle.h1_spec.specs.Http1.{start_of}

-- ---- the cleaned message

-- The lines of an item's section that are the message's own. A trailer section is cleaned by the names of the header section.
abbrev pub own_fields : List (List ℕ) → Item → List Field
own_fields named (interim_response status fields) = clean (hops fields) false fields
own_fields named (head of fields) = clean (hops fields) (says_host (start_of of)) fields
own_fields named (content_byte x) = []
own_fields named (trailer_section fields) = clean_trailers named fields
own_fields named (ending omitted padding) = []

-- the item with these alone
abbrev pub cleaned_item : List (List ℕ) → Item → Item
cleaned_item named (interim_response status fields) = interim_response status (own_fields named (interim_response status fields))
cleaned_item named (head of fields) = head of (own_fields named (head of fields))
cleaned_item named (content_byte x) = content_byte x
cleaned_item named (trailer_section fields) = trailer_section (own_fields named (trailer_section fields))
cleaned_item named (ending omitted padding) = ending omitted padding

-- the names that the last header section, or section of an interim response, keeps to its connection
abbrev pub named_behind : List (List ℕ) → Item → List (List ℕ)
named_behind named (interim_response status fields) = hops fields
named_behind named (head of fields) = hops fields
named_behind named (content_byte x) = named
named_behind named (trailer_section fields) = named
named_behind named (ending omitted padding) = named

abbrev pub cleaned_items : List (List ℕ) → List Item → List Item
cleaned_items named [] = []
cleaned_items named (item ∷ q) = cleaned_item named item ∷ cleaned_items (named_behind named item) q

-- ---- the judgement

-- The body that the head announced: before the head, and behind the trailer section, nothing is judged by it, as by one that lasts to
-- the end. How many bytes were read of a counted body, and the names of the last header section.
pub record Course : Type 0 where
  pub framing : Framing1
  pub counted : ℕ
  pub named : List (List ℕ)

abbrev pub start_course : Course
start_course = record { framing = ToEnd; counted = 0; named = [] }

abbrev pub framing_behind : Bool → Framing1 → Item → Framing1
framing_behind to_head framing (interim_response status fields) = framing
framing_behind to_head framing (head of fields) = announced to_head (start_of of) fields
framing_behind to_head framing (content_byte x) = framing
framing_behind to_head framing (trailer_section fields) = ToEnd
framing_behind to_head framing (ending omitted padding) = framing

-- so many bytes more of content
abbrev pub counted_more : Framing1 → ℕ → ℕ → ℕ
counted_more Empty n more = n
counted_more (Counted field) n more = n + more
counted_more Chunked n more = n
counted_more ToEnd n more = n

abbrev pub counted_behind : Framing1 → ℕ → Item → ℕ
counted_behind framing n (interim_response status fields) = n
counted_behind framing n (head of fields) = 0
counted_behind framing n (content_byte x) = counted_more framing n 1
counted_behind framing n (trailer_section fields) = n
counted_behind framing n (ending omitted padding) = n

abbrev pub behind_item : Bool → Course → Item → Course
behind_item to_head c item = record {
  framing = framing_behind to_head c.framing item;
  counted = counted_behind c.framing c.counted item;
  named = named_behind c.named item;
}

abbrev pub behind : Bool → Course → List Item → Course
behind to_head c [] = c
behind to_head c (item ∷ q) = behind to_head (behind_item to_head c item) q

-- The rules that are looked at when the item comes, in their order. Those of the end of the input are `of_end`.
abbrev pub item_cases : Course → Item → List Case
item_cases c (interim_response status fields) = of_interim (record { status = status; fields = fields })
item_cases c (head of fields) = of_head (start_of of) fields
item_cases c (content_byte x) = of_byte c.framing (c.counted + 1)
item_cases c (trailer_section fields) = of_trailers c.framing c.counted (clean_trailers c.named fields)
item_cases c (ending omitted padding) = []

-- the first of them that holds
abbrev pub item_form : Course → Item → Option NoForm
item_form c item = first_of (item_cases c item)

-- none holds with any of the items
abbrev pub AreFree : Bool → Course → List Item → Type 0
AreFree to_head c [] = Unit {0}
AreFree to_head c (item ∷ q) = (item_form c item ≡ None) × AreFree to_head (behind_item to_head c item) q
