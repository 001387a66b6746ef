-- The reader of an HTTP/1.1 message as the loop over a port sees it.
use Rattle.std.specs.Prelude.{ℕ, ◌≡◌, ◌<◌, ◌≤◌, ◌+◌, ◌-◌, ◌^◌, ◌⊎◌, Bool, false, Option, Some, List, [], ◌∷◌, ◌++◌, length, take}
use Rattle.bh_spec.specs.declared.Kind.{Kind}
use Rattle.bh_spec.specs.declared.Omitted.{Omitted}
use Rattle.bh_spec.specs.declared.Omitted.TheVariants.{Nothing}
use Rattle.bh_spec.specs.declared.Summary.{Summary}
use Rattle.bh_spec.specs.declared.H1Why.{H1Why}
use Rattle.bh_spec.specs.declared.H1Why.TheVariants as why
use Rattle.bh_spec.specs.Bounds.{Bounds}
use Rattle.bh_spec.specs.Messages.{Field}
use Rattle.bh_spec.specs.Texts.{Text, bytes_of, content_in}
use Rattle.bh_spec.specs.Residuals.{IsResidual}
use Rattle.bh_spec.specs.Items.{Item, ending, Head}
use Rattle.bh_stream.specs.Decoding.{content_items}
use Rattle.bh_stream.specs.declared.traits.Event.{Event}
use Rattle.bh_reading.specs.Handing.{ShowsAs}
use Rattle.bh_reading.specs.Readings.{within_limit, lines_in, kind_behind, count, IsInput}
use Rattle.h1_spec.specs.declared.Scheme1.{Scheme1}
use Rattle.h1_read.specs.Places.{Setting, Place, in_head, RestFrom, MayCome}
use Rattle.h1_read.specs.Wrong.{WrongFrom}

-- Where a reader stands, how many bytes it took, the kind, the field lines and the content of what it handed out, whether it refused
-- something, and what it shows: the head once it was handed out, and the cleaned lines of the section that was handed out last.
pub record View : Type 0 where
  pub setting : Setting
  pub place : Place
  pub taken : ℕ
  pub kind : Kind
  pub lines : ℕ
  pub content : ℕ
  pub refused : Bool
  pub head : Option Head
  pub fields : Option (List Field)

-- what completes the message
abbrev pub rest : View → List Item → Text → Type 0
rest v q t = RestFrom v.setting v.place q t

abbrev pub limits : View → Bounds
limits v = v.setting.limits

abbrev pub room : View → ℕ
room v = within_limit v.setting.limits.input v.taken

-- ---- steps

-- A count that no limit changes. Of a text that may come from p, whatever the limits, a front with which the bytes begin has no more
-- content than the items; and what stands behind the bytes is a text that may come from r.
pub record Counts (to_head : Bool) (p : Place) (bytes : List ℕ) (items : List Item) (r : Place) : Type 0 where
  pub few : (front back : Text) (more : List ℕ) → MayCome to_head p (front ++ back) → bytes ≡ bytes_of front ++ more
      → content_in front ≤ content_items items
  pub behind : (front back : Text) → MayCome to_head p (front ++ back) → bytes_of front ≡ bytes → MayCome to_head r back

-- The bytes lead from p to r, and hand out these items: what completes the message from p behind them is what completes it from r, what
-- is wrong from r is wrong from p, and the items count the content, also of texts beyond the limits.
pub record Goes (S : Setting) (p : Place) (bytes : List ℕ) (items : List Item) (r : Place) : Type 0 where
  pub residual : IsResidual (RestFrom S p) bytes (λ q. items ++ q) (RestFrom S r)
  pub wrong : (more : List ℕ) (cause : H1Why) → WrongFrom S r more cause → WrongFrom S p (bytes ++ more) cause
  pub counts : Counts S.to_head p bytes items r

-- The bytes lead from v to w and hand out these items.
pub record Moved (v : View) (bytes : List ℕ) (items : List Item) (w : View) : Type 0 where
  pub input : IsInput v.setting.limits (v.taken + length bytes)
  pub goes : Goes v.setting v.place bytes items w.place
  pub setting : w.setting ≡ v.setting
  pub taken : w.taken ≡ v.taken + length bytes
  pub refused : w.refused ≡ false
  pub kind : w.kind ≡ kind_behind items v.kind
  pub lines : w.lines ≡ count (v.lines + lines_in items)
  pub content : w.content ≡ count (v.content + content_items items)

-- Nothing was refused yet.
pub record IsReady (v : View) : Type 0 where
  pub refused : v.refused ≡ false
  pub input : IsInput v.setting.limits v.taken
  pub lines : v.lines ≤ 2 ^ 64 - 1
  pub content : v.content ≤ 2 ^ 64 - 1

-- the item of an event, as the reader shows it
abbrev pub shows : View → Event → Item → Type 0
shows v event item = ShowsAs v.head v.fields event item

-- ---- refusals

-- the message may end there
abbrev pub IsWhole : Setting → Place → Type 0
IsWhole S p = (omitted : Omitted) × (padding : ℕ) × RestFrom S p (ending omitted padding ∷ []) []

-- With the byte of the piece numbered `at` this is wrong, whatever follows, and the byte is within the limit of the input.
pub record IsFoundAt (v : View) (piece : List ℕ) (at : ℕ) (cause : H1Why) : Type 0 where
  pub wrong : (after : List ℕ) → WrongFrom v.setting v.place (take (at + 1) piece ++ after) cause
  pub not_end : cause ≡ why.Ended → ⊥
  pub input : IsInput v.setting.limits (v.taken + (at + 1))

-- as many bytes as the limit of the input allows stand before that byte
abbrev pub IsTooLongAt : View → ℕ → H1Why → Type 0
IsTooLongAt v at cause = (cause ≡ why.TooLong) × (v.setting.limits.input ≡ Some (v.taken + at))

-- A byte of the piece is the first that decides: the bytes before it hand out nothing, and nothing is wrong with them but that they may be
-- too few.
pub record Refuses (v : View) (piece : List ℕ) (cause : H1Why) : Type 0 where
  pub at : ℕ
  pub inside : at < length piece
  pub state : View
  pub moved : Moved v (take at piece) [] state
  pub before : IsWhole state.setting state.place ⊎ WrongFrom v.setting v.place (take at piece) why.Ended
  pub decided : IsFoundAt v piece at cause ⊎ IsTooLongAt v at cause

abbrev pub misses : View → H1Why → Type 0
misses v cause = (cause ≡ why.Ended) × WrongFrom v.setting v.place [] why.Ended

-- The summary of a message that ends there. An HTTP/1.1 text has no padding, and leaves nothing out that the message has.
abbrev pub tells : View → Omitted → ℕ → Summary → Type 0
tells v omitted padding s = s ≡ record {
  kind = v.kind;
  bytes = v.taken;
  lines = v.lines;
  content = v.content;
  padding = 0;
  omitted = Nothing;
}

-- ---- the start

-- at the start of a message
pub record IsAtStart (L : Bounds) (scheme : Scheme1) (to_head : Bool) (v : View) : Type 0 where
  pub setting : v.setting ≡ record { limits = L; scheme = scheme; to_head = to_head }
  pub place : v.place ≡ in_head 0 []
  pub taken : v.taken ≡ 0
  pub refused : v.refused ≡ false
  pub lines : v.lines ≡ 0
  pub content : v.content ≡ 0
