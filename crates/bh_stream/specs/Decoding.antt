-- A decoder that hands out a message item by item, as the loop sees it. It keeps no history: each state says what may still come.
use Rattle.std.specs.Prelude.{◌≡◌, ◌≤◌, ◌<◌, ◌+◌, ◌⊎◌, ℕ, List, [], ◌∷◌, ◌++◌, length, take, map, Result, Ok, Err}
use Rattle.bh_spec.specs.declared.Omitted.{Omitted}
use Rattle.bh_spec.specs.Texts.{Text, bytes_of, content_in}
use Rattle.bh_spec.specs.Residuals.{IsResidual}
use Rattle.bh_spec.specs.Items.{Item, interim_response, head, content_byte, trailer_section, ending}
use Rattle.bh_stream.specs.declared.traits.Event.{Event}
use Rattle.bh_stream.specs.declared.traits.Pushed.{Pushed}
use Rattle.bh_stream.specs.declared.traits.Pushed.TheVariants as pushed

-- how many of the items are bytes of content
abbrev pub content_items : List Item → ℕ
content_items [] = 0
content_items ((interim_response status fields) ∷ q) = content_items q
content_items ((head of fields) ∷ q) = content_items q
content_items ((content_byte x) ∷ q) = content_items q + 1
content_items ((trailer_section fields) ∷ q) = content_items q
content_items ((ending omitted padding) ∷ q) = content_items q

-- `rest v q t`: behind the state v the text t completes a message, and these items are still to come.
abbrev pub Rest : Type 0 → Type 1
Rest V = V → List Item → Text → Type 0

-- `moves v bytes items w`: from v the bytes lead to w, and hand out these items.
abbrev pub Moving : Type 0 → Type 1
Moving V = V → List ℕ → List Item → V → Type 0

-- the texts that may come behind a state
abbrev pub Coming : {V : Type 0} → Rest V → V → Text → Type 0
Coming rest v t = (q : List Item) × rest v q t

-- Something completes the message. In the middle of a part nobody may know yet whether anything does.
abbrev pub IsAlive : {V : Type 0} → Rest V → V → Type 0
IsAlive rest v = (q : List Item) × (t : Text) × rest v q t

-- No text that completes the message from v has content where it begins as these bytes do.
abbrev pub IsSilent : {V : Type 0} → Rest V → V → List ℕ → Type 0
IsSilent rest v bytes = (q : List Item) (front back : Text) (more : List ℕ) → rest v q (front ++ back) → bytes ≡ bytes_of front ++ more
    → content_in front ≡ 0

-- What completes a message from v, and begins with these bytes, is what completes it from w, behind them and these items. Of the bytes
-- that there is room for, so many are left.
pub record Leads {V : Type 0} (rest : Rest V) (room : V → ℕ) (v : V) (bytes : List ℕ) (items : List Item) (w : V) : Type 0 where
  pub residual : IsResidual (rest v) bytes (λ q. items ++ q) (rest w)
  pub room_left : room w + length bytes ≡ room v

-- What has to be known of a decoder. `ready` says that nothing was refused yet. No item of content is held back.
pub record DecoderLaws {V : Type 0} (rest : Rest V) (room : V → ℕ) (moves : Moving V) (ready : V → Type 0) : Type 0 where
  pub leads : (v w : V) (x : List ℕ) (i : List Item) → moves v x i w → Leads rest room v x i w
  pub stays : (v : V) → ready v → moves v [] [] v
  pub goes_on : (v w u : V) (x y : List ℕ) (i j : List Item) → moves v x i w → moves w y j u → moves v (x ++ y) (i ++ j) u
  pub is_ready : (v w : V) (x : List ℕ) (i : List Item) → ready v → moves v x i w → ready w
  pub content : (v : V) (q : List Item) (t : Text) → rest v q t → content_in t ≡ content_items q

-- ---- bytes behind which nothing completes the message yet

-- The bytes led to w, handed out nothing, and hold no content.
pub record Quietly {V : Type 0} (rest : Rest V) (moves : Moving V) (v : V) (bytes : List ℕ) (items : List Item) (w : V) : Type 0 where
  pub none : items ≡ []
  pub moved : moves v bytes [] w
  pub silent : IsSilent rest v bytes

-- The first of the bytes led to a state from which something completes the message, and to all the items; the others led quietly to w.
pub record Lively {V : Type 0} (rest : Rest V) (moves : Moving V) (v : V) (bytes : List ℕ) (items : List Item) (w : V) : Type 0 where
  pub done : List ℕ
  pub quiet : List ℕ
  pub split : bytes ≡ done ++ quiet
  pub state : V
  pub moved : moves v done items state
  pub alive : IsAlive rest state
  pub on : Quietly rest moves state quiet [] w

-- How the bytes led from v to w.
abbrev pub Passing : {V : Type 0} → Rest V → Moving V → Moving V
Passing rest moves v bytes items w = Lively rest moves v bytes items w ⊎ Quietly rest moves v bytes items w

-- ---- answers

-- so many bytes of a piece, one at least, led to these items, and something completes the message
pub record Took {V : Type 0} (rest : Rest V) (moves : Moving V) (v : V) (piece : List ℕ) (n : ℕ) (items : List Item) (w : V) : Type 0 where
  pub some : 0 < n
  pub inside : n ≤ length piece
  pub moved : moves v (take n piece) items w
  pub alive : IsAlive rest w

-- The answer of a push. An event that isn't content is an item that the state shows. Behind each item something completes the message;
-- where the whole piece was taken with none, that is so or the piece holds no content.
abbrev pub IsPushed : {V R : Type 0} → Rest V → Moving V → (V → Event → Item → Type 0) → (V → List ℕ → R → Type 0) → V → List ℕ → Pushed R
    → V → Type 0
IsPushed rest moves shows refuses v piece pushed.Need w = moves v piece [] w × (IsAlive rest w ⊎ IsSilent rest v piece)
IsPushed rest moves shows refuses v piece (pushed.Content taken bytes) w = Took rest moves v piece taken (map content_byte bytes.now) w
    × (0 < length bytes.now) × (length bytes.now ≤ taken)
IsPushed rest moves shows refuses v piece (pushed.Whole taken event) w =
    (item : Item) × Took rest moves v piece taken (item ∷ []) w × shows w event item × (content_items (item ∷ []) ≡ 0)
IsPushed rest moves shows refuses v piece (pushed.Refused r) w = refuses v piece r

-- Whether the message may end here: it is told so, or why not.
abbrev pub IsFinished : {V A R : Type 0} → Rest V → (V → Omitted → ℕ → A → Type 0) → (V → R → Type 0) → V → Result A R → Type 0
IsFinished rest tells misses v (Ok summary) = (omitted : Omitted) × (padding : ℕ) × rest v (ending omitted padding ∷ []) []
    × tells v omitted padding summary
IsFinished rest tells misses v (Err r) = misses v r
