-- What the calls of a decoder say, from the state that they find to the one that they leave.
use Rattle.std.specs.Prelude.{ℕ, ◌≡◌, ◌<◌, ◌+◌, Option, Some, None, List, [], ◌∷◌, ◌++◌, length, take, drop}
use Rattle.bh_spec.specs.declared.Part.{Part}
use Rattle.bh_spec.specs.declared.Omitted.{Omitted}
use Rattle.bh_spec.specs.declared.Refusal.{Refusal}
use Rattle.bh_spec.specs.declared.Refusal.TheVariants.{Dead, Limit, Ended, TooLong}
use Rattle.bh_spec.specs.Bounds.{Bounds, IsWithin, no_bounds}
use Rattle.bh_spec.specs.Messages.{Message}
use Rattle.bh_spec.specs.Pieces.{IsText, CanBecome, IsNext, IsDead, IsLimit}
use Rattle.bh_spec.specs.Answers.{whole, refused, IsAnswer}
use Rattle.bh_spec.specs.Items.{Item, ending, items}
use Rattle.bh_spec.specs.Runs.{Takes, Call, bytes_taken, items_yielded, state_behind, AreTaken, Any}
use Rattle.bh_push.specs.Decoders.{At, Rest, in_framing}
use Rattle.bh_push.specs.Standing.{IsPrompt}

-- a decoder: its limits, where it stands, the bytes since the start, and a refusal that was given since
pub record DecoderView : Type 0 where
  pub limits : Bounds
  pub at : At
  pub taken : ℕ
  pub refusal : Option Refusal

abbrev pub start_view : Bounds → DecoderView
start_view L = record { limits = L; at = in_framing []; taken = 0; refusal = None }

-- how many bytes stand before what is refused
abbrev pub refused_at : Refusal → ℕ
refused_at (Dead at part) = at
refused_at (Limit at part) = at
refused_at (Ended at part) = at
refused_at (TooLong at) = at

-- where nothing was refused before
abbrev pub refused_view : DecoderView → At → Refusal → DecoderView
refused_view v at r = record { limits = v.limits; at = at; taken = refused_at r; refusal = Some r }

-- so many bytes of the piece were taken, all within the limit of the input, and yield the items
pub record Took (v : DecoderView) (piece : List ℕ) (count : ℕ) (yields : List Item) (w : DecoderView) : Type 0 where
  pub input : IsWithin v.limits.input (v.taken + count)
  pub takes : Takes Rest v.limits v.at piece count yields w.at
  pub limits : w.limits ≡ v.limits
  pub taken : w.taken ≡ v.taken + count
  pub refusal : w.refusal ≡ None

-- Where a byte of a piece is refused: the bytes before it were taken, yield nothing and lead there, no event stands there, and nothing
-- has the byte there.
pub record RefusesBehind (v : DecoderView) (piece : List ℕ) (offset : ℕ) : Type 0 where
  pub at : At
  pub takes : Takes Rest v.limits v.at piece offset [] at
  pub prompt : IsPrompt v.limits at
  pub none : CanBecome (Any Rest v.limits at) (take 1 (drop offset piece)) → ⊥

-- A refusal of a piece where none was given: of a byte of it, within the limit of the input; or of what is longer than that. It
-- swallows no event.
abbrev pub RefusesFirst : DecoderView → List ℕ → Refusal → Type 0
RefusesFirst v piece (Dead at part) = (offset : ℕ) × (at ≡ v.taken + offset) × IsWithin v.limits.input (v.taken + offset + 1)
    × IsDead (Any Rest v.limits v.at) (Any Rest no_bounds v.at) [] piece offset part × RefusesBehind v piece offset
RefusesFirst v piece (Limit at part) = (offset : ℕ) × (at ≡ v.taken + offset) × IsWithin v.limits.input (v.taken + offset + 1)
    × IsLimit (Any Rest v.limits v.at) (Any Rest no_bounds v.at) [] piece offset part × RefusesBehind v piece offset
RefusesFirst v piece (TooLong at) = (offset : ℕ) × (at ≡ v.taken + offset) × (v.limits.input ≡ Some at) × (offset < length piece)
    × ((w : At) × Takes Rest v.limits v.at piece offset [] w × IsPrompt v.limits w)
RefusesFirst v piece (Ended at part) = ⊥

-- A piece is refused: once more, or for the first time.
abbrev pub Refuses : Option Refusal → DecoderView → List ℕ → Refusal → DecoderView → Type 0
Refuses (Some given) v piece r w = (r ≡ given) × (w ≡ v)
Refuses None v piece r w = RefusesFirst v piece r × ((at : At) × (w ≡ refused_view v at r))

-- at the end: the bytes are a message with this omission and padding, and the decoder is at the start again
pub record Finishes (v : DecoderView) (omitted : Omitted) (padding : ℕ) (w : DecoderView) : Type 0 where
  pub input : IsWithin v.limits.input v.taken
  pub none : v.refusal ≡ None
  pub rest : Rest v.limits v.at (ending omitted padding ∷ []) []
  pub start : w ≡ start_view v.limits

-- or they aren't, and a byte of this part is missing
pub record Misses (v : DecoderView) (at : ℕ) (part : Part) : Type 0 where
  pub input : IsWithin v.limits.input v.taken
  pub place : at ≡ v.taken
  pub unfinished : IsText (Any Rest v.limits v.at) [] → ⊥
  pub next : IsNext (Any Rest v.limits v.at) [] part

abbrev pub MissesAs : DecoderView → Refusal → Type 0
MissesAs v (Ended at part) = Misses v at part
MissesAs v (Dead at part) = ⊥
MissesAs v (Limit at part) = ⊥
MissesAs v (TooLong at) = ⊥

-- or something is refused: once more; or for the first time, where a byte of a part is missing
abbrev pub Fails : Option Refusal → DecoderView → Refusal → DecoderView → Type 0
Fails (Some given) v r w = (r ≡ given) × (w ≡ v)
Fails None v r w = MissesAs v r × (w ≡ refused_view v v.at r)

-- ---- the law

-- the state behind calls that took all that they took from the start
pub record IsBehind (L : Bounds) (calls : List (Call At)) (v : DecoderView) : Type 0 where
  pub calls_are : AreTaken Rest L (in_framing []) calls
  pub limits : v.limits ≡ L
  pub at : v.at ≡ state_behind (in_framing []) calls
  pub taken : v.taken ≡ length (bytes_taken calls)

-- However an input is cut into calls: a first refusal is the answer for the bytes taken, the piece and whatever follows it; and at the
-- end the answer is the message whose items were yielded, or that it ended too soon.
pub record AnswersEveryCut (L : Bounds) (calls : List (Call At)) (v : DecoderView) : Type 0 where
  pub refuses : (piece after : List ℕ) (r : Refusal) → RefusesFirst v piece r
      → IsAnswer L (bytes_taken calls ++ (piece ++ after)) (refused r)
  pub finishes : (omitted : Omitted) (padding : ℕ) (w : DecoderView) → Finishes v omitted padding w
      → (m : Message) × (items m omitted padding ≡ items_yielded calls ++ ending omitted padding ∷ [])
      × IsAnswer L (bytes_taken calls) (whole m omitted padding)
  pub misses : (at : ℕ) (part : Part) → Misses v at part → IsAnswer L (bytes_taken calls) (refused (Ended at part))

abbrev pub OneAnswerForEveryCut : Type 0
OneAnswerForEveryCut = (L : Bounds) (calls : List (Call At)) (v : DecoderView) → IsBehind L calls v → AnswersEveryCut L calls v
