-- The laws of the reader: what it reads are the messages of HTTP/1.1, and what it says is the answer.
use Rattle.std.specs.Prelude.{ℕ, ◌≡◌, ◌<◌, ◌≤◌, ◌+◌, ◌⊎◌, Bool, List, [], ◌∷◌, ◌++◌, length, take}
use Rattle.bh_spec.specs.declared.H1Why.{H1Why}
use Rattle.bh_spec.specs.declared.H1Why.TheVariants as why
use Rattle.bh_spec.specs.declared.Omitted.{Omitted}
use Rattle.bh_spec.specs.declared.Omitted.TheVariants.{Nothing}
use Rattle.bh_spec.specs.declared.Summary.{Summary}
use Rattle.bh_spec.specs.Bounds.{Bounds}
use Rattle.bh_spec.specs.Messages.{Message}
use Rattle.bh_spec.specs.Texts.{Text}
use Rattle.bh_spec.specs.Items.{Item, ending, items}
use Rattle.bh_spec.specs.Reports.{summary}
use Rattle.bh_model.specs.Ranges.{AreLimits}
use Rattle.bh_stream.specs.Outputs.{written}
use Rattle.bh_stream.specs.Jobs.{Owing}
use Rattle.bh_stream.specs.Formats.{Knows}
use Rattle.bh_stream.specs.Messages.{Spelled, items_in}
use Rattle.h1_spec.specs.declared.Scheme1.{Scheme1}
use Rattle.h1_spec.specs.BodyStates.{start as body_start}
use Rattle.h1_spec.specs.Framing.{framing}
use Rattle.h1_spec.specs.Http1.{IsHttp1}
use Rattle.h1_spec.specs.Marks.{IsMarked}
use Rattle.h1_spec.specs.Translation.{read, broken, IsFromAnswer, IsCause}
use Rattle.h1_read.specs.Places.{left_out}
use Rattle.h1_read.specs.Readings.{View, rest, room, Moved, IsReady, Refuses, misses, tells, IsAtStart}

-- ---- the format

-- An HTTP/1.1 text of a message, for the scheme of the caller. What is left out follows from how the body is framed.
pub record IsHttp1Text (L : Bounds) (scheme : Scheme1) (to_head : Bool) (s : Spelled) (t : Text) : Type 0 where
  pub marked : IsMarked L to_head s.message t
  pub scheme_is : marked.scheme ≡ scheme
  pub omitted : s.omitted ≡ left_out (body_start (framing to_head marked.whole.head))
  pub padding : s.padding ≡ 0

-- At the start the reader knows HTTP/1.1 texts, with a job that owes the output of a message for its items, and nothing for none.
abbrev pub KnowsHttp1 : Type 0
KnowsHttp1 = (L : Bounds) (scheme : Scheme1) (to_head : Bool) (v : View) → AreLimits L → IsAtStart L scheme to_head v
    → (output : Message → List ℕ) (owed : Owing)
    → ((s : Spelled) (t : Text) → IsHttp1Text L scheme to_head s t → written (owed (items_in s)) ≡ output s.message) → owed [] ≡ []
    → Knows (IsHttp1Text L scheme to_head) items_in (λ s. output s.message) L.input rest room v owed

-- ---- answers

-- The bytes are a message, or too few.
abbrev pub IsUndecided : Bounds → Scheme1 → Bool → List ℕ → Type 0
IsUndecided L scheme to_head bytes = ((m : Message) × IsHttp1 L scheme to_head m bytes) ⊎ IsCause L scheme to_head bytes why.Ended

-- The byte numbered `at` is the first that decides: before it nothing is wrong but that bytes may be missing, and with it this is the
-- cause, whatever follows.
pub record IsDecidedAt (L : Bounds) (scheme : Scheme1) (to_head : Bool) (bytes : List ℕ) (at : ℕ) (cause : H1Why) : Type 0 where
  pub inside : at < length bytes
  pub before : IsUndecided L scheme to_head (take at bytes)
  pub answer : (more : List ℕ) → IsFromAnswer L scheme to_head (take (at + 1) bytes ++ more) (broken cause)

-- What a reader says behind bytes that it took from the start is the answer for the input, however it was cut.
pub record JudgesFrom (L : Bounds) (scheme : Scheme1) (to_head : Bool) (v : View) : Type 0 where
  pub refused : (w : View) (before piece : List ℕ) (i : List Item) (cause : H1Why) → Moved v before i w → Refuses w piece cause
      → (at : ℕ) × (length before ≤ at) × IsDecidedAt L scheme to_head (before ++ piece) at cause
  pub missed : (w : View) (bytes : List ℕ) (i : List Item) (cause : H1Why) → Moved v bytes i w → misses w cause
      → (cause ≡ why.Ended) × IsFromAnswer L scheme to_head bytes (broken cause)
  pub told : (w : View) (bytes : List ℕ) (i : List Item) (omitted : Omitted) (padding : ℕ) (s : Summary) → Moved v bytes i w
      → rest w (ending omitted padding ∷ []) [] → tells w omitted padding s
      → (m : Message) × (items m omitted padding ≡ i ++ ending omitted padding ∷ []) × IsFromAnswer L scheme to_head bytes (read m)
      × (s ≡ summary m Nothing 0 (length bytes))

abbrev pub JudgesAsFrom : Type 0
JudgesAsFrom = (L : Bounds) (scheme : Scheme1) (to_head : Bool) (v : View) → AreLimits L → IsAtStart L scheme to_head v
    → JudgesFrom L scheme to_head v

-- nothing is refused at the start
abbrev pub ReadyAtStart : Type 0
ReadyAtStart = (L : Bounds) (scheme : Scheme1) (to_head : Bool) (v : View) → AreLimits L → IsAtStart L scheme to_head v → IsReady v
