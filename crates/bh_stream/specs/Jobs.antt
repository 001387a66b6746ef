-- What a job does with the items of a message: it writes what is due for them. It keeps no history either.
use Rattle.std.specs.Prelude.{◌≡◌, ◌≤◌, ◌+◌, ℕ, Bool, true, false, List, [], ◌∷◌, ◌++◌, OnOk, OnErr, Result}
use Rattle.bh_spec.specs.declared.Omitted.{Omitted}
use Rattle.bh_base.specs.declared.failed.Failed.{Failed}
use Rattle.bh_base.specs.Steps.{Step, Chain, given, IsQuiet, StopsAt, is_bad_write}
use Rattle.bh_spec.specs.Items.{Item, ending}
use Rattle.bh_stream.specs.Outputs.{Output, written, shown_in}
use Rattle.bh_stream.specs.Logs.{Begins}
use Rattle.bh_stream.specs.Decoding.{Rest, Moving, IsAlive, content_items}

-- what is still to be written, by the items that are still to come
abbrev pub Owing : Type 0
Owing = List Item → Output

-- how many bytes of content the items are, for a job that writes
abbrev pub counted : Bool → List Item → ℕ
counted true items = content_items items
counted false items = 0

-- What a call of a job did for some items. `owed` is what it owed before, and `owes` what it owes now; it held so many bytes of
-- content before, and holds so many now, at most `most`. `takes` says which items may come to it, and `taking` which may
-- now. An output that is due for the items whatever follows them went out, and a
-- front of it where a write failed. A job that doesn't write makes no call.
pub record Sends {S : Type 0} (step : S → Step → S
    → Type 0) (writes : Bool) (most : ℕ) (owed owes : Owing) (held holds : ℕ) (takes taking : List Item → Type 0) (items : List Item)
    (s : S) (r : Result (Unit {0}) Failed) (t : S) : Type 0 where
  pub steps : List Step
  pub chain : Chain step s steps t
  pub text : Output
  pub alone : writes ≡ false → steps ≡ []
  pub due : (q : List Item) → Begins text (owed (items ++ q))
  pub whole : OnOk r (IsQuiet steps × (given steps ≡ written text) × ((q : List Item) → owed (items ++ q) ≡ text ++ owes q)
      × (shown_in text + holds ≡ held + counted writes items) × (holds ≤ most) × ((q : List Item) → takes (items ++ q) → taking q))
  pub part : OnErr r (StopsAt is_bad_write steps × Begins (given steps) (written text))

-- the last call of a job: all that it owes
pub record SendsRest {S : Type 0} (step : S → Step → S
    → Type 0) (writes : Bool) (text : Output) (s : S) (r : Result (Unit {0}) Failed) (t : S) : Type 0 where
  pub steps : List Step
  pub chain : Chain step s steps t
  pub alone : writes ≡ false → steps ≡ []
  pub whole : OnOk r (IsQuiet steps × (given steps ≡ written text))
  pub part : OnErr r (StopsAt is_bad_write steps × Begins (given steps) (written text))

-- What a decoder hands out from v on may come to a job: the items of each move behind which something completes the message, whatever
-- comes then; and with its ending those of a message that may end there.
pub record Fits {V : Type 0} (rest : Rest V) (moves : Moving V) (v : V) (takes : List Item → Type 0) : Type 0 where
  pub so_far : (bytes : List ℕ) (i : List Item) (w : V) → moves v bytes i w → IsAlive rest w → (more : List Item) × takes (i ++ more)
  pub at_end : (bytes : List ℕ) (i : List Item) (w : V) → moves v bytes i w → (omitted : Omitted) (padding : ℕ)
      → rest w (ending omitted padding ∷ []) [] → takes (i ++ ending omitted padding ∷ [])
