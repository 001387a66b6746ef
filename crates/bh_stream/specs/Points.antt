-- How a streaming call stands at one point.
use Rattle.std.specs.Prelude.{◌≡◌, ◌≤◌, ◌+◌, ◌⊎◌, ℕ, Bool, true, List, [], ◌∷◌, ◌++◌, length}
use Rattle.bh_spec.specs.declared.Omitted.{Omitted}
use Rattle.bh_spec.specs.Items.{Item, ending}
use Rattle.bh_base.specs.Steps.{Step, taken, given, met}
use Rattle.bh_stream.specs.Outputs.{Output, written, shown_in}
use Rattle.bh_stream.specs.Logs.{Begins}
use Rattle.bh_stream.specs.Decoding.{Rest, Moving}
use Rattle.bh_stream.specs.Jobs.{Owing, counted}

-- how many bytes a read takes at most
abbrev pub one_read : ℕ
one_read = 8192

-- A point of the calls, from the state v of the decoder, and what the job owed then. Of the bytes that are there, some were decoded
-- and led to these items. What was given is a front of the output that is owed, whatever comes behind the items; and the content of
-- the items and of the bytes that weren't decoded yet is at most so many bytes more than the content of that front.
pub record Point {V : Type 0} (moves : Moving V) (writes : Bool) (v : V) (owed : Owing) (slack : ℕ) (bytes gone : List ℕ) : Type 0 where
  pub done : List ℕ
  pub pending : List ℕ
  pub split : bytes ≡ done ++ pending
  pub items : List Item
  pub state : V
  pub moved : moves v done items state
  pub front : Output
  pub gave : written front ≡ gone
  pub due : (q : List Item) → Begins front (owed (items ++ q))
  pub enough : counted writes items + length pending ≤ shown_in front + slack

-- A point behind the end, where the message is whole: nothing comes behind the items but its ending.
pub record LastPoint {V : Type 0} (rest : Rest V) (moves : Moving V) (writes : Bool) (v : V) (owed : Owing) (slack : ℕ) (bytes gone :
    List ℕ) : Type 0 where
  pub items : List Item
  pub omitted : Omitted
  pub padding : ℕ
  pub state : V
  pub moved : moves v bytes items state
  pub whole : rest state (ending omitted padding ∷ []) []
  pub front : Output
  pub gave : written front ≡ gone
  pub due : Begins front (owed (items ++ ending omitted padding ∷ []))
  pub enough : counted writes items ≤ shown_in front + slack

-- at each point of a call: before the end, or behind it where the bytes taken are a message
abbrev pub EachPoint : {V : Type 0} → Rest V → Moving V → Bool → V → Owing → ℕ → List Step → Type 0
EachPoint rest moves writes v owed slack front = Point moves writes v owed slack (taken front) (given front)
    ⊎ ((met front ≡ true) × LastPoint rest moves writes v owed slack (taken front) (given front))

-- before a read: no more is held back than the job may
abbrev pub ReadPoint : {V : Type 0} → Moving V → Bool → V → Owing → ℕ → List Step → Type 0
ReadPoint moves writes v owed most front = Point moves writes v owed most (taken front) (given front)

-- The bytes led to some items, and an output that is due for them went out. The job owes now what it didn't give of what it owed.
pub record Through {V : Type 0} (moves : Moving V) (writes : Bool) (most : ℕ) (v : V) (owed : Owing) (held : ℕ) (bytes gone : List ℕ)
    (w : V) (owes : Owing) (holds : ℕ) : Type 0 where
  pub items : List Item
  pub moved : moves v bytes items w
  pub text : Output
  pub gave : written text ≡ gone
  pub due : (q : List Item) → owed (items ++ q) ≡ text ++ owes q
  pub counts : shown_in text + holds ≡ held + counted writes items
  pub few : holds ≤ most

-- some of the bytes led to a state in which the others are refused
pub record IsStopped {V R : Type 0} (moves : Moving V) (refuses : V → List ℕ → R → Type 0) (v : V) (bytes : List ℕ) (r : R) : Type 0 where
  pub before : List ℕ
  pub others : List ℕ
  pub split : bytes ≡ before ++ others
  pub items : List Item
  pub state : V
  pub moved : moves v before items state
  pub refused : refuses state others r
