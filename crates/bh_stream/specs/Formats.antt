-- From the loop over a decoder and a job to what is said of a format: what has to be known of the two at the start. A format is which
-- texts spell which things, and which items each thing has.
use Rattle.std.specs.Prelude.{◌≡◌, ◌≤◌, ℕ, List, [], ◌∷◌, ◌++◌, Option, Some}
use Rattle.bh_spec.specs.declared.Omitted.{Omitted}
use Rattle.bh_spec.specs.Texts.{Text, bytes_of}
use Rattle.bh_spec.specs.Pieces.{SomeOf}
use Rattle.bh_spec.specs.Items.{Item, ending}
use Rattle.bh_base.specs.Steps.{Step}
use Rattle.bh_stream.specs.Outputs.{Output, written, shown_in}
use Rattle.bh_stream.specs.Logs.{Begins, AtEvery, GivesFront}
use Rattle.bh_stream.specs.Decoding.{Rest, Moving}
use Rattle.bh_stream.specs.Jobs.{Owing}

-- A decoder at the start knows the format: the items of each thing, with its texts, and nothing else. Texts of the same bytes have the
-- same items. It takes as many bytes as the limit of the input allows. A job owes the output of a thing for its items, and nothing for none
-- where there is no thing.
pub record Knows {M : Type 0} (spelled : M → Text → Type 0) (items_of : M → List Item) (output : M → List ℕ) (limit : Option ℕ) {V : Type 0}
    (rest : Rest V) (room : V → ℕ) (v : V) (owed : Owing) : Type 0 where
  pub reads : (m : M) (t : Text) → spelled m t → rest v (items_of m) t
  pub alone : (q : List Item) (t : Text) → rest v q t → (m : M) × (q ≡ items_of m) × spelled m t
  pub once : (m n : M) (t u : Text) → spelled m t → spelled n u → bytes_of t ≡ bytes_of u → items_of m ≡ items_of n
  pub limit_is : limit ≡ Some (room v)
  pub owes : (m : M) (t : Text) → spelled m t → written (owed (items_of m)) ≡ output m
  pub nothing : ((t : Text) → SomeOf spelled t → ⊥) → owed [] ≡ []

-- Of what is owed for a thing, each front shows as much content as it has.
abbrev pub ShowsContent : {M : Type 0} → (M → Text → Type 0) → (M → List Item) → (List ℕ → ℕ → Type 0) → Owing → Type 0
ShowsContent {M} spelled items_of Shown owed = (m : M) (t : Text) → spelled m t → (front more : Output) → owed (items_of m) ≡ front ++ more
    → (n : ℕ) → Shown (written front) n → shown_in front ≤ n

-- It is enough that each front does that may have been written: of what is owed for the items of a move with which some message begins,
-- whatever comes then; or with its ending for those of a message that may end there.
pub record ShowsSoFar {V : Type 0} (rest : Rest V) (moves : Moving V) (v : V) (Shown : List ℕ → ℕ → Type 0) (owed : Owing) : Type 0 where
  pub so_far : (bytes : List ℕ) (i : List Item) (w : V) → moves v bytes i w → (q : List Item) (t : Text) → rest v (i ++ q) t
      → (front : Output) → ((q : List Item) → Begins front (owed (i ++ q))) → (n : ℕ) → Shown (written front) n → shown_in front ≤ n
  pub at_end : (bytes : List ℕ) (i : List Item) (w : V) → moves v bytes i w → (omitted : Omitted) (padding : ℕ)
      → rest w (ending omitted padding ∷ []) [] → (front : Output) → Begins front (owed (i ++ ending omitted padding ∷ []))
      → (n : ℕ) → Shown (written front) n → shown_in front ≤ n

-- At every point of the calls what was given begins the output of every thing that continues what was taken.
abbrev pub GivesAlways : {M : Type 0} → (M → Text → Type 0) → (M → List ℕ) → Option ℕ → List Step → Type 0
GivesAlways spelled output limit steps = AtEvery (GivesFront spelled output limit) steps
