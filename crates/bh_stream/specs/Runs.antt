-- What one piece, and what a whole call, led to.
use Rattle.std.specs.Prelude.{◌≡◌, ◌≤◌, ◌+◌, ◌⊎◌, ℕ, Bool, true, false, List, [], ◌∷◌, ◌++◌, length}
use Rattle.bh_spec.specs.declared.Omitted.{Omitted}
use Rattle.bh_spec.specs.Items.{Item, ending}
use Rattle.bh_base.specs.Steps.{Step, Chain, Either, taken, given, met, reads, Asks, EndsReading, OnlyReads, IsQuiet, StopsAt, is_bad_read, is_bad_write}
use Rattle.bh_stream.specs.Outputs.{written}
use Rattle.bh_stream.specs.Logs.{AtEvery, BeforeReads, ReadsTo}
use Rattle.bh_stream.specs.Decoding.{Rest, Moving, Passing}
use Rattle.bh_stream.specs.Jobs.{Owing, Fits}
use Rattle.bh_stream.specs.Points.{one_read, Point, EachPoint, ReadPoint, Through, IsStopped}
use Rattle.bh_stream.specs.declared.feeding.Fed.{Fed}
use Rattle.bh_stream.specs.declared.feeding.Fed.TheVariants as fed
use Rattle.bh_stream.specs.declared.streaming.End.{End}
use Rattle.bh_stream.specs.declared.streaming.End.TheVariants as end

-- how a piece ended
abbrev pub PieceEnds : {V R : Type 0} → Rest V → Moving V → (V → List ℕ → R → Type 0) → Bool → ℕ → V → Owing → ℕ → List ℕ → Fed R → V
    → Owing → ℕ → (List Item → Type 0) → List Step → Type 0
PieceEnds rest moves refuses writes most v owed held piece fed.All w owes holds taking steps =
    IsQuiet steps × Through (Passing rest moves) writes most v owed held piece (given steps) w owes holds
    × Fits rest moves w taking
PieceEnds rest moves refuses writes most v owed held piece (fed.Refused r) w owes holds taking steps = IsQuiet steps
    × IsStopped moves refuses v piece r
PieceEnds rest moves refuses writes most v owed held piece fed.WriteFault w owes holds taking steps = StopsAt is_bad_write steps

-- the writes for one piece
pub record Feeds {V R : Type 0} (rest : Rest V) (moves : Moving V) (refuses : V → List ℕ → R
    → Type 0) (writes : Bool) (most : ℕ) {S : Type 0} (step : S → Step → S → Type 0)
    (v : V) (owed : Owing) (held : ℕ) (piece : List ℕ) (s : S) (r : Fed R) (w : V) (owes : Owing) (holds : ℕ) (taking : List Item
    → Type 0) (t : S) : Type 0 where
  pub steps : List Step
  pub chain : Chain step s steps t
  pub alone : writes ≡ false → steps ≡ []
  pub points : AtEvery (λ front. Point (Passing rest moves) writes v owed (length piece) piece (given front)) steps
  pub outcome : PieceEnds rest moves refuses writes most v owed held piece r w owes holds taking steps

-- The end was met, the bytes are a message of these items, and all that was owed for them was given.
pub record IsDone {V A : Type 0} (rest : Rest V) (moves : Moving V) (tells : V → Omitted → ℕ → A
    → Type 0) (v : V) (owed : Owing) (summary : A) (steps : List Step) : Type 0 where
  pub end : met steps ≡ true
  pub items : List Item
  pub omitted : Omitted
  pub padding : ℕ
  pub state : V
  pub moved : moves v (taken steps) items state
  pub whole : rest state (ending omitted padding ∷ []) []
  pub told : tells state omitted padding summary
  pub gave : given steps ≡ written (owed (items ++ ending omitted padding ∷ []))

-- The end was met, and it is too soon.
pub record IsMissing {V R : Type 0} (moves : Moving V) (misses : V → R → Type 0) (v : V) (r : R) (steps : List Step) : Type 0 where
  pub end : met steps ≡ true
  pub items : List Item
  pub state : V
  pub moved : moves v (taken steps) items state
  pub missing : misses state r

-- A byte is refused, and the last read writes it: what had been taken before it was not refused.
pub record IsRefusedIn {V R : Type 0} (moves : Moving V) (refuses : V → List ℕ → R
    → Type 0) (v : V) (r : R) (steps : List Step) : Type 0 where
  pub stopped : IsStopped moves refuses v (taken steps) r
  pub read_to : ReadsTo (length stopped.before) steps

-- how a call ended
abbrev pub CallEnds : {V A R : Type 0} → Rest V → Moving V → (V → List ℕ → R → Type 0) → (V → Omitted → ℕ → A → Type 0) → (V → R → Type 0)
    → V → Owing → End A R → List Step → Type 0
CallEnds rest moves refuses tells misses v owed (end.Done summary) steps = IsQuiet steps × IsDone rest moves tells v owed summary steps
CallEnds rest moves refuses tells misses v owed (end.Refused r) steps = IsQuiet steps
    × (IsMissing moves misses v r steps ⊎ IsRefusedIn moves refuses v r steps)
CallEnds rest moves refuses tells misses v owed end.ReadFault steps = StopsAt is_bad_read steps
CallEnds rest moves refuses tells misses v owed end.WriteFault steps = StopsAt is_bad_write steps

-- The port went through these calls. Each read asked for 1 to 8,192 bytes; there was one read more than there were bytes at most, and
-- one more than there was room for. Nothing was asked behind the end. A job that doesn't write made no call.
pub record Streams {V A R : Type 0} (rest : Rest V) (room : V → ℕ) (moves : Moving V) (refuses : V → List ℕ → R → Type 0) (tells : V
    → Omitted → ℕ → A → Type 0)
    (misses : V → R → Type 0) (writes : Bool) (most : ℕ) {S : Type 0} (read write : S → Step → S
    → Type 0) (v : V) (owed : Owing) (s : S) (r : End A R) (t : S) : Type 0 where
  pub steps : List Step
  pub chain : Chain (Either read write) s steps t
  pub asks : Asks one_read steps
  pub turns : reads steps ≤ length (taken steps) + 1
  pub bound : reads steps ≤ room v + 1
  pub none_behind : EndsReading steps
  pub only_reads : writes ≡ false → OnlyReads steps
  pub points : AtEvery (EachPoint rest (Passing rest moves) writes v owed (most + one_read)) steps
  pub at_reads : BeforeReads (ReadPoint (Passing rest moves) writes v owed most) steps
  pub outcome : CallEnds rest moves refuses tells misses v owed r steps
