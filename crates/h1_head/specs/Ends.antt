-- What a reader of a head answers, by the bytes since it began.
use Rattle.std.specs.Prelude.{ℕ, ◌≡◌, ◌<◌, ◌≤◌, ◌+◌, List, ◌++◌, length, take}
use Rattle.h1_spec.specs.Heads.{EndsAt, HoldsNoEnd}
use Rattle.h1_head.specs.declared.reader.HeadStep.{HeadStep}
use Rattle.h1_head.specs.declared.reader.HeadStep.TheVariants.{Need, Whole, HeadLimit}

-- the bytes since `begin`, and the most that there may be
pub record ReaderView : Type 0 where
  pub seen : List ℕ
  pub limit : ℕ

-- the whole piece was taken, no head ends in it, and the limit allows more
pub record IsOpen (before : ReaderView) (piece : List ℕ) (after : ReaderView) : Type 0 where
  pub seen : after.seen ≡ before.seen ++ piece
  pub none : HoldsNoEnd after.seen
  pub more : length (before.seen ++ piece) < before.limit

-- the head ends behind so many bytes of the piece, within the limit
pub record IsWhole (before : ReaderView) (piece : List ℕ) (taken : ℕ) (after : ReaderView) : Type 0 where
  pub within : taken ≤ length piece
  pub seen : after.seen ≡ before.seen ++ take taken piece
  pub ends : EndsAt (before.seen ++ piece) (length before.seen + taken)
  pub fits : length before.seen + taken ≤ before.limit

-- there are as many bytes as the limit, and so many hold no end
pub record IsPast (before : ReaderView) (piece : List ℕ) (after : ReaderView) : Type 0 where
  pub seen : after.seen ≡ take before.limit (before.seen ++ piece)
  pub many : before.limit ≤ length (before.seen ++ piece)
  pub none : HoldsNoEnd after.seen

abbrev pub IsStep : ReaderView → List ℕ → HeadStep → ReaderView → Type 0
IsStep before piece Need after = IsOpen before piece after
IsStep before piece (Whole taken) after = IsWhole before piece taken after
IsStep before piece HeadLimit after = IsPast before piece after
