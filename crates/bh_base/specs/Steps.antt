-- What one call of a source or a sink did, and what any number of calls did, one after the other.
use Rattle.std.specs.Prelude.{◌≡◌, ◌<◌, ◌≤◌, ◌+◌, ◌-◌, ◌^◌, ◌⊎◌, ℕ, zero, suc, min, Bool, true, false, List, [], ◌∷◌, ◌++◌, length, take, OnOk, OnErr, Option, Some, None, Result, Ok, Err}
use Rattle.std.specs.List.{list_any}
use Rattle.std.specs.Io.KnownBytes.{Consumes, Appends}
use Rattle.bh_base.specs.declared.failed.Failed.{Failed}

-- One call: a read into a buffer of so many bytes that took these, a write of a piece of so many bytes of which these went
-- out, and a read and a write that failed.
pub data Step : Type 0 where
  Read : ℕ → List ℕ → Step
  Write : ℕ → List ℕ → Step
  BadRead : ℕ → Step
  BadWrite : ℕ → Step

-- Is the list empty?
abbrev pub is_empty : List ℕ → Bool
is_empty [] = true
is_empty (x ∷ xs) = false

abbrev pub is_zero : ℕ → Bool
is_zero zero = true
is_zero (suc n) = false

-- the call of a read that gave this answer, by the buffer before and after it
abbrev pub read_of : List ℕ → Result ℕ Failed → List ℕ → Step
read_of before (Ok n) now = Read (length before) (take n now)
read_of before (Err _) now = BadRead (length before)

-- the call of a write that gave this answer
abbrev pub write_of : List ℕ → Result ℕ Failed → Step
write_of piece (Ok n) = Write (length piece) (take n piece)
write_of piece (Err _) = BadWrite (length piece)

abbrev pub is_bad_read : Step → Bool
is_bad_read (Read room bytes) = false
is_bad_read (Write size bytes) = false
is_bad_read (BadRead room) = true
is_bad_read (BadWrite size) = false

abbrev pub is_bad_write : Step → Bool
is_bad_write (Read room bytes) = false
is_bad_write (Write size bytes) = false
is_bad_write (BadRead room) = false
is_bad_write (BadWrite size) = true

abbrev pub fails : Step → Bool
fails (Read room bytes) = false
fails (Write size bytes) = false
fails (BadRead room) = true
fails (BadWrite size) = true

-- The end is a read with room for a byte that takes none.
abbrev pub meets_end : Step → Bool
meets_end (Read zero bytes) = false
meets_end (Read (suc room) bytes) = is_empty bytes
meets_end (Write size bytes) = false
meets_end (BadRead room) = false
meets_end (BadWrite size) = false

-- the bytes that a call took, and those that went out in it
abbrev pub taken_by : Step → List ℕ
taken_by (Read room bytes) = bytes
taken_by (Write size bytes) = []
taken_by (BadRead room) = []
taken_by (BadWrite size) = []

abbrev pub given_by : Step → List ℕ
given_by (Read room bytes) = []
given_by (Write size bytes) = bytes
given_by (BadRead room) = []
given_by (BadWrite size) = []

-- What a log holds: the bytes of each read and each write, in the order of the calls.
pub data Entry : Type 0 where
  Took : List ℕ → Entry
  Gave : List ℕ → Entry

-- A call that doesn't fail adds one entry to a log, and a failed one none.
abbrev pub entries_by : Step → List Entry
entries_by (Read room bytes) = Took bytes ∷ []
entries_by (Write size bytes) = Gave bytes ∷ []
entries_by (BadRead room) = []
entries_by (BadWrite size) = []

-- the same of several calls
abbrev pub taken : List Step → List ℕ
taken [] = []
taken (x ∷ steps) = taken_by x ++ taken steps

abbrev pub given : List Step → List ℕ
given [] = []
given (x ∷ steps) = given_by x ++ given steps

abbrev pub entries : List Step → List Entry
entries [] = []
entries (x ∷ steps) = entries_by x ++ entries steps

-- how many of them were reads, failed ones too
abbrev pub reads : List Step → ℕ
reads [] = 0
reads ((Read room bytes) ∷ steps) = reads steps + 1
reads ((Write size bytes) ∷ steps) = reads steps
reads ((BadRead room) ∷ steps) = reads steps + 1
reads ((BadWrite size) ∷ steps) = reads steps

-- how many of them were writes, failed ones too
abbrev pub writes : List Step → ℕ
writes [] = 0
writes ((Read room bytes) ∷ steps) = writes steps
writes ((Write size bytes) ∷ steps) = writes steps + 1
writes ((BadRead room) ∷ steps) = writes steps
writes ((BadWrite size) ∷ steps) = writes steps + 1

-- each write took its whole piece
abbrev pub TakesAll : List Step → Type 0
TakesAll [] = Unit {0}
TakesAll ((Read room bytes) ∷ steps) = TakesAll steps
TakesAll ((Write size bytes) ∷ steps) = (length bytes ≡ size) × TakesAll steps
TakesAll ((BadRead room) ∷ steps) = TakesAll steps
TakesAll ((BadWrite size) ∷ steps) = ⊥

-- reads alone, and writes alone
abbrev pub OnlyReads : List Step → Type 0
OnlyReads [] = Unit {0}
OnlyReads ((Read room bytes) ∷ steps) = OnlyReads steps
OnlyReads ((Write size bytes) ∷ steps) = ⊥
OnlyReads ((BadRead room) ∷ steps) = OnlyReads steps
OnlyReads ((BadWrite size) ∷ steps) = ⊥

abbrev pub OnlyWrites : List Step → Type 0
OnlyWrites [] = Unit {0}
OnlyWrites ((Read room bytes) ∷ steps) = ⊥
OnlyWrites ((Write size bytes) ∷ steps) = OnlyWrites steps
OnlyWrites ((BadRead room) ∷ steps) = ⊥
OnlyWrites ((BadWrite size) ∷ steps) = OnlyWrites steps

-- each read asked for 1 to so many bytes
abbrev pub Asks : ℕ → List Step → Type 0
Asks most [] = Unit {0}
Asks most ((Read room bytes) ∷ steps) = (0 < room) × (room ≤ most) × Asks most steps
Asks most ((Write size bytes) ∷ steps) = Asks most steps
Asks most ((BadRead room) ∷ steps) = (0 < room) × (room ≤ most) × Asks most steps
Asks most ((BadWrite size) ∷ steps) = Asks most steps

-- Behind a read that met the end there is no read.
abbrev pub EndsReading : List Step → Type 0
EndsReading [] = Unit {0}
EndsReading (x ∷ steps) = (meets_end x ≡ true → OnlyWrites steps) × EndsReading steps

-- Behind a write there is no read.
abbrev pub ReadsFirst : List Step → Type 0
ReadsFirst [] = Unit {0}
ReadsFirst ((Read room bytes) ∷ steps) = ReadsFirst steps
ReadsFirst ((Write size bytes) ∷ steps) = OnlyWrites steps
ReadsFirst ((BadRead room) ∷ steps) = ReadsFirst steps
ReadsFirst ((BadWrite size) ∷ steps) = OnlyWrites steps

-- none of them failed
abbrev pub IsQuiet : List Step → Type 0
IsQuiet steps = list_any fails steps ≡ false

abbrev pub met : List Step → Bool
met steps = list_any meets_end steps

-- The last of the calls is such a one, and none before it failed.
pub record StopsAt (bad : Step → Bool) (steps : List Step) : Type 0 where
  pub front : List Step
  pub last : Step
  pub split : steps ≡ front ++ last ∷ []
  pub quiet : IsQuiet front
  pub bad_last : bad last ≡ true

-- Nothing was asked behind a failed call.
abbrev pub StopsAtFault : List Step → Type 0
StopsAtFault steps = IsQuiet steps ⊎ StopsAt fails steps

-- a count of faults rose, or stands at its last value
abbrev pub Rose : ℕ → ℕ → Type 0
Rose before now = min (before + 1) (2 ^ 64 - 1) ≤ now

-- a count of faults, where something failed and where nothing did
abbrev pub Counts : Bool → ℕ → ℕ → Type 0
Counts true before now = (before ≤ now) × Rose before now
Counts false before now = now ≡ before

-- the same of a counter that rises by one where something failed, up to its last value
abbrev pub CountsOne : Bool → ℕ → ℕ → Type 0
CountsOne true before now = now ≡ min (before + 1) (2 ^ 64 - 1)
CountsOne false before now = now ≡ before

-- a log grows by these entries, where it is told
abbrev pub Logs : Option (List Entry) → Option (List Entry) → List Entry → Type 0
Logs None new more = Unit {0}
Logs (Some old) None more = ⊥
Logs (Some old) (Some new) more = new ≡ old ++ more

-- A call moves no more bytes than its buffer or its piece has.
abbrev pub IsWithinRoom : Step → Type 0
IsWithinRoom (Read room bytes) = length bytes ≤ room
IsWithinRoom (Write size bytes) = length bytes ≤ size
IsWithinRoom (BadRead room) = Unit {0}
IsWithinRoom (BadWrite size) = Unit {0}

abbrev pub AreWithinRoom : List Step → Type 0
AreWithinRoom [] = Unit {0}
AreWithinRoom (x ∷ steps) = IsWithinRoom x × AreWithinRoom steps

-- what a read did
pub record ReadFacts {S : Type 0} (left : S → Option (List ℕ)) (faults : S → ℕ) (ended : S → Bool) (s : S) (x : Step)
    (t : S) : Type 0 where
  pub only : OnlyReads (x ∷ [])
  pub fits : IsWithinRoom x
  pub counts : Counts (fails x) (faults s) (faults t)
  pub comes : Consumes (left s) (left t) (taken_by x)
  pub end : meets_end x ≡ true → ended t ≡ true
  pub stays : ended s ≡ true → (ended t ≡ true) × (taken_by x ≡ [])

-- a write of a piece that isn't empty sends a byte of it at least, unless it fails
abbrev pub SendsSome : Step → Type 0
SendsSome (Read room bytes) = Unit {0}
SendsSome (Write size bytes) = 0 < size → 0 < length bytes
SendsSome (BadRead room) = Unit {0}
SendsSome (BadWrite size) = Unit {0}

-- what a write did
pub record WriteFacts {S : Type 0} (sent : S → Option (List ℕ)) (faults : S → ℕ) (s : S) (x : Step) (t : S) : Type 0 where
  pub only : OnlyWrites (x ∷ [])
  pub fits : IsWithinRoom x
  pub some : SendsSome x
  pub counts : Counts (fails x) (faults s) (faults t)
  pub goes : Appends (sent s) (sent t) (given_by x)

-- what a read of a port leaves, and what it logs
pub record ReadLeaves {S : Type 0} (sent : S → Option (List ℕ)) (write_faults : S → ℕ)
    (log : S → Option (List Entry)) (s : S) (x : Step) (t : S) : Type 0 where
  pub same_sent : sent t ≡ sent s
  pub same_faults : write_faults t ≡ write_faults s
  pub logs : Logs (log s) (log t) (entries_by x)

-- what a write of a port leaves, and what it logs
pub record WriteLeaves {S : Type 0} (left : S → Option (List ℕ)) (read_faults : S → ℕ) (ended : S → Bool)
    (log : S → Option (List Entry)) (s : S) (x : Step) (t : S) : Type 0 where
  pub same_left : left t ≡ left s
  pub same_faults : read_faults t ≡ read_faults s
  pub same_end : ended t ≡ ended s
  pub logs : Logs (log s) (log t) (entries_by x)

-- What the clauses of a call say of its port: what is left and what was sent, where the port tells it, and how many of its
-- reads and writes have failed.
pub record Meanings (S : Type 0) : Type 0 where
  pub left : S → Option (List ℕ)
  pub sent : S → Option (List ℕ)
  pub read_faults : S → ℕ
  pub write_faults : S → ℕ

abbrev pub meanings : {S : Type 0} → (S → Option (List ℕ)) → (S → Option (List ℕ)) → (S → ℕ) → (S → ℕ) → Meanings S
meanings left sent read_faults write_faults = record { left = left; sent = sent; read_faults = read_faults; write_faults = write_faults }

-- Any number of calls, each of which begins where the one before it ended.
pub data Chain {S : Type 0} (step : S → Step → S → Type 0) : S → List Step → S → Type 0 where
  none : {s : S} → Chain step s [] s
  next : {s t u : S} {x : Step} {steps : List Step} → step s x t → Chain step t steps u → Chain step s (x ∷ steps) u

-- A call of a port is a read or a write.
abbrev pub Either : {S : Type 0} → (S → Step → S → Type 0) → (S → Step → S → Type 0) → S → Step → S → Type 0
Either read write s x t = read s x t ⊎ write s x t

-- what reads did together
pub record ReadChainFacts {S : Type 0} (left : S → Option (List ℕ)) (faults : S → ℕ) (ended : S → Bool) (s : S)
    (steps : List Step) (t : S) : Type 0 where
  pub only : OnlyReads steps
  pub fits : AreWithinRoom steps
  pub counts : Counts (list_any fails steps) (faults s) (faults t)
  pub comes : Consumes (left s) (left t) (taken steps)
  pub end : met steps ≡ true → ended t ≡ true
  pub stays : ended s ≡ true → (ended t ≡ true) × (taken steps ≡ [])

-- what writes did together
pub record WriteChainFacts {S : Type 0} (sent : S → Option (List ℕ)) (faults : S → ℕ) (s : S) (steps : List Step)
    (t : S) : Type 0 where
  pub only : OnlyWrites steps
  pub fits : AreWithinRoom steps
  pub counts : Counts (list_any fails steps) (faults s) (faults t)
  pub goes : Appends (sent s) (sent t) (given steps)

-- what reads and writes of a port did together
pub record ChainFacts {S : Type 0} (left sent : S → Option (List ℕ)) (read_faults write_faults : S → ℕ)
    (ended : S → Bool) (log : S → Option (List Entry)) (s : S) (steps : List Step) (t : S) : Type 0 where
  pub fits : AreWithinRoom steps
  pub read_counts : Counts (list_any is_bad_read steps) (read_faults s) (read_faults t)
  pub write_counts : Counts (list_any is_bad_write steps) (write_faults s) (write_faults t)
  pub comes : Consumes (left s) (left t) (taken steps)
  pub goes : Appends (sent s) (sent t) (given steps)
  pub end : met steps ≡ true → ended t ≡ true
  pub stays : ended s ≡ true → (ended t ≡ true) × (taken steps ≡ [])
  pub logs : Logs (log s) (log t) (entries steps)

-- `write_all`: at `Ok` the whole piece went out in writes of which none failed. At `Failed` the last write failed and none
-- before it, and a prefix of the piece went out. Where each write takes all, there is one, and none for an empty piece.
pub record WroteAll {S : Type 0} (step : S → Step → S → Type 0) (s : S) (piece : List ℕ) (r : Result (Unit {0}) Failed)
    (t : S) : Type 0 where
  pub steps : List Step
  pub chain : Chain step s steps t
  pub whole : OnOk r ((given steps ≡ piece) × IsQuiet steps)
  pub part : OnErr r ((rest : List ℕ) × (piece ≡ given steps ++ rest) × StopsAt is_bad_write steps)
  pub few : TakesAll steps → writes steps ≤ min 1 (length piece)
