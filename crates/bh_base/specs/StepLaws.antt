-- What lists of calls are together, and what the last of them says.
use Rattle.std.specs.Prelude.{◌≡◌, ◌+◌, ℕ, Bool, true, false, ◌||◌, List, [], ◌∷◌, ◌++◌}
use Rattle.std.specs.List.{list_any}
use Rattle.std.proofs.Common.{refl, sym, ◌∙◌, ap, arith, append_assoc, inr}
use Rattle.std.proofs.lemmas.List.Folds.{list_any-append}
use Rattle.bh_base.specs.Steps.{Step, Read, Write, BadRead, BadWrite, is_bad_read, is_bad_write, fails, taken_by, given_by, entries_by, Entry, taken, given, entries, reads, writes, TakesAll, OnlyReads, OnlyWrites, Asks, EndsReading, ReadsFirst, AreWithinRoom, IsQuiet, meets_end, met, StopsAt, StopsAtFault, Rose, Counts}

none_of : (a b : Bool) → (a || b) ≡ false → (a ≡ false) × (b ≡ false)
none_of false b e = (refl, e)
none_of true b e = absurd (cc)

pub taken-append : (xs ys : List Step) → taken (xs ++ ys) ≡ taken xs ++ taken ys
taken-append [] ys = refl
taken-append (x ∷ xs) ys = ap (λ (l : List ℕ). taken_by x ++ l) (taken-append xs ys) ∙ sym (append_assoc (taken_by x) (taken xs) (taken ys))

pub given-append : (xs ys : List Step) → given (xs ++ ys) ≡ given xs ++ given ys
given-append [] ys = refl
given-append (x ∷ xs) ys = ap (λ (l : List ℕ). given_by x ++ l) (given-append xs ys) ∙ sym (append_assoc (given_by x) (given xs) (given ys))

pub entries-append : (xs ys : List Step) → entries (xs ++ ys) ≡ entries xs ++ entries ys
entries-append [] ys = refl
entries-append (x ∷ xs) ys = ap (λ (l : List Entry). entries_by x ++ l) (entries-append xs ys)
    ∙ sym (append_assoc (entries_by x) (entries xs) (entries ys))

pub reads-append : (xs ys : List Step) → reads (xs ++ ys) ≡ reads xs + reads ys
reads-append [] ys = omega arith
reads-append ((Read room bytes) ∷ xs) ys = omega (arith, reads-append xs ys)
reads-append ((Write size bytes) ∷ xs) ys = reads-append xs ys
reads-append ((BadRead room) ∷ xs) ys = omega (arith, reads-append xs ys)
reads-append ((BadWrite size) ∷ xs) ys = reads-append xs ys

pub writes-append : (xs ys : List Step) → writes (xs ++ ys) ≡ writes xs + writes ys
writes-append [] ys = omega arith
writes-append ((Read room bytes) ∷ xs) ys = writes-append xs ys
writes-append ((Write size bytes) ∷ xs) ys = omega (arith, writes-append xs ys)
writes-append ((BadRead room) ∷ xs) ys = writes-append xs ys
writes-append ((BadWrite size) ∷ xs) ys = omega (arith, writes-append xs ys)

pub TakesAll-append : (xs ys : List Step) → TakesAll (xs ++ ys) → TakesAll xs × TakesAll ys
TakesAll-append [] ys h = (tt, h)
TakesAll-append ((Read room bytes) ∷ xs) ys h = TakesAll-append xs ys h
TakesAll-append ((Write size bytes) ∷ xs) ys h = let more = TakesAll-append xs ys h.1 in ((h.0, more.0), more.1)
TakesAll-append ((BadRead room) ∷ xs) ys h = TakesAll-append xs ys h
TakesAll-append ((BadWrite size) ∷ xs) ys h = absurd h

pub OnlyReads-append : (xs ys : List Step) → OnlyReads xs → OnlyReads ys → OnlyReads (xs ++ ys)
OnlyReads-append [] ys a b = b
OnlyReads-append ((Read room bytes) ∷ xs) ys a b = OnlyReads-append xs ys a b
OnlyReads-append ((Write size bytes) ∷ xs) ys a b = absurd a
OnlyReads-append ((BadRead room) ∷ xs) ys a b = OnlyReads-append xs ys a b
OnlyReads-append ((BadWrite size) ∷ xs) ys a b = absurd a

pub OnlyWrites-append : (xs ys : List Step) → OnlyWrites xs → OnlyWrites ys → OnlyWrites (xs ++ ys)
OnlyWrites-append [] ys a b = b
OnlyWrites-append ((Write size bytes) ∷ xs) ys a b = OnlyWrites-append xs ys a b
OnlyWrites-append ((Read room bytes) ∷ xs) ys a b = absurd a
OnlyWrites-append ((BadWrite size) ∷ xs) ys a b = OnlyWrites-append xs ys a b
OnlyWrites-append ((BadRead room) ∷ xs) ys a b = absurd a

pub Asks-append : (most : ℕ) (xs ys : List Step) → Asks most xs → Asks most ys → Asks most (xs ++ ys)
Asks-append most [] ys a b = b
Asks-append most ((Read room bytes) ∷ xs) ys a b = (a.0, a.1, Asks-append most xs ys a.2 b)
Asks-append most ((Write size bytes) ∷ xs) ys a b = Asks-append most xs ys a b
Asks-append most ((BadRead room) ∷ xs) ys a b = (a.0, a.1, Asks-append most xs ys a.2 b)
Asks-append most ((BadWrite size) ∷ xs) ys a b = Asks-append most xs ys a b

pub AreWithinRoom-append : (xs ys : List Step) → AreWithinRoom xs → AreWithinRoom ys → AreWithinRoom (xs ++ ys)
AreWithinRoom-append [] ys a b = b
AreWithinRoom-append (x ∷ xs) ys a b = (a.0, AreWithinRoom-append xs ys a.1 b)

-- reads send nothing, and writes take nothing, ask for nothing and meet no end
pub reads_give_nothing : (xs : List Step) → OnlyReads xs → given xs ≡ []
reads_give_nothing [] h = refl
reads_give_nothing ((Read room bytes) ∷ xs) h = reads_give_nothing xs h
reads_give_nothing ((Write size bytes) ∷ xs) h = absurd h
reads_give_nothing ((BadRead room) ∷ xs) h = reads_give_nothing xs h
reads_give_nothing ((BadWrite size) ∷ xs) h = absurd h

pub writes_take_nothing : (xs : List Step) → OnlyWrites xs
    → (taken xs ≡ []) × (reads xs ≡ 0) × (met xs ≡ false) × (list_any is_bad_read xs ≡ false)
writes_take_nothing [] h = (refl, refl, refl, refl)
writes_take_nothing ((Write size bytes) ∷ xs) h = writes_take_nothing xs h
writes_take_nothing ((Read room bytes) ∷ xs) h = absurd h
writes_take_nothing ((BadWrite size) ∷ xs) h = writes_take_nothing xs h
writes_take_nothing ((BadRead room) ∷ xs) h = absurd h

pub writes_ask_nothing : (most : ℕ) (xs : List Step) → OnlyWrites xs → Asks most xs
writes_ask_nothing most [] h = tt
writes_ask_nothing most ((Write size bytes) ∷ xs) h = writes_ask_nothing most xs h
writes_ask_nothing most ((Read room bytes) ∷ xs) h = absurd h
writes_ask_nothing most ((BadWrite size) ∷ xs) h = writes_ask_nothing most xs h
writes_ask_nothing most ((BadRead room) ∷ xs) h = absurd h

-- reads before writes, of which none follows one that met the end
pub reads_then_writes : (xs ys : List Step) → OnlyReads xs → OnlyWrites ys → ReadsFirst (xs ++ ys)
reads_then_writes [] ys a b = writes_only ys b
  where
    writes_only : (ys : List Step) → OnlyWrites ys → ReadsFirst ys
    writes_only [] h = tt
    writes_only ((Read room bytes) ∷ ys) h = absurd h
    writes_only ((Write size bytes) ∷ ys) h = h
    writes_only ((BadRead room) ∷ ys) h = absurd h
    writes_only ((BadWrite size) ∷ ys) h = h
reads_then_writes ((Read room bytes) ∷ xs) ys a b = reads_then_writes xs ys a b
reads_then_writes ((Write size bytes) ∷ xs) ys a b = absurd a
reads_then_writes ((BadRead room) ∷ xs) ys a b = reads_then_writes xs ys a b
reads_then_writes ((BadWrite size) ∷ xs) ys a b = absurd a

pub writes_end_reading : (ys : List Step) → OnlyWrites ys → EndsReading ys
writes_end_reading [] h = tt
writes_end_reading ((Read room bytes) ∷ ys) h = absurd h
writes_end_reading ((Write size bytes) ∷ ys) h = (λ e. h, writes_end_reading ys h)
writes_end_reading ((BadRead room) ∷ ys) h = absurd h
writes_end_reading ((BadWrite size) ∷ ys) h = (λ e. h, writes_end_reading ys h)

pub EndsReading-append : (xs ys : List Step) → EndsReading xs → OnlyWrites ys → EndsReading (xs ++ ys)
EndsReading-append [] ys a b = writes_end_reading ys b
EndsReading-append (x ∷ xs) ys a b = (λ e. OnlyWrites-append xs ys (a.0 e) b, EndsReading-append xs ys a.1 b)

-- One call behind calls of which none met the end.
pub ends_reading : (xs : List Step) (x : Step) → met xs ≡ false → EndsReading (xs ++ x ∷ [])
ends_reading [] x none = (λ e. tt, tt)
ends_reading (y ∷ xs) x none =
    let parts = none_of (meets_end y) (met xs) none in
    (λ e. absurd (true_or_false (meets_end y) e parts.0), ends_reading xs x parts.1)
  where
    true_or_false : (b : Bool) → b ≡ true → b ≡ false → ⊥
    true_or_false true e f = absurd (cc)
    true_or_false false e f = absurd (cc)

-- a failed call is a failed read or a failed write
pub fails_as : (xs : List Step) → list_any fails xs ≡ (list_any is_bad_read xs || list_any is_bad_write xs)
fails_as [] = refl
fails_as ((Read room bytes) ∷ xs) = fails_as xs
fails_as ((Write size bytes) ∷ xs) = fails_as xs
fails_as ((BadRead room) ∷ xs) = refl
fails_as ((BadWrite size) ∷ xs) = by_case (list_any is_bad_read xs)
  where
    by_case : (b : Bool) → true ≡ (b || true)
    by_case true = refl
    by_case false = refl

bad_reads_fail : (x : Step) → is_bad_read x ≡ true → fails x ≡ true
bad_reads_fail (Read room bytes) e = absurd (cc)
bad_reads_fail (Write size bytes) e = absurd (cc)
bad_reads_fail (BadRead room) e = refl
bad_reads_fail (BadWrite size) e = absurd (cc)

pub bad_writes_fail : (x : Step) → is_bad_write x ≡ true → fails x ≡ true
bad_writes_fail (Read room bytes) e = absurd (cc)
bad_writes_fail (Write size bytes) e = absurd (cc)
bad_writes_fail (BadRead room) e = absurd (cc)
bad_writes_fail (BadWrite size) e = refl

-- quiet calls behind quiet ones
pub quiet_on : (xs ys : List Step) → IsQuiet xs → IsQuiet ys → IsQuiet (xs ++ ys)
quiet_on xs ys a b = list_any-append fails xs ys ∙ ap (λ (c : Bool). c || list_any fails ys) a ∙ b

-- calls that stop at such a one, behind quiet ones
pub stops_on : (bad : Step → Bool) (xs ys : List Step) → IsQuiet xs → StopsAt bad ys → StopsAt bad (xs ++ ys)
stops_on bad xs ys a b = record {
  front = xs ++ b.front;
  last = b.last;
  split = ap (λ (l : List Step). xs ++ l) b.split ∙ sym (append_assoc xs b.front (b.last ∷ []));
  quiet = quiet_on xs b.front a b.quiet;
  bad_last = b.bad_last;
}

-- Where calls stop at one that failed, one failed.
pub stops_fails : (bad : Step → Bool) (p : Step → Bool) (xs : List Step) → ((x : Step) → bad x ≡ true → p x ≡ true) → StopsAt bad xs
    → list_any p xs ≡ true
stops_fails bad p xs h s =
    ap (list_any p) s.split ∙ list_any-append p s.front (s.last ∷ []) ∙ by_case (list_any p s.front) (p s.last) (h s.last s.bad_last)
  where
    by_case : (a b : Bool) → b ≡ true → (a || (b || false)) ≡ true
    by_case true b e = refl
    by_case false true e = refl
    by_case false false e = absurd (cc)

-- Calls that stop at a failed read, or at a failed write, stop at a fault.
pub stops_at_read : (xs : List Step) → StopsAt is_bad_read xs → StopsAtFault xs
stops_at_read xs s = inr (record {
  front = s.front;
  last = s.last;
  split = s.split;
  quiet = s.quiet;
  bad_last = bad_reads_fail s.last s.bad_last;
})

pub stops_at_write : (xs : List Step) → StopsAt is_bad_write xs → StopsAtFault xs
stops_at_write xs s = inr (record {
  front = s.front;
  last = s.last;
  split = s.split;
  quiet = s.quiet;
  bad_last = bad_writes_fail s.last s.bad_last;
})

-- ---- the counts of faults, by how calls stopped

pub quiet_is : (xs : List Step) → IsQuiet xs → (list_any is_bad_read xs ≡ false) × (list_any is_bad_write xs ≡ false)
quiet_is xs h = none_of (list_any is_bad_read xs) (list_any is_bad_write xs) (sym (fails_as xs) ∙ h)

not_a_write : (x : Step) → is_bad_read x ≡ true → is_bad_write x ≡ false
not_a_write (Read room bytes) e = refl
not_a_write (Write size bytes) e = absurd (cc)
not_a_write (BadRead room) e = refl
not_a_write (BadWrite size) e = absurd (cc)

not_a_read : (x : Step) → is_bad_write x ≡ true → is_bad_read x ≡ false
not_a_read (Read room bytes) e = absurd (cc)
not_a_read (Write size bytes) e = refl
not_a_read (BadRead room) e = absurd (cc)
not_a_read (BadWrite size) e = refl

none_but : (bad p : Step → Bool) (xs : List Step) (s : StopsAt bad xs) → list_any p s.front ≡ false → p s.last ≡ false
    → list_any p xs ≡ false
none_but bad p xs s front last = ap (list_any p) s.split ∙ list_any-append p s.front (s.last ∷ [])
    ∙ by_case (list_any p s.front) (p s.last) front last
  where
    by_case : (a b : Bool) → a ≡ false → b ≡ false → (a || (b || false)) ≡ false
    by_case false false e f = refl
    by_case true b e f = absurd (cc)
    by_case false true e f = absurd (cc)

pub read_stops : (xs : List Step) → StopsAt is_bad_read xs → (list_any is_bad_read xs ≡ true) × (list_any is_bad_write xs ≡ false)
read_stops xs s = (
  stops_fails is_bad_read is_bad_read xs (λ x e. e) s,
  none_but is_bad_read is_bad_write xs s (quiet_is s.front s.quiet).1 (not_a_write s.last s.bad_last),
)

pub write_stops : (xs : List Step) → StopsAt is_bad_write xs → (list_any is_bad_write xs ≡ true) × (list_any is_bad_read xs ≡ false)
write_stops xs s = (
  stops_fails is_bad_write is_bad_write xs (λ x e. e) s,
  none_but is_bad_write is_bad_read xs s (quiet_is s.front s.quiet).0 (not_a_read s.last s.bad_last),
)

pub stayed : (b : Bool) (before now : ℕ) → b ≡ false → Counts b before now → now ≡ before
stayed false before now e h = h
stayed true before now e h = absurd (cc)

pub rose : (b : Bool) (before now : ℕ) → b ≡ true → Counts b before now → Rose before now
rose true before now e h = h.1
rose false before now e h = absurd (cc)
