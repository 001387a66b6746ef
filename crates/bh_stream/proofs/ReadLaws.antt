-- How many bytes were taken, by how many had been taken before the last read.
use Rattle.std.proofs.Common.{◌≤◌, ◌+◌, ℕ, List, [], ◌∷◌, ◌++◌, length, ap, subst, arith, length-append}
use Rattle.bh_base.specs.Steps.{Step, Read, Write, BadRead, BadWrite, taken, OnlyReads, Asks, IsWithinRoom, AreWithinRoom}
use Rattle.bh_base.specs.StepLaws.{taken-append, writes_take_nothing}
use Rattle.bh_stream.specs.Logs.{ReadsTo}

one_read_few : (most : ℕ) (x : Step) → OnlyReads (x ∷ []) → Asks most (x ∷ []) → IsWithinRoom x → length (taken (x ∷ [])) ≤ most
one_read_few most (Read room bytes) r a f = omega (arith, a.1, f, length-append bytes [])
one_read_few most (Write size bytes) r a f = absurd r
one_read_few most (BadRead room) r a f = omega arith
one_read_few most (BadWrite size) r a f = absurd r

asks_behind : (most : ℕ) (front : List Step) (x : Step) (back : List Step) → Asks most (front ++ x ∷ back) → Asks most (x ∷ [])
asks_behind most [] (Read room bytes) back a = (a.0, a.1, tt)
asks_behind most [] (Write size bytes) back a = tt
asks_behind most [] (BadRead room) back a = (a.0, a.1, tt)
asks_behind most [] (BadWrite size) back a = tt
asks_behind most ((Read room bytes) ∷ front) x back a = asks_behind most front x back a.2
asks_behind most ((Write size bytes) ∷ front) x back a = asks_behind most front x back a
asks_behind most ((BadRead room) ∷ front) x back a = asks_behind most front x back a.2
asks_behind most ((BadWrite size) ∷ front) x back a = asks_behind most front x back a

fits_behind : (front : List Step) (x : Step) (back : List Step) → AreWithinRoom (front ++ x ∷ back) → IsWithinRoom x
fits_behind [] x back a = a.0
fits_behind (y ∷ front) x back a = fits_behind front x back a.1

-- at most the bytes of one read more
pub few_in_all : (at most : ℕ) (steps : List Step) → ReadsTo at steps → Asks most steps → AreWithinRoom steps → length (taken steps) ≤ at + most
few_in_all at most steps r a f =
    let one = one_read_few most r.last r.is_read (asks_behind most r.front r.last r.back (subst (Asks most) r.split a)) (fits_behind r.front r.last r.back (subst AreWithinRoom r.split f)) in
    let back = (writes_take_nothing r.back r.behind).0 in
    omega (
      arith,
      r.few,
      one,
      ap (λ (l : List Step). length (taken l)) r.split,
      ap length (taken-append r.front (r.last ∷ r.back)),
      length-append (taken r.front) (taken (r.last ∷ r.back)),
      ap length (taken-append (r.last ∷ []) r.back),
      length-append (taken (r.last ∷ [])) (taken r.back),
      ap length back,
    )
