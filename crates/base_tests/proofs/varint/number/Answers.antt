use Rattle.std.proofs.Common.{◌≡◌, ◌+◌, ◌<◌, ℕ, List, ◌∷◌, ◌++◌, length, take, drop, get_or, arith, sym, ap, ◌∙◌, drop-cons, add-one}
use Rattle.std.proofs.lemmas.List.{take-append-drop}
use Rattle.bh_varint.proofs.Reading.{front_dead}
use Rattle.base_tests.proofs.varint.number.Goals as goal

-- the bytes so far, the next one, and those behind it
parts : (now bytes : List ℕ) (i : ℕ) → now ≡ take i bytes → i < length bytes → bytes ≡ now ++ (get_or bytes i 0 ∷ drop (i + 1) bytes)
parts now bytes i e h = sym (take-append-drop i bytes) ∙ rw (e, add-one, drop-cons bytes i 0)

pub returns-in-Dead-clause-none : goal.returns-in-Dead-clause-none
returns-in-Dead-clause-none c = λ front more n w e whole.
    let bytes = c.args.bytes.now in
    front_dead c.args.set.now c.loop-i.partial (drop (c.loop-i.i + 1) bytes) more (get_or bytes c.loop-i.i 0) n w
    c.loop-i.invariant.unfinished c.in-Dead.ensures.shows whole.fits whole.allowed
    (ap (λ (x : List ℕ). x ++ more) whole.spelled ∙ e ∙ parts c.loop-i.partial bytes c.loop-i.i c.loop-i.invariant.so_far (omega arith))
