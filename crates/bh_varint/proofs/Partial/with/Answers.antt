use Rattle.std.proofs.Common.{ℕ, ◌+◌, ◌*◌, List, ◌∷◌, ◌++◌, [], arith, sym, subst, ap, ◌∙◌}
use Rattle.bh_varint.specs.Begun.{Reads, bytes_begun, IsShort}
use Rattle.bh_varint.specs.Step.{IsUnfinished}
use Rattle.bh_varint.proofs.Growing.{reads_more, stored_reads, short_unfinished}
use Rattle.bh_varint.proofs.Partial.with.Goals as goal

pub returns-in-None-clause-unfinished : goal.returns-in-None-clause-unfinished
returns-in-None-clause-unfinished c = subst IsUnfinished c.self.view_is (short_unfinished _ c.self.invariant)

pub returns-in-Some-clause-reads : goal.returns-in-Some-clause-reads
returns-in-Some-clause-reads c =
    let b = c.in-Some.begun in
    let h = subst IsShort c.in-Some.is c.self.invariant in
    let now = sym (ap bytes_begun c.in-Some.is) ∙ c.self.view_is in
    subst (λ (x : ℕ). Reads (c.args.self.now ++ c.args.byte ∷ []) (record { width = b.width; count = b.count + 1; value = b.value * 256 + x })) (sym c.from-in-Some.ensures)
    (reads_more c.args.self.now b c.args.byte (omega arith) h.1 (subst (λ (x : List ℕ). Reads x b) now (stored_reads b h.0)))

pub returns-in-Some-clause-unfinished : goal.returns-in-Some-clause-unfinished
returns-in-Some-clause-unfinished c = subst IsUnfinished c.self.view_is (short_unfinished _ c.self.invariant)
