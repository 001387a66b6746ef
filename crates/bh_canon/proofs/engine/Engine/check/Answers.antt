use Rattle.std.proofs.Common.{rules, sym}
use Rattle.bh_canon.proofs.Lending.{no_write_fault, check_through}
use Rattle.bh_canon.proofs.Sources.{reads_fit, source_told, source_completes, source_counts}
use Rattle.bh_canon.proofs.engine.Engine.check.Goals as goal

pub check_end-requires : goal.check_end-requires
check_end-requires g c = no_write_fault c.check.result c.check.ensures.call

pub returns-clause-call : goal.returns-clause-call
returns-clause-call g c =
    let through = check_through (λ p. p.source.now) (λ p. p.source.ghost_name) (λ p. p.write_faults) g.S.Source.read_step c.args.self.now
    c.new-lent.result c.check.new.port _ c.check.result (rw c.self.view_is at c.check.ensures.call)
    (λ e. search (rules, e, c.new-lent.ensures, c.drop-lent.ensures))
    (reads_fit c.args.self.now g.met.S.Source.read_law g.met.S.Source.ended_law) in
    rw (c.check_end.ensures, sym c.new-lent.ensures.now) through

pub returns-clause-told : goal.returns-clause-told
returns-clause-told g c = source_told c.args.self.now g.met.S.Source.read_law g.met.S.Source.ended_law c.args.source.now _ c.check_end.result (returns-clause-call g c)

pub returns-clause-complete : goal.returns-clause-complete
returns-clause-complete g c = source_completes c.args.self.now g.met.S.Source.read_law g.met.S.Source.ended_law c.args.source.now _ c.check_end.result (returns-clause-call g c)

pub returns-clause-read_fault : goal.returns-clause-read_fault
returns-clause-read_fault g c = (source_counts c.args.self.now g.met.S.Source.read_law g.met.S.Source.ended_law c.args.source.now _ c.check_end.result (returns-clause-call g c)).0

pub returns-clause-quiet_reads : goal.returns-clause-quiet_reads
returns-clause-quiet_reads g c = (source_counts c.args.self.now g.met.S.Source.read_law g.met.S.Source.ended_law c.args.source.now _ c.check_end.result (returns-clause-call g c)).1
