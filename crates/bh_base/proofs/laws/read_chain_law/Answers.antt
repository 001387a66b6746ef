use Rattle.bh_base.proofs.Chains.{reads_leave, read_chain, chain_facts, reads_are_chain}
use Rattle.bh_base.proofs.laws.read_chain_law.Goals as goal

pub returns-clause-leaves : goal.returns-clause-leaves
returns-clause-leaves g c = λ s t steps h. reads_leave g.met.P.Port.read_leaves h

pub returns-clause-logs : goal.returns-clause-logs
returns-clause-logs g c = λ s t steps h.
    let facts = chain_facts g.met.P.Source.read_law g.met.P.Port.read_leaves g.met.P.Sink.write_law g.met.P.Port.write_leaves
    (reads_are_chain _ _ h) in
    ((read_chain g.met.P.Source.read_law h).only, facts.logs)
