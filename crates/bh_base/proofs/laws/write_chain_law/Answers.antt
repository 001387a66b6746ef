use Rattle.bh_base.proofs.Chains.{writes_leave, write_chain, chain_facts, writes_are_chain}
use Rattle.bh_base.proofs.laws.write_chain_law.Goals as goal

pub returns-clause-leaves : goal.returns-clause-leaves
returns-clause-leaves g c = λ s t steps h. writes_leave g.met.P.Port.write_leaves h

pub returns-clause-logs : goal.returns-clause-logs
returns-clause-logs g c = λ s t steps h.
    let facts = chain_facts g.met.P.Source.read_law g.met.P.Port.read_leaves g.met.P.Sink.write_law g.met.P.Port.write_leaves
    (writes_are_chain _ _ h) in
    ((write_chain g.met.P.Sink.write_law h).only, facts.logs)
