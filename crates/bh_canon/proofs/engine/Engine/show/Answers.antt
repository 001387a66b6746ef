use Rattle.std.proofs.Common.{sym}
use Rattle.bh_spec.specs.Listing.{show}
use Rattle.bh_listing.specs.Shown.{Shown}
use Rattle.bh_canon.proofs.Calls.{writing}
use Rattle.bh_canon.proofs.engine.Engine.show.Goals as goal

pub returns : goal.returns
returns g c =
    let L = c.args.self.now in
    let wrote = rw (c.self.view_is, sym c.canon_end.ensures) at c.listed.ensures.call in
    let facts = writing L show Shown 8223 31 g.met.P.Source.read_law g.met.P.Source.ended_law g.met.P.Sink.write_law g.met.P.Port.read_leaves g.met.P.Port.write_leaves
    c.args.port.now c.listed.new.port c.canon_end.result wrote.steps wrote.call wrote.keeps_up in
    record {
      ready = search;
      limits = rw c.self.view_is at c.self.invariant.limits;
      call = record { wrote = wrote; few = facts.few };
      told = facts.told;
      complete = facts.complete;
      log = facts.log_is;
      read_fault = facts.read_fault;
      write_fault = facts.write_fault;
      quiet_reads = facts.quiet_reads;
      quiet_writes = facts.quiet_writes;
    }
