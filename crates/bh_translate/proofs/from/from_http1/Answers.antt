use Rattle.bh_stream.proofs.Telling.{called_so, called_counts}
use Rattle.bh_translate.specs.From.{from_called, from_end}
use Rattle.bh_translate.proofs.FromFacts.{from_back}
use Rattle.bh_translate.proofs.from.from_http1.Goals as goal

pub returns-in-Ok : goal.returns-in-Ok
returns-in-Ok g c =
    let t = c.translate.ensures in
    let end = c.from_end.ensures in
    let counts = called_counts from_end from_called from_back _ c.args.port.now c.translate.new.port c.translate.result c.from_end.result end t.tells.counts in
    record {
      call = called_so from_end from_called from_back _ _ c.translate.result c.from_end.result end t.call;
      told = called_so from_end from_called from_back _ _ c.translate.result c.from_end.result end t.tells.told;
      complete = called_so from_end from_called from_back _ _ c.translate.result c.from_end.result end t.tells.complete;
      log = called_so from_end from_called from_back _ _ c.translate.result c.from_end.result end t.tells.logged;
      read_fault = counts.read_fault;
      write_fault = counts.write_fault;
      quiet_reads = counts.quiet_reads;
      quiet_writes = counts.quiet_writes;
    }
