use Rattle.bh_stream.proofs.Telling.{called_so, called_counts}
use Rattle.bh_translate.specs.Into.{into_called, into_end}
use Rattle.bh_translate.proofs.IntoFacts.{into_back}
use Rattle.bh_translate.proofs.into.to_http1.Goals as goal

pub returns-in-Ok : goal.returns-in-Ok
returns-in-Ok g c =
    let t = c.translate.ensures in
    let end = c.into_end.ensures in
    let counts = called_counts into_end into_called into_back _ c.args.port.now c.translate.new.port c.translate.result c.into_end.result end t.tells.counts in
    record {
      call = called_so into_end into_called into_back _ _ c.translate.result c.into_end.result end t.call;
      told = called_so into_end into_called into_back _ _ c.translate.result c.into_end.result end t.tells.told;
      complete = called_so into_end into_called into_back _ _ c.translate.result c.into_end.result end t.tells.complete;
      log = called_so into_end into_called into_back _ _ c.translate.result c.into_end.result end t.tells.logged;
      read_fault = counts.read_fault;
      write_fault = counts.write_fault;
      quiet_reads = counts.quiet_reads;
      quiet_writes = counts.quiet_writes;
    }
