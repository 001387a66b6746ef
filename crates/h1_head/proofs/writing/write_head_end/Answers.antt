use Rattle.bh_base.proofs.Putting.{puts_on, flushes, all_counted}
use Rattle.h1_head.proofs.writing.write_head_end.Goals as goal

pub returns : goal.returns
returns g c =
    let put = puts_on c.put_coding.ensures c.put.ensures in
    record {
      wrote = flushes c.new-out.ensures put c.flush.ensures.wrote;
      counts = all_counted g.met.S.Sink.write_law c.flush.result c.new-out.ensures put c.flush.ensures.wrote;
    }
