use Rattle.bh_base.proofs.Putting.{puts_on, flushes, all_counted}
use Rattle.h1_body.proofs.writing.write_chunk.Goals as goal

pub returns : goal.returns
returns g c =
    let put = puts_on c.put_size.ensures (puts_on c.put.ensures (puts_on c.put-2.ensures c.put-3.ensures)) in
    record {
      wrote = flushes c.new-out.ensures put c.flush.ensures.wrote;
      counts = all_counted g.met.S.Sink.write_law c.flush.result c.new-out.ensures put c.flush.ensures.wrote;
    }
