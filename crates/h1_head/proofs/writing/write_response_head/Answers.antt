use Rattle.bh_base.proofs.Putting.{puts_on, puts_as, flushes, all_counted}
use Rattle.h1_spec.specs.Heads.{status_line}
use Rattle.h1_spec.specs.Written.{start_text, coding_line}
use Rattle.h1_head.proofs.Texts.{fields_text}
use Rattle.h1_head.proofs.writing.write_response_head.Goals as goal

pub returns : goal.returns
returns g c =
    let put = puts_as (fields_text (start_text (status_line c.args.status)) c.args.fields.now.lines (coding_line c.args.chunked))
    (puts_on c.put_status_line.ensures (puts_on c.put_fields.ensures (puts_on c.put_coding.ensures c.put.ensures))) in
    record {
      wrote = flushes c.new-out.ensures put c.flush.ensures.wrote;
      counts = all_counted g.met.S.Sink.write_law c.flush.result c.new-out.ensures put c.flush.ensures.wrote;
    }
