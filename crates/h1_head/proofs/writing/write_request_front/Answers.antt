use denote.Ref.{Bor}
use Rattle.std.proofs.Common.{List, ℕ}
use Rattle.std.specs.Prelude.{option_map}
use Rattle.bh_base.proofs.Putting.{puts_on, puts_as, flushes, all_counted}
use Rattle.h1_spec.specs.Heads.{request_line}
use Rattle.h1_spec.specs.Written.{start_text, host_line}
use Rattle.h1_head.proofs.Texts.{front_text}
use Rattle.h1_head.proofs.writing.write_request_front.Goals as goal

pub returns : goal.returns
returns g c =
    let put = puts_as (front_text (start_text (request_line c.args.method.now c.args.target.now)) (host_line (option_map (λ (h : Bor (List ℕ)). h.now) c.args.host)) c.args.fields.now.lines)
    (puts_on c.put_request_line.ensures (puts_on c.put_host.ensures c.put_fields.ensures)) in
    record {
      wrote = flushes c.new-out.ensures put c.flush.ensures.wrote;
      counts = all_counted g.met.S.Sink.write_law c.flush.result c.new-out.ensures put c.flush.ensures.wrote;
    }
