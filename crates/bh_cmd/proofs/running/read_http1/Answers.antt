use Rattle.bh_cmd.proofs.Ended.{read_http1}
use Rattle.bh_cmd.proofs.running.read_http1.Goals as goal

pub returns : goal.returns
returns g c =
    let said = c.from_http1.ensures in
    rw c.from.ensures
    (read_http1 c.from_http1.result said.call said.told said.complete said.log
    (record { read_fault = said.read_fault; write_fault = said.write_fault; quiet_reads = said.quiet_reads; quiet_writes = said.quiet_writes }))
