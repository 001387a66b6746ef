use Rattle.bh_cmd.proofs.Ended.{wrote, not_run}
use Rattle.bh_cmd.proofs.running.show.Goals as goal

pub returns-in-Ok : goal.returns-in-Ok
returns-in-Ok g c =
    let said = c.show.ensures in
    let same = c.in-Ok.ensures in
    rw c.from.ensures
    (wrote c.show.result (rw same at said.call) (rw same at said.told) (rw same at said.complete) (rw same at said.log)
    (record { read_fault = said.read_fault; write_fault = said.write_fault; quiet_reads = said.quiet_reads; quiet_writes = said.quiet_writes }))

pub returns-in-Err : goal.returns-in-Err
returns-in-Err g c = not_run
