use Rattle.bh_cmd.proofs.Ended.{checked_port, not_checked}
use Rattle.bh_cmd.proofs.running.check.Goals as goal

pub returns-in-Ok : goal.returns-in-Ok
returns-in-Ok g c =
    let said = c.check.ensures in
    let same = c.in-Ok.ensures in
    rw c.from.ensures
    (checked_port g.met.P.Port.read_leaves c.check.result (rw same at said.call) (rw same at said.told) (rw same at said.complete) said.read_fault said.quiet_reads)

pub returns-in-Err : goal.returns-in-Err
returns-in-Err g c = not_checked
