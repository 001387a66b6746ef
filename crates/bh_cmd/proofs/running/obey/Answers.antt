use Rattle.bh_cmd.proofs.Obeying.{found, found_none, can_run, obeyed, nothing_meant, not_read}
use Rattle.bh_cmd.proofs.running.obey.Goals as goal

pub returns-in-Ok-Some : goal.returns-in-Ok-Some
returns-in-Ok-Some g c =
    obeyed _ _ _ _ _ _ _ c.args.words.now c.in-Ok-Some.command (found c.args.words.now c.in-Ok-Some.field-0 c.in-Ok-Some.command c.in-Ok-Some.ensures c.in-Ok-Some.field-0-is)
    c.perform.result c.perform.ensures

pub returns-in-Ok-None : goal.returns-in-Ok-None
returns-in-Ok-None g c = nothing_meant _ _ _ _ _ _ c.args.words.now (found_none c.args.words.now c.in-Ok-None.field-0 c.in-Ok-None.ensures c.in-Ok-None.field-0-is)

pub returns-in-Err : goal.returns-in-Err
returns-in-Err g c = not_read _ _ _ _ _ _ c.args.words.now

pub perform-requires : goal.perform-requires
perform-requires g c = can_run c.args.words.now c.in-Ok-Some.command (found c.args.words.now c.in-Ok-Some.field-0 c.in-Ok-Some.command c.in-Ok-Some.ensures c.in-Ok-Some.field-0-is)
