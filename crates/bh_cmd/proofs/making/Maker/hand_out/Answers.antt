use Rattle.std.proofs.Common.{rules, arith}
use Rattle.bh_cmd.specs.Making.{unmade}
use Rattle.bh_cmd.proofs.Refilling.{handed_out}
use Rattle.bh_cmd.proofs.making.Maker.hand_out.Goals as goal

pub returns-clause-comes : goal.returns-clause-comes
returns-clause-comes c =
    let m = c.args.self.now in
    let inside = c.requires.sound.inside in
    let count = c.min-count.ensures in
    handed_out m.at m.end c.min-count.result m.ready c.copy_from_slice.new.self _ (unmade m.ended m.chunk m.made m.missing) (search (arith, count, inside)) (search (rules, count, inside)) c.copy_from_slice.ensures.after
