use Rattle.bh_encode.proofs.Adding.{interim_added}
use Rattle.bh_encode.proofs.known.add_interims.Goals as goal

pub loop-i-preserved : goal.loop-i-preserved
loop-i-preserved c =
    interim_added c.args.text.now.items c.loop-i.text.items c.add_interim.new.text.items c.args.interims.now c.loop-i.i _ c.at.ensures c.loop-i.invariant c.in_ok-add_interim.ensures
