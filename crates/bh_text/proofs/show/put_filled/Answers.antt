use Rattle.std.proofs.Common.{◌≡◌, ◌++◌, length, ap, ◌∙◌, arith}
use Rattle.std.proofs.lemmas.List.{length-append}
use Rattle.bh_text.proofs.Filling.{filling_starts, filled_on}
use Rattle.bh_text.proofs.show.put_filled.Goals as goal

pub loop-rest-init : goal.loop-rest-init
loop-rest-init g c = filling_starts _ _ _ _ c.requires

pub loop-rest-preserved : goal.loop-rest-preserved
loop-rest-preserved g c =
    let size : length c.split_at.result.0.now ≡ c.room-in-loop-rest.result = c.split_at.ensures.front_len in
    let line : c.as_slice.result.now ≡ c.loop-rest.waiting ++ c.split_at.result.0.now = c.as_slice.ensures.bytes ∙ c.hold.ensures in
    filled_on c.room-in-loop-rest.result c.split_at.result.0.now c.split_at.result.1.now c.as_slice.result.now _ c.split_at.ensures.front c.split_at.ensures.back
    line (omega (arith, ap length line, length-append c.loop-rest.waiting c.split_at.result.0.now, size, c.room-in-loop-rest.ensures)) c.clear.ensures c.put_content.ensures c.loop-rest.invariant
