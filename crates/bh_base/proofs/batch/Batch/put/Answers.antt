use Rattle.std.proofs.Common.{◌≡◌, ◌+◌, ◌++◌, ℕ, List, length, arith, sym, ◌∙◌, ap₂, take-append-drop}
use Rattle.bh_base.specs.Batches.{batch_room}
use Rattle.bh_base.proofs.Batching.{buffer_put, put_in_part}
use Rattle.bh_base.proofs.batch.Batch.put.Goals as goal

pub loop-rest-preserved : goal.loop-rest-preserved
loop-rest-preserved g c =
    let cut : c.loop-rest.rest.now ≡ c.split_at.result.0.now ++ c.split_at.result.1.now = sym (take-append-drop _ c.loop-rest.rest.now) ∙ ap₂ (λ (x y : List ℕ). x ++ y) (sym c.split_at.ensures.front) (sym c.split_at.ensures.back) in
    let full : length c.loop-rest.self.held + length c.split_at.result.0.now ≡ batch_room = omega (arith, c.room-in-loop-rest.ensures, c.split_at.ensures.front_len) in
    buffer_put _ c.loop-rest.sink c.hand_on.new.sink _ c.loop-rest.rest.now c.split_at.result.0.now c.split_at.result.1.now _ c.loop-rest.self c.hold.new.self c.hand_on.new.self
    c.hand_on.result cut full c.hold.ensures.held c.hold.ensures.failed c.in_default.is c.hand_on.ensures.held c.in_default.ensures.ok c.hand_on.ensures.wrote c.loop-rest.invariant

pub returns-in-Err : goal.returns-in-Err
returns-in-Err g c =
    let cut : c.loop-rest.rest.now ≡ c.split_at.result.0.now ++ c.split_at.result.1.now = sym (take-append-drop _ c.loop-rest.rest.now) ∙ ap₂ (λ (x y : List ℕ). x ++ y) (sym c.split_at.ensures.front) (sym c.split_at.ensures.back) in
    put_in_part _ c.loop-rest.sink c.hand_on.new.sink _ c.loop-rest.rest.now c.split_at.result.0.now c.split_at.result.1.now _ c.loop-rest.self c.hold.new.self c.hand_on.new.self
    _ cut c.hold.ensures.held c.hold.ensures.failed c.in-Err.ensures.err c.in-Err.ensures.wrote c.loop-rest.invariant
