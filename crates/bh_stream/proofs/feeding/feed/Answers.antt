use Rattle.std.proofs.Common.{◌≡◌, length, refl, ◌∙◌, arith, map, [], ◌∷◌}
use Rattle.std.proofs.lemmas.Grind.{common_steps}
use Rattle.bh_spec.specs.Items.{content_byte}
use Rattle.bh_stream.proofs.Parts.{fed_start, fed_on, fed_cut, fed_need, fed_empty, fed_refused, may_come}
use Rattle.bh_stream.proofs.feeding.feed.Goals as goal

pub loop-rest-init : goal.loop-rest-init
loop-rest-init g c = record {
  so_far = fed_start g.D.Decode.refuses g.met.D.Decode.laws g.J.Job.writes g.J.Job.most c.args.decoder.now (g.J.Job.owed c.args.job.now) (g.J.Job.held c.args.job.now) c.args.piece.now c.args.sink.now c.requires.ready c.requires.few (g.J.Job.takes c.args.job.now) c.requires.fits;
  limits = refl;
}

pub returns-in-Need-clause-feeds : goal.returns-in-Need-clause-feeds
returns-in-Need-clause-feeds g c = fed_need g.D.Decode.refuses g.met.D.Decode.laws _ _ _ _ _ _ _ c.loop-rest.rest.now c.loop-rest.decoder _ _ _ c.loop-rest.sink c.loop-rest.invariant.so_far c.push.new.self c.in-Need.ensures.pushed.0 c.in-Need.ensures.pushed.1

pub returns-in-Refused-clause-feeds : goal.returns-in-Refused-clause-feeds
returns-in-Refused-clause-feeds g c = fed_refused g.D.Decode.refuses g.met.D.Decode.laws _ _ _ _ _ _ _ c.loop-rest.rest.now c.loop-rest.decoder _ _ _ c.loop-rest.sink c.loop-rest.invariant.so_far c.push.new.self _ _ _ _ c.in-Refused.ensures.pushed

pub loop-rest-preserved-in-Ok : goal.loop-rest-preserved-in-Ok
loop-rest-preserved-in-Ok g c = record {
  so_far = fed_on g.D.Decode.refuses g.met.D.Decode.laws _ _ _ _ _ _ _ c.loop-rest.rest.now c.loop-rest.decoder _ _ _ c.loop-rest.sink c.loop-rest.invariant.so_far c.in-Content.taken (map content_byte c.in-Content.bytes.now) c.push.new.self c.in-Content.ensures.pushed.0 _ _ _ c.content.new.sink c.in-Ok.ensures;
  limits = c.in-Content.ensures.limits ∙ c.loop-rest.invariant.limits;
}

pub returns-in-Err-clause-feeds : goal.returns-in-Err-clause-feeds
returns-in-Err-clause-feeds g c =
    fed_cut g.D.Decode.refuses g.met.D.Decode.laws _ _ _ _ _ _ _ c.loop-rest.rest.now c.loop-rest.decoder _ _ _ c.loop-rest.sink c.loop-rest.invariant.so_far c.in-Content.taken (map content_byte c.in-Content.bytes.now) c.push.new.self c.in-Content.ensures.pushed.0 c.in-Err.field-0 _ _ _ c.content.new.sink c.in-Err.ensures

pub loop-rest-preserved : goal.loop-rest-preserved
loop-rest-preserved g c =
    let it = c.in-Whole.ensures.pushed in
    record {
      so_far = fed_on g.D.Decode.refuses g.met.D.Decode.laws _ _ _ _ _ _ _ c.loop-rest.rest.now c.loop-rest.decoder _ _ _ c.loop-rest.sink c.loop-rest.invariant.so_far c.in-Whole.taken (it.0 ∷ []) c.push.new.self it.1 _ _ _ c.event.new.sink
          (c.in-Ok-event.ensures it.0 it.2);
      limits = c.in-Whole.ensures.limits ∙ c.loop-rest.invariant.limits;
    }

pub returns-in-Err-event-clause-feeds : goal.returns-in-Err-event-clause-feeds
returns-in-Err-event-clause-feeds g c =
    let it = c.in-Whole.ensures.pushed in
    fed_cut g.D.Decode.refuses g.met.D.Decode.laws _ _ _ _ _ _ _ c.loop-rest.rest.now c.loop-rest.decoder _ _ _ c.loop-rest.sink c.loop-rest.invariant.so_far c.in-Whole.taken (it.0 ∷ []) c.push.new.self it.1 c.in-Err-event.field-0 _ _ _ c.event.new.sink
    (c.in-Err-event.ensures it.0 it.2)

pub returns-clause-feeds : goal.returns-clause-feeds
returns-clause-feeds g c =
    let none : length c.loop-rest.rest.now ≡ 0 = search (arith, common_steps) in
    fed_empty g.D.Decode.refuses g.met.D.Decode.laws _ _ _ _ _ _ _ c.loop-rest.rest.now c.loop-rest.decoder _ _ _ c.loop-rest.sink c.loop-rest.invariant.so_far none

pub content-requires-clause-fits : goal.content-requires-clause-fits
content-requires-clause-fits g c =
    may_come g.D.Decode.refuses g.met.D.Decode.laws g.J.Job.writes g.J.Job.most _ _ _ _ _ c.loop-rest.rest.now c.loop-rest.decoder _ _ _ c.loop-rest.sink c.loop-rest.invariant.so_far c.in-Content.taken (map content_byte c.in-Content.bytes.now) c.push.new.self c.in-Content.ensures.pushed.0

pub event-requires-clause-shown : goal.event-requires-clause-shown
event-requires-clause-shown g c =
    let it = c.in-Whole.ensures.pushed in
    (it.0, it.2, may_come g.D.Decode.refuses g.met.D.Decode.laws g.J.Job.writes g.J.Job.most _ _ _ _ _ c.loop-rest.rest.now c.loop-rest.decoder _ _ _ c.loop-rest.sink c.loop-rest.invariant.so_far c.in-Whole.taken (it.0 ∷ []) c.push.new.self it.1)
