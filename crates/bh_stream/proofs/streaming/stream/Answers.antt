use Rattle.std.proofs.Common.{◌≡◌, ◌<◌, ◌≤◌, [], length, take, refl, ◌∙◌, arith, length-take}
use Rattle.bh_stream.proofs.Turns.{call_start, call_on, call_cut, call_refused, call_fault}
use Rattle.bh_stream.proofs.Closing.{call_ended, call_done, call_stopped, empty_read}
use Rattle.bh_stream.proofs.streaming.stream.Goals as goal

pub loop-count-init : goal.loop-count-init
loop-count-init g c = record {
  so_far = call_start g.D.Decode.refuses g.D.Decode.tells g.D.Decode.misses g.met.D.Decode.laws g.J.Job.writes g.J.Job.most g.met.P.Sink.write_law
      c.args.decoder.now (g.J.Job.owed c.args.job.now) (g.J.Job.held c.args.job.now) c.args.port.now c.requires.held c.requires.ready (g.J.Job.takes c.args.job.now) c.requires.fits;
  room = refl;
  limits = refl;
}

pub loop-count-preserved : goal.loop-count-preserved
loop-count-preserved g c =
    let room = c.loop-count.invariant.room in
    let some_room : 0 < length c.loop-count.buffer = omega (arith, room, c.requires.size.0) in
    let few_room : length c.loop-count.buffer ≤ 8192 = omega (arith, room, c.requires.size.1) in
    let long : length (take c.in-Ok.count c.read.new.buf) ≡ c.in-Ok.count = simp length-take (omega (arith, c.in-Ok.ensures.bound)) in
    let some : 0 < length (take c.in-Ok.count c.read.new.buf) = omega (arith, long, c.in-Ok.count-test) in
    let small : length (take c.in-Ok.count c.read.new.buf) ≤ 8192 = omega (arith, long, c.in-Ok.ensures.bound, c.read.auto.buf, few_room) in
    record {
      so_far = call_on g.D.Decode.refuses g.D.Decode.tells g.D.Decode.misses g.met.D.Decode.laws g.J.Job.writes g.J.Job.most g.met.P.Sink.write_law
          _ _ _ c.loop-count.decoder _ _ _ c.loop-count.port c.loop-count.invariant.so_far c.read.new.self (length c.loop-count.buffer) some_room few_room
          (take c.in-Ok.count c.read.new.buf) some small c.in-Ok.ensures.step _ c.feed.new.decoder _ _ _ c.feed.new.sink c.in-All.ensures.feeds refl;
      room = omega (arith, room, c.read.auto.buf);
      limits = c.in-All.ensures.limits ∙ c.loop-count.invariant.limits;
    }

pub returns-in-Refused : goal.returns-in-Refused
returns-in-Refused g c =
    let room = c.loop-count.invariant.room in
    let some_room : 0 < length c.loop-count.buffer = omega (arith, room, c.requires.size.0) in
    let few_room : length c.loop-count.buffer ≤ 8192 = omega (arith, room, c.requires.size.1) in
    let long : length (take c.in-Ok.count c.read.new.buf) ≡ c.in-Ok.count = simp length-take (omega (arith, c.in-Ok.ensures.bound)) in
    let some : 0 < length (take c.in-Ok.count c.read.new.buf) = omega (arith, long, c.in-Ok.count-test) in
    let small : length (take c.in-Ok.count c.read.new.buf) ≤ 8192 = omega (arith, long, c.in-Ok.ensures.bound, c.read.auto.buf, few_room) in
    record {
      streams = call_refused g.D.Decode.refuses g.D.Decode.tells g.D.Decode.misses g.met.D.Decode.laws g.J.Job.writes g.J.Job.most g.met.P.Sink.write_law
          _ _ _ c.loop-count.decoder _ _ _ c.loop-count.port c.loop-count.invariant.so_far c.read.new.self (length c.loop-count.buffer) some_room few_room
          (take c.in-Ok.count c.read.new.buf) some small c.in-Ok.ensures.step _ c.feed.new.decoder _ _ _ c.feed.new.sink c.in-Refused.ensures.feeds _ refl;
      buffer = omega (arith, room, c.read.auto.buf);
      limits = c.in-Refused.ensures.limits ∙ c.loop-count.invariant.limits;
    }

pub returns-in-WriteFault : goal.returns-in-WriteFault
returns-in-WriteFault g c =
    let room = c.loop-count.invariant.room in
    let some_room : 0 < length c.loop-count.buffer = omega (arith, room, c.requires.size.0) in
    let few_room : length c.loop-count.buffer ≤ 8192 = omega (arith, room, c.requires.size.1) in
    let long : length (take c.in-Ok.count c.read.new.buf) ≡ c.in-Ok.count = simp length-take (omega (arith, c.in-Ok.ensures.bound)) in
    let some : 0 < length (take c.in-Ok.count c.read.new.buf) = omega (arith, long, c.in-Ok.count-test) in
    let small : length (take c.in-Ok.count c.read.new.buf) ≤ 8192 = omega (arith, long, c.in-Ok.ensures.bound, c.read.auto.buf, few_room) in
    record {
      streams = call_cut g.D.Decode.refuses g.D.Decode.tells g.D.Decode.misses g.met.D.Decode.laws g.J.Job.writes g.J.Job.most g.met.P.Sink.write_law
          _ _ _ c.loop-count.decoder _ _ _ c.loop-count.port c.loop-count.invariant.so_far c.read.new.self (length c.loop-count.buffer) some_room few_room
          (take c.in-Ok.count c.read.new.buf) some small c.in-Ok.ensures.step _ c.feed.new.decoder _ _ _ c.feed.new.sink c.in-WriteFault.ensures.feeds refl;
      buffer = omega (arith, room, c.read.auto.buf);
      limits = c.in-WriteFault.ensures.limits ∙ c.loop-count.invariant.limits;
    }

pub returns-in-Err : goal.returns-in-Err
returns-in-Err g c =
    let room = c.loop-count.invariant.room in
    let some_room : 0 < length c.loop-count.buffer = omega (arith, room, c.requires.size.0) in
    let few_room : length c.loop-count.buffer ≤ 8192 = omega (arith, room, c.requires.size.1) in
    record {
      streams = call_fault g.D.Decode.refuses g.D.Decode.tells g.D.Decode.misses g.met.D.Decode.laws g.J.Job.writes g.J.Job.most g.met.P.Sink.write_law
          _ _ _ c.loop-count.decoder _ _ _ c.loop-count.port c.loop-count.invariant.so_far c.read.new.self (length c.loop-count.buffer) some_room few_room c.in-Err.ensures.step;
      buffer = omega (arith, room, c.read.auto.buf);
      limits = c.loop-count.invariant.limits;
    }

pub returns-in-Err-finish : goal.returns-in-Err-finish
returns-in-Err-finish g c =
    let room = c.loop-count.invariant.room in
    let some_room : 0 < length c.loop-count.buffer = omega (arith, room, c.requires.size.0) in
    let few_room : length c.loop-count.buffer ≤ 8192 = omega (arith, room, c.requires.size.1) in
    record {
      streams = call_ended g.D.Decode.refuses g.D.Decode.tells g.D.Decode.misses g.met.D.Decode.laws g.J.Job.writes g.J.Job.most g.met.P.Sink.write_law
          _ _ _ c.loop-count.decoder _ _ _ c.loop-count.port c.loop-count.invariant.so_far c.read.new.self (length c.loop-count.buffer) some_room few_room
          (empty_read g.P.Source.read_step c.loop-count.port c.read.new.self (length c.loop-count.buffer) c.read.new.buf c.in-Ok-eq0.field-0 c.in-Ok-eq0.field-0-test c.in-Ok-eq0.ensures.step)
          _ c.in-Err-finish.ensures.finished;
      buffer = omega (arith, room, c.read.auto.buf);
      limits = c.in-Err-finish.ensures.limits ∙ c.loop-count.invariant.limits;
    }

pub returns-in-Ok-finish-2 : goal.returns-in-Ok-finish-2
returns-in-Ok-finish-2 g c =
    let room = c.loop-count.invariant.room in
    let some_room : 0 < length c.loop-count.buffer = omega (arith, room, c.requires.size.0) in
    let few_room : length c.loop-count.buffer ≤ 8192 = omega (arith, room, c.requires.size.1) in
    let whole = c.in-Ok-finish.ensures.finished in
    record {
      streams = call_done g.D.Decode.refuses g.D.Decode.tells g.D.Decode.misses g.met.D.Decode.laws g.J.Job.writes g.J.Job.most g.met.P.Sink.write_law
          _ _ _ c.loop-count.decoder _ _ _ c.loop-count.port c.loop-count.invariant.so_far c.read.new.self (length c.loop-count.buffer) some_room few_room
          (empty_read g.P.Source.read_step c.loop-count.port c.read.new.self (length c.loop-count.buffer) c.read.new.buf c.in-Ok-eq0.field-0 c.in-Ok-eq0.field-0-test c.in-Ok-eq0.ensures.step)
          whole.0 whole.1 whole.2 c.finish-in-Ok-finish.new.sink (c.in-Ok-finish-2.ensures whole.0 whole.1) _ whole.3;
      buffer = omega (arith, room, c.read.auto.buf);
      limits = c.in-Ok-finish.ensures.limits ∙ c.loop-count.invariant.limits;
    }

pub returns-in-Err-finish-2 : goal.returns-in-Err-finish-2
returns-in-Err-finish-2 g c =
    let room = c.loop-count.invariant.room in
    let some_room : 0 < length c.loop-count.buffer = omega (arith, room, c.requires.size.0) in
    let few_room : length c.loop-count.buffer ≤ 8192 = omega (arith, room, c.requires.size.1) in
    let whole = c.in-Ok-finish.ensures.finished in
    record {
      streams = call_stopped g.D.Decode.refuses g.D.Decode.tells g.D.Decode.misses g.met.D.Decode.laws g.J.Job.writes g.J.Job.most g.met.P.Sink.write_law
          _ _ _ c.loop-count.decoder _ _ _ c.loop-count.port c.loop-count.invariant.so_far c.read.new.self (length c.loop-count.buffer) some_room few_room
          (empty_read g.P.Source.read_step c.loop-count.port c.read.new.self (length c.loop-count.buffer) c.read.new.buf c.in-Ok-eq0.field-0 c.in-Ok-eq0.field-0-test c.in-Ok-eq0.ensures.step)
          whole.0 whole.1 whole.2 c.finish-in-Ok-finish.new.sink c.in-Err-finish-2.field-0 (c.in-Err-finish-2.ensures whole.0 whole.1);
      buffer = omega (arith, room, c.read.auto.buf);
      limits = c.in-Ok-finish.ensures.limits ∙ c.loop-count.invariant.limits;
    }

pub finish-requires-in-Ok-finish-clause-fits : goal.finish-requires-in-Ok-finish-clause-fits
finish-requires-in-Ok-finish-clause-fits g c =
    let whole = c.in-Ok-finish.ensures.finished in
    let so = c.loop-count.invariant.so_far in
    (whole.0, whole.1, so.fits.at_end [] [] c.loop-count.decoder (g.met.D.Decode.laws.stays c.loop-count.decoder so.is_ready) whole.0 whole.1 whole.2)
