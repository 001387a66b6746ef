use Rattle.std.proofs.Common.{ℕ, List, drop, ap, ◌∙◌}
use Rattle.bh_canonical.specs.Writers.{writing_of}
use Rattle.bh_canonical.proofs.Events.{interim_ok, interim_err, head_ok, head_err, trailers_due, trailers_sent}
use Rattle.bh_canonical.proofs.writer.CanonWriterJob.event.Goals as goal

pub returns-in-Ok : goal.returns-in-Ok
returns-in-Ok g c =
    let kept : List ℕ = drop 2 c.self.inside.chunk.items in
    let d = c.args.decoder.now in
    let e = c.args.event in
    interim_ok (g.D.Hands.head d) (g.D.Hands.lines d) e (g.D.Decode.shows d e) (g.met.D.Hands.shows_are d e) c.args.self.now c.requires.shown c.self.inside.stage c.replace-stage.result kept
    c.replace-stage.ensures.value c.self.view_is c.self.invariant.stage c.in-Interim.status c.in-Interim.is c.fields.result.now.lines c.fields.ensures.lines
    c.in-Ok.next c.in-Ok.ensures.next c.in-Ok.ensures.wrote

pub returns-in-Err : goal.returns-in-Err
returns-in-Err g c =
    let kept : List ℕ = drop 2 c.self.inside.chunk.items in
    let d = c.args.decoder.now in
    let e = c.args.event in
    interim_err (g.D.Hands.head d) (g.D.Hands.lines d) e (g.D.Decode.shows d e) (g.met.D.Hands.shows_are d e) c.args.self.now c.requires.shown c.self.inside.stage c.replace-stage.result kept
    c.replace-stage.ensures.value c.self.view_is c.self.invariant.stage c.in-Err.failed (writing_of c.replace-stage.new.dest kept) c.in-Interim.status c.in-Interim.is c.fields.result.now.lines c.fields.ensures.lines c.in-Err.ensures.wrote

pub returns-in-Ok-send_head : goal.returns-in-Ok-send_head
returns-in-Ok-send_head g c =
    let kept : List ℕ = drop 2 c.self.inside.chunk.items in
    let d = c.args.decoder.now in
    let e = c.args.event in
    head_ok (g.D.Hands.head d) (g.D.Hands.lines d) e (g.D.Decode.shows d e) (g.met.D.Hands.shows_are d e) c.args.self.now c.requires.shown c.self.inside.stage c.replace-stage.result kept
    c.replace-stage.ensures.value c.self.view_is c.self.invariant.stage c.in-Head.is c.in-Ok-send_head.next c.in-Ok-send_head.ensures.next
    c.in-Ok-send_head.ensures.wrote

pub returns-in-Err-send_head : goal.returns-in-Err-send_head
returns-in-Err-send_head g c =
    let kept : List ℕ = drop 2 c.self.inside.chunk.items in
    let d = c.args.decoder.now in
    let e = c.args.event in
    head_err (g.D.Hands.head d) (g.D.Hands.lines d) e (g.D.Decode.shows d e) (g.met.D.Hands.shows_are d e) c.args.self.now c.requires.shown c.self.inside.stage c.replace-stage.result kept
    c.replace-stage.ensures.value c.self.view_is c.self.invariant.stage c.in-Err-send_head.failed (writing_of c.replace-stage.new.dest kept) c.in-Head.is
    c.in-Err-send_head.ensures.wrote

pub send_end-requires-clause-trailers : goal.send_end-requires-clause-trailers
send_end-requires-clause-trailers g c =
    let kept : List ℕ = drop 2 c.self.inside.chunk.items in
    let d = c.args.decoder.now in
    let e = c.args.event in
    (trailers_due (g.D.Hands.head d) (g.D.Hands.lines d) e (g.D.Decode.shows d e) (g.met.D.Hands.shows_are d e) c.args.self.now c.requires.shown c.self.inside.stage c.replace-stage.result kept
    c.replace-stage.ensures.value c.self.view_is c.self.invariant.stage c.in-Trailers.is c.fields-in-Trailers.result.now.lines c.fields-in-Trailers.ensures.lines).1

pub returns-in-Trailers : goal.returns-in-Trailers
returns-in-Trailers g c =
    let kept : List ℕ = drop 2 c.self.inside.chunk.items in
    let d = c.args.decoder.now in
    let e = c.args.event in
    trailers_sent (g.D.Hands.head d) (g.D.Hands.lines d) e (g.D.Decode.shows d e) (g.met.D.Hands.shows_are d e) c.args.self.now c.requires.shown c.self.inside.stage c.replace-stage.result kept
    c.replace-stage.ensures.value c.self.view_is c.self.invariant.stage c.send_end.result c.in-Trailers.is c.fields-in-Trailers.result.now.lines c.fields-in-Trailers.ensures.lines c.replace-stage.new.dest c.replace-stage.ensures.after (rw (c.content_of.ensures ∙ ap (drop 2) c.deref.ensures.value) at c.send_end.ensures)
