use Rattle.std.proofs.Common.{◌≤◌, length, sym, subst}
use Rattle.bh_stream.specs.declared.traits.Event.TheVariants as events
use Rattle.bh_reading.specs.Readings.{Counted, IsReady, refuses}
use Rattle.bh_reading.proofs.ReadingOn.{NeedOn, EventOn, ContentOn, need_on, interim_on, head_on, trailers_on, content_on, few_bytes, refused_first}
use Rattle.bh_reading.proofs.reading.Reading.read.Goals as goal

pub returns-in-Need-clause-pushed : goal.returns-in-Need-clause-pushed
returns-in-Need-clause-pushed c =
    let i = c.self.inside in
    let v : Counted = record { held = i.decoder; kind = i.kind; lines = i.lines; content = i.content } in
    let w : Counted = record { held = c.push.new.self; kind = i.kind; lines = i.lines; content = i.content } in
    subst (λ (u : Counted). NeedOn u c.args.piece.now w) c.self.view_is (need_on v (subst IsReady (sym c.self.view_is) c.requires.ready) c.args.piece.now c.push.new.self c.in-Need.ensures.hands)

pub returns-in-Interim-clause-pushed : goal.returns-in-Interim-clause-pushed
returns-in-Interim-clause-pushed c =
    let i = c.self.inside in
    let v : Counted = record { held = i.decoder; kind = i.kind; lines = i.lines; content = i.content } in
    let w : Counted = record { held = c.push.new.self; kind = i.kind; lines = c.count_more-self-inside.result; content = i.content } in
    let h = c.in-Interim.ensures.hands in
    subst (λ (u : Counted). EventOn u c.args.piece.now c.in-Interim.taken (events.Interim c.in-Interim.status) w) c.self.view_is
    (interim_on v (subst IsReady (sym c.self.view_is) c.requires.ready) c.args.piece.now c.in-Interim.taken c.in-Interim.status c.push.new.self h.0 h.1 h.2 c.lines_shown.result c.lines_shown.ensures c.count_more-self-inside.result c.count_more-self-inside.ensures)

pub returns-in-Head-clause-pushed : goal.returns-in-Head-clause-pushed
returns-in-Head-clause-pushed c =
    let i = c.self.inside in
    let v : Counted = record { held = i.decoder; kind = i.kind; lines = i.lines; content = i.content } in
    let w : Counted = record { held = c.push.new.self; kind = c.kind_shown-self-inside.result; lines = c.count_more-self-inside-in-Head.result; content = i.content } in
    let h = c.in-Head.ensures.hands in
    subst (λ (u : Counted). EventOn u c.args.piece.now c.in-Head.taken events.Head w) c.self.view_is
    (head_on v (subst IsReady (sym c.self.view_is) c.requires.ready) c.args.piece.now c.in-Head.taken c.push.new.self h.0 h.1 h.2 h.3 c.kind_shown-self-inside.result c.kind_shown-self-inside.ensures c.lines_shown-in-Head.result c.lines_shown-in-Head.ensures c.count_more-self-inside-in-Head.result c.count_more-self-inside-in-Head.ensures)

pub returns-in-Trailers-clause-pushed : goal.returns-in-Trailers-clause-pushed
returns-in-Trailers-clause-pushed c =
    let i = c.self.inside in
    let v : Counted = record { held = i.decoder; kind = i.kind; lines = i.lines; content = i.content } in
    let w : Counted = record { held = c.push.new.self; kind = i.kind; lines = c.count_more-self-inside-in-Trailers.result; content = i.content } in
    let h = c.in-Trailers.ensures.hands in
    subst (λ (u : Counted). EventOn u c.args.piece.now c.in-Trailers.taken events.Trailers w) c.self.view_is
    (trailers_on v (subst IsReady (sym c.self.view_is) c.requires.ready) c.args.piece.now c.in-Trailers.taken c.push.new.self h.0 h.1 h.2 c.lines_shown-in-Trailers.result c.lines_shown-in-Trailers.ensures c.count_more-self-inside-in-Trailers.result c.count_more-self-inside-in-Trailers.ensures)

pub returns-in-Content-clause-pushed : goal.returns-in-Content-clause-pushed
returns-in-Content-clause-pushed c =
    let i = c.self.inside in
    let v : Counted = record { held = i.decoder; kind = i.kind; lines = i.lines; content = i.content } in
    let w : Counted = record { held = c.push.new.self; kind = i.kind; lines = i.lines; content = c.count_more-self-inside-in-Content.result } in
    let h = c.in-Content.ensures.hands in
    let few : length c.in-Content.bytes.now ≤ c.in-Content.taken = few_bytes c.args.piece.now c.in-Content.taken c.in-Content.bytes.now h.0.took.takes.inside h.1 in
    subst (λ (u : Counted). ContentOn u c.args.piece.now c.in-Content.taken c.in-Content.bytes.now w) c.self.view_is
    (content_on v (subst IsReady (sym c.self.view_is) c.requires.ready) c.args.piece.now c.in-Content.taken c.in-Content.bytes.now c.push.new.self h.1.some few h.0 c.count_more-self-inside-in-Content.result c.count_more-self-inside-in-Content.ensures, h.1.some, few)

pub returns-in-Refused-clause-pushed : goal.returns-in-Refused-clause-pushed
returns-in-Refused-clause-pushed c =
    let i = c.self.inside in
    let ready : IsReady (record { held = i.decoder; kind = i.kind; lines = i.lines; content = i.content }) = subst IsReady (sym c.self.view_is) c.requires.ready in
    subst (λ (u : Counted). refuses u c.args.piece.now c.in-Refused.refusal) c.self.view_is
    (refused_first i.decoder.decoder c.args.piece.now c.in-Refused.refusal c.push.new.self.decoder ready.refusal c.in-Refused.ensures.hands.0)
