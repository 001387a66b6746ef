use Rattle.std.proofs.Common.{◌≤◌, true, [], ◌∷◌, refl, ap, sym, subst, ◌∙◌}
use Rattle.bh_spec.specs.declared.Kind.TheVariants.{Response}
use Rattle.bh_push.specs.Hands.{Held}
use Rattle.bh_stream.specs.Jobs.{Sends}
use Rattle.bh_stream.specs.declared.traits.Event.{Event}
use Rattle.bh_reading.specs.Readings.{shows}
use Rattle.bh_listing.specs.Owed.{Lister, owed, held, takes, for_kind}
use Rattle.bh_listing.proofs.Due.{interim_sent, head_sent, trailers_sent, fields_are}
use Rattle.bh_listing.proofs.writer.ListingWriterJobReading.event.Goals as goal

pub returns-in-Interim : goal.returns-in-Interim
returns-in-Interim g c = λ item h.
    let i = c.self.inside in
    let t : Lister = record { writer = c.send_interim.new.writer; ended = i.ended } in
    let shown = subst (λ (e : Event). shows c.args.decoder.now e item) c.in-Interim.is h in
    let same = fields_are c.decoder-shown.result.now.lines c.fields.result.now.lines shown.0 c.fields.ensures.lines (ap (λ (x : Held). x.lines) c.decoder-shown.ensures ∙ shown.2) in
    subst
    (λ (s : Lister). Sends g.S.Sink.write_step true 31 (owed s) (owed t) (held s) (held t) (takes s) (takes t) (item ∷ []) c.args.sink.now c.send_interim.result c.send_interim.new.sink)
    c.self.view_is
    (interim_sent i.writer (for_kind Response i.writer) c.send_interim.new.writer i.ended c.in-Interim.status c.fields.result.now.lines shown.0 item c.send_interim.result
    (subst (λ (s : Lister). held s ≤ 31) (sym c.self.view_is) c.requires.few) (subst (λ (s : Lister). takes s []) (sym c.self.view_is) c.requires.shown.2.1)
    refl c.send_interim.ensures.next same shown.1 c.send_interim.ensures.wrote)

pub returns-in-Head : goal.returns-in-Head
returns-in-Head g c = λ item h.
    let i = c.self.inside in
    let t : Lister = record { writer = c.send_head.new.writer; ended = i.ended } in
    let shown = subst (λ (e : Event). shows c.args.decoder.now e item) c.in-Head.is h in
    let head_is = ap (λ (x : Held). x.head) c.decoder-shown.ensures ∙ shown.3 in
    let lines_are = ap (λ (x : Held). x.lines) c.decoder-shown.ensures ∙ shown.4 in
    subst
    (λ (s : Lister). Sends g.S.Sink.write_step true 31 (owed s) (owed t) (held s) (held t) (takes s) (takes t) (item ∷ []) c.args.sink.now c.send_head.result c.send_head.new.sink)
    c.self.view_is
    (head_sent i.writer c.send_head.new.writer i.ended shown.0 shown.1 item c.send_head.result
    (subst (λ (s : Lister). held s ≤ 31) (sym c.self.view_is) c.requires.few) (subst (λ (s : Lister). takes s []) (sym c.self.view_is) c.requires.shown.2.1)
    (c.send_head.ensures.next shown.0 shown.1 head_is lines_are) shown.2 (c.send_head.ensures.wrote shown.0 shown.1 head_is lines_are))

pub returns-in-Trailers : goal.returns-in-Trailers
returns-in-Trailers g c = λ item h.
    let i = c.self.inside in
    let t : Lister = record { writer = c.finish.new.self; ended = true } in
    let shown = subst (λ (e : Event). shows c.args.decoder.now e item) c.in-Trailers.is h in
    let same = fields_are c.decoder-shown.result.now.lines c.fields-in-Trailers.result.now.lines shown.0 c.fields-in-Trailers.ensures.lines (ap (λ (x : Held). x.lines) c.decoder-shown.ensures ∙ shown.2) in
    subst
    (λ (s : Lister). Sends g.S.Sink.write_step true 31 (owed s) (owed t) (held s) (held t) (takes s) (takes t) (item ∷ []) c.args.sink.now c.finish.result c.finish.new.sink)
    c.self.view_is
    (trailers_sent i.writer c.finish.new.self i.ended c.fields-in-Trailers.result.now.lines shown.0 item c.finish.result c.finish.ensures.next same shown.1 c.finish.ensures.wrote)
