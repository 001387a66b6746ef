use Rattle.std.proofs.Common.{subst}
use Rattle.bh_stream.specs.declared.traits.Event.{Event}
use Rattle.h1_judge.specs.Views.{shows}
use Rattle.h1_text.proofs.Cleaned.{interim_shown, trailers_shown}
use Rattle.h1_text.proofs.job.Http1WriterJobJudged.event.Goals as goal

pub interim-requires-clause-writable : goal.interim-requires-clause-writable
interim-requires-clause-writable g c =
    let h = subst (λ (e : Event). shows c.args.decoder.now e c.requires.shown.0) c.in-Interim.is c.requires.shown.1 in
    interim_shown c.args.decoder.now c.in-Interim.status h.0 c.cleaned.result.now.lines h.2 c.cleaned.ensures.lines

pub trailers-requires-clause-writable : goal.trailers-requires-clause-writable
trailers-requires-clause-writable g c =
    let h = subst (λ (e : Event). shows c.args.decoder.now e c.requires.shown.0) c.in-Trailers.is c.requires.shown.1 in
    trailers_shown c.args.decoder.now h.0 c.cleaned-in-Trailers.result.now.lines h.2 c.cleaned-in-Trailers.ensures.lines
