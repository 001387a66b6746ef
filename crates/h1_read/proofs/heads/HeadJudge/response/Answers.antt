use Rattle.std.proofs.Common.{sym, ◌∙◌, refl, Ok, Err, false}
use Rattle.std.proofs.lemmas.Bool.{false≢true}
use Rattle.h1_spec.specs.Heads.{status_line}
use Rattle.h1_read.specs.HeadJudges.{view_of}
use Rattle.h1_read.proofs.HeadAnswers.{lines_fit, framed, unframed_response, final_response}
use Rattle.h1_read.proofs.heads.HeadJudge.response.Goals as goal

pub returns-in-Ok-clause-says : goal.returns-in-Ok-clause-says
returns-in-Ok-clause-says c =
    let j = c.args.self.now in
    let k = c.clean.new.self in
    let h = c.clean.ensures.cleaned in
    final_response (view_of j) _ c.args.status j.raw.lines c.args.before c.in-Ok.framing c.if-status-lt200.false h.named h.lines
    ((lines_fit j k false h).0 (c.fits.ensures.0 c.if-not-fits.false))
    (framed j k false h (status_line c.args.status) (Ok c.in-Ok.framing) (c.in-Ok.ensures (status_line c.args.status) refl)) refl

pub returns-in-Err-clause-says : goal.returns-in-Err-clause-says
returns-in-Err-clause-says c =
    let j = c.args.self.now in
    let k = c.clean.new.self in
    let h = c.clean.ensures.cleaned in
    unframed_response (view_of j) (view_of k) c.args.status j.raw.lines c.args.before c.in-Err.cause
    (λ e. false≢true (sym c.if-is_switching.false ∙ c.is_switching.ensures.1 e))
    (λ many. false≢true (sym c.if-is_too_many.false ∙ c.is_too_many.ensures.1 many)) h.head
    ((lines_fit j k false h).0 (c.fits.ensures.0 c.if-not-fits.false)) c.if-status-lt200.false
    (framed j k false h (status_line c.args.status) (Err c.in-Err.cause) (c.in-Err.ensures (status_line c.args.status) refl))
