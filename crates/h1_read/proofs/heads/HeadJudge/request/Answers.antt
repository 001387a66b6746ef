use Rattle.std.proofs.Common.{Bool, not, sym, ◌∙◌, refl, subst, Ok, Err}
use Rattle.std.proofs.lemmas.Bool.{false≢true}
use Rattle.bh_spec.specs.declared.H1Why.{H1Why}
use Rattle.h1_spec.specs.Cleaning.{is_empty}
use Rattle.h1_spec.specs.Heads.{request_line}
use Rattle.h1_rules.specs.Targeted.{control_by}
use Rattle.h1_read.specs.HeadJudges.{view_of, HasCleaned, SaysStart}
use Rattle.h1_read.proofs.HeadAnswers.{lines_fit, control_fit, framed, refused_target, unfit_request, unframed_request, final_request}
use Rattle.h1_read.proofs.heads.HeadJudge.request.Goals as goal

pub returns-in-Err-clause-says : goal.returns-in-Err-clause-says
returns-in-Err-clause-says c =
    let j = c.args.self.now in
    subst (λ (cause : H1Why). SaysStart (view_of j) (record { start = request_line c.args.method.now c.args.target.now; fields = j.raw.lines }) 0 (Err cause) (view_of j))
    (sym c.cause_of.ensures)
    (refused_target (view_of j) (view_of j) c.args.method.now c.args.target.now j.raw.lines c.in-Err.why c.in-Err.ensures refl)

pub returns-then-not-control_fits-clause-says : goal.returns-then-not-control_fits-clause-says
returns-then-not-control_fits-clause-says c =
    let j = c.args.self.now in
    let k = c.clean.new.self in
    let control = control_by c.args.method.now c.in-Ok.parts in
    let own = subst (λ (b : Bool). HasCleaned j b k) c.says_authority.ensures c.clean.ensures.cleaned in
    unfit_request (view_of j) (view_of k) c.args.method.now c.args.target.now j.raw.lines control c.in-Ok.ensures own.head
    (λ fit. false≢true (sym c.if-not-control_fits.true ∙ c.control_fits.ensures.1 ((control_fit j k (not (is_empty control.authority)) own control).1 fit.0)))

pub returns-then-not-fits-clause-says : goal.returns-then-not-fits-clause-says
returns-then-not-fits-clause-says c =
    let j = c.args.self.now in
    let k = c.clean.new.self in
    let control = control_by c.args.method.now c.in-Ok.parts in
    let own = subst (λ (b : Bool). HasCleaned j b k) c.says_authority.ensures c.clean.ensures.cleaned in
    unfit_request (view_of j) (view_of k) c.args.method.now c.args.target.now j.raw.lines control c.in-Ok.ensures own.head
    (λ fit. false≢true (sym c.if-not-fits.true ∙ c.fits.ensures.1 ((lines_fit j k (not (is_empty control.authority)) own).1 fit.1)))

pub returns-in-Ok-framing_by-clause-says : goal.returns-in-Ok-framing_by-clause-says
returns-in-Ok-framing_by-clause-says c =
    let j = c.args.self.now in
    let k = c.clean.new.self in
    let kept = c.keep.ensures.kept in
    let control = control_by c.args.method.now c.in-Ok.parts in
    let start = request_line c.args.method.now c.args.target.now in
    let says_host = not (is_empty control.authority) in
    let own = subst (λ (b : Bool). HasCleaned j b k) c.says_authority.ensures c.clean.ensures.cleaned in
    final_request (view_of j) (view_of c.keep.new.self) c.args.method.now c.args.target.now j.raw.lines control c.in-Ok-framing_by.framing c.in-Ok.ensures
    ((control_fit j k says_host own control).0 (c.control_fits.ensures.0 c.if-not-control_fits.false)) (kept.named ∙ own.named) (kept.lines ∙ own.lines)
    ((lines_fit j k says_host own).0 (c.fits.ensures.0 c.if-not-fits.false))
    (framed j k says_host own start (Ok c.in-Ok-framing_by.framing) (c.in-Ok-framing_by.ensures start refl)) kept.head refl

pub returns-in-Err-framing_by-clause-says : goal.returns-in-Err-framing_by-clause-says
returns-in-Err-framing_by-clause-says c =
    let j = c.args.self.now in
    let k = c.clean.new.self in
    let control = control_by c.args.method.now c.in-Ok.parts in
    let start = request_line c.args.method.now c.args.target.now in
    let says_host = not (is_empty control.authority) in
    let own = subst (λ (b : Bool). HasCleaned j b k) c.says_authority.ensures c.clean.ensures.cleaned in
    unframed_request (view_of j) (view_of k) c.args.method.now c.args.target.now j.raw.lines control c.in-Err-framing_by.cause c.in-Ok.ensures own.head
    ((control_fit j k says_host own control).0 (c.control_fits.ensures.0 c.if-not-control_fits.false))
    ((lines_fit j k says_host own).0 (c.fits.ensures.0 c.if-not-fits.false))
    (framed j k says_host own start (Err c.in-Err-framing_by.cause) (c.in-Err-framing_by.ensures start refl))
