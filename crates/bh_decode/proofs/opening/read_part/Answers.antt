use Rattle.std.proofs.Common.{ℕ, List, [], Option, None, drop, sym, subst, ◌∙◌}
use Rattle.std.proofs.lemmas.Result.{err_from_is_err_and}
use Rattle.bh_spec.specs.Bounds.{IsWithin, no_bounds}
use Rattle.bh_spec.specs.Messages.{Field}
use Rattle.bh_model.specs.declared.field.Place.TheVariants.{Header}
use Rattle.bh_fields.specs.Sections.{SectionOf}
use Rattle.bh_spec.specs.Pieces.{SomeOf, Ends}
use Rattle.bh_control.specs.Statuses.{StatusOf}
use Rattle.bh_decode.specs.Grammar.{status_left}
use Rattle.bh_decode.specs.Stops.{StopsThing}
use Rattle.bh_decode.proofs.Fronts.{ends_then}
use Rattle.bh_decode.proofs.Openings.{status_stop, interim_stop}
use Rattle.bh_decode.proofs.opening.read_part.Goals as goal

pub returns-in_err-read-clause-stops : goal.returns-in_err-read-clause-stops
returns-in_err-read-clause-stops c =
    let p = err_from_is_err_and c.from_residual.result c.from_residual.ensures.1 in
    let within = subst (λ (o : Option ℕ). IsWithin o c.args.before) (sym c.requires.most) c.requires.before in
    rw (p.1, p.2)
    (status_stop c.args.reader.now.limits c.args.form c.args.before c.args.bytes.now c.in_err-read.field-0.0 within
    (subst (λ (o : Option ℕ). StopsThing (SomeOf (StatusOf (status_left o c.args.before))) (SomeOf (StatusOf None)) c.args.bytes.now c.in_err-read.field-0.0) (sym c.requires.most) c.in_err-read.ensures.stops))

pub returns-in_ok-copy-in-Ok-clause-whole : goal.returns-in_ok-copy-in-Ok-clause-whole
returns-in_ok-copy-in-Ok-clause-whole c =
    let L = c.args.reader.now.limits in
    let status = subst (λ (o : Option ℕ). Ends (StatusOf (status_left o c.args.before) c.in_ok-read.read.status) [] c.args.bytes.now c.in_ok-read.read.taken) (sym c.requires.most) c.in_ok-read.ensures.whole in
    let lines = sym (c.in_ok-copy-in-Ok.ensures.lines ∙ c.fields.ensures.lines) in
    let section = subst (λ (fs : List Field). Ends (SectionOf L c.args.form Header fs) [] (drop c.in_ok-read.read.taken c.args.bytes.now) c.in-Ok.taken) lines
    (subst (λ (x : List ℕ). Ends (SectionOf L c.args.form Header c.read_section.new.reader.lines) [] x c.in-Ok.taken) c.behind.ensures c.in-Ok.ensures.whole) in (
      c.if-read-ge200.false,
      c.in_ok-copy-in-Ok.ensures.making ∙ c.fields.ensures.whole c.in-Ok.ensures.stage,
      ends_then (StatusOf (status_left L.interims c.args.before) c.in_ok-read.read.status) (SectionOf L c.args.form Header c.in_ok-copy-in-Ok.field-0.lines) c.args.bytes.now c.in_ok-read.read.taken c.in-Ok.taken status section,
    )

pub returns-in-Err-clause-stops : goal.returns-in-Err-clause-stops
returns-in-Err-clause-stops c =
    let within = subst (λ (o : Option ℕ). IsWithin o c.args.before) (sym c.requires.most) c.requires.before in
    rw (c.behind-in-Err.ensures)
    (interim_stop c.args.reader.now.limits c.args.form c.args.before c.in_ok-read.read.status c.args.bytes.now c.in_ok-read.read.taken c.in-Err.stop within c.if-read-ge200.false
    (subst (λ (o : Option ℕ). Ends (StatusOf (status_left o c.args.before) c.in_ok-read.read.status) [] c.args.bytes.now c.in_ok-read.read.taken) (sym c.requires.most) c.in_ok-read.ensures.whole)
    (subst (λ (x : List ℕ). StopsThing (SomeOf (SectionOf c.args.reader.now.limits c.args.form Header)) (SomeOf (SectionOf no_bounds c.args.form Header)) x c.in-Err.stop) c.behind.ensures c.in-Err.ensures.stops))
