use Rattle.std.proofs.Common.{refl}
use Rattle.bh_push.proofs.Requesting.{request_open, request_follows, response_open}
use Rattle.bh_push.proofs.course.Course.begin_kind.Goals as goal

pub returns-then-is_request-clause-open : goal.returns-then-is_request-clause-open
returns-then-is_request-clause-open c = request_open c.args.self.now _ c.form_of-form.result refl c.begin.ensures c.requires.open refl refl

pub returns-then-is_request-clause-follows : goal.returns-then-is_request-clause-follows
returns-then-is_request-clause-follows c =
    request_follows c.args.self.now _ c.args.number c.form_of-form.result c.form_of-form.ensures (c.is_request.ensures.yes c.if-is_request.true) refl c.begin.ensures

pub returns-then-is_request-clause-same : goal.returns-then-is_request-clause-same
returns-then-is_request-clause-same c = record { head = refl; outside = λ x. x; section = refl }

pub returns-else-is_request-clause-same : goal.returns-else-is_request-clause-same
returns-else-is_request-clause-same c = record { head = refl; outside = λ x. x; section = refl }

pub returns-else-is_request-clause-open : goal.returns-else-is_request-clause-open
returns-else-is_request-clause-open c = response_open c.args.self.now _ c.form_of-form.result refl c.requires.none c.requires.open refl refl refl
