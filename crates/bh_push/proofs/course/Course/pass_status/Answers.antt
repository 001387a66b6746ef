use Rattle.std.proofs.Common.{refl}
use Rattle.bh_push.proofs.Responding.{before_interim_open, before_header_open, interim_follows, final_follows}
use Rattle.bh_push.proofs.course.Course.pass_status.Goals as goal

pub returns-then-status-lt200-clause-open : goal.returns-then-status-lt200-clause-open
returns-then-status-lt200-clause-open c =
    before_interim_open c.args.self.now _ c.args.form c.args.before c.args.status refl c.requires.open refl refl refl (c.requires.few c.if-status-lt200.true)

pub returns-then-status-lt200-clause-interim : goal.returns-then-status-lt200-clause-interim
returns-then-status-lt200-clause-interim c = λ lt. interim_follows _ c.args.form c.args.before c.args.status refl

pub returns-then-status-lt200-clause-same : goal.returns-then-status-lt200-clause-same
returns-then-status-lt200-clause-same c = record { head = refl; outside = λ x. x; section = refl }

pub returns-else-status-lt200-clause-open : goal.returns-else-status-lt200-clause-open
returns-else-status-lt200-clause-open c = before_header_open c.args.self.now _ c.args.form refl c.requires.open refl refl refl

pub returns-else-status-lt200-clause-last : goal.returns-else-status-lt200-clause-last
returns-else-status-lt200-clause-last c = λ ge. final_follows _ c.args.form c.args.status refl refl

pub returns-else-status-lt200-clause-same : goal.returns-else-status-lt200-clause-same
returns-else-status-lt200-clause-same c = record { head = refl; outside = λ x. x; section = refl }
