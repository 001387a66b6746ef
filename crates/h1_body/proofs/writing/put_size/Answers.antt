use Rattle.std.proofs.Common.{drop, ap, ◌∙◌}
use Rattle.bh_base.proofs.Putting.{puts_as}
use Rattle.h1_body.proofs.writing.put_size.Goals as goal

pub returns : goal.returns
returns g c = puts_as (c.behind.ensures ∙ ap (drop c.zeros.result) c.digits_of-digits.ensures ∙ c.zeros.ensures.rest) c.put.ensures
