use Rattle.std.proofs.Common.{inr}
use Rattle.h1_rules.proofs.framing.coding_of.Goals as goal

pub returns-then-has_no_length : goal.returns-then-has_no_length
returns-then-has_no_length c =
    (inr (c.in-One.value.now, c.in-One.ensures, c.is_chunked.ensures.0 c.if-is_chunked.true, c.has_no_length.ensures.0 c.if-has_no_length.true), (c.in-One.value.now, c.in-One.ensures))
