use Rattle.std.proofs.Common.{◌∙◌}
use Rattle.std.proofs.lemmas.Bool.{false≢true}
use Rattle.bh_decode.proofs.Making.{good_request}
use Rattle.bh_decode.proofs.gathered.Gathered.message.Goals as goal

pub unreachable-requires : goal.unreachable-requires
unreachable-requires c =
    false≢true (c.in-Err.ensures.valid.1 (good_request c.args.self c.requires.0 c.in-Some.control c.in_ok-content.content c.in-Some.is (c.in_ok-content.ensures ∙ c.as_slice.ensures.value) c.requires.1 c.requires.2))
