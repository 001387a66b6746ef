use Rattle.std.proofs.Common.{map, string_bytes}
use Rattle.bh_words.proofs.Meaning.{no_from}
use Rattle.bh_words.proofs.commands.from_http1.Goals as goal

pub returns-in-None : goal.returns-in-None
returns-in-None c = no_from (map string_bytes c.args.words.now) c.in_ok-limits.field-0 c.in_ok-limits.ensures c.in-None.is
