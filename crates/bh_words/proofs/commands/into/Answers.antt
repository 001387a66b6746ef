use Rattle.std.proofs.Common.{map, string_bytes}
use Rattle.bh_words.proofs.Meaning.{into_some, into_none}
use Rattle.bh_words.proofs.commands.into.Goals as goal

pub returns-in-Some-limits_of : goal.returns-in-Some-limits_of
returns-in-Some-limits_of c = into_some (map string_bytes c.args.words.now) c.in_ok-matches.field-0 c.in-Some.matches c.in_ok-matches.ensures c.in-Some.is
    c.in-Some-limits_of.limits c.get_flag.result c.in-Some-limits_of.ensures c.get_flag.ensures.value c.get_flag.ensures.other

pub returns-in-Some : goal.returns-in-Some
returns-in-Some c = λ both h. into_none (map string_bytes c.args.words.now) c.in_ok-matches.field-0 c.in-Some.matches c.in_ok-matches.ensures c.in-Some.is
    c.in-None-limits_of.ensures both.0 both.1 h
