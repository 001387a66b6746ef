use Rattle.std.proofs.Common.{map, string_bytes, subst, sym}
use Rattle.bh_words.specs.Words.{IsScheme}
use Rattle.bh_words.proofs.Meaning.{from_some, from_unlimited, from_unnamed}
use Rattle.bh_words.proofs.commands.from.Goals as goal

pub returns-in-Some-given_scheme : goal.returns-in-Some-given_scheme
returns-in-Some-given_scheme c = from_some (map string_bytes c.args.words.now) c.in_ok-matches.field-0 c.in-Some.matches c.in_ok-matches.ensures c.in-Some.is
    c.in-Some-limits_of.limits c.in-Some-given_scheme.scheme c.get_flag.result c.in-Some-limits_of.ensures
    (subst (λ x. IsScheme x c.in-Some-given_scheme.scheme) c.get_str.ensures c.in-Some-given_scheme.ensures) c.get_flag.ensures.value c.get_flag.ensures.other

pub returns-in-Some-limits_of : goal.returns-in-Some-limits_of
returns-in-Some-limits_of c = λ all h. from_unnamed (map string_bytes c.args.words.now) c.in_ok-matches.field-0 c.in-Some.matches c.in_ok-matches.ensures c.in-Some.is
    (λ scheme is. c.in-None-given_scheme.ensures scheme (subst (λ x. IsScheme x scheme) (sym c.get_str.ensures) is)) all.0 all.1 all.2 h

pub returns-in-Some : goal.returns-in-Some
returns-in-Some c = λ all h. from_unlimited (map string_bytes c.args.words.now) c.in_ok-matches.field-0 c.in-Some.matches c.in_ok-matches.ensures c.in-Some.is
    c.in-None-limits_of.ensures all.0 all.1 all.2 h
