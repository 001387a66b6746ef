use Rattle.std.proofs.Common.{◌∙◌, ◌++◌, ◌∷◌, [], ◌+◌, ◌%◌, ap, arith, sym, take}
use Rattle.std.proofs.lemmas.Fmt.{decimal_digit}
use Rattle.bh_text.proofs.Decimals.{one, more, few, joined}
use Rattle.bh_text.proofs.writing.+put_number.Goals as goal

pub put_digit-requires-clause-room : goal.put_digit-requires-clause-room
put_digit-requires-clause-room t c = let l = one c.args.n c.if-n-lt10.true in omega (arith, l)

pub returns-then-n-lt10-clause-text : goal.returns-then-n-lt10-clause-text
returns-then-n-lt10-clause-text t c = c.put_digit.ensures.text ∙ ap (λ ds. take c.args.at c.args.out.now ++ ds) (sym (decimal_digit c.args.n c.if-n-lt10.true))

pub returns-then-n-lt10-clause-end : goal.returns-then-n-lt10-clause-end
returns-then-n-lt10-clause-end t c = let l = one c.args.n c.if-n-lt10.true in omega (arith, l)

pub put_number-end-requires : goal.put_number-end-requires
put_number-end-requires t c = let l = more c.args.n (omega arith) (omega arith) in (omega arith, omega (arith, l))

pub put_digit-requires-2-clause-room : goal.put_digit-requires-2-clause-room
put_digit-requires-2-clause-room t c = let l = more c.args.n (omega arith) (omega arith) in omega (arith, l)

pub returns-clause-text : goal.returns-clause-text
returns-clause-text t c =
    c.put_digit-2.ensures.text ∙ ap (λ front. front ++ ((48 + c.args.n % 10) ∷ [])) c.put_number-end.ensures.text
    ∙ joined (take c.args.at c.args.out.now) c.args.n (omega arith) (omega arith)

pub returns-clause-end : goal.returns-clause-end
returns-clause-end t c = let l = more c.args.n (omega arith) (omega arith) in omega (arith, l)

pub returns-clause-few : goal.returns-clause-few
returns-clause-few t c = let l = more c.args.n (omega arith) (omega arith) in let few = few c.args.n (omega arith) in omega (arith, l)
