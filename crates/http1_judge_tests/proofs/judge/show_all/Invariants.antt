use Rattle.h1_judge.specs.Views.{IsReady}
use Rattle.http1_judge_tests.proofs.judge.show_all.Given as goal

abbrev pub invariant-loop : goal.invariant-loop
invariant-loop l = IsReady l.judged
