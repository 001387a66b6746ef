use Rattle.h1_judge.specs.JudgedLaws.{judged_laws}
use Rattle.http1_judge_tests.proofs.judge.take_some.Goals as goal

pub returns-in-Need : goal.returns-in-Need
returns-in-Need c = judged_laws.is_ready _ _ _ _ c.requires c.in-Need.ensures.pushed.0

pub returns-in-Content : goal.returns-in-Content
returns-in-Content c = judged_laws.is_ready _ _ _ _ c.requires c.in-Content.ensures.pushed.0.moved

pub returns-in-Whole : goal.returns-in-Whole
returns-in-Whole c = judged_laws.is_ready _ _ _ _ c.requires c.in-Whole.ensures.pushed.1.moved
