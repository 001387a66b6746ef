use Rattle.h1_read.specs.ReadingLaws.{http1_reading_laws}
use Rattle.http1_read_tests.proofs.read.show_some.Goals as goal

pub returns-in-Need : goal.returns-in-Need
returns-in-Need c = http1_reading_laws.is_ready _ _ _ _ c.requires c.in-Need.ensures.pushed.0

pub returns-in_ok-extend_from_slice-in-Content : goal.returns-in_ok-extend_from_slice-in-Content
returns-in_ok-extend_from_slice-in-Content c = http1_reading_laws.is_ready _ _ _ _ c.requires c.in-Content.ensures.pushed.0.moved

pub returns-in_ok-show_event-in-Whole : goal.returns-in_ok-show_event-in-Whole
returns-in_ok-show_event-in-Whole c = http1_reading_laws.is_ready _ _ _ _ c.requires c.in-Whole.ensures.pushed.1.moved
