use Rattle.bh_listing.proofs.Shows.{some_shown, shown_once}
use Rattle.bh_listing.proofs.laws.one_number_is_shown.Goals as goal

pub returns-clause-some : goal.returns-clause-some
returns-clause-some c = some_shown

pub returns-clause-once : goal.returns-clause-once
returns-clause-once c = shown_once
