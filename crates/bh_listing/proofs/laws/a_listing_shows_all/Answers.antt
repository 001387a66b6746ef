use Rattle.bh_listing.proofs.Shows.{all_shown}
use Rattle.bh_listing.proofs.laws.a_listing_shows_all.Goals as goal

pub returns : goal.returns
returns c = all_shown
