use Rattle.bh_spec.proofs.Listings.{one_listing as proved}
use Rattle.bh_spec.proofs.one_listing.Goals as goal

pub returns : goal.returns
returns c = proved
