use Rattle.bh_text.proofs.Together.{sends_listing}
use Rattle.bh_text.proofs.laws.calls_send_listing.Goals as goal

pub returns : goal.returns
returns c = sends_listing
