use Rattle.bh_decode.proofs.Prefixes.{prefixes_are_viable as proved}
use Rattle.bh_decode.proofs.laws.prefixes_are_viable.Goals as goal

pub returns : goal.returns
returns c = proved
