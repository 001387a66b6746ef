use Rattle.h1_spec.proofs.Members.{formed_where_free as proved}
use Rattle.h1_spec.proofs.formed_where_free.Goals as goal

pub returns : goal.returns
returns c = proved
