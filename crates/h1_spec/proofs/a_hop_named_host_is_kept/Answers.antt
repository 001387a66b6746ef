use Rattle.h1_spec.proofs.Translated.{fields_read as proved}
use Rattle.h1_spec.proofs.a_hop_named_host_is_kept.Goals as goal

pub returns : goal.returns
returns c = proved
