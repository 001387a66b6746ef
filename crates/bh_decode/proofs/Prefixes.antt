-- Prefixes of viable bytes.
use Rattle.bh_spec.proofs.Viable.{prefixes_are_viable as viable_prefixes}
use Rattle.bh_decode.specs.Laws.{PrefixesAreViable}

pub prefixes_are_viable : PrefixesAreViable
prefixes_are_viable = viable_prefixes
