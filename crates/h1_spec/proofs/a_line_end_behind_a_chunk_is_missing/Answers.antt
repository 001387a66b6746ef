use Rattle.h1_spec.proofs.Translated.{chunk_unended as proved}
use Rattle.h1_spec.proofs.a_line_end_behind_a_chunk_is_missing.Goals as goal

pub returns : goal.returns
returns c = proved
