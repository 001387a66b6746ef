use Rattle.h1_spec.proofs.Translated.{requests_refused as proved}
use Rattle.h1_spec.proofs.some_requests_are_refused.Goals as goal

pub returns : goal.returns
returns c = proved
