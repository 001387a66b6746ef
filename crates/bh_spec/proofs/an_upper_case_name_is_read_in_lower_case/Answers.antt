use Rattle.bh_spec.proofs.Cases.{upper_case_name as proved}
use Rattle.bh_spec.proofs.an_upper_case_name_is_read_in_lower_case.Goals as goal

pub returns : goal.returns
returns c = proved
