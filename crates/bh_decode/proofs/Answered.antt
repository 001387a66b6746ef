-- One answer for each input, and a refused byte depends on none behind it.
use Rattle.std.proofs.Common.{sym, subst}
use Rattle.bh_spec.specs.Bounds.{no_bounds}
use Rattle.bh_spec.specs.Viable.{IsViable}
use Rattle.bh_spec.proofs.Answers.{one_answer as one_of_bytes, refused_there}
use Rattle.bh_decode.specs.Laws.{OneAnswer, FirstRefusedByte}

pub one_answer : OneAnswer
one_answer = one_of_bytes

pub first_refused_byte : FirstRefusedByte
first_refused_byte L bytes others at part long same = (
  λ h. (refused_there L bytes others at part long same h.0, λ v. h.1 (subst (IsViable no_bounds) same v)),
  λ h. (refused_there L bytes others at part long same h.0, subst (IsViable no_bounds) (sym same) h.1),
)
