use Rattle.std.proofs.Common.{ℕ, List, Ok, Err, subst}
use Rattle.bh_spec.specs.declared.Refusal.TheVariants.{TooLong}
use Rattle.bh_decode.specs.declared.spelling.ReadError.TheVariants.{Refused, NoMemory}
use Rattle.bh_decode.specs.Answering.{Says}
use Rattle.bh_decode.proofs.Inputs.{said_err, longer_whole, longer_error}
use Rattle.bh_decode.proofs.spelling.read_longer.Goals as goal
use Rattle.bh_decode.proofs.spelling.read_longer.Goals.{in-Ok, in-Err-Refused, in-Err-NoMemory}

pub returns : goal.returns
returns c =
    elim c.match-read_within.branch [
      | in-Ok w ↦
          said_err c.args.limits.now c.args.bytes.now c.match-read_within.result (Refused (TooLong c.args.most)) w.result-is
          (longer_whole c.args.limits.now c.args.bytes.now c.args.most w.in-Ok.field-0 c.requires.limit c.requires.longer
          (subst (λ (x : List ℕ). Says c.args.limits.now x (Ok w.in-Ok.field-0)) c.front.ensures w.in-Ok.ensures))
      | in-Err-Refused w ↦
          said_err c.args.limits.now c.args.bytes.now c.match-read_within.result (Refused w.past_limit.result) w.result-is
          (longer_error c.args.limits.now c.args.bytes.now c.args.most w.in-Err-Refused.field-0 w.in-Err-Refused.refusal w.past_limit.result c.requires.limit c.requires.longer
          w.in-Err-Refused.field-0-is w.past_limit.ensures
          (subst (λ (x : List ℕ). Says c.args.limits.now x (Err w.in-Err-Refused.field-0)) c.front.ensures w.in-Err-Refused.ensures))
      | in-Err-NoMemory w ↦ said_err c.args.limits.now c.args.bytes.now c.match-read_within.result NoMemory w.result-is tt
    ]
