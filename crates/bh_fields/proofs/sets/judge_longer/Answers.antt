use Rattle.std.proofs.Common.{◌≡◌, ℕ, List, [], ◌∷◌, ◌++◌}
use Rattle.bh_spec.specs.declared.Allowed.{Allowed}
use Rattle.bh_spec.specs.Integers.{SomeBegins}
use Rattle.bh_varint.specs.declared.Step.{Step}
use Rattle.bh_varint.specs.declared.Step.TheVariants.{More, Value, Dead}
use Rattle.bh_varint.specs.Step.{Shows, bytes_kept}
use Rattle.bh_fields.specs.Sets.{bytes_behind}
use Rattle.bh_fields.proofs.sets.judge_longer.Goals as goal

-- a byte with which some number begins is taken
taken : (set : Allowed) (now : List ℕ) (byte : ℕ) (step : Step) (new : List ℕ) → SomeBegins set (now ++ byte ∷ []) → Shows set (now ++ byte ∷ []) step
    → new ≡ bytes_kept (now ++ byte ∷ []) step → new ≡ bytes_behind now byte step
taken set now byte More new some s e = e
taken set now byte (Value n w) new some s e = e
taken set now byte Dead new some s e = absurd (s some)

pub returns-clause-kept : goal.returns-clause-kept
returns-clause-kept c =
    taken c.args.set c.args.number.now c.args.byte c.push.result c.push.new.self (c.alive.ensures.0 c.if-not-alive.false) c.push.ensures.shows c.push.ensures.kept
