use Rattle.std.proofs.Common.{◌≡◌, ◌≤◌, ◌+◌, ◌++◌, ◌∷◌, take, vec_len, vec_capacity}
use Rattle.bh_spec.specs.Bytes.{lower}
use Rattle.h1_rules.proofs.hops.push_name.Given as goal

abbrev pub invariant-loop-byte : goal.invariant-loop-byte
invariant-loop-byte l = record {
  items : l.names.items ≡ l.fn.names.items ++ (44 ∷ lower (take l.byte-index l.word));
  len : vec_len l.names ≡ vec_len l.fn.names + l.byte-index + 1;
  capacity : vec_capacity l.fn.names ≤ vec_capacity l.names;
}
