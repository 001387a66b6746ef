use Rattle.std.proofs.Common.{ℕ, List, nat_eq, bytes_eq, drop, rules, tests}
use Rattle.std.specs.List.{slice_split}
use Rattle.std.proofs.lemmas.Iterator.Search.{any_from_yields_List}
use Rattle.std.proofs.lemmas.Iterator.Splits.{YieldsList-from_slice_split}
use Rattle.std.proofs.lemmas.Iterator.Adapters.{YieldsList-from_skip}
use Rattle.h1_rules.proofs.hops.Hops.names.Goals as goal

pub returns : goal.returns
returns c =
    rw (← c.self.view_is) (any_from_yields_List (bytes_eq c.args.name.now) _ _ _ c.any.ensures.ran
    (YieldsList-from_skip 1 (YieldsList-from_slice_split _ (λ (byte : ℕ). nat_eq byte 44) c.self.inside.bytes.items (cc) (cc) (cc) (λ x r q k. search (rules, tests))) (cc))
    (λ x b q k. search (rules, tests)))
