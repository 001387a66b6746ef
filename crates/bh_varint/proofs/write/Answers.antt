use Rattle.std.proofs.Common.{◌≡◌, ◌<◌, ℕ, List, [], ◌∷◌, length, take, slice_set, arith, ap, sym, subst, ◌∙◌}
use Rattle.bh_spec.specs.declared.Width.{Width}
use Rattle.bh_spec.specs.declared.Width.TheVariants.{One}
use Rattle.bh_spec.specs.Integers.{vi, limit_of}
use Rattle.bh_varint.proofs.write.Goals as goal

-- a number below 64 is its own byte
front_one : (out : List ℕ) (n : ℕ) → length out ≡ 8 → n < 64 → take 1 (slice_set out 0 n) ≡ vi n One
front_one [] n long h = absurd cc
front_one (x ∷ out) n long h = ap (λ (y : ℕ). y ∷ []) (omega arith)

pub returns-in-One-clause-front : goal.returns-in-One-clause-front
returns-in-One-clause-front c =
    front_one c.args.out.now c.args.n c.told-out (subst (λ (w : Width). c.args.n < limit_of w) c.in-One.is c.requires) ∙ ap (λ (w : Width). vi c.args.n w) (sym c.in-One.is)
