-- Points that one element stands for.
use Rattle.std.specs.Prelude.{ℕ, zero, suc, ◌^◌, List, [], ◌∷◌}
use Rattle.ring.specs.Ring.{Ops}

module _ {E : Type 0} (F : Ops E) where
  -- v to the power x
  unfoldable pub pow : E → ℕ → E
  pow v zero = F.one
  pow v (suc x) = F.mul v (pow v x)

  -- the point of n coordinates that v stands for: (v^(2^(n−1)), …, v², v)
  unfoldable pub expand : E → ℕ → List E
  expand v zero = []
  expand v (suc n) = pow v (2 ^ n) ∷ expand v n
