use Rattle.std.proofs.Common.{◌≡◌}
use Rattle.multilinear.specs.Univariate.{pow}
use Rattle.domain.proofs.two_adic.exp.Given as goal

abbrev pub invariant-loop-left : goal.invariant-loop-left
invariant-loop-left g l = let F = g.F.Field.ops in F.mul l.power (pow F l.square l.left) ≡ pow F l.initial.square l.initial.left

abbrev pub decreases-loop-left : goal.decreases-loop-left
decreases-loop-left g l = l.left
