use Rattle.std.proofs.Common.{◌-◌}
use Rattle.verifier.proofs.points.Position.+value_by_halves.Given as goal

abbrev pub decreases-value_by_halves : goal.decreases-value_by_halves
decreases-value_by_halves g l = l.self.vars - l.j
