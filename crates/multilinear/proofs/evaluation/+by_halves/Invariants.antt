use Rattle.std.proofs.Common.{length}
use Rattle.multilinear.proofs.evaluation.+by_halves.Given as goal

abbrev pub decreases-by_halves : goal.decreases-by_halves
decreases-by_halves g l = length l.point.now
