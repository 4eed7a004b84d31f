use Rattle.std.proofs.Common.{length}
use Rattle.multilinear.proofs.evaluation.+bind_all.Given as goal

abbrev pub decreases-bind_all : goal.decreases-bind_all
decreases-bind_all g l = length l.point.now
