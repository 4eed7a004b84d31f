use Rattle.multilinear.proofs.Loops.{Binds}
use Rattle.multilinear.proofs.evaluation.bind_first.Given as goal

abbrev pub invariant-loop-i : goal.invariant-loop-i
invariant-loop-i g l = Binds g.F.Field.ops g.met.F.Field.lawful.ring l.r l.initial.front l.back l.front l.i
