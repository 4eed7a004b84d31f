use Rattle.multilinear.specs.Weights.{factor_of}
use Rattle.multilinear.proofs.Loops.{Weighed}
use Rattle.multilinear.proofs.weight.weigh_univariate.Given as goal

abbrev pub invariant-loop-x : goal.invariant-loop-x
invariant-loop-x g l =
    Weighed g.F.Field.ops g.met.F.Field.lawful.ring (factor_of g.F.Field.ops l.weight) l.initial.power l.x l.x-iterator.iter l.power l.all
