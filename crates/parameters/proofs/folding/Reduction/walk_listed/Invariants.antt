use Rattle.parameters.proofs.Listed.{Walking}
use Rattle.parameters.proofs.folding.Reduction.walk_listed.Given as goal

abbrev pub invariant-loop-i : goal.invariant-loop-i
invariant-loop-i l = Walking l.self.threshold l.self.num_variables l.remaining l.i l.factors
