use Rattle.std.proofs.Common.{◌≡◌, drop}
use Rattle.parameters.specs.Schedule.{Verdict, unless_faulty}
use Rattle.parameters.proofs.folding.Reduction.check_listed.Given as goal

abbrev pub invariant-loop-factor : goal.invariant-loop-factor
invariant-loop-factor l = (v : Verdict) → unless_faulty l.self.num_variables l.factors v ≡ unless_faulty l.self.num_variables (drop l.factor-index l.factors) v
