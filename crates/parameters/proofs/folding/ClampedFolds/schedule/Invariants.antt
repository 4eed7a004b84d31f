use Rattle.std.proofs.Common.{◌-◌, vec_items}
use Rattle.parameters.proofs.Folds.{Folding}
use Rattle.parameters.proofs.folding.ClampedFolds.schedule.Given as goal

abbrev pub invariant-loop-remaining : goal.invariant-loop-remaining
invariant-loop-remaining l =
    Folding l.self.reduction.threshold l.self.factor (l.self.reduction.num_variables - l.self.first_round_factor) l.remaining l.self.first_round_factor (vec_items l.schedule)

abbrev pub decreases-loop-remaining : goal.decreases-loop-remaining
decreases-loop-remaining l = l.remaining
