use Rattle.parameters.proofs.Folds.{folding_all}
use Rattle.parameters.proofs.folding.ClampedFolds.schedule.Goals as goal

pub returns : goal.returns
returns c = folding_all _ _ _ _ _ _ c.loop-remaining-test.false c.loop-remaining.invariant
