use Rattle.std.proofs.Common.{refl}
use Rattle.parameters.specs.Schedule.{first, clamped}
use Rattle.parameters.proofs.folding.sample_schedules.Goals as goal

pub returns : goal.returns
unfolding first clamped
returns c = (refl, refl, refl, refl)
