use Rattle.parameters.proofs.Laws.{schedules_lawful}
use Rattle.parameters.proofs.folding.schedules_lawful.Goals as goal

pub returns : goal.returns
returns c = schedules_lawful
