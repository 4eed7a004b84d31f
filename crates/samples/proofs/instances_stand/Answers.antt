use Rattle.samples.proofs.Instances.{instances}
use Rattle.samples.proofs.instances_stand.Goals as goal

pub returns : goal.returns
returns c = instances
