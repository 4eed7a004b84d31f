use Rattle.configuration.proofs.Phased.{configurations_phased}
use Rattle.configuration.proofs.making.configurations_phased.Goals as goal

pub returns : goal.returns
returns c = configurations_phased
