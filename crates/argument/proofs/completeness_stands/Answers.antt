use Rattle.argument.proofs.Complete.{honest_means_accepted}
use Rattle.argument.proofs.completeness_stands.Goals as goal

pub returns : goal.returns
returns g c = honest_means_accepted g.F.Field.ops g.met.F.Field.lawful
