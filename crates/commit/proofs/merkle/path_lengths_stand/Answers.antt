use Rattle.commit.specs.TreeLemmas.{levels_power}
use Rattle.commit.proofs.merkle.path_lengths_stand.Goals as goal

pub returns : goal.returns
returns c = levels_power
