use Rattle.samples.proofs.Runs.{two_runs, eight_runs, pair_runs, three_runs}
use Rattle.samples.proofs.tiny_runs.Goals as goal

pub returns : goal.returns
returns c = record { two = two_runs; eight = eight_runs; over_pairs = pair_runs; three = three_runs }
