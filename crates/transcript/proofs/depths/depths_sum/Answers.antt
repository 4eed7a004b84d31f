use Rattle.transcript.proofs.Summing.{depths_sum}
use Rattle.transcript.proofs.depths.depths_sum.Goals as goal

pub returns : goal.returns
returns c = depths_sum
