use Rattle.transcript.proofs.Placing.{positions_placed}
use Rattle.transcript.proofs.positions.positions_placed.Goals as goal

pub returns : goal.returns
returns c = positions_placed
