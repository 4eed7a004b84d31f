use Rattle.sponge.proofs.Words.{left_by_trail}
use Rattle.sponge.proofs.left_by_trail_stands.Goals as goal

pub returns : goal.returns
returns g c = left_by_trail g.C.Call.play
