use Rattle.sponge.proofs.Passing.{decided}
use Rattle.sponge.proofs.decided_by_checks_stands.Goals as goal

pub returns : goal.returns
returns g c = decided g.C.Call.play
