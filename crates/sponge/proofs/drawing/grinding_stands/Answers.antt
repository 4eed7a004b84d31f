use Rattle.sponge.proofs.Drawn.{grinding}
use Rattle.sponge.proofs.drawing.grinding_stands.Goals as goal

pub returns : goal.returns
returns c = grinding
