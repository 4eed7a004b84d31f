use Rattle.sponge.proofs.Words.{settled}
use Rattle.sponge.proofs.settled_by_words_stands.Goals as goal

pub returns : goal.returns
returns g c = settled g.C.Call.play
