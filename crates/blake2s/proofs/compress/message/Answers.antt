use Rattle.std.proofs.Common.{refl}
use Rattle.blake2s.specs.Compress.{sigma, word}
use Rattle.blake2s.proofs.Table.{sigma_below}
use Rattle.blake2s.proofs.compress.message.Goals as goal

pub bounds-m-r : goal.bounds-m-r
unfolding sigma
bounds-m-r c = sigma_below c.args.r c.args.j

pub returns : goal.returns
unfolding word sigma
returns c = refl
