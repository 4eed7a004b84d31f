use Rattle.blake2s.proofs.Collisions.{collisions}
use Rattle.blake2s.proofs.collisions_stand.Goals as goal

pub returns : goal.returns
returns c = collisions
