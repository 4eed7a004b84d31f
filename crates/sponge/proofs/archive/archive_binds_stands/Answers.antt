use Rattle.sponge.proofs.Bound.{archive_binds}
use Rattle.sponge.proofs.archive.archive_binds_stands.Goals as goal

pub returns : goal.returns
returns c = archive_binds
