use Rattle.std.proofs.Common.{arith}
use Rattle.commit.proofs.Trees.{log_levels}
use Rattle.commit.proofs.merkle.levels.Goals as goal

pub returns : goal.returns
returns c = log_levels c.args.positions c.max.result c.ilog2.result (omega (arith, c.max.ensures)) c.ilog2.ensures.power_le c.ilog2.ensures.next_power_gt
