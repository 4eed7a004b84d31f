use Rattle.std.proofs.Common.{length}
use Rattle.transcript.proofs.positions.+draw_strata.Given as goal

abbrev pub decreases-draw_strata : goal.decreases-draw_strata
decreases-draw_strata g l = length l.out.now
