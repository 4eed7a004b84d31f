use Rattle.std.proofs.Common.{length}
use Rattle.ring.specs.Polynomials.{Distinct}
use Rattle.domain.proofs.listed.are_distinct.Given as goal

abbrev pub invariant-loop-rest : goal.invariant-loop-rest
invariant-loop-rest g l = record { back : Distinct l.rest → Distinct l.points; on : Distinct l.points → Distinct l.rest }

abbrev pub decreases-loop-rest : goal.decreases-loop-rest
decreases-loop-rest g l = length l.rest
