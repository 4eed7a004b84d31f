use Rattle.std.proofs.Common.{take, Ok}
use Rattle.sponge.specs.Plays.{Plays}
use Rattle.transcript.specs.Positions.{indices_drawn}
use Rattle.transcript.proofs.positions.draw_indices.Given as goal

abbrev pub invariant-loop-j : goal.invariant-loop-j
invariant-loop-j g l = Plays g.S.Sponge.rules (g.S.Sponge.held l.initial.sponge) (indices_drawn l.bits l.stride l.j) (Ok (take l.j l.out)) (g.S.Sponge.held l.sponge)
