use Rattle.std.proofs.Common.{◌≡◌, take}
use Rattle.sponge.specs.Play.{counted}
use Rattle.transcript.proofs.positions.fill_all.Given as goal

abbrev pub invariant-loop-i : goal.invariant-loop-i
invariant-loop-i l = take l.i l.out ≡ counted 0 l.i
