use Rattle.std.proofs.Common.{◌≡◌}
use Rattle.blake2s.specs.Compress.{rounds}
use Rattle.blake2s.proofs.compress.working_words.Given as goal

abbrev pub invariant-loop-r : goal.invariant-loop-r
invariant-loop-r l = l.v ≡ rounds l.r l.m l.initial.v
