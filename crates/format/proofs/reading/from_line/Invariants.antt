use Rattle.std.proofs.Common.{◌≡◌, length}
use Rattle.format.specs.Files.{behind_lines}
use Rattle.format.proofs.reading.from_line.Given as goal

abbrev pub invariant-loop-rest : goal.invariant-loop-rest
invariant-loop-rest l = behind_lines l.word l.text ≡ behind_lines l.word l.rest

abbrev pub decreases-loop-rest : goal.decreases-loop-rest
decreases-loop-rest l = length l.rest
