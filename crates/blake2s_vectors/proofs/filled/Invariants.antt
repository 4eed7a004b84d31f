use Rattle.std.proofs.Common.{min}
use Rattle.blake2s.specs.Absorbed.{Absorbed}
use Rattle.blake2s_vectors.specs.Rule.{bytes_from}
use Rattle.blake2s_vectors.proofs.filled.Given as goal

-- after the last piece the place lies past the end
abbrev pub invariant-loop-done : goal.invariant-loop-done
invariant-loop-done l = Absorbed l.hasher (bytes_from 0 (min l.done l.long))
