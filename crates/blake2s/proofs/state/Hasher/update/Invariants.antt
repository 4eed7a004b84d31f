use Rattle.std.proofs.Common.{ℕ, List, ◌++◌, length}
use Rattle.blake2s.specs.Absorbed.{Absorbed}
use Rattle.blake2s.proofs.Steps.{Going}
use Rattle.blake2s.proofs.state.Hasher.update.Given as goal

abbrev pub invariant-loop-rest : goal.invariant-loop-rest
invariant-loop-rest l = (xs : List ℕ) → Absorbed l.initial.self xs → Going l.self l.rest (xs ++ l.piece)

abbrev pub decreases-loop-rest : goal.decreases-loop-rest
decreases-loop-rest l = length l.rest
