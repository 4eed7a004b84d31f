use Rattle.std.proofs.Common.{map, take}
use Rattle.std.specs.List.{concat}
use Rattle.blake2s.specs.Absorbed.{Absorbed}
use Rattle.blake2s.proofs.hash_pieces.Given as goal

abbrev pub invariant-loop-piece : goal.invariant-loop-piece
invariant-loop-piece l = Absorbed l.hasher (concat (map (λ p. p.now) (take l.piece-index l.pieces)))
