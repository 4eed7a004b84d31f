use Rattle.std.proofs.Common.{map, take}
use Rattle.transcript.specs.Bytes.{eight}
use Rattle.transcript.specs.Owned.{Binds}
use Rattle.transcript.proofs.separator.DomainSeparator.push_numbers.Given as goal

abbrev pub invariant-loop-number : goal.invariant-loop-number
invariant-loop-number l = Binds l.initial.self.pieces.items l.self.pieces.items (map eight (take l.number-index l.numbers))
