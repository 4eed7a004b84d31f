use Rattle.std.proofs.Common.{map, take}
use Rattle.std.specs.List.{flat_map}
use Rattle.transcript.specs.Bytes.{eight}
use Rattle.transcript.specs.Instances.{round_numbers}
use Rattle.transcript.specs.Owned.{round_of, Binds}
use Rattle.transcript.proofs.shape.WhirShape.bind_rounds.Given as goal

abbrev pub invariant-loop-round : goal.invariant-loop-round
invariant-loop-round l = Binds l.initial.separator.pieces.items l.separator.pieces.items (map eight (flat_map round_numbers (map round_of (take l.round-index l.self.rounds.items))))
