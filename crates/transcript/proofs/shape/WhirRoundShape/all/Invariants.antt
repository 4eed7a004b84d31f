use Rattle.std.proofs.Common.{◌≡◌, map}
use Rattle.sponge.specs.Play.{counted}
use Rattle.configuration.specs.Numbers.{numbers_of}
use Rattle.transcript.specs.Shape.{round_shape}
use Rattle.transcript.specs.Owned.{round_of}
use Rattle.transcript.proofs.shape.WhirRoundShape.all.Given as goal

abbrev pub invariant-loop-index : goal.invariant-loop-index
invariant-loop-index l = map round_of l.shapes.items ≡ map (round_shape (numbers_of l.config.numbers)) (counted 0 l.index)
