use Rattle.std.proofs.Common.{◌≡◌, map}
use Rattle.std.specs.List.{flat_map}
use Rattle.sponge.specs.Play.{counted}
use Rattle.configuration.specs.Numbers.{numbers_of}
use Rattle.transcript.specs.Bytes.{eight}
use Rattle.transcript.specs.Shape.{round_shape}
use Rattle.transcript.specs.Instances.{instance_bytes, round_numbers}
use Rattle.transcript.specs.Opening.{taken}
use Rattle.transcript.proofs.opening.Description.observe_round_numbers.Given as goal

abbrev pub invariant-loop-i : goal.invariant-loop-i
invariant-loop-i g l =
    g.S.Sponge.held l.sponge ≡ taken g.S.Sponge.rules instance_bytes (g.S.Sponge.held l.initial.sponge)
    (map eight (flat_map round_numbers (map (round_shape (numbers_of l.self.config.now.numbers)) (counted 0 l.i))))
