use Rattle.std.proofs.Common.{◌≡◌, map}
use Rattle.std.specs.List.{flat_map}
use Rattle.sponge.specs.Play.{counted}
use Rattle.configuration.specs.Numbers.{numbers_of}
use Rattle.transcript.specs.Steps.{step_bytes}
use Rattle.transcript.specs.Shape.{round_shape}
use Rattle.transcript.specs.Pattern.{round_steps}
use Rattle.transcript.specs.Opening.{taken}
use Rattle.transcript.proofs.opening.Description.observe_rounds.Given as goal

abbrev pub invariant-loop-i : goal.invariant-loop-i
invariant-loop-i g l =
    g.S.Sponge.held l.sponge ≡ taken g.S.Sponge.rules step_bytes (g.S.Sponge.held l.initial.sponge)
    (flat_map (round_steps l.self.degree) (map (round_shape (numbers_of l.self.config.now.numbers)) (counted 0 l.i)))
