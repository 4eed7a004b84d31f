use Rattle.std.proofs.Common.{◌≡◌, map, take}
use Rattle.transcript.specs.Bytes.{eight}
use Rattle.transcript.specs.Instances.{instance_bytes}
use Rattle.transcript.specs.Opening.{taken}
use Rattle.transcript.proofs.opening.observe_numbers.Given as goal

abbrev pub invariant-loop-number : goal.invariant-loop-number
invariant-loop-number g l =
    g.S.Sponge.held l.sponge ≡ taken g.S.Sponge.rules instance_bytes (g.S.Sponge.held l.initial.sponge) (map eight (take l.number-index l.numbers))
