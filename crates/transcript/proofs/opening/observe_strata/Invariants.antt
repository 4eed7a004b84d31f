use Rattle.std.proofs.Common.{◌≡◌, ◌++◌, true}
use Rattle.transcript.specs.Depths.{depths}
use Rattle.transcript.specs.Steps.{step_bytes}
use Rattle.transcript.specs.Pattern.{query_steps}
use Rattle.transcript.specs.Opening.{taken}
use Rattle.transcript.proofs.opening.observe_strata.Given as goal

abbrev pub invariant-loop-depth : goal.invariant-loop-depth
invariant-loop-depth g l =
    (l.yielded ++ depths l.depth-iterator.0 ≡ depths l.draws) ×
    (g.S.Sponge.held l.sponge ≡ taken g.S.Sponge.rules step_bytes (g.S.Sponge.held l.initial.sponge) (query_steps true l.width l.draws l.yielded l.label))
