use Rattle.std.proofs.Common.{◌≡◌}
use Rattle.transcript.specs.Steps.{step_bytes}
use Rattle.transcript.specs.Pattern.{sample_steps}
use Rattle.transcript.specs.Opening.{taken}
use Rattle.transcript.proofs.opening.Description.observe_samples.Given as goal

abbrev pub invariant-loop-i : goal.invariant-loop-i
invariant-loop-i g l = g.S.Sponge.held l.sponge ≡ taken g.S.Sponge.rules step_bytes (g.S.Sponge.held l.initial.sponge) (sample_steps l.self.degree l._i)
