use Rattle.transcript.specs.Pattern.{sample_steps}
use Rattle.transcript.specs.Owned.{Adds}
use Rattle.transcript.proofs.shape.WhirRoundShape.push_samples.Given as goal

abbrev pub invariant-loop-i : goal.invariant-loop-i
invariant-loop-i l = Adds l.initial.steps.items l.steps.items (sample_steps l.degree l._i)
