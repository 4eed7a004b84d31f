use Rattle.std.proofs.Common.{◌^◌, ◌<◌, arith}
use Rattle.transcript.specs.Steps.{step_of}
use Rattle.transcript.proofs.Summing.{depth_on, depth_small}
use Rattle.transcript.proofs.Describing.{stratum_more}
use Rattle.transcript.proofs.opening.observe_strata.Goals.{In-Some}
use Rattle.transcript.proofs.opening.observe_strata.Goals as goal

small : (g : _) (c : In-Some g) → c.in-Some.depth < 64
small g c =
    let fits : c.args.draws < 2 ^ 64 = omega arith in
    depth_small c.loop-depth.yielded c.args.draws _ c.loop-depth.invariant.0 _ _ fits c.in-Some.ensures.steps

pub overflow_shl-depth : goal.overflow_shl-depth
overflow_shl-depth g c = small g (goal.at.overflow_shl-depth g c).In-Some

pub loop-depth-preserved : goal.loop-depth-preserved
loop-depth-preserved g c = (
  depth_on c.loop-depth.yielded c.args.draws _ c.loop-depth.invariant.0 _ _ c.in-Some.ensures.steps,
  stratum_more g.S.Sponge.rules _ _ _ c.args.width c.args.draws c.in-Some.depth c.saturating_sub-bits.result c.loop-depth.yielded c.args.label (step_of c.uniform_bits.result)
      (small g (goal.at.loop-depth-preserved g c).In-Some) c.saturating_sub-bits.ensures c.uniform_bits.ensures c.loop-depth.invariant.1 c.observe_step.ensures,
)
