use Rattle.std.proofs.Common.{◌^◌, ◌<◌, length, unwrap_or, arith, rules}
use Rattle.transcript.proofs.Owning.{stratum_added, depth_small}
use Rattle.transcript.proofs.pattern.QueryIndices.push_stratified.Goals as goal

pub loop-depth-preserved : goal.loop-depth-preserved
loop-depth-preserved c =
    let within : c.loop-depth.depth-index < length c.args.self.now.summand_depths.now = omega (arith, c.loop-depth-test.true) in
    let fits : unwrap_or c.args.self.now.draws 0 < 2 ^ 64 = search rules in
    stratum_added c.args.steps.now.items c.loop-depth.steps.items c.push.new.self.items c.args.self.now.index_bits (unwrap_or c.args.self.now.draws 0) c.loop-depth.depth-index
    c.saturating_sub-bits.result c.args.self.now.summand_depths.now c.args.label c.uniform_bits.result c.loop-depth.invariant within
    (depth_small (unwrap_or c.args.self.now.draws 0) c.loop-depth.depth-index c.args.self.now.summand_depths.now c.args.self.now.summands fits within)
    c.saturating_sub-bits.ensures c.uniform_bits.ensures c.in_ok-push.ensures.items
