use Rattle.std.proofs.Common.{true, take, unwrap_or}
use Rattle.transcript.specs.Pattern.{query_steps}
use Rattle.transcript.specs.Owned.{Adds}
use Rattle.transcript.proofs.pattern.QueryIndices.push_stratified.Given as goal

abbrev pub invariant-loop-depth : goal.invariant-loop-depth
invariant-loop-depth l = Adds l.initial.steps.items l.steps.items (query_steps true l.self.index_bits (unwrap_or l.self.draws 0) (take l.depth-index l.self.summand_depths.now) l.label)
