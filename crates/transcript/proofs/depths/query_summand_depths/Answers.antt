use Rattle.std.proofs.Common.{rules, refl}
use Rattle.std.proofs.lemmas.Iterator.Adapters.{items_from_extend}
use Rattle.std.proofs.lemmas.Iterator.Consumers.{YieldsList-from_first}
use Rattle.transcript.specs.Depths.{depths}
use Rattle.transcript.proofs.depths.query_summand_depths.Goals as goal

pub returns : goal.returns
returns c =
    let h = items_from_extend c.extend.result c.extend.ensures.ran (YieldsList-from_first (λ d. d) (λ s. depths s.0) (depths c.args.draws) refl) in
    search rules
