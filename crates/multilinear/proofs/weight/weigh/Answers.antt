use Rattle.std.proofs.Common.{rules, Some, ap, ◌∙◌}
use Rattle.std.proofs.lemmas.Iterator.{YieldsList-from_slice, YieldsList-from_zip}
use Rattle.std.proofs.lemmas.Iterator.Consumers.{YieldsList-at, YieldsList-from_first, fold_from_yields_List}
use Rattle.multilinear.specs.Weights.{factor_of}
use Rattle.multilinear.proofs.Loops.{fold_product}
use Rattle.multilinear.proofs.weight.weigh.Goals as goal

pub returns-clause-fits : goal.returns-clause-fits
returns-clause-fits g c h =
    let F = g.F.Field.ops in
    let f = factor_of F c.args.weight in
    let pairs = YieldsList-from_zip (YieldsList-at c.zip.ensures.first (YieldsList-from_slice c.args.point.now (cc))) (YieldsList-at c.zip.ensures.second (YieldsList-from_first (λ x. x) (λ rest. rest) c.args.x.now (cc))) in
    ap Some (fold_from_yields_List _ (λ s q. F.mul s (f q.0 q.1)) _ _ c.fold-all.ensures.ran pairs (λ a x b q k. search rules) ∙ fold_product F g.met.F.Field.lawful.ring f _ c.args.point.now c.args.x.now c.one.ensures)
