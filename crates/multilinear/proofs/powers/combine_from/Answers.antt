use Rattle.std.proofs.Common.{rules, ap, ◌∙◌}
use Rattle.std.proofs.lemmas.Iterator.Adapters.{YieldsList-from_rev_slice}
use Rattle.std.proofs.lemmas.Iterator.Consumers.{fold_from_yields_List}
use Rattle.multilinear.proofs.Loops.{fold_horner}
use Rattle.multilinear.proofs.powers.combine_from.Goals as goal

pub returns : goal.returns
returns g c =
    let F = g.F.Field.ops in
    let a = c.args.alpha in
    let sum = fold_from_yields_List _ (λ s v. F.add (F.mul s a) v) _ _ c.fold-sum.ensures.ran (YieldsList-from_rev_slice c.args.values.now (cc)) (λ s x b q k. search rules) in
    c.mul.ensures ∙ ap (F.mul c.args.first) (sum ∙ fold_horner F g.met.F.Field.lawful.ring c.args.values.now a _ c.zero.ensures)
