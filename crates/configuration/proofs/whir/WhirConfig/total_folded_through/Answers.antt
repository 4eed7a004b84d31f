use Rattle.std.proofs.Common.{vec_items, sum, ap, ◌∙◌, arith}
use Rattle.std.proofs.lemmas.Iterator.{YieldsList-from_slice, YieldsList-from_take}
use Rattle.std.proofs.lemmas.Iterator.Consumers.{sum_from_yields_List, fits_from_yields_list}
use Rattle.configuration.specs.Numbers.{numbers_of}
use Rattle.configuration.proofs.Views.{folds_fit, folded_through}
use Rattle.configuration.proofs.whir.WhirConfig.total_folded_through.Goals as goal

pub sum-requires-clause-fits : goal.sum-requires-clause-fits
sum-requires-clause-fits c =
    let w = c.args.self.now.numbers in
    let n = c.saturating_add.result in
    fits_from_yields_list c.take.result _
    (YieldsList-from_take n (YieldsList-from_slice {s = c.take.result.iter} (vec_items w.folding_schedule) (cc)) (cc))
    (omega (arith, folds_fit (numbers_of w) n c.args.self.now.checked))

pub returns : goal.returns
returns c =
    let w = c.args.self.now.numbers in
    let n = c.saturating_add.result in
    sum_from_yields_List c.take.result _ c.sum.ensures.ran
    (YieldsList-from_take n (YieldsList-from_slice {s = c.take.result.iter} (vec_items w.folding_schedule) (cc)) (cc))
    ∙ ap sum (folded_through (numbers_of w) c.args.round n c.args.self.now.checked c.saturating_add.ensures)
