use Rattle.std.proofs.Common.{◌^◌, length}
use Rattle.verifier.specs.Rows.{rows_of, elements, row_values}
use Rattle.verifier.proofs.Summing.{sum_of_both}
use Rattle.verifier.proofs.weights.join_claims.Goals as goal

pub returns-clause-joins : goal.returns-clause-joins
returns-clause-joins g c =
    let F = g.E.Field.ops in
    let a = c.args in
    sum_of_both F g.met.E.Field.lawful.ring a.claim a.gamma c.with_all-powers.result c.with_rows.result a.answers.now
    (row_values F (2 ^ length a.point.now) a.point.now a.opened.now.count (elements g.E.ExtensionField.extension (rows_of a.opened.now.rows)))
    c.with_all-powers.ensures c.with_rows.ensures.values
