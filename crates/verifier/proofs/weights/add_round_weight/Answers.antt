use Rattle.std.proofs.Common.{map, length}
use Rattle.multilinear.specs.Tables.{eq, select}
use Rattle.multilinear.specs.Univariate.{expand}
use Rattle.verifier.proofs.Summing.{sum_of_both}
use Rattle.verifier.proofs.weights.add_round_weight.Goals as goal

pub returns : goal.returns
returns g c =
    let F = g.E.Field.ops in
    let a = c.args in
    let x = a.point.now in
    let point = (g.D.WhirDomain.meaning a.domain.now).point a.shape.log a.shape.vars in
    sum_of_both F g.met.E.Field.lawful.ring a.weight a.gamma c.with_samples-powers.result c.with_positions.result
    (map (λ z. eq F (expand F z (length x)) x) a.samples.now) (map (λ p. select F (map g.E.ExtensionField.extension.embed (point p)) x) a.positions.now)
    c.with_samples-powers.ensures c.with_positions.ensures
