use Rattle.std.proofs.Common.{◌≡◌, map, drop}
use Rattle.multilinear.specs.Tables.{select}
use Rattle.verifier.specs.Powers.{with_all}
use Rattle.verifier.proofs.weights.with_positions.Given as goal

abbrev pub invariant-loop-index : goal.invariant-loop-index
invariant-loop-index g l =
    let F = g.E.Field.ops in
    let embed = g.E.ExtensionField.extension.embed in
    let d = g.D.WhirDomain.meaning l.domain in
    with_all F l.powers (map (λ p. select F (map embed (d.point l.shape.log l.shape.vars p)) l.point) (drop l.index-index l.positions))
    ≡ with_all F l.fn.powers (map (λ p. select F (map embed (d.point l.shape.log l.shape.vars p)) l.point) l.positions)
