use Rattle.std.proofs.Common.{◌≡◌, map, length, drop}
use Rattle.multilinear.specs.Tables.{eq}
use Rattle.multilinear.specs.Univariate.{expand}
use Rattle.verifier.specs.Powers.{with_all}
use Rattle.verifier.proofs.weights.with_samples.Given as goal

abbrev pub invariant-loop-z : goal.invariant-loop-z
invariant-loop-z g l =
    let F = g.E.Field.ops in
    with_all F l.powers (map (λ z. eq F (expand F z (length l.point)) l.point) (drop l.z-index l.samples))
    ≡ with_all F l.fn.powers (map (λ z. eq F (expand F z (length l.point)) l.point) l.samples)
