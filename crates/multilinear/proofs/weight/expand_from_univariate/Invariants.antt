use Rattle.std.proofs.Common.{◌≡◌, ◌-◌, ◌^◌, length, drop}
use Rattle.multilinear.specs.Univariate.{pow, expand}
use Rattle.multilinear.proofs.weight.expand_from_univariate.Given as goal

abbrev pub invariant-loop-j : goal.invariant-loop-j
invariant-loop-j g l =
    let F = g.F.Field.ops in
    let left = length l.initial.out - l.j in
    (l.power ≡ pow F l.initial.power (2 ^ left)) × (drop l.j l.out ≡ expand F l.initial.power left)
