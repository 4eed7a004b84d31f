use Rattle.std.proofs.Common.{◌≡◌, ◌^◌, ◌<◌, length, ap, arith, rules}
use Rattle.multilinear.specs.Weights.{factor_of}
use Rattle.multilinear.proofs.Loops.{halves_none, half_size, halves_more}
use Rattle.multilinear.proofs.evaluation.+by_halves.Goals as goal

pub returns-in_default : goal.returns-in_default
returns-in_default g t c = halves_none g.F.Field.ops g.met.F.Field.lawful.ring (factor_of g.F.Field.ops c.args.weight) c.args.table.now c.args.point.now c.index-table-0.result c.in_default.ensures c.requires c.index-table-0.is

pub by_halves-low-requires : goal.by_halves-low-requires
by_halves-low-requires g t c κs within =
    let s = half_size g.F.Field.ops g.met.F.Field.lawful.ring c.args.table.now c.split_at.result.0.now c.split_at.result.1.now c.args.point.now _ c.in-Some.p c.in-Some.ensures c.requires c.split_at.ensures.front_len c.split_at.ensures.back_len in
    let less : length c.in-Some.rest < length c.args.point.now = omega (arith, ap length c.in-Some.ensures) in
    let size : length c.split_at.result.0.now ≡ 2 ^ length c.in-Some.rest = s.0 in
    search rules

pub by_halves-high-requires : goal.by_halves-high-requires
by_halves-high-requires g t c κs within =
    let s = half_size g.F.Field.ops g.met.F.Field.lawful.ring c.args.table.now c.split_at.result.0.now c.split_at.result.1.now c.args.point.now _ c.in-Some.p c.in-Some.ensures c.requires c.split_at.ensures.front_len c.split_at.ensures.back_len in
    let less : length c.in-Some.rest < length c.args.point.now = omega (arith, ap length c.in-Some.ensures) in
    let size : length c.split_at.result.1.now ≡ 2 ^ length c.in-Some.rest = s.1 in
    search rules

pub returns : goal.returns
returns g t c =
    let F = g.F.Field.ops in
    let L = g.met.F.Field.lawful.ring in
    let s = half_size F L c.args.table.now c.split_at.result.0.now c.split_at.result.1.now c.args.point.now _ c.in-Some.p c.in-Some.ensures c.requires c.split_at.ensures.front_len c.split_at.ensures.back_len in
    halves_more F L (factor_of F c.args.weight) c.args.table.now c.split_at.result.0.now c.split_at.result.1.now c.args.point.now _ c.in-Some.p c.by_halves-low.result c.by_halves-high.result
    c.factor.result c.factor-2.result c.mul.result c.mul-2.result c.add.result
    c.in-Some.ensures c.split_at.ensures.by_index.0 s.0 (search rules) (search rules)
    (search rules) (search rules)
    c.mul.ensures c.mul-2.ensures c.add.ensures
