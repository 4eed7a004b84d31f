use Rattle.std.proofs.Common.{length, refl, arith}
use Rattle.multilinear.proofs.Loops.{squares_start, squares_more, expand_none, expand_more}
use Rattle.multilinear.proofs.weight.expand_from_univariate.Goals as goal

pub loop-j-init : goal.loop-j-init
loop-j-init g c = (squares_start g.F.Field.ops g.met.F.Field.lawful.ring c.args.v (length c.args.out.now), expand_none g.F.Field.ops g.met.F.Field.lawful.ring c.args.v c.args.out.now (length c.args.out.now) refl)

pub loop-j-preserved : goal.loop-j-preserved
loop-j-preserved g c =
    let F = g.F.Field.ops in
    let L = g.met.F.Field.lawful.ring in
    let n = length c.args.out.now in
    let inv = c.loop-j.invariant in (
      squares_more F L c.args.v c.loop-j.power c.mul-power.result n c.loop-j.j c.loop-j-test.true (omega arith) inv.0 c.mul-power.ensures,
      expand_more F L c.args.v c.loop-j.power c.loop-j.out n c.loop-j.j c.loop-j.auto.out c.loop-j-test.true (omega arith) inv.0 inv.1,
    )
