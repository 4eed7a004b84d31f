use Rattle.std.proofs.Common.{◌/◌, ap, ◌∙◌, arith}
use Rattle.multilinear.specs.Univariate.{pow}
use Rattle.domain.specs.Powers.{odd_turn, even_turn, all_turns}
use Rattle.domain.proofs.two_adic.exp.Goals as goal
use Rattle.domain.proofs.two_adic.exp.Goals.{then-left-eq1, else-left-eq1}

pub loop-left-preserved : goal.loop-left-preserved
loop-left-preserved g c =
    let F = g.F.Field.ops in
    let L = g.met.F.Field.lawful.ring in
    let p = c.loop-left.power in
    let s = c.loop-left.square in
    let n = c.loop-left.left in
    let t = c.mul-square.result in
    let w = pow F c.args.base c.args.exponent in
    elim c.if-left-eq1.branch [
      | then-left-eq1 v ↦ odd_turn F L p s c.if-left-eq1.power t w n v.if-left-eq1.true (v.power-is ∙ v.mul-power.ensures) c.mul-square.ensures c.loop-left.invariant
      | else-left-eq1 v ↦
          ap (λ q. F.mul q (pow F t (n / 2))) v.power-is ∙ even_turn F L p s t w n v.if-left-eq1.false c.mul-square.ensures c.loop-left.invariant
    ]

pub returns : goal.returns
returns g c =
    all_turns g.F.Field.ops g.met.F.Field.lawful.ring c.loop-left.power c.loop-left.square (pow g.F.Field.ops c.args.base c.args.exponent) c.loop-left.left
    (omega arith) c.loop-left.invariant
