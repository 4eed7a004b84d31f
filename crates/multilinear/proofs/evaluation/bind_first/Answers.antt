use Rattle.std.proofs.Common.{◌/◌, length, arith}
use Rattle.multilinear.proofs.Loops.{bind_none, bind_more, bind_all}
use Rattle.multilinear.proofs.evaluation.bind_first.Goals as goal

pub loop-i-init : goal.loop-i-init
loop-i-init g c = bind_none g.F.Field.ops g.met.F.Field.lawful.ring c.args.r _ _

pub loop-i-preserved : goal.loop-i-preserved
loop-i-preserved g c =
    bind_more g.F.Field.ops g.met.F.Field.lawful.ring c.args.r _ _ c.loop-i.front c.loop-i.i _ _ c.mix.result
    (omega arith) (omega arith) (omega arith) c.index-front-i.is c.index-back-i.is (cc (c.mix.ensures, c.index-front-i.is)) c.loop-i.invariant

pub returns : goal.returns
returns g c =
    let split = c.split_at_mut-front.ensures in
    bind_all g.F.Field.ops g.met.F.Field.lawful.ring c.args.r c.args.table.now _ _ c.loop-i.front (length c.args.table.now / 2) c.loop-i.i
    (omega arith) split.front split.back split.front_len (omega arith) (omega arith) (omega arith) c.loop-i.invariant
