use Rattle.std.proofs.Common.{◌<◌, length, arith}
use Rattle.transcript.proofs.Filling.{index_more}
use Rattle.transcript.proofs.positions.draw_indices.Goals as goal

pub loop-j-preserved : goal.loop-j-preserved
loop-j-preserved g c =
    let there : c.loop-j.j < length c.loop-j.out = omega (arith, c.loop-j-test.true, c.loop-j.auto.out) in
    index_more g.S.Sponge.rules _ _ _ c.args.bits c.args.stride c.loop-j.j c.draw_bits-low.result c.loop-j.out there c.loop-j.invariant c.draw_bits-low.ensures
