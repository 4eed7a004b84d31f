use Rattle.std.proofs.Common.{refl}
use Rattle.verifier.proofs.Summing.{sum_from_one, sum_next, sum_end}
use Rattle.verifier.proofs.claims.batch.Goals as goal

pub loop-index-init : goal.loop-index-init
loop-index-init g c = sum_from_one g.E.Field.ops g.met.E.Field.lawful.ring _ _ c.args.alpha c.zero.ensures c.one.ensures refl

pub loop-index-preserved : goal.loop-index-preserved
loop-index-preserved g c =
    sum_next g.E.Field.ops g.met.E.Field.lawful.ring (λ q. q.value) c.loop-index.powers c.with-powers.result c.args.claims.now.claims.now c.loop-index.index c.index-claims-index.result _ _ c.loop-index-test.true c.index-claims-index.is
    refl c.with-powers.ensures c.loop-index.invariant

pub returns : goal.returns
returns g c = sum_end g.E.Field.ops g.met.E.Field.lawful.ring (λ q. q.value) c.loop-index.powers c.args.claims.now.claims.now c.loop-index.index _ c.loop-index-test.false c.loop-index.invariant
