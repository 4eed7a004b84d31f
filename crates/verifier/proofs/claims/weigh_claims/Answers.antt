use Rattle.std.proofs.Common.{◌≡◌, length, get_or, refl, ap}
use Rattle.multilinear.specs.Tables.{eq}
use Rattle.verification.specs.Proof.{part}
use Rattle.verifier.proofs.Summing.{sum_from_one, sum_next, sum_end, weight_is, all_at}
use Rattle.verifier.proofs.claims.weigh_claims.Goals as goal

pub loop-index-init : goal.loop-index-init
loop-index-init g c = sum_from_one g.E.Field.ops g.met.E.Field.lawful.ring _ _ c.args.alpha c.zero.ensures c.one.ensures refl

pub loop-index-preserved : goal.loop-index-preserved
loop-index-preserved g c =
    let F = g.E.Field.ops in
    let cs = c.args.claims.now.coordinates.now in
    let x = c.args.point.now in
    let qs = c.args.claims.now.claims.now in
    let r = c.index-claims-index.result in
    let q = get_or qs c.loop-index.index r in
    let long : length (part cs q.point) ≡ length x =
    all_at (λ q. length (part cs q.point) ≡ length x) qs c.loop-index.index q c.loop-index-test.true (ap (get_or qs c.loop-index.index) c.index-claims-index.is) c.requires in
    let weighed : c.unwrap_or.result ≡ eq F (part cs q.point) x =
    weight_is F (part cs q.point) c.point_of-coordinates.result.now x c.eq_at.result _ c.unwrap_or.result c.point_of-coordinates.ensures long c.eq_at.ensures.fits c.unwrap_or.ensures in
    sum_next F g.met.E.Field.lawful.ring (λ q. eq F (part cs q.point) x) c.loop-index.powers c.with-powers.result qs c.loop-index.index r c.unwrap_or.result _ c.loop-index-test.true c.index-claims-index.is
    weighed c.with-powers.ensures c.loop-index.invariant

pub returns : goal.returns
returns g c =
    sum_end g.E.Field.ops g.met.E.Field.lawful.ring (λ q. eq g.E.Field.ops (part c.args.claims.now.coordinates.now q.point) c.args.point.now) c.loop-index.powers c.args.claims.now.claims.now c.loop-index.index _ c.loop-index-test.false c.loop-index.invariant
