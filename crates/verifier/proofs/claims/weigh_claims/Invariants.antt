use Rattle.std.proofs.Common.{◌≡◌, map, drop}
use Rattle.ring.specs.Polynomials.{value as at}
use Rattle.multilinear.specs.Tables.{eq}
use Rattle.verification.specs.Proof.{part}
use Rattle.verifier.specs.Powers.{with_all}
use Rattle.verifier.proofs.claims.weigh_claims.Given as goal

abbrev pub invariant-loop-index : goal.invariant-loop-index
invariant-loop-index g l =
    (with_all g.E.Field.ops l.powers (map (λ q. eq g.E.Field.ops (part l.claims.coordinates.now q.point) l.point) (drop l.index l.claims.claims.now))).sum
    ≡ at g.E.Field.ops (map (λ q. eq g.E.Field.ops (part l.claims.coordinates.now q.point) l.point) l.claims.claims.now) l.fn.alpha
