use Rattle.std.proofs.Common.{◌≡◌, map, drop}
use Rattle.ring.specs.Polynomials.{value as at}
use Rattle.verifier.specs.Powers.{with_all}
use Rattle.verifier.proofs.claims.batch.Given as goal

abbrev pub invariant-loop-index : goal.invariant-loop-index
invariant-loop-index g l =
    (with_all g.E.Field.ops l.powers (map (λ q. q.value) (drop l.index l.claims.claims.now))).sum ≡ at g.E.Field.ops (map (λ q. q.value) l.claims.claims.now) l.fn.alpha
