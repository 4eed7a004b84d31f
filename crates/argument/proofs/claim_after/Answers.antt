use Rattle.argument.proofs.Identities.{horner}
use Rattle.argument.proofs.claim_after.Goals as goal

pub returns : goal.returns
returns g c =
    let F = g.F.Field.ops in
    let a = c.args in
    cc (horner F g.met.F.Field.lawful.ring a.h0 (F.sub (F.sub a.claim (F.add a.h0 a.h0)) a.h2) a.h2 a.r)
