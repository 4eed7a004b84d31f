use Rattle.domain.proofs.Lists.{behind_distinct, first_repeated, first_absent}
use Rattle.domain.proofs.listed.are_distinct.Goals as goal

pub returns-then-contains-clause-no : goal.returns-then-contains-clause-no
returns-then-contains-clause-no g c = λ u.
    first_repeated g.F.PartialEq.eq g.met.F.Field.same c.loop-rest.rest.now c.x-item.result c.in-len1-up.len_at_least c.x-item.is c.if-contains.ensures.value
    (c.loop-rest.invariant.on u)

pub loop-rest-preserved : goal.loop-rest-preserved
loop-rest-preserved g c =
    let l = c.loop-rest.rest.now in
    let many = c.in-len1-up.len_at_least in
    record {
      back = λ u. c.loop-rest.invariant.back (first_absent g.F.PartialEq.eq g.met.F.Field.same l c.x-item.result many c.x-item.is c.if-contains.ensures.value u);
      on = λ u. behind_distinct l many (c.loop-rest.invariant.on u);
    }
