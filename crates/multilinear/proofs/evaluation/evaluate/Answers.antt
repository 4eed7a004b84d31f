use Rattle.std.proofs.Common.{◌≡◌, ◌^◌, ◌++◌, length, drop, ap, ◌∙◌}
use Rattle.multilinear.proofs.Loops.{spent_part}
use Rattle.multilinear.proofs.evaluation.evaluate.Goals as goal

pub returns-clause-leaves : goal.returns-clause-leaves
returns-clause-leaves g c h =
    let n = c.in_ok-size.size in
    let size : n ≡ 2 ^ length c.args.point.now = c.in_ok-size.ensures.0 ∙ ap (λ k. 2 ^ k) c.len.ensures in
    ap (λ l. l ++ drop n c.args.scratch.now) c.bind_all.ensures.leaves ∙ spent_part g.F.Field.ops g.met.F.Field.lawful.ring c.args.point.now c.args.scratch.now n size c.in_ok-size.ensures.1
