use Rattle.std.proofs.Common.{rules, tests, arith}
use Rattle.std.proofs.lemmas.Grind.{common_steps}
use Rattle.std.proofs.lemmas.Iterator.{YieldsList-from_slice}
use Rattle.commit.proofs.Trees.{climb_tried}
use Rattle.commit.proofs.merkle.climbs.Goals as goal

pub returns : goal.returns
returns c =
    let reached = climb_tried _ _ _ c.args.root.now (λ t x r q k. search (rules, tests)) c.args.leaf c.try_fold.result c.try_fold.new.self (YieldsList-from_slice c.args.path.now cc) c.try_fold.ensures.ran in
    grind (arith, common_steps)
