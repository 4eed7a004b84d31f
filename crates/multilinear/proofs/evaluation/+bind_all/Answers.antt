use Rattle.std.proofs.Common.{◌≡◌, ◌/◌, ◌^◌, ◌<◌, ◌++◌, length, take, drop, ap, ◌∙◌, arith, rules, length-take}
use Rattle.multilinear.specs.Tables.{value}
use Rattle.multilinear.specs.Scratch.{spent}
use Rattle.multilinear.proofs.Loops.{bind_leads, spent_part, value_none, spent_none}
use Rattle.multilinear.proofs.evaluation.+bind_all.Goals as goal

pub returns-in_default-clause-value : goal.returns-in_default-clause-value
returns-in_default-clause-value g t c = value_none g.F.Field.ops g.met.F.Field.lawful.ring c.args.table.now c.args.point.now _ c.in_default.ensures c.requires c.index-table-0.is

pub returns-in_default-clause-leaves : goal.returns-in_default-clause-leaves
returns-in_default-clause-leaves g t c = spent_none g.F.Field.ops g.met.F.Field.lawful.ring c.args.table.now c.args.point.now c.in_default.ensures

pub bind_all-requires : goal.bind_all-requires
bind_all-requires g t c κs within =
    let b = c.bind_first.new.table in
    let leads = bind_leads g.F.Field.ops g.met.F.Field.lawful.ring c.in-Some.r c.args.table.now c.args.point.now b c.in-Some.rest c.in-Some.ensures c.requires (search rules) in
    let less : length c.in-Some.rest < length c.args.point.now = omega (arith, ap length c.in-Some.ensures) in
    let fits = leads.fits in
    let size : length (take (length b / 2) b) ≡ 2 ^ length c.in-Some.rest = simp length-take (omega (arith, leads.left_is)) in
    search rules

pub returns : goal.returns
returns g t c =
    let F = g.F.Field.ops in
    let L = g.met.F.Field.lawful.ring in
    let b = c.bind_first.new.table in
    let leads = bind_leads F L c.in-Some.r c.args.table.now c.args.point.now b c.in-Some.rest c.in-Some.ensures c.requires (search rules) in
    let front = take (length b / 2) b in
    let value_is : c.bind_all.result ≡ value F front c.in-Some.rest = search rules in
    let front_is : c.bind_all.new.table ≡ spent F c.in-Some.rest front = search rules in record {
      value = value_is ∙ leads.value_is;
      leaves = ap (λ l. l ++ drop (length b / 2) b) front_is ∙ spent_part F L c.in-Some.rest b _ leads.left_is leads.fits ∙ leads.spent_is;
    }
