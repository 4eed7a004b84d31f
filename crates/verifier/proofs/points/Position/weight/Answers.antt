use Rattle.std.proofs.Common.{map}
use Rattle.verifier.proofs.Coordinates.{univariate_point, select_told}
use Rattle.verifier.proofs.points.Position.weight.Goals as goal

pub returns-in-Ok-Univariate : goal.returns-in-Ok-Univariate
returns-in-Ok-Univariate g c =
    let G = g.E.Field.ops in
    let X = g.E.ExtensionField.extension in
    let d = g.D.WhirDomain.meaning c.args.domain.now in
    let p = c.args.self in
    let arm = c.in-Ok-Univariate in
    let same = univariate_point g.F.Field.ops G X g.met.E.ExtensionField.extends d p.log p.vars p.index arm.v arm.field-0 c.query_point.result c.keeps_distance.ensures.stands
    c.requires.inside c.query_point.ensures arm.is arm.field-0-is in
    select_told G (map X.embed (d.point p.log p.vars p.index)) c.args.x.now p.vars c.embed.result (X.embed arm.v) c.select_univariate.result
    same c.embed.ensures c.requires.long c.select_univariate.ensures
