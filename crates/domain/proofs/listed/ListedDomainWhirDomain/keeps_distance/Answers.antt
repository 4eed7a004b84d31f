use Rattle.domain.proofs.Lawful.{listed_lawful}
use Rattle.domain.proofs.listed.ListedDomainWhirDomain.keeps_distance.Goals as goal

pub returns : goal.returns
returns g c =
    let d = c.args.self.now in
    listed_lawful g.F.Field.ops g.met.F.Field.lawful.ring g.E.Field.ops g.met.E.Field.lawful g.E.ExtensionField.extension
    g.met.E.ExtensionField.extends d.log d.points.now d.size d.distinct
