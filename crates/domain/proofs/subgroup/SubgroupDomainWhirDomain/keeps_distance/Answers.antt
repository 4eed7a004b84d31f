use Rattle.domain.proofs.Lawful.{subgroup_lawful}
use Rattle.domain.proofs.subgroup.SubgroupDomainWhirDomain.keeps_distance.Goals as goal

pub returns : goal.returns
returns g c =
    subgroup_lawful g.F.Field.ops g.met.F.Field.lawful.ring g.E.Field.ops g.met.E.Field.lawful g.E.ExtensionField.extension
    g.met.E.ExtensionField.extends g.F.BaseField.numbering g.F.TwoAdicField.adicity g.met.F.TwoAdicField.order
