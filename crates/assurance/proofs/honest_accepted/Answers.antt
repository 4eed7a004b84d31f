use Rattle.verification.specs.Setting.{setting}
use Rattle.verification.proofs.Deciding.{by_decision}
use Rattle.assurance.proofs.Completing.{honest_accepted}
use Rattle.assurance.proofs.honest_accepted.Goals as goal

pub returns : goal.returns
returns g c N o w =
    let S = (setting N o g.F.Field.ops g.E.Field.ops g.E.PartialEq.eq g.F.BaseField.numbering g.E.ExtensionField.extension w (g.D.WhirDomain.meaning c.args.domain.now) (g.O.OpeningScheme.meaning c.args.scheme.now)) in
    honest_accepted S (g.O.OpeningScheme.commits c.args.scheme.now) g.met.E.Field.lawful g.met.E.ExtensionField.extends g.met.E.ExtensionField.sized c.keeps_distance.ensures
    (g.met.O.OpeningScheme.laws c.args.scheme.now) (by_decision S g.met.E.Field.same)
