use Rattle.verification.specs.Setting.{setting}
use Rattle.verification.proofs.Deciding.{by_decision}
use Rattle.assurance.proofs.Opened.{spread_laws}
use Rattle.assurance.proofs.Binding.{accepted_or_accident}
use Rattle.assurance.proofs.Whole.{whole, accepted_point_long}
use Rattle.assurance.proofs.accepted_or_accident.Goals as goal

pub returns-clause-shown : goal.returns-clause-shown
returns-clause-shown g c N o w =
    let S = (setting N o g.F.Field.ops g.E.Field.ops g.E.PartialEq.eq g.F.BaseField.numbering g.E.ExtensionField.extension w (g.D.WhirDomain.meaning c.args.domain.now) (g.O.OpeningScheme.meaning c.args.scheme.now)) in
    let Of = g.O.OpeningScheme.commits c.args.scheme.now in
    let laws = g.met.O.OpeningScheme.laws c.args.scheme.now in
    accepted_or_accident S Of g.met.E.Field.lawful g.met.E.ExtensionField.extends c.keeps_distance.ensures laws
    (spread_laws S Of g.met.E.ExtensionField.extends g.met.E.ExtensionField.sized laws) (by_decision S g.met.E.Field.same)

pub returns-clause-whole : goal.returns-clause-whole
returns-clause-whole g c N o w = whole (setting N o g.F.Field.ops g.E.Field.ops g.E.PartialEq.eq g.F.BaseField.numbering g.E.ExtensionField.extension w (g.D.WhirDomain.meaning c.args.domain.now) (g.O.OpeningScheme.meaning c.args.scheme.now))

pub returns-clause-long : goal.returns-clause-long
returns-clause-long g c N o w =
    accepted_point_long (setting N o g.F.Field.ops g.E.Field.ops g.E.PartialEq.eq g.F.BaseField.numbering g.E.ExtensionField.extension w (g.D.WhirDomain.meaning c.args.domain.now) (g.O.OpeningScheme.meaning c.args.scheme.now))
    (by_decision (setting N o g.F.Field.ops g.E.Field.ops g.E.PartialEq.eq g.F.BaseField.numbering g.E.ExtensionField.extension w (g.D.WhirDomain.meaning c.args.domain.now) (g.O.OpeningScheme.meaning c.args.scheme.now)) g.met.E.Field.same)
