use Rattle.verification.specs.Setting.{setting}
use Rattle.verification.proofs.Deciding.{by_decision}
use Rattle.verification.proofs.accepted_by_decision.Goals as goal

pub returns : goal.returns
returns g c N o w =
    by_decision (setting N o g.F.Field.ops g.E.Field.ops g.E.PartialEq.eq g.F.BaseField.numbering g.E.ExtensionField.extension w
    (g.D.WhirDomain.meaning c.args.domain.now) (g.O.OpeningScheme.meaning c.args.scheme.now)) g.met.E.Field.same
