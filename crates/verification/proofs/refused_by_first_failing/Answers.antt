use Rattle.verification.specs.Setting.{setting}
use Rattle.verification.proofs.Verdicts.{first_failing}
use Rattle.verification.proofs.refused_by_first_failing.Goals as goal

pub returns : goal.returns
returns g c N o w =
    first_failing (setting N o g.F.Field.ops g.E.Field.ops g.E.PartialEq.eq g.F.BaseField.numbering g.E.ExtensionField.extension w
    (g.D.WhirDomain.meaning c.args.domain.now) (g.O.OpeningScheme.meaning c.args.scheme.now))
