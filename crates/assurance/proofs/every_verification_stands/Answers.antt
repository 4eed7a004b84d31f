use Rattle.verification.specs.Setting.{setting}
use Rattle.verification.proofs.Verdicts.{first_failing}
use Rattle.verification.proofs.Deciding.{by_decision}
use Rattle.assurance.proofs.Opened.{spread_laws}
use Rattle.assurance.proofs.Binding.{accepted_or_accident}
use Rattle.assurance.proofs.Completing.{honest_accepted}
use Rattle.assurance.proofs.Standing.{every_stands}
use Rattle.assurance.proofs.every_verification_stands.Goals as goal

pub returns-clause-stands : goal.returns-clause-stands
returns-clause-stands g c N o w =
    let S = (setting N o g.F.Field.ops g.E.Field.ops g.E.PartialEq.eq g.F.BaseField.numbering g.E.ExtensionField.extension w (g.D.WhirDomain.meaning c.args.domain.now) (g.O.OpeningScheme.meaning c.args.scheme.now)) in
    let Of = g.O.OpeningScheme.commits c.args.scheme.now in
    let laws = g.met.O.OpeningScheme.laws c.args.scheme.now in
    let decides = by_decision S g.met.E.Field.same in
    every_stands S Of g.S.Sponge.rules g.S.Sponge.fresh g.H.Earlier.calls (first_failing S) decides
    (honest_accepted S Of g.met.E.Field.lawful g.met.E.ExtensionField.extends g.met.E.ExtensionField.sized c.keeps_distance.ensures laws decides)
    (accepted_or_accident S Of g.met.E.Field.lawful g.met.E.ExtensionField.extends c.keeps_distance.ensures laws (spread_laws S Of g.met.E.ExtensionField.extends g.met.E.ExtensionField.sized laws) decides)
