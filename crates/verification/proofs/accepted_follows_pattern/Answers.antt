use Rattle.verification.specs.Drawing.{by_word}
use Rattle.verification.specs.Setting.{setting}
use Rattle.verification.proofs.Following.{follows}
use Rattle.verification.proofs.Parts.{by_word_draws}
use Rattle.verification.proofs.Sent.{observes, draws_elements}
use Rattle.verification.proofs.accepted_follows_pattern.Goals as goal

pub returns-clause-pattern : goal.returns-clause-pattern
returns-clause-pattern g c N o =
    follows (setting N o g.F.Field.ops g.E.Field.ops g.E.PartialEq.eq g.F.BaseField.numbering g.E.ExtensionField.extension (by_word g.F.BaseField.numbering) (g.D.WhirDomain.meaning c.args.domain.now) (g.O.OpeningScheme.meaning c.args.scheme.now))
    (by_word_draws g.F.BaseField.numbering) g.met.E.ExtensionField.extends.count

pub returns-clause-observed : goal.returns-clause-observed
returns-clause-observed g c N o =
    observes (setting N o g.F.Field.ops g.E.Field.ops g.E.PartialEq.eq g.F.BaseField.numbering g.E.ExtensionField.extension (by_word g.F.BaseField.numbering) (g.D.WhirDomain.meaning c.args.domain.now) (g.O.OpeningScheme.meaning c.args.scheme.now))
    (by_word_draws g.F.BaseField.numbering)

pub returns-clause-elements : goal.returns-clause-elements
returns-clause-elements g c N o =
    draws_elements (setting N o g.F.Field.ops g.E.Field.ops g.E.PartialEq.eq g.F.BaseField.numbering g.E.ExtensionField.extension (by_word g.F.BaseField.numbering) (g.D.WhirDomain.meaning c.args.domain.now) (g.O.OpeningScheme.meaning c.args.scheme.now))
    (by_word_draws g.F.BaseField.numbering)
