use Rattle.std.proofs.Common.{◌∙◌}
use Rattle.commit.specs.SpreadLaws.{some_degree, opens_same}
use Rattle.commit.proofs.extension.ExtensionSchemeOpeningScheme.check.Goals as goal

pub returns : goal.returns
returns g c =
    let rows = c.args.rows.now in
    let places = c.args.places.now in
    c.check.ensures
    ∙ opens_same g.E.ExtensionField.extension g.met.E.ExtensionField.extends.count (g.S.OpeningScheme.meaning c.args.self.now.inner.now) (some_degree g.met.E.ExtensionField.sized) c.args.commitment.now (g.R.Rows.wide rows) places.positions places.indices.now (g.R.Rows.flat rows) places.paths.now
