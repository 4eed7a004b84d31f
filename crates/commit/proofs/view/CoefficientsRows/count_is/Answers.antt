use Rattle.std.proofs.Common.{sym, ◌∙◌}
use Rattle.commit.specs.SpreadLaws.{some_degree, count_same}
use Rattle.commit.proofs.view.CoefficientsRows.count_is.Goals as goal

pub returns : goal.returns
returns g c =
    let rows = c.args.self.now.rows.now in
    c.count_is.ensures
    ∙ sym (count_same g.E.ExtensionField.extension g.met.E.ExtensionField.extends.count (some_degree g.met.E.ExtensionField.sized) (g.R.Rows.flat rows) c.args.count (g.R.Rows.wide rows))
