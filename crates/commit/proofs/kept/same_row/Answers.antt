use Rattle.std.proofs.Common.{Some, [], refl, arith}
use Rattle.std.proofs.lemmas.Grind.{common_steps}
use Rattle.std.specs.Option.{option_copied}
use Rattle.commit.specs.Opening.{piece}
use Rattle.commit.proofs.Shelves.{compared_all}
use Rattle.commit.proofs.kept.same_row.Goals as goal

pub returns : goal.returns
returns g c =
    let rows = c.args.rows.now in
    let row = piece (g.R.Rows.flat rows) (g.R.Rows.wide rows) c.args.k in
    let same = compared_all g.F.BaseField.numbering c.args.other.now row (option_copied c.feed-compared.result.rest) (c.feed-compared.ensures (record { rest = Some c.args.other }) [] (λ ys. refl)) in
    grind (arith, common_steps)
