use Rattle.std.proofs.Common.{List, [], ◌++◌, sym, subst, append-nil}
use Rattle.commit.specs.SpreadLaws.{spread_piece}
use Rattle.commit.proofs.view.CoefficientsRows.feed.Goals as goal

pub returns : goal.returns
returns g c = λ s xs h.
    let rows = c.args.self.now.rows.now in
    let x = g.E.ExtensionField.extension in
    let w = g.R.Rows.wide rows in
    let fed = g.K.Sink.fed in
    subst (λ (l : List g.row.F.Denot). fed s (xs ++ l) c.feed-sink.result.sink) (sym (spread_piece x g.met.E.ExtensionField.extends.count (g.R.Rows.flat rows) w c.args.row))
    (c.feed-sink.ensures _ [] (λ k ys e. subst (λ (l : List g.row.F.Denot). fed k l c.args.sink) (sym (append-nil ys)) e) s xs h)
