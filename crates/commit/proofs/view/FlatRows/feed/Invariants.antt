use Rattle.std.proofs.Common.{List, ◌++◌, take}
use Rattle.commit.proofs.view.FlatRows.feed.Given as goal

abbrev pub invariant-loop-element : goal.invariant-loop-element
invariant-loop-element g l =
    (s : g.row.K.Denot) (xs : List g.row.X.Denot) → g.K.Sink.fed s xs l.initial.sink → g.K.Sink.fed s (xs ++ take l.element-index l.element-items) l.sink
