use Rattle.std.proofs.Common.{List, ◌++◌, take}
use Rattle.commit.proofs.view.SpreadingSink.put.Given as goal

abbrev pub invariant-loop-j : goal.invariant-loop-j
invariant-loop-j g l =
    (k : g.row.K.Denot) (xs : List g.row.F.Denot) → g.K.Sink.fed k xs l.initial.self.sink
    → g.K.Sink.fed k (xs ++ take l.j (g.E.ExtensionField.extension.coefficients l.element)) l.self.sink
