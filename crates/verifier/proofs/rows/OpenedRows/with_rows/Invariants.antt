use Rattle.std.proofs.Common.{◌≡◌, ◌^◌, length}
use Rattle.verifier.specs.Powers.{with_all}
use Rattle.verifier.specs.Rows.{rows_of, elements, row_values}
use Rattle.verifier.proofs.RowValues.{rest}
use Rattle.verifier.proofs.rows.OpenedRows.with_rows.Given as goal

abbrev pub invariant-loop-row : goal.invariant-loop-row
invariant-loop-row g l = record {
  values : with_all g.E.Field.ops l.powers (rest g.E.Field.ops (2 ^ length l.point) l.point (elements g.E.ExtensionField.extension (rows_of l.self)) l.count l.row)
      ≡ with_all g.E.Field.ops l.initial.powers (row_values g.E.Field.ops (2 ^ length l.point) l.point l.count (elements g.E.ExtensionField.extension (rows_of l.self)));
  long : length l.fold ≡ length l.initial.fold;
}
