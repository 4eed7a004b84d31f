use Rattle.std.proofs.Common.{length}
use Rattle.verifier.specs.Rows.{rows_of, elements}
use Rattle.verifier.proofs.RowValues.{row_worked, front_long}
use Rattle.verifier.proofs.rows.OpenedRows.row_value.Goals as goal

pub returns-clause-value : goal.returns-clause-value
returns-clause-value g c =
    row_worked g.E.Field.ops (elements g.E.ExtensionField.extension (rows_of c.args.self.now)) c.copy_row.new.places c.args.point.now _ c.args.row c.evaluate.result c.unwrap_or.result _
    (front_long (length c.args.point.now) c.len.result c.table_size-width.result c.args.fold.now c.table_size-width.ensures c.len.ensures c.requires.room)
    c.requires.there c.copy_row.ensures.copies c.evaluate.ensures.fits c.unwrap_or.ensures
