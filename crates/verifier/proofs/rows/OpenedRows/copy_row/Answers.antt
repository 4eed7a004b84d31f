use Rattle.std.proofs.Common.{length, ap}
use Rattle.verifier.specs.Rows.{rows_of}
use Rattle.verifier.proofs.RowValues.{base_row}
use Rattle.verifier.proofs.rows.OpenedRows.copy_row.Goals as goal

pub returns-in-Base-clause-copies : goal.returns-in-Base-clause-copies
returns-in-Base-clause-copies g c =
    base_row g.E.ExtensionField.extension c.in-Base.base.now (rows_of c.args.self.now) (length c.args.places.now) c.args.row c.piece.result.now c.embed_all.new.places (ap rows_of c.in-Base.is) c.piece.ensures c.embed_all.ensures.embeds
