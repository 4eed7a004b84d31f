use Rattle.std.proofs.Common.{◌∙◌}
use Rattle.verifier.proofs.RowValues.{narrow, size_is}
use Rattle.verifier.proofs.rows.table_size.Goals as goal

pub overflow_shl-variables : goal.overflow_shl-variables
overflow_shl-variables c = narrow c.args.variables c.args.room c.requires c.ranges.room.fits

pub returns : goal.returns
returns c = c.min.ensures ∙ size_is c.args.variables c.args.room c.requires c.ranges.room.fits
