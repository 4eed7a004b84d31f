use Rattle.multilinear.proofs.Embedded.{keeps_tables}
use Rattle.multilinear.proofs.embedding_keeps_tables.Goals as goal

pub returns : goal.returns
returns g c = keeps_tables g.F.Field.ops g.E.Field.ops g.E.ExtensionField.extension g.met.E.ExtensionField.extends
