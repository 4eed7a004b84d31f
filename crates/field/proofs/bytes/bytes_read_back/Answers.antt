use Rattle.field.proofs.Encoding.{read_back}
use Rattle.field.proofs.bytes.bytes_read_back.Goals as goal

pub returns : goal.returns
returns g c = read_back g.met.F.BaseField.numbered g.met.E.ExtensionField.extends
