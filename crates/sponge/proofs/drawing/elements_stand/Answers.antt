use Rattle.sponge.proofs.Drawn.{elements}
use Rattle.sponge.proofs.drawing.elements_stand.Goals as goal

pub returns : goal.returns
returns g c = elements g.F.BaseField.numbering g.E.ExtensionField.extension g.met.F.BaseField.numbered g.met.E.ExtensionField.extends
