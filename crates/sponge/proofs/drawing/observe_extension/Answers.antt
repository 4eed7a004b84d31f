use Rattle.std.proofs.Common.{◌∙◌}
use Rattle.sponge.proofs.Draws.{extension_observed}
use Rattle.sponge.proofs.drawing.observe_extension.Goals as goal

pub returns : goal.returns
returns g c =
    extension_observed g.F.BaseField.numbering g.E.ExtensionField.extension c.args.x (c.deref.ensures.0 ∙ c.element_bytes.ensures) c.observe.ensures
