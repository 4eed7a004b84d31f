use Rattle.std.proofs.Common.{ap, ◌∙◌}
use Rattle.field.specs.Bytes.{word_bytes}
use Rattle.sponge.proofs.Draws.{base_observed}
use Rattle.sponge.proofs.drawing.observe_base.Goals as goal

pub returns : goal.returns
returns g c = base_observed g.F.BaseField.numbering c.args.x (c.to_le_bytes.ensures ∙ ap word_bytes c.number.ensures) c.observe.ensures
