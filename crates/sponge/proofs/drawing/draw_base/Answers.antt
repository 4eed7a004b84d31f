use Rattle.sponge.proofs.Draws.{base_drawn}
use Rattle.sponge.proofs.drawing.draw_base.Goals as goal

pub returns : goal.returns
returns g c = base_drawn g.F.BaseField.numbering _ c.from_word.ensures c.draw.ensures.word c.draw.ensures.list
