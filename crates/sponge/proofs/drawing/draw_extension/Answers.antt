use Rattle.sponge.proofs.Draws.{coefficients_begin, coefficients_more, coefficients_end}
use Rattle.sponge.proofs.drawing.draw_extension.Goals as goal

pub loop-i-init : goal.loop-i-init
loop-i-init g c = coefficients_begin g.F.BaseField.numbering g.E.ExtensionField.extension _ _ _ c.zero-x.result c.degree-i-end.ensures

pub loop-i-preserved : goal.loop-i-preserved
loop-i-preserved g c =
    coefficients_more g.F.BaseField.numbering g.E.ExtensionField.extension g.met.E.ExtensionField.extends c.loop-i.i _ c.loop-i.x c.degree-i-end.ensures c.loop-i.invariant
    c.draw_base.result c.with_coefficient-x.result c.loop-i-test.true c.draw_base.ensures c.with_coefficient-x.ensures

pub returns : goal.returns
returns g c =
    coefficients_end g.F.BaseField.numbering g.E.ExtensionField.extension g.met.E.ExtensionField.extends c.loop-i.i _ c.loop-i.x c.degree-i-end.ensures c.loop-i.invariant c.loop-i-test.false
