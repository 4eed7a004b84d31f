use Rattle.sponge.specs.Plays.{Leads}
use Rattle.sponge.specs.Drawing.{draw_extension}
use Rattle.sponge.proofs.Draws.{coefficients_left}
use Rattle.sponge.proofs.drawing.draw_extension.Given as goal

abbrev pub invariant-loop-i : goal.invariant-loop-i
invariant-loop-i g l =
    let N = g.F.BaseField.numbering in
    let X = g.E.ExtensionField.extension in
    Leads g.S.Sponge.rules (g.S.Sponge.held l.initial.sponge) (draw_extension N X) (g.S.Sponge.held l.sponge) (coefficients_left N X l.i l.i-end l.x)
