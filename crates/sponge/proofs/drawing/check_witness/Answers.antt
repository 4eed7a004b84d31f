use Rattle.std.proofs.Common.{ap, ◌∙◌}
use Rattle.sponge.proofs.Draws.{nothing_ground, ground}
use Rattle.sponge.proofs.drawing.check_witness.Goals as goal

pub returns-then-bits-eq0 : goal.returns-then-bits-eq0
returns-then-bits-eq0 g c = nothing_ground _ _ c.if-bits-eq0.true

pub returns : goal.returns
returns g c =
    ground c.args.bits c.args.witness _ c.if-bits-eq0.false (c.observe.ensures ∙ ap (g.S.Sponge.rules.after_observe _) c.to_le_bytes.ensures) c.draw_bits-drawn.ensures
