use Rattle.sumcheck.specs.Verified.{rounds_at}
use Rattle.sumcheck.proofs.Turning.{turn_refused, turn_played}
use Rattle.sumcheck.proofs.verify_turn.Goals as goal

pub returns-then-not-check_witness : goal.returns-then-not-check_witness
returns-then-not-check_witness g c =
    turn_refused g.F.BaseField.numbering g.E.ExtensionField.extension (rounds_at c.args.site 0) (record { number = c.args.round; message = record { h0 = c.args.h0; h2 = c.args.h2 }; witness = c.args.witness }) _
    c.observe_extension.ensures c.observe_extension-2.ensures c.check_witness.ensures c.if-not-check_witness.true

pub returns : goal.returns
returns g c =
    turn_played g.F.BaseField.numbering g.E.ExtensionField.extension (rounds_at c.args.site 0) (record { number = c.args.round; message = record { h0 = c.args.h0; h2 = c.args.h2 }; witness = c.args.witness }) _
    c.observe_extension.ensures c.observe_extension-2.ensures c.check_witness.ensures c.if-not-check_witness.false c.draw_extension.ensures
