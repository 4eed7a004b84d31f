use Rattle.configuration.specs.Numbers.{numbers_of}
use Rattle.transcript.proofs.Stepping.{ground_well, ground_ill}
use Rattle.transcript.proofs.run.Run.query_pow.Goals as goal

pub returns-then-check_witness : goal.returns-then-check_witness
returns-then-check_witness g c =
    ground_well g.S.Sponge.rules _ _ g.F.BaseField.numbering (numbers_of c.args.config.now.numbers) c.args.round c.args.witness _ _ c.query_site-bits.ensures.hard c.number.ensures
    c.check_witness.result c.if-check_witness.true c.check_witness.ensures

pub returns-else-check_witness : goal.returns-else-check_witness
returns-else-check_witness g c =
    ground_ill g.S.Sponge.rules _ _ g.F.BaseField.numbering (numbers_of c.args.config.now.numbers) c.args.round c.args.witness _ _ c.query_site-bits.ensures.hard c.number.ensures
    c.check_witness.result c.if-check_witness.false c.check_witness.ensures
