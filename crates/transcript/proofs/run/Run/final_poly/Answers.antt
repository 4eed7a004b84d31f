use Rattle.configuration.specs.Numbers.{numbers_of}
use Rattle.transcript.proofs.Stepping.{final_refused, final_taken_in}
use Rattle.transcript.proofs.run.Run.final_poly.Goals as goal

pub returns-then-got-expected : goal.returns-then-got-expected
returns-then-got-expected g c =
    final_refused g.S.Sponge.rules g.F.BaseField.numbering g.E.ExtensionField.extension _ (numbers_of c.args.config.now.numbers) c.args.evaluations.now
    c.final_poly_len-expected.result c.final_poly_len-expected.ensures.value c.if-got-expected.true

pub returns : goal.returns
returns g c =
    final_taken_in g.S.Sponge.rules g.F.BaseField.numbering g.E.ExtensionField.extension _ _ (numbers_of c.args.config.now.numbers) c.args.evaluations.now
    c.final_poly_len-expected.result c.final_poly_len-expected.ensures.value c.if-got-expected.false c.observe_values.ensures
