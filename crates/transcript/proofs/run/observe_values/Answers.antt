use Rattle.transcript.proofs.Stepping.{value_on, values_end}
use Rattle.transcript.proofs.run.observe_values.Goals as goal

pub loop-value-preserved : goal.loop-value-preserved
loop-value-preserved g c =
    value_on g.S.Sponge.rules g.F.BaseField.numbering g.E.ExtensionField.extension _ _ _ c.args.values.now c.loop-value.value-index c.value-item.result c.loop-value-test.true
    c.value-item.is c.loop-value.invariant c.observe_extension.ensures

pub returns : goal.returns
returns g c =
    values_end g.S.Sponge.rules g.F.BaseField.numbering g.E.ExtensionField.extension _ _ c.args.values.now c.loop-value.value-index c.loop-value-test.false c.loop-value.invariant
