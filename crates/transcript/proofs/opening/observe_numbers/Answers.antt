use Rattle.std.proofs.Common.{◌∙◌}
use Rattle.transcript.proofs.Writing.{eight_bytes}
use Rattle.transcript.proofs.Taking.{number_more}
use Rattle.transcript.proofs.opening.observe_numbers.Goals as goal

pub loop-number-preserved : goal.loop-number-preserved
loop-number-preserved g c =
    number_more g.S.Sponge.rules _ _ _ c.args.numbers.now c.loop-number.number-index _ _ c.loop-number-test.true c.loop-number.invariant c.observe.ensures
    (c.as_slice.ensures.value ∙ c.instance.ensures) (c.to_be_bytes.ensures ∙ eight_bytes _)
