use Rattle.configuration.specs.Numbers.{numbers_of}
use Rattle.transcript.proofs.Describing.{round_numbers_taken}
use Rattle.transcript.proofs.opening.Description.observe_round_numbers.Goals as goal

pub loop-i-preserved : goal.loop-i-preserved
loop-i-preserved g c =
    round_numbers_taken g.S.Sponge.rules _ _ _ (numbers_of c.args.self.now.config.now.numbers) c.loop-i.i c.factor_of-factor.result c.deref-round-items.result.now
    c.deref-round-items.ensures.value c.loop-i-test.true c.factor_of-factor.ensures.value c.loop-i.invariant c.observe_numbers.ensures
