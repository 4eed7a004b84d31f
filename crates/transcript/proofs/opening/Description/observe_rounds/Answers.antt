use Rattle.configuration.specs.Numbers.{numbers_of}
use Rattle.transcript.specs.Steps.{step_bytes}
use Rattle.transcript.specs.Shape.{round_shape}
use Rattle.transcript.specs.Pattern.{round_steps}
use Rattle.transcript.proofs.Taking.{taken_on, taken_as, joined_push}
use Rattle.transcript.proofs.opening.Description.observe_rounds.Goals as goal

pub loop-i-preserved : goal.loop-i-preserved
loop-i-preserved g c =
    taken_as g.S.Sponge.rules step_bytes _ _ _ _ (taken_on g.S.Sponge.rules step_bytes _ _ _ _ _ c.loop-i.invariant c.observe_round.ensures)
    (joined_push (round_steps c.args.self.now.degree) (round_shape (numbers_of c.args.self.now.config.now.numbers)) c.loop-i.i)
