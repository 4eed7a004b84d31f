use Rattle.configuration.specs.Numbers.{numbers_of}
use Rattle.transcript.specs.Opening.{separator}
use Rattle.transcript.specs.Shape.{shape}
use Rattle.transcript.specs.Pattern.{pattern}
use Rattle.transcript.specs.Instances.{instances}
use Rattle.transcript.proofs.Taking.{opened}
use Rattle.transcript.proofs.Describing.{steps_taken}
use Rattle.transcript.proofs.opening.observe_separator.Goals as goal

pub returns : goal.returns
unfolding separator
returns g c =
    opened g.S.Sponge.rules _ _ _ _ _ (pattern c.args.degree (shape (numbers_of c.args.config.now.numbers) c.args.num_opening_claims))
    (instances (shape (numbers_of c.args.config.now.numbers) c.args.num_opening_claims)) c.observe.ensures c.observe-2.ensures
    (steps_taken g.S.Sponge.rules _ _ _ _ (numbers_of c.args.config.now.numbers) c.args.degree c.args.num_opening_claims c.observe_bracket.ensures c.observe_rounds.ensures
    c.observe_final.ensures) c.observe_instances.ensures
