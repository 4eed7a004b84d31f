use Rattle.configuration.specs.Numbers.{numbers_of}
use Rattle.transcript.specs.Steps.{step_bytes}
use Rattle.transcript.proofs.Taking.{taken_same}
use Rattle.transcript.proofs.Describing.{round_taken}
use Rattle.transcript.proofs.opening.Description.observe_round.Goals as goal

pub returns : goal.returns
returns g c =
    round_taken g.S.Sponge.rules _ _ _ _ _ _ _ (numbers_of c.args.self.now.config.now.numbers) c.args.self.now.degree c.args.index c.args.round.now c.query_site-site.result
    c.requires c.query_site-site.ensures
    (taken_same g.S.Sponge.rules step_bytes _ _ _ _ c.observe_step.ensures c.commitment.ensures) c.observe_samples.ensures c.observe_pow.ensures c.observe_indices.ensures
    (taken_same g.S.Sponge.rules step_bytes _ _ _ _ c.observe_step-2.ensures c.drawn.ensures) c.observe_bracket.ensures
