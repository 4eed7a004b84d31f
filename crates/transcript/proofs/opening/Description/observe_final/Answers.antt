use Rattle.std.proofs.Common.{◌∙◌}
use Rattle.configuration.specs.Numbers.{numbers_of}
use Rattle.transcript.specs.Steps.{step_bytes, bracket}
use Rattle.transcript.specs.declared.interaction.Label.TheVariants.{FinalFold}
use Rattle.transcript.proofs.Taking.{taken_same, taken_nothing, taken_something}
use Rattle.transcript.proofs.Describing.{final_taken}
use Rattle.transcript.proofs.opening.Description.observe_final.Goals as goal

pub returns-else-numbers-ne0 : goal.returns-else-numbers-ne0
returns-else-numbers-ne0 g c =
    final_taken g.S.Sponge.rules _ _ _ _ _ (numbers_of c.args.self.now.config.now.numbers) c.args.self.now.degree c.final_poly_len-length.result c.len.result
    c.args.self.now.num_opening_claims c.query_site-site.result
    (c.len.ensures ∙ c.args.self.now.config.now.numbers.round_parameters.ok.0) c.query_site-site.ensures c.final_poly_len-length.ensures.value
    (taken_same g.S.Sponge.rules step_bytes _ _ _ _ c.observe_step.ensures c.sent.ensures) c.observe_pow.ensures c.observe_indices.ensures
    (taken_nothing g.S.Sponge.rules step_bytes _ c.args.self.now.config.now.numbers.final_sumcheck_rounds (bracket FinalFold) c.if-numbers-ne0.false)

pub returns-then-numbers-ne0 : goal.returns-then-numbers-ne0
returns-then-numbers-ne0 g c =
    final_taken g.S.Sponge.rules _ _ _ _ _ (numbers_of c.args.self.now.config.now.numbers) c.args.self.now.degree c.final_poly_len-length.result c.len.result
    c.args.self.now.num_opening_claims c.query_site-site.result
    (c.len.ensures ∙ c.args.self.now.config.now.numbers.round_parameters.ok.0) c.query_site-site.ensures c.final_poly_len-length.ensures.value
    (taken_same g.S.Sponge.rules step_bytes _ _ _ _ c.observe_step.ensures c.sent.ensures) c.observe_pow.ensures c.observe_indices.ensures
    (taken_something g.S.Sponge.rules step_bytes _ _ c.args.self.now.config.now.numbers.final_sumcheck_rounds (bracket FinalFold) c.if-numbers-ne0.true c.observe_bracket.ensures)
