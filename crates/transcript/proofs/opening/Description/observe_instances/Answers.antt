use Rattle.std.proofs.Common.{◌^◌, ◌<◌, ap, ◌∙◌, arith}
use Rattle.configuration.specs.Numbers.{numbers_of}
use Rattle.transcript.proofs.Siting.{shifted, id_short}
use Rattle.transcript.proofs.Describing.{instances_taken}
use Rattle.transcript.proofs.opening.Description.observe_instances.Goals as goal

pub observe_domain-requires : goal.observe_domain-requires
observe_domain-requires g c = id_short (numbers_of c.args.self.now.config.now.numbers) c.as_slice.result.now c.args.self.now.config.now.checked c.as_slice.ensures.value

pub returns : goal.returns
returns g c =
    let small : c.factor_of-factor.result < 64 = omega (arith, c.factor_of-factor.ensures.small) in
    instances_taken g.S.Sponge.rules _ _ _ _ _ _ (numbers_of c.args.self.now.config.now.numbers) c.args.self.now.num_opening_claims _ c.factor_of-factor.result c.len.result c.as_slice.result.now
    (shifted c.factor_of-factor.result small ∙ ap (λ k. 2 ^ k) c.factor_of-factor.ensures.value) c.factor_of-factor.ensures.value
    (c.len.ensures ∙ c.args.self.now.config.now.numbers.round_parameters.ok.0) c.as_slice.ensures.value
    c.observe_numbers.ensures c.observe_domain.ensures c.observe_strategy.ensures c.observe_numbers-2.ensures c.observe_round_numbers.ensures
