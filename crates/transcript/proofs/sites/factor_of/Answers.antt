use Rattle.std.proofs.Common.{vec_items, unwrap_or, ap, ◌∙◌}
use Rattle.configuration.specs.Numbers.{numbers_of}
use Rattle.std.proofs.lemmas.Option.{unwrap_or-slice_get}
use Rattle.transcript.proofs.Siting.{factor_small}
use Rattle.transcript.proofs.sites.factor_of.Goals as goal

pub returns : goal.returns
returns c =
    let there = c.unwrap_or.ensures ∙ ap (λ o. unwrap_or o 0) c.round_folding_factor.ensures ∙ unwrap_or-slice_get (vec_items c.args.config.now.numbers.folding_schedule) c.args.phase 0 in
    record { value = there; small = factor_small (numbers_of c.args.config.now.numbers) c.args.phase c.unwrap_or.result c.args.config.now.checked there }
