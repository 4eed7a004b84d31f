use Rattle.std.proofs.Common.{◌+◌, ◌≤◌, ap, ◌∙◌, rules, tests}
use Rattle.std.proofs.lemmas.Iterator.{YieldsList-from_map, items_from_collect}
use Rattle.std.proofs.lemmas.Iterator.Adapters.{serves_from_places}
use Rattle.std.proofs.lemmas.Iterator.Consumers.{YieldsList-from_first}
use Rattle.configuration.specs.Numbers.{numbers_of}
use Rattle.configuration.specs.Walk.{phases, phases_left}
use Rattle.configuration.proofs.Views.{phase_there}
use Rattle.configuration_view.proofs.Sizes.{shown_from, shown_all}
use Rattle.configuration_view.proofs.view.phases_of.Goals as goal

pub collect-requires-clause-can : goal.collect-requires-clause-can
collect-requires-clause-can c =
    let N = numbers_of c.args.config.now.numbers in (
      tt,
      serves_from_places (YieldsList-from_first (λ p. p) phases_left {s = c.map.result.iter} (phases N N.stored) (ap phases_left c.map.ensures.source ∙ c.phases.ensures))
          (λ x q r. search rules)
          (λ x k h e. let small : x.variables + x.rate ≤ 16 = phase_there N c.args.config.now.checked x k h e in search rules),
    )

pub returns : goal.returns
returns c =
    let N = numbers_of c.args.config.now.numbers in
    rw (← shown_all N)
    (items_from_collect _ c.collect.ensures.ran
    (YieldsList-from_map _ shown_from
    (YieldsList-from_first (λ p. p) phases_left {s = c.map.result.iter} (phases N N.stored) (ap phases_left c.map.ensures.source ∙ c.phases.ensures))
    c.map.ensures.closure (λ x r q k. search (rules, tests))))
