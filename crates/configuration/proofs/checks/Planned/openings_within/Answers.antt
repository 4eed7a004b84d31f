use Rattle.std.proofs.Common.{◌∙◌, rules, tests}
use Rattle.std.proofs.lemmas.Iterator.Consumers.{YieldsList-from_first}
use Rattle.std.proofs.lemmas.Iterator.Search.{all_from_yields_List}
use Rattle.configuration.specs.Numbers.{numbers_of}
use Rattle.configuration.specs.Phases.{openings_within}
use Rattle.configuration.specs.Walk.{phases, phases_left}
use Rattle.configuration.proofs.Walks.{opens_few, few_each}
use Rattle.configuration.proofs.Phased.{domains_of}
use Rattle.configuration.proofs.checks.Planned.openings_within.Goals as goal

pub returns : goal.returns
unfolding openings_within
returns c =
    let N = numbers_of c.args.self.now.numbers.now in
    let ks = c.args.self.now.schedule.now in
    all_from_yields_List opens_few c.all.new.self _ _ c.all.ensures.ran
    (YieldsList-from_first (λ p. p) phases_left {s = c.phases.result} (phases N ks) c.phases.ensures) (λ x b q k. search (rules, tests))
    ∙ few_each N ks (domains_of N ks c.args.self.now.limited c.requires)
