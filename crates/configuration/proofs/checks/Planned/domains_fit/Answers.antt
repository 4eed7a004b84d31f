use Rattle.std.proofs.Common.{◌+◌, leb, length, ◌∙◌, rules, tests}
use Rattle.std.proofs.lemmas.Iterator.Consumers.{YieldsList-from_first}
use Rattle.std.proofs.lemmas.Iterator.Search.{all_from_yields_List}
use Rattle.configuration.specs.declared.walk.PhaseNumbers.{PhaseNumbers}
use Rattle.configuration.specs.Numbers.{numbers_of}
use Rattle.configuration.specs.Walk.{phase_at, phases, phases_left}
use Rattle.configuration.proofs.Walks.{list_all-every}
use Rattle.configuration.proofs.checks.Planned.domains_fit.Goals as goal

pub returns : goal.returns
returns c =
    let N = numbers_of c.args.self.now.numbers.now in
    let ks = c.args.self.now.schedule.now in
    all_from_yields_List (λ (p : PhaseNumbers). leb (p.variables + p.rate) N.capacity) c.all.new.self _ _ c.all.ensures.ran
    (YieldsList-from_first (λ p. p) phases_left {s = c.phases.result} (phases N ks) c.phases.ensures) (λ x b q k. search (rules, tests))
    ∙ list_all-every (λ (p : PhaseNumbers). leb (p.variables + p.rate) N.capacity) (phase_at N ks) (length ks)
