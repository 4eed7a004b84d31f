use Rattle.std.proofs.Common.{rules, tests}
use Rattle.std.proofs.lemmas.Iterator.Search.{all_from_yields_List}
use Rattle.configuration.specs.Numbers.{numbers_of}
use Rattle.configuration.specs.Walk.{pair_agrees}
use Rattle.configuration.proofs.Walks.{YieldsList-from_paired}
use Rattle.configuration.proofs.checks.Planned.rounds_agree.Goals as goal

pub returns : goal.returns
returns c =
    all_from_yields_List pair_agrees c.all.new.self _ _ c.all.ensures.ran
    (YieldsList-from_paired (numbers_of c.args.self.now.numbers.now) c.args.self.now.schedule.now c.paired.ensures.phases c.paired.ensures.rounds)
    (λ x b q k. search (rules, tests))
