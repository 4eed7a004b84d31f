use Rattle.std.proofs.Common.{◌∙◌, rules, arith}
use Rattle.configuration.specs.Numbers.{numbers_of}
use Rattle.configuration.proofs.Walks.{follow_each}
use Rattle.configuration.proofs.checks.Planned.rates_agree.Goals as goal

pub returns-then-is_empty : goal.returns-then-is_empty
returns-then-is_empty c =
    let follow = c.rates_follow.ensures ∙ follow_each (numbers_of c.args.self.now.numbers.now) c.args.self.now.schedule.now (omega (arith, c.requires)) in
    search rules
