use Rattle.std.proofs.Common.{rules}
use Rattle.configuration.proofs.Rounds.{no_domain}
use Rattle.configuration.proofs.walk.PhaseNumbers.agrees.Goals as goal

pub returns-then-ne : goal.returns-then-ne
returns-then-ne c =
    no_domain c.args.self.variables c.args.self.rate c.args.self.factor c.saturating_add-log.result c.args.round.now c.power_of_two.result
    c.saturating_add-log.ensures c.power_of_two.ensures (search rules) (search rules)
