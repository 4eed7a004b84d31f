use Rattle.parameters.proofs.Laws.{schedules_lawful}
use Rattle.parameters.specs.Replies.{strategy_of}
use Rattle.parameters.proofs.folding.FoldingFactor.compute_folding_schedule.Goals as goal

pub returns-clause-lawful : goal.returns-clause-lawful
returns-clause-lawful c = schedules_lawful 6 c.args.num_variables (strategy_of c.args.self.now) _ (let p = c.in_ok-plan.ensures in let q = c.in_ok-schedule.ensures in cc)
