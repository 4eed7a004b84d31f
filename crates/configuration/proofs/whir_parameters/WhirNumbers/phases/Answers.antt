use Rattle.std.proofs.Common.{◌≡◌, vec_items, ap, ◌∙◌}
use Rattle.std.specs.Slice.Iter.{iter_rest}
use Rattle.configuration.specs.Numbers.{numbers_of}
use Rattle.configuration.specs.Walk.{phases_from}
use Rattle.configuration.proofs.Walks.{phases_walked}
use Rattle.configuration.proofs.whir_parameters.WhirNumbers.phases.Goals as goal

pub returns : goal.returns
returns c =
    let w = c.args.self.now in
    let rounds : iter_rest c.iter-2.result ≡ vec_items w.round_parameters = cc in
    ap (λ ks. phases_from w.terminal.num_queries w.num_variables w.starting_log_inv_rate (iter_rest c.iter-2.result) ks) c.iter.ensures.rest
    ∙ ap (λ rs. phases_from w.terminal.num_queries w.num_variables w.starting_log_inv_rate rs c.args.schedule.now) rounds
    ∙ phases_walked (numbers_of w) c.args.schedule.now
