use Rattle.argument.proofs.Steps as D
use Rattle.argument.proofs.Weights as W
use Rattle.argument.proofs.sumcheck_stands.Goals as goal

pub returns : goal.returns
returns g c =
    let F = g.F.Field.ops in
    let K = g.met.F.Field.lawful in
    record {
      binds = D.steps_sound F K;
      leads = D.steps_complete F K;
      claims = record { binds = W.batch_sound F K; leads = W.batch_complete F K };
      round = record { binds = W.round_sound F K; leads = W.round_complete F K };
      lawful = record { point_extends = W.at_point_extends F K; point_says = W.worth_at_point F K; position_extends = W.at_position_extends F K; position_says = W.worth_at_position F K };
    }
