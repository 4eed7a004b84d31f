use Rattle.argument.proofs.Sound.{accepted_means_true, all_opened_never_alike, distinct_tell_apart}
use Rattle.argument.proofs.soundness_stands.Goals as goal

pub returns : goal.returns
returns g c =
    let F = g.F.Field.ops in
    let K = g.met.F.Field.lawful in
    record { shown = accepted_means_true F K; saturated = all_opened_never_alike F; apart = distinct_tell_apart F K }
