use Rattle.ring.proofs.Roots as roots
use Rattle.field.proofs.theorems.equal_or_root.Goals as goal

pub returns : goal.returns
returns g c =
    let F = g.met.F.Field.lawful in
    record { everywhere = roots.equal_or_root F.ring F.decide; same = roots.same_or_root F.ring F.decide }
