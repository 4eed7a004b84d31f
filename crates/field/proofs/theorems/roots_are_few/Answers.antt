use Rattle.ring.proofs.Roots.{few_roots}
use Rattle.field.proofs.theorems.roots_are_few.Goals as goal

pub returns : goal.returns
returns g c = let F = g.met.F.Field.lawful in few_roots F.ring F.no_divisors
