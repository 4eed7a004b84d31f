use Rattle.field.specs.Towers.{towers}
use Rattle.field.proofs.theorems.towers_stand.Goals as goal

pub returns : goal.returns
returns g c = towers g.met.F.Field.lawful
