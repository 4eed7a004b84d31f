use Rattle.argument.proofs.Readings.{readings}
use Rattle.argument.proofs.readings_stand.Goals as goal

pub returns : goal.returns
returns c = readings
