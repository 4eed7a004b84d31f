use Rattle.samples.proofs.Readings.{sample_readings}
use Rattle.samples.proofs.sample_readings.Goals as goal

pub returns : goal.returns
returns c = sample_readings
