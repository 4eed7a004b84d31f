-- The sample readings, by computing.
use Rattle.std.specs.Prelude.{refl}
use Rattle.field.specs.ResiduesLemmas.{residue_path}
use Rattle.field.specs.Pairs.{pair_path}
use Rattle.parameters.specs.Schedule.{first, clamped}
use Rattle.multilinear.specs.Univariate.{pow}
use Rattle.argument.proofs.Readings.{readings}
use Rattle.samples.specs.Readings.{SampleReadings}

pub sample_readings : SampleReadings
unfolding first clamped pow
sample_readings = record {
  one_factor = refl;
  two_factors = refl;
  some_drawn = refl;
  all_opened = refl;
  no_queries = refl;
  square = pair_path (residue_path refl) (residue_path refl);
  generators = record { at_one = residue_path refl; at_two = residue_path refl };
  argument = readings;
}
