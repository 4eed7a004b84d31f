-- The sample readings of the definitions, all together.
use Rattle.std.specs.Prelude.{◌≡◌, [], ◌∷◌}
use Rattle.parameters.specs.Refusals.{insufficient, too_large}
use Rattle.parameters.specs.Schedule.{schedule, per_round, refused}
use Rattle.configuration.specs.Phases.{query_draws}
use Rattle.field.specs.Theorems.{SquareOfOneOne}
use Rattle.domain.specs.Readings.{Generators}
use Rattle.argument.specs.Readings as argument

pub record SampleReadings : Type 0 where
  -- at 15 variables the listed factor 8 leaves 7 variables, of which 6 may be left; and a second factor 8 is larger than those 7
  pub one_factor : schedule 6 (per_round (8 ∷ [])) 15 ≡ refused (insufficient 15 7 6)
  pub two_factors : schedule 6 (per_round (8 ∷ 8 ∷ [])) 15 ≡ refused (too_large 8 7)
  -- of 8 positions 7 queries draw 7; where there are as many queries as positions, or none, nothing is drawn
  pub some_drawn : query_draws 8 7 ≡ 7
  pub all_opened : query_draws 8 8 ≡ 0
  pub no_queries : query_draws 8 0 ≡ 0
  -- over 257, (1, 1)² = (4, 2)
  pub square : SquareOfOneOne
  -- over 257 the generators of the subgroup at log 1 and 2 are 256 and 241
  pub generators : Generators
  -- over 257, of one variable: the table (3, 5) has the value 7 at the point 2, the first message is h0 = 254 and h2 = 6, at the challenge
  -- 4 the claim is 121, the final polynomial 11 and the weight 11; of three variables under Suffix: tables folded, rows, a run that is
  -- accepted, and refused under Prefix; and the point (16, 4, 2) that 2 stands for
  pub argument : argument.Readings
