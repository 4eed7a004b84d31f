-- The factors that the code's forms of a plan stand for.
use Rattle.std.specs.Prelude.{ℕ, ◌-◌, List, ◌∷◌}
use Rattle.parameters.specs.declared.folding.ClampedFolds.{ClampedFolds}
use Rattle.parameters.specs.declared.folding.Plan.{Plan}
use Rattle.parameters.specs.declared.folding.Plan.TheVariants.{Clamped, Listed}
use Rattle.parameters.specs.Schedule.{clamped}

abbrev pub clamped_factors : ClampedFolds → List ℕ
clamped_factors c = c.first_round_factor ∷ clamped c.reduction.threshold c.factor (c.reduction.num_variables - c.first_round_factor)

abbrev pub planned_factors : Plan → List ℕ
planned_factors (Clamped c) = clamped_factors c
planned_factors (Listed ks) = ks.now
