-- The elements of the samples: the numbers below 257.
use Rattle.std.specs.Prelude.{ℕ, Bool, ◌==◌}
use Rattle.field.specs.declared.residue.Residue.{Residue}
use Rattle.proof.specs.declared.Place.{Place}
use Rattle.proof.specs.declared.whir_proof.SumcheckData.{SumcheckData}

abbrev pub Element : Type 0
Element = Residue 257

-- two elements have the same number
abbrev pub same_element : Element → Element → Bool
same_element x y = x.value == y.value

-- so many items of a list, from a start on
abbrev pub place : (start count : ℕ) → Place
place start count = record { start = start; length = count }

-- the messages and witnesses of a sumcheck, as (start, count) each
abbrev pub sumcheck_places : (messages witnesses : Place) → SumcheckData
sumcheck_places messages witnesses = record { polynomial_evaluations = messages; pow_witnesses = witnesses }
