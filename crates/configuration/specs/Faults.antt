-- How the code's answers are read.
use Rattle.std.specs.Prelude.{◌≡◌, ℕ, true, List, Some, None, Ok, Err, Option, Result}
use Rattle.parameters.specs.Refusals.{Refusal}
use Rattle.parameters.specs.Replies.{told}
use Rattle.parameters.specs.Schedule.{schedule, planned}
use Rattle.parameters.specs.declared.errors.ScheduleError.{ScheduleError}
use Rattle.parameters.specs.declared.errors.ScheduleError.TheVariants as plan
use Rattle.configuration.specs.declared.errors.WhirConfigError.{WhirConfigError}
use Rattle.configuration.specs.declared.errors.WhirConfigError.TheVariants.{Limit, Folding, Inconsistent, OutOfMemory}
use Rattle.configuration.specs.declared.whir_parameters.WhirNumbers.{WhirNumbers}
use Rattle.configuration.specs.declared.whir.WhirConfig.{WhirConfig}
use Rattle.configuration.specs.Numbers.{Numbers}
use Rattle.configuration.specs.Limits.{within_limits}
use Rattle.configuration.specs.Verdicts.{fault, limit, inconsistent}

-- A fault of the schedule goes up whole.
abbrev pub of_schedule : ScheduleError → WhirConfigError
of_schedule (plan.Folding e) = Folding e
of_schedule plan.OutOfMemory = OutOfMemory

-- An answer to numbers that are to make a configuration: a verdict, with the fault if there is one; or that memory ran out.
pub data Reply : Type 0 where
  verdict : Option Refusal → Reply
  no_memory : Reply

abbrev pub said : Result WhirConfig WhirConfigError → Reply
said (Ok c) = verdict None
said (Err Limit) = verdict (Some limit)
said (Err (Folding e)) = verdict (Some (told e))
said (Err Inconsistent) = verdict (Some inconsistent)
said (Err OutOfMemory) = no_memory

-- The answer is the first fault, or that there is none. Memory is wanted only for the schedule of numbers within their limits.
abbrev pub Answers : Reply → Numbers → Type 0
Answers (verdict f) N = f ≡ fault N
Answers no_memory N = (within_limits N ≡ true) × (ks : List ℕ) × (schedule 6 N.strategy N.variables ≡ planned ks)

-- A configuration that is made has the numbers that were given.
abbrev pub Keeps : WhirNumbers → Result WhirConfig WhirConfigError → Type 0
Keeps w (Ok c) = c.numbers ≡ w
Keeps w (Err e) = Unit {0}

-- The checks of the phases: consistency, then the limits on factors and rows.
abbrev pub Tells : Result Unit WhirConfigError → Option Refusal → Type 0
Tells (Ok u) f = f ≡ None
Tells (Err Limit) f = f ≡ Some limit
Tells (Err (Folding e)) f = ⊥
Tells (Err Inconsistent) f = f ≡ Some inconsistent
Tells (Err OutOfMemory) f = ⊥
