-- Whether numbers make a configuration: the first check that fails, in order.
use Rattle.std.specs.Prelude.{◌≡◌, ℕ, suc, ◌+◌, ◌<◌, ◌≤◌, Bool, true, cond, not, List, [], length, is_some, Some, None, sum, Option}
use Rattle.parameters.specs.Refusals.{Refusal, refusal}
use Rattle.parameters.specs.Schedule.{schedule, Verdict, planned, refused}
use Rattle.configuration.specs.Numbers.{Numbers}
use Rattle.configuration.specs.Limits.{within_limits}
use Rattle.configuration.specs.Phases.{consistent, openings_within, left, rate, factor, log_domain, log_positions_of, rows}

-- 1 Limit
abbrev pub limit : Refusal
limit = refusal 1 []

-- 3 Inconsistent
abbrev pub inconsistent : Refusal
inconsistent = refusal 3 []

-- Consistency, and then the limits on factors and rows.
abbrev pub fault_of_phases : Numbers → List ℕ → Option Refusal
fault_of_phases N ks =
    cond (consistent N ks) (cond (openings_within N ks) None (Some limit)) (Some inconsistent)

abbrev pub fault_of_plan : Numbers → Verdict → Option Refusal
fault_of_plan N (planned ks) = fault_of_phases N ks
fault_of_plan N (refused e) = Some e

-- The first fault of the numbers: their limits, the strategy at n variables, consistency, the limits on factors and rows.
unfoldable pub fault : Numbers → Option Refusal
fault N = cond (within_limits N) (fault_of_plan N (schedule 6 N.strategy N.variables)) (Some limit)

-- No check fails.
abbrev pub flawless : Numbers → Bool
flawless N = not (is_some (fault N))

-- Numbers without a fault, with their schedule.
pub record Checked (N : Numbers) (ks : List ℕ) : Type 0 where
  pub limited : within_limits N ≡ true
  pub planned_so : schedule 6 N.strategy N.variables ≡ planned ks
  pub consistently : consistent N ks ≡ true
  pub opening_few : openings_within N ks ≡ true

-- What holds of the phases of a checked configuration, in plain words: the variables before the first phase are all of them, and each
-- phase takes its factor away, which is 1 to 10; the stored schedule is the one worked out, with a round for each phase but the last;
-- every domain fits the capacity, which is at most 16; a phase has at least as many positions as a table of the variables after it has
-- values, and opens between 1 and 1,024 rows; the last variables are those of the final sumcheck.
pub record Phased (N : Numbers) (ks : List ℕ) : Type 0 where
  pub stored_so : N.stored ≡ ks
  pub rounds_so : length N.rounds + 1 ≡ length ks
  pub folds_within : sum ks ≤ N.variables
  pub first_left : left N ks 0 ≡ N.variables
  pub next_left : (i : ℕ) → i < length ks → left N ks (suc i) + factor ks i ≡ left N ks i
  pub factors : (i : ℕ) → i < length ks → (1 ≤ factor ks i) × (factor ks i ≤ 10)
  pub fits : (i : ℕ) → i < length ks → log_domain N ks i ≤ N.capacity
  pub capacity_small : N.capacity ≤ 16
  pub enough_positions : (i : ℕ) → i < length ks → left N ks (suc i) + rate N i ≡ log_positions_of N ks i
  pub rows_some : (i : ℕ) → i < length ks → (1 ≤ rows N ks i) × (rows N ks i ≤ 1024)
  pub last_left : N.final_rounds ≡ left N ks (length ks)

abbrev pub ConfigurationsPhased : Type 0
ConfigurationsPhased = (N : Numbers) → fault N ≡ None → (ks : List ℕ) × Checked N ks × Phased N ks
