-- How the variables of a table are folded, phase by phase, until so few are left that the rest is sent in the clear.
use Rattle.std.specs.Prelude.{◌≡◌, ℕ, zero, suc, ◌-◌, ◌*◌, ◌<◌, ◌≤◌, min, Bool, cond, ◌||◌, leb, List, [], ◌∷◌, map, length, take, sum, ◌==◌, nat_le, nat_lt}
use Rattle.std.specs.List.{range_with_len, AllByRecursion}
use Rattle.parameters.specs.Refusals.{Refusal, too_large, zero_factor, insufficient, empty_schedule}

-- A strategy: one factor for every phase; one for the first phase and one for the others; or a factor listed for each phase.
pub data Strategy : Type 0 where
  constant : ℕ → Strategy
  second : ℕ → ℕ → Strategy
  per_round : List ℕ → Strategy

-- What a strategy comes to: the factors, phase by phase, or the fault that is found first.
pub data Verdict : Type 0 where
  planned : List ℕ → Verdict
  refused : Refusal → Verdict

-- The first number below the bound that passes the test; the bound where none does.
unfoldable pub first : ℕ → (ℕ → Bool) → ℕ
first zero test = 0
first (suc bound) test = cond (test 0) 0 (suc (first bound (λ j. test (suc j))))

-- Folding `left` variables by a factor, again and again, leaves left - j * factor of them after j folds: the last fold
-- takes no more than there is. The number of folds is the first at which no more than the threshold is left.
abbrev pub folds : ℕ → ℕ → ℕ → ℕ
folds threshold factor left = first left (λ j. leb (left - j * factor) threshold)

-- Those folds: each by the factor, or by what is left.
unfoldable pub clamped : ℕ → ℕ → ℕ → List ℕ
clamped threshold factor left = map (λ j. min factor (left - j * factor)) (range_with_len 0 (folds threshold factor left))

-- A first fold by one factor, exactly, then clamped folds by another: at least one fold in all.
abbrev pub by_factors : ℕ → ℕ → ℕ → ℕ → Verdict
by_factors threshold f g n =
    cond (f == 0 || g == 0) (refused zero_factor)
    (cond (nat_lt n f) (refused (too_large f n)) (planned (f ∷ clamped threshold g (n - f))))

-- A fold before the others of a plan.
abbrev pub before : ℕ → Verdict → Verdict
before k (planned ks) = planned (k ∷ ks)
before k (refused e) = refused e

-- Listed factors are folded exactly, in their order, until no more than the threshold is left; factors after that are not looked at.
abbrev pub walk : ℕ → ℕ → ℕ → List ℕ → Verdict
walk threshold n left [] = refused (insufficient n left threshold)
walk threshold n left (k ∷ ks) =
    cond (nat_lt left k) (refused (too_large k left))
    (cond (nat_le (left - k) threshold) (planned (k ∷ [])) (before k (walk threshold n (left - k) ks)))

-- Every listed factor is looked at first: none may be 0 or larger than the number of variables at the start.
abbrev pub unless_faulty : ℕ → List ℕ → Verdict → Verdict
unless_faulty n [] v = v
unless_faulty n (k ∷ ks) v =
    cond (k == 0) (refused zero_factor) (cond (nat_lt n k) (refused (too_large k n)) (unless_faulty n ks v))

-- A list without a factor is no schedule.
abbrev pub listed : ℕ → List ℕ → ℕ → Verdict
listed threshold [] n = refused empty_schedule
listed threshold (k ∷ ks) n = unless_faulty n (k ∷ ks) (walk threshold n n (k ∷ ks))

-- The schedule of a strategy at n variables. A constant strategy is one whose first factor is the same as the others.
abbrev pub schedule : ℕ → Strategy → ℕ → Verdict
schedule threshold (constant f) n = by_factors threshold f f n
schedule threshold (second f g) n = by_factors threshold f g n
schedule threshold (per_round ks) n = listed threshold ks n

-- The law of a schedule: there is a factor; each folds at least one variable; together they fold no more than there are and leave
-- no more than the threshold; and before the last factor, unless it is the first, more than the threshold was left.
pub record Lawful (threshold n : ℕ) (ks : List ℕ) : Type 0 where
  pub some : 0 < length ks
  pub folding : AllByRecursion (λ k. 1 ≤ k) ks
  pub within : sum ks ≤ n
  pub enough : n - sum ks ≤ threshold
  pub needed : (j : ℕ) → 0 < j → j < length ks → threshold < n - sum (take j ks)

abbrev pub SchedulesLawful : Type 0
SchedulesLawful = (threshold n : ℕ) (s : Strategy) (ks : List ℕ) → schedule threshold s n ≡ planned ks → Lawful threshold n ks

-- Schedules of 15 variables, worked out.
abbrev pub SampleSchedules : Type 0
SampleSchedules =
    (schedule 6 (per_round (8 ∷ [])) 15 ≡ refused (insufficient 15 7 6))
    × (schedule 6 (per_round (8 ∷ 8 ∷ [])) 15 ≡ refused (too_large 8 7))
    × (schedule 6 (constant 8) 15 ≡ planned (8 ∷ 7 ∷ []))
    × (schedule 6 (constant 4) 15 ≡ planned (4 ∷ 4 ∷ 4 ∷ []))
