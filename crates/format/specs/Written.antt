-- How the lines of a configuration are written, and that reading gives the numbers back.
use Rattle.std.specs.Prelude.{◌≡◌, ℕ, suc, ◌^◌, ◌<◌, Bool, cond, List, [], ◌∷◌, ◌++◌, length, codes, decimal}
use Rattle.std.specs.List.{AllByRecursion}
use Rattle.parameters.specs.Schedule.{Strategy, constant, second, per_round}
use Rattle.configuration.specs.Numbers.{Numbers}
use Rattle.configuration.specs.Limits.{factors_of}
use Rattle.configuration.specs.declared.whir_parameters.RoundConfig.{RoundConfig}
use Rattle.format.specs.declared.keys.Key.{Key}
use Rattle.format.specs.declared.keys.Key.TheVariants as key
use Rattle.format.specs.Words.{letters}
use Rattle.format.specs.Reading.{found}
use Rattle.format.specs.Configurations.{configuration_lines}

-- A blank and a number, before what follows.
abbrev pub spaced : ℕ → List ℕ → List ℕ
spaced n more = 32 ∷ (decimal n ++ more)

-- Items one after another, each by its index.
abbrev pub all_text : {X : Type 0} → (ℕ → X → List ℕ → List ℕ) → ℕ → List X → List ℕ → List ℕ
all_text text i [] more = more
all_text text i (x ∷ xs) more = text i x (all_text text (suc i) xs more)

-- Numbers, each behind a blank.
abbrev pub spaced_all : List ℕ → List ℕ → List ℕ
spaced_all xs more = all_text (λ _ x. spaced x) 0 xs more

-- A list: its length, then its items.
abbrev pub listed : List ℕ → List ℕ → List ℕ
listed xs more = spaced (length xs) (spaced_all xs more)

-- A line: its key word, what follows it, and the line feed.
abbrev pub line_of_text : Key → (List ℕ → List ℕ) → List ℕ → List ℕ
line_of_text k part more = letters k ++ part (10 ∷ more)

abbrev pub flag_text : Bool → List ℕ → List ℕ
flag_text b more = spaced (cond b 1 0) more

abbrev pub strategy_text : Strategy → List ℕ → List ℕ
strategy_text (constant f) more = codes " constant" ++ spaced f more
strategy_text (second f g) more = codes " second" ++ spaced f (spaced g more)
strategy_text (per_round fs) more = codes " per_round" ++ listed fs more

-- The numbers of a round, in their order.
abbrev pub fields : RoundConfig → List ℕ
fields r =
    r.pow_bits ∷ r.folding_pow_bits ∷ r.num_queries ∷ r.ood_samples ∷ r.num_variables ∷ r.folding_factor ∷ r.log_inv_rate
    ∷ r.domain_size ∷ r.log_folded_domain_size ∷ []

abbrev pub round_text : ℕ → RoundConfig → List ℕ → List ℕ
round_text i r more = line_of_text key.Round (λ end. spaced i (spaced_all (fields r) end)) more

abbrev pub number_text : Key → ℕ → List ℕ → List ℕ
number_text k n more = line_of_text k (spaced n) more

-- The lines of a configuration, before what follows them.
unfoldable pub written : Numbers → List ℕ → List ℕ
written N more =
    number_text key.NumVariables N.variables
    (number_text key.Capacity N.capacity
    (line_of_text key.DomainId (listed N.id)
    (line_of_text key.Stratified (flag_text N.strata)
    (number_text key.StartingLogInvRate N.first_rate
    (line_of_text key.RoundLogInvRates (listed N.listed_rates)
    (line_of_text key.FoldingFactor (strategy_text N.strategy)
    (number_text key.Soundness N.soundness
    (number_text key.SecurityLevel N.level
    (number_text key.PowBudget N.budget
    (line_of_text key.Schedule (listed N.stored)
    (number_text key.Rounds (length N.rounds)
    (all_text round_text 0 N.rounds
    (number_text key.CommitmentOodSamples N.commitment_samples
    (number_text key.StartingFoldingPowBits N.first_difficulty
    (line_of_text key.Terminal (λ end. spaced N.terminal.num_queries (spaced N.terminal.pow_bits end))
    (number_text key.FinalSumcheckRounds N.final_rounds
    (number_text key.FinalFoldingPowBits N.final_difficulty more)))))))))))))))))

-- A number that the code can hold.
abbrev pub Held : ℕ → Type 0
Held n = n < 2 ^ 64

-- Numbers that the code can hold, as it holds those of every configuration: each below 2^64, those of the domain's name bytes.
pub record Sized (N : Numbers) : Type 0 where
  pub numbers : AllByRecursion Held (N.variables ∷ N.capacity ∷ N.first_rate ∷ N.soundness ∷ N.level ∷ N.budget ∷ N.commitment_samples ∷ N.first_difficulty
      ∷ N.terminal.num_queries ∷ N.terminal.pow_bits ∷ N.final_rounds ∷ N.final_difficulty ∷ [])
  pub lengths : AllByRecursion Held (length N.id ∷ length N.listed_rates ∷ length N.stored ∷ length N.rounds ∷ length (factors_of N.strategy) ∷ [])
  pub bytes : AllByRecursion (λ b. b < 256) N.id
  pub rates : AllByRecursion Held N.listed_rates
  pub factors : AllByRecursion Held (factors_of N.strategy)
  pub schedule : AllByRecursion Held N.stored
  pub rounds : AllByRecursion (λ r. AllByRecursion Held (fields r)) N.rounds

-- Reading what is written gives the numbers back, and leaves what follows.
abbrev pub ReadsBack : Type 0
ReadsBack = (N : Numbers) (more : List ℕ) → Sized N → configuration_lines (written N more) ≡ found N more

-- So no two configurations share a text.
abbrev pub WrittenApart : Type 0
WrittenApart = (N M : Numbers) (more : List ℕ) → Sized N → Sized M → written N more ≡ written M more → N ≡ M
