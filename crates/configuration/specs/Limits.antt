-- Limits on the numbers given.
use Rattle.std.specs.Prelude.{ℕ, Bool, ◌&&◌, leb, List, [], ◌∷◌, length, nat_le}
use Rattle.std.specs.List.{list_all}
use Rattle.parameters.specs.Schedule.{Strategy, constant, second, per_round}
use Rattle.configuration.specs.Numbers.{Numbers}
use Rattle.configuration.specs.declared.whir_parameters.RoundConfig.{RoundConfig}

-- Every item of a list passes a test.
abbrev pub all_by : {X : Type 0} → (X → Bool) → List X → Bool
all_by test xs = list_all test xs

-- Each of the numbers is at most the bound.
abbrev pub at_most : ℕ → List ℕ → Bool
at_most bound xs = all_by (λ x. leb x bound) xs

-- The factors that a strategy names.
abbrev pub factors_of : Strategy → List ℕ
factors_of (constant f) = f ∷ []
factors_of (second f g) = f ∷ g ∷ []
factors_of (per_round ks) = ks

-- n is 1 to 16, the capacity at most 16; at most 16 factors are listed; the domain's name has at most 32 bytes; soundness is 0 to 2.
abbrev pub sizes_within : Numbers → Bool
sizes_within N =
    (nat_le 1 N.variables && at_most 16 (N.variables ∷ N.capacity ∷ length (factors_of N.strategy) ∷ []))
    && (nat_le (length N.id) 32 && nat_le N.soundness 2)

-- A difficulty is at most 30. The budget is no difficulty.
abbrev pub difficulties_within : Numbers → Bool
difficulties_within N = at_most 30 (N.first_difficulty ∷ N.terminal.pow_bits ∷ N.final_difficulty ∷ [])

-- Every number without a limit of its own is at most 65,535, and so are the lengths of the lists.
abbrev pub others_within : Numbers → Bool
others_within N =
    at_most 65535 (N.first_rate ∷ N.level ∷ N.budget ∷ N.commitment_samples ∷ N.terminal.num_queries ∷ N.final_rounds ∷ [])
    && at_most 65535 (length N.listed_rates ∷ length N.stored ∷ length N.rounds ∷ [])

abbrev pub lists_within : Numbers → Bool
lists_within N = at_most 65535 N.listed_rates && (at_most 65535 N.stored && at_most 65535 (factors_of N.strategy))

-- A round has at most 16 out-of-domain samples and a domain of at most 65,536.
unfoldable pub round_within : RoundConfig → Bool
round_within r =
    at_most 30 (r.pow_bits ∷ r.folding_pow_bits ∷ []) && (nat_le r.ood_samples 16 && nat_le r.domain_size 65536)
    && at_most 65535 (r.num_queries ∷ r.num_variables ∷ r.folding_factor ∷ r.log_inv_rate ∷ r.log_folded_domain_size ∷ [])

unfoldable pub within_limits : Numbers → Bool
within_limits N =
    sizes_within N && (difficulties_within N && (others_within N && (lists_within N && all_by round_within N.rounds)))
