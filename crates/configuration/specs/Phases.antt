-- The phases of a run: what is left before each, its rate, its positions, and when the numbers belong together.
use Rattle.std.specs.Prelude.{ℕ, zero, suc, ◌+◌, ◌-◌, ◌^◌, Bool, true, cond, ◌&&◌, ◌||◌, List, map, length, take, sum, ◌==◌, nat_le, slice_index, slice_index_or, Some, None, Option}
use Rattle.std.specs.Cmp.Lexicographic.{pointwise}
use Rattle.configuration.specs.Numbers.{Numbers}
use Rattle.configuration.specs.declared.whir_parameters.RoundConfig.{RoundConfig}

-- Every number below the bound passes a test.
unfoldable pub every : ℕ → (ℕ → Bool) → Bool
every zero test = true
every (suc n) test = every n test && test n

-- The same numbers in the same order.
abbrev pub same : List ℕ → List ℕ → Bool
same xs ys = pointwise (λ x y. x == y) xs ys

-- Phase i folds by factor i of the schedule ks.
abbrev pub factor : List ℕ → ℕ → ℕ
factor ks i = slice_index ks i

-- Variables left before phase i: n_0 = n, and each phase takes its factor away.
abbrev pub left : Numbers → List ℕ → ℕ → ℕ
left N ks i = N.variables - sum (take i ks)

-- Log of the inverse rate before phase i: e_0 is the starting one, e_(i+1) that of round i.
abbrev pub rates_of : List RoundConfig → List ℕ
rates_of rs = map (λ (r : RoundConfig). r.log_inv_rate) rs

abbrev pub rates : Numbers → List ℕ
rates N = rates_of N.rounds

abbrev pub rate : Numbers → ℕ → ℕ
rate N zero = N.first_rate
rate N (suc i) = slice_index (rates N) i

-- Log of the domain's size before phase i.
abbrev pub log_domain : Numbers → List ℕ → ℕ → ℕ
log_domain N ks i = left N ks i + rate N i

-- Log of the number of positions of phase i.
abbrev pub log_positions_of : Numbers → List ℕ → ℕ → ℕ
log_positions_of N ks i = log_domain N ks i - factor ks i

-- The round with the numbers 0.
abbrev pub no_round : RoundConfig
no_round = record {
  pow_bits = 0;
  folding_pow_bits = 0;
  num_queries = 0;
  ood_samples = 0;
  num_variables = 0;
  folding_factor = 0;
  log_inv_rate = 0;
  domain_size = 0;
  log_folded_domain_size = 0;
}

abbrev pub round_at : Numbers → ℕ → RoundConfig
round_at N i = slice_index_or N.rounds i no_round

-- The numbers of a round are those of its phase: the variables after it, the factor, the domain before the fold and the positions;
-- and the domain does not grow.
unfoldable pub round_agrees : ℕ → ℕ → ℕ → RoundConfig → Bool
round_agrees l e k r =
    (r.num_variables == l - k && r.folding_factor == k)
    && (r.domain_size == 2 ^ (l + e) && (r.log_folded_domain_size == l + e - k && nat_le r.log_inv_rate (e + k)))

-- The domain before phase i fits the capacity.
abbrev pub domain_fits : Numbers → List ℕ → ℕ → Bool
domain_fits N ks i = nat_le (log_domain N ks i) N.capacity

-- Round i agrees with phase i.
abbrev pub phase_agrees : Numbers → List ℕ → ℕ → Bool
phase_agrees N ks i = round_agrees (left N ks i) (rate N i) (factor ks i) (round_at N i)

-- The rate of round i follows its fold: one less than the domain allows.
abbrev pub rate_follows : Numbers → List ℕ → ℕ → Bool
rate_follows N ks i = rate N (suc i) == rate N i + factor ks i - 1

-- Listed rates are those of the rounds. An empty list stands for rates that follow the folds.
abbrev pub rates_agree : Numbers → List ℕ → Bool
rates_agree N ks =
    same N.listed_rates (rates N) || (length N.listed_rates == 0 && every (length N.rounds) (rate_follows N ks))

-- The numbers belong together: the stored schedule is the one worked out; there is a round for each phase but the last; every domain
-- fits the capacity; each round agrees with its phase; the final sumcheck has a round for each variable left; the rates agree.
unfoldable pub consistent : Numbers → List ℕ → Bool
consistent N ks =
    same N.stored ks
    && (length N.rounds + 1 == length ks
    && (every (length ks) (domain_fits N ks)
    && (every (length N.rounds) (phase_agrees N ks) && (N.final_rounds == left N ks (length ks) && rates_agree N ks))))

-- Positions that are drawn: as many as there are queries, and none where that many positions are all there are.
abbrev pub query_draws : ℕ → ℕ → ℕ
query_draws positions queries = cond (nat_le positions queries) 0 queries

-- Draws where there are any. Where nothing is drawn, every position opens.
abbrev pub drawn : ℕ → Option ℕ
drawn draws = cond (draws == 0) None (Some draws)

-- Queries of the rounds, in turn.
abbrev pub queries_of : List RoundConfig → List ℕ
queries_of rs = map (λ (r : RoundConfig). r.num_queries) rs

-- Queries of phase i: those of round i, and past the rounds those of the final phase.
abbrev pub queries : Numbers → ℕ → ℕ
queries N i = slice_index_or (queries_of N.rounds) i N.terminal.num_queries

-- Draws of phase i.
abbrev pub draws : Numbers → List ℕ → ℕ → ℕ
draws N ks i = query_draws (2 ^ log_positions_of N ks i) (queries N i)

-- Rows that are opened: those drawn, and every one where nothing is drawn.
abbrev pub rows_opened : ℕ → ℕ → ℕ
rows_opened positions draws = cond (draws == 0) positions draws

-- Rows that so many queries open among 2 ^ log positions.
abbrev pub rows_at : ℕ → ℕ → ℕ
rows_at log q = rows_opened (2 ^ log) (query_draws (2 ^ log) q)

-- Rows that phase i opens.
abbrev pub rows : Numbers → List ℕ → ℕ → ℕ
rows N ks i = rows_at (log_positions_of N ks i) (queries N i)

-- Phase i folds at most 10 variables and opens at most 1,024 rows.
abbrev pub opening_within : Numbers → List ℕ → ℕ → Bool
opening_within N ks i = nat_le (factor ks i) 10 && nat_le (rows N ks i) 1024

unfoldable pub openings_within : Numbers → List ℕ → Bool
openings_within N ks = every (length ks) (opening_within N ks)
