-- The phases of a schedule in turn.
use Rattle.std.specs.Prelude.{◌≡◌, ℕ, ◌+◌, ◌-◌, ◌<◌, ◌≤◌, Bool, Some, None, Option, ◌==◌, List, [], ◌∷◌, map, length, drop, zip, slice_index, slice_index_or}
use Rattle.std.specs.List.{range_with_len}
use Rattle.std.specs.Slice.Iter.{iter_rest}
use Rattle.configuration.specs.Numbers.{Numbers}
use Rattle.configuration.specs.Phases.{left, rate, rates_of, factor, queries, queries_of, round_agrees}
use Rattle.configuration.specs.declared.whir_parameters.RoundConfig.{RoundConfig}
use Rattle.configuration.specs.declared.walk.PhaseNumbers.{PhaseNumbers}
use Rattle.configuration.specs.declared.walk.Phases.{Phases}
use Rattle.configuration.specs.declared.positions.Positions.{Positions}

-- What is read of phase i.
abbrev pub phase_at : Numbers → List ℕ → ℕ → PhaseNumbers
phase_at N ks i = record { variables = left N ks i; rate = rate N i; factor = factor ks i; queries = queries N i }

-- The phases of a schedule, first to last.
abbrev pub phases : Numbers → List ℕ → List PhaseNumbers
phases N ks = map (phase_at N ks) (range_with_len 0 (length ks))

-- Each round with its phase.
abbrev pub paired : Numbers → List ℕ → List (PhaseNumbers × RoundConfig)
paired N ks = zip (phases N ks) N.rounds

-- A round agrees with its phase.
abbrev pub pair_agrees : PhaseNumbers × RoundConfig → Bool
pair_agrees (p, r) = round_agrees p.variables p.rate p.factor r

-- The rate of a round follows the fold of its phase.
abbrev pub pair_follows : PhaseNumbers × RoundConfig → Bool
pair_follows (p, r) = r.log_inv_rate == p.rate + p.factor - 1

-- The phases of factors, with the queries of the final phase, from so many variables and a rate on, and the rounds that are left.
abbrev pub phases_from : ℕ → ℕ → ℕ → List RoundConfig → List ℕ → List PhaseNumbers
phases_from q l e rs [] = []
phases_from q l e rs (k ∷ ks) =
    record { variables = l; rate = e; factor = k; queries = slice_index_or (queries_of rs) 0 q }
    ∷ phases_from q (l - k) (slice_index (rates_of rs) 0) (drop 1 rs) ks

-- The phases that are still to come.
abbrev pub phases_left : Phases → List PhaseNumbers
phases_left p = phases_from p.final_queries p.variables p.rate (iter_rest p.rounds) (iter_rest p.factors)

-- The positions of a phase: what its fold leaves of its domain, with its queries. A phase has none whose domain has more than 2 ^ 16 places.
abbrev pub PositionsOf : PhaseNumbers → Option Positions → Type 0
PositionsOf p (Some s) = (p.variables + p.rate ≤ 16) × (s.log ≡ p.variables + p.rate - p.factor) × (s.queries ≡ p.queries)
PositionsOf p None = 16 < p.variables + p.rate
