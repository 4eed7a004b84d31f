-- What is shown of a configuration: its phases and the buffers that a verification needs.
use Rattle.std.specs.Prelude.{◌≡◌, ℕ, ◌+◌, ◌-◌, ◌*◌, ◌^◌, max, List, map, length, vec_items, fold, sum_by}
use Rattle.std.specs.List.{range_with_len}
use Rattle.configuration.specs.declared.whir_parameters.RoundConfig.{RoundConfig}
use Rattle.configuration.specs.Numbers.{Numbers}
use Rattle.configuration.specs.Phases.{left, rate, factor, queries, query_draws, rows_at}
use Rattle.configuration_view.specs.declared.phases.Phase.{Phase}
use Rattle.configuration_view.specs.declared.phases.Buffers.{Buffers}
use Rattle.configuration_view.specs.declared.phases.View.{View}

-- A phase by its variables, rate, factor and queries.
abbrev pub phase_from : ℕ → ℕ → ℕ → ℕ → Phase
phase_from l e k q = record {
  variables = l;
  rate = e;
  log_positions = l + e - k;
  rows = rows_at (l + e - k) q;
  draws = query_draws (2 ^ (l + e - k)) q;
}

-- Phase i of a schedule: its log of positions, rows and draws are those of the configuration's phase i.
abbrev pub phase_of : Numbers → List ℕ → ℕ → Phase
phase_of N ks i = phase_from (left N ks i) (rate N i) (factor ks i) (queries N i)

abbrev pub phases_of : Numbers → List Phase
phases_of N = map (phase_of N N.stored) (range_with_len 0 (length N.stored))

-- The rows of all phases.
abbrev pub rows_in : List Phase → ℕ
rows_in ps = sum_by (λ (p : Phase). p.rows) ps

-- The out-of-domain samples of all rounds.
abbrev pub samples_of : List RoundConfig → ℕ
samples_of rs = sum_by (λ (r : RoundConfig). r.ood_samples) rs

-- A challenge for each variable; two values; a row of the widest phase; a note for each sample and two for each round; all rows.
abbrev pub buffers_of : Numbers → Buffers
buffers_of N = record {
  point = N.variables;
  pair = 2;
  fold = 2 ^ fold max 0 N.stored;
  notes = samples_of N.rounds + 2 * length N.rounds;
  positions = rows_in (phases_of N);
}

pub record Shows (N : Numbers) (v : View) : Type 0 where
  pub phases_so : vec_items v.phases ≡ phases_of N
  pub buffers_so : v.buffers ≡ buffers_of N
