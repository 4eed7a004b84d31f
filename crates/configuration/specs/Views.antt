-- Numbers that follow from a configuration's.
use Rattle.std.specs.Prelude.{◌≡◌, ℕ, suc, ◌+◌, ◌-◌, ◌^◌, ◌<◌, max, cond, map, length, Some, None, Ok, Err, fold, Option, Result, nat_lt}
use Rattle.configuration.specs.declared.whir_parameters.RoundConfig.{RoundConfig}
use Rattle.configuration.specs.declared.whir_parameters.SecurityAssumption.{SecurityAssumption}
use Rattle.configuration.specs.declared.whir_parameters.SecurityAssumption.TheVariants.{UniqueDecoding, JohnsonBound, CapacityBound}
use Rattle.configuration.specs.declared.whir_parameters.UnknownSoundness.{UnknownSoundness}
use Rattle.configuration.specs.Numbers.{Numbers}
use Rattle.configuration.specs.Phases.{left, rate, factor, log_domain, log_positions_of}

-- The number of a soundness kind.
abbrev pub kind_number : SecurityAssumption → ℕ
kind_number UniqueDecoding = 0
kind_number JohnsonBound = 1
kind_number CapacityBound = 2

-- What a number names: the kind of that number, or none above 2.
abbrev pub NamesKind : ℕ → Result SecurityAssumption UnknownSoundness → Type 0
NamesKind n (Ok kind) = kind_number kind ≡ n
NamesKind n (Err e) = (2 < n) × (e.0 ≡ n)

-- How many bits the domain shrinks by in a round: what the fold and the rates leave of it.
abbrev pub reduction : Numbers → ℕ → Option ℕ
reduction N i = cond (nat_lt i (length N.rounds)) (Some (rate N i + factor N.stored i - rate N (suc i))) None

-- The harder of a round's two difficulties.
abbrev pub hardest_of : RoundConfig → ℕ
hardest_of r = max r.pow_bits r.folding_pow_bits

-- The largest difficulty of any phase.
abbrev pub hardest : Numbers → ℕ
hardest N =
    fold max (max (max N.first_difficulty N.terminal.pow_bits) N.final_difficulty) (map hardest_of N.rounds)

-- The final phase as a round: it is phase M, after M rounds, and has no out-of-domain samples.
abbrev pub final_round : Numbers → RoundConfig
final_round N = record {
  pow_bits = N.terminal.pow_bits;
  folding_pow_bits = N.final_difficulty;
  num_queries = N.terminal.num_queries;
  ood_samples = 0;
  num_variables = left N N.stored (length N.rounds + 1);
  folding_factor = factor N.stored (length N.rounds);
  log_inv_rate = rate N (length N.rounds);
  domain_size = 2 ^ log_domain N N.stored (length N.rounds);
  log_folded_domain_size = log_positions_of N N.stored (length N.rounds);
}
