-- The numbers that fix the transcript of a run.
use Rattle.std.specs.Prelude.{ℕ, suc, ◌^◌, Bool, List, map, length, slice_index_or}
use Rattle.parameters.specs.Schedule.{Strategy}
use Rattle.sponge.specs.Play.{counted}
use Rattle.configuration.specs.declared.whir_parameters.RoundConfig.{RoundConfig}
use Rattle.configuration.specs.Numbers.{Numbers}
use Rattle.configuration.specs.Phases.{factor, rate, log_positions_of, draws, round_at}
use Rattle.transcript.specs.Depths.{depths}

-- A sumcheck: its rounds, and the difficulty of each round's grinding.
pub record Sumcheck : Type 0 where
  pub turns : ℕ
  pub difficulty : ℕ

-- A round: out-of-domain samples, the difficulty before its queries, the indices drawn, their width, the draws by powers of two,
-- whether they are stratified, the sumcheck that ends it, and the log of the inverse rate of what it commits to.
pub record RoundShape : Type 0 where
  pub samples : ℕ
  pub difficulty : ℕ
  pub drawing : ℕ
  pub width : ℕ
  pub strata : List ℕ
  pub stratified : Bool
  pub sumcheck : Sumcheck
  pub log_rate : ℕ

pub record Shape : Type 0 where
  pub variables : ℕ
  pub commitment_samples : ℕ
  pub claims : ℕ
  pub row_width : ℕ
  pub initial : Sumcheck
  pub rounds : List RoundShape
  pub final_count : ℕ
  pub final_difficulty : ℕ
  pub final_drawing : ℕ
  pub final_width : ℕ
  pub final_strata : List ℕ
  pub stratified : Bool
  pub final : Sumcheck
  pub level : ℕ
  pub budget : ℕ
  pub first_rate : ℕ
  pub soundness : ℕ
  pub strategy : Strategy
  pub id : List ℕ

-- The difficulty before the queries of phase i: that of round i, and of the final phase.
abbrev pub difficulty : Numbers → ℕ → ℕ
difficulty N i = slice_index_or (map (λ (r : RoundConfig). r.pow_bits) N.rounds) i N.terminal.pow_bits

-- The final phase comes after the rounds.
abbrev pub last_phase : Numbers → ℕ
last_phase N = length N.rounds

abbrev pub round_shape : Numbers → ℕ → RoundShape
round_shape N i = record {
  samples = (round_at N i).ood_samples;
  difficulty = difficulty N i;
  drawing = draws N N.stored i;
  width = log_positions_of N N.stored i;
  strata = depths (draws N N.stored i);
  stratified = N.strata;
  sumcheck = record { turns = factor N.stored (suc i); difficulty = (round_at N i).folding_pow_bits };
  log_rate = rate N (suc i);
}

-- The shape of a run: of a checked configuration's numbers, and the number of opening claims.
abbrev pub shape : Numbers → ℕ → Shape
shape N claims = record {
  variables = N.variables;
  commitment_samples = N.commitment_samples;
  claims = claims;
  row_width = 2 ^ factor N.stored 0;
  initial = record { turns = factor N.stored 0; difficulty = N.first_difficulty };
  rounds = map (round_shape N) (counted 0 (last_phase N));
  final_count = 2 ^ N.final_rounds;
  final_difficulty = difficulty N (last_phase N);
  final_drawing = draws N N.stored (last_phase N);
  final_width = log_positions_of N N.stored (last_phase N);
  final_strata = depths (draws N N.stored (last_phase N));
  stratified = N.strata;
  final = record { turns = N.final_rounds; difficulty = N.final_difficulty };
  level = N.level;
  budget = N.budget;
  first_rate = N.first_rate;
  soundness = N.soundness;
  strategy = N.strategy;
  id = N.id;
}
