-- The owned lists of a shape, a pattern and a separator, as the numbers and lists that the definitions speak of.
use Rattle.std.specs.Prelude.{◌≡◌, ℕ, List, ◌++◌, map, vec_items, unwrap_or}
use Rattle.transcript.specs.Instances.{instance_bytes}
use Rattle.parameters.specs.Replies.{strategy_of}
use Rattle.configuration.specs.Views.{kind_number}
use Rattle.transcript.specs.Steps.{Step, step_of}
use Rattle.transcript.specs.Shape.{Sumcheck, RoundShape, Shape}
use Rattle.transcript.specs.Written.{written}
use Rattle.transcript.specs.declared.interaction.Interaction.{Interaction}
use Rattle.transcript.specs.declared.piece.Piece.{Piece}
use Rattle.transcript.specs.declared.shape.SumcheckShape.{SumcheckShape}
use Rattle.transcript.specs.declared.shape.WhirRoundShape.{WhirRoundShape}
use Rattle.transcript.specs.declared.shape.WhirShape.{WhirShape}

abbrev pub sumcheck_of : SumcheckShape → Sumcheck
sumcheck_of s = record { turns = s.rounds; difficulty = s.pow_bits }

-- Draws count as 0 where every position opens.
abbrev pub round_of : WhirRoundShape → RoundShape
round_of r = record {
  samples = r.ood_samples;
  difficulty = r.query_pow_bits;
  drawing = unwrap_or r.query_draws 0;
  width = r.index_bits;
  strata = vec_items r.query_summand_depths;
  stratified = r.stratified_queries;
  sumcheck = sumcheck_of r.sumcheck;
  log_rate = r.log_inv_rate;
}

abbrev pub shape_of : WhirShape → Shape
shape_of s = record {
  variables = s.num_variables;
  commitment_samples = s.commitment_ood_samples;
  claims = s.num_opening_claims;
  row_width = s.commitment_row_width;
  initial = sumcheck_of s.initial_sumcheck;
  rounds = map round_of (vec_items s.rounds);
  final_count = s.final_poly_len;
  final_difficulty = s.final_pow_bits;
  final_drawing = unwrap_or s.final_query_draws 0;
  final_width = s.final_index_bits;
  final_strata = vec_items s.final_query_summand_depths;
  stratified = s.stratified_queries;
  final = sumcheck_of s.final_sumcheck;
  level = s.security_level;
  budget = s.pow_budget;
  first_rate = s.starting_log_inv_rate;
  soundness = kind_number s.soundness_type;
  strategy = strategy_of s.folding_factor;
  id = vec_items s.domain_id;
}

-- Steps were added behind those that were there.
abbrev pub Adds : List Interaction → List Interaction → List Step → Type 0
Adds before after steps = map step_of after ≡ map step_of before ++ steps

-- A piece as the bytes that are observed.
abbrev pub piece_bytes : Piece → List ℕ
piece_bytes p = written p

-- Instances were added, a piece each, behind the pieces that were there.
abbrev pub Binds : List Piece → List Piece → List (List ℕ) → Type 0
Binds before after labels = map piece_bytes after ≡ map piece_bytes before ++ map instance_bytes labels
