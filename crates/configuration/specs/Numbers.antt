-- The numbers of a configuration, as plain values.
use Rattle.std.specs.Prelude.{ℕ, Bool, List, vec_items}
use Rattle.parameters.specs.Schedule.{Strategy}
use Rattle.parameters.specs.Replies.{strategy_of}
use Rattle.configuration.specs.declared.whir_parameters.RoundConfig.{RoundConfig}
use Rattle.configuration.specs.declared.whir_parameters.TerminalBudget.{TerminalBudget}
use Rattle.configuration.specs.declared.whir_parameters.WhirNumbers.{WhirNumbers}

pub record Numbers : Type 0 where
  -- the variables of the table, the largest log of a domain, the domain's name and whether its queries are stratified
  pub variables : ℕ
  pub capacity : ℕ
  pub id : List ℕ
  pub strata : Bool
  -- the log of the first inverse rate, and the listed ones of the rounds
  pub first_rate : ℕ
  pub listed_rates : List ℕ
  pub strategy : Strategy
  -- the soundness kind's number, the level that was aimed at, the budget for grinding
  pub soundness : ℕ
  pub level : ℕ
  pub budget : ℕ
  -- the stored schedule, and each round's numbers
  pub stored : List ℕ
  pub rounds : List RoundConfig
  pub commitment_samples : ℕ
  -- the difficulty of the first sumcheck; queries and difficulty of the final phase; rounds and difficulty of the final sumcheck
  pub first_difficulty : ℕ
  pub terminal : TerminalBudget
  pub final_rounds : ℕ
  pub final_difficulty : ℕ

abbrev pub numbers_of : WhirNumbers → Numbers
numbers_of w = record {
  variables = w.num_variables;
  capacity = w.max_log_domain_size;
  id = vec_items w.domain_id;
  strata = w.stratified_queries;
  first_rate = w.starting_log_inv_rate;
  listed_rates = vec_items w.round_log_inv_rates;
  strategy = strategy_of w.folding_factor;
  soundness = w.soundness;
  level = w.security_level;
  budget = w.pow_budget;
  stored = vec_items w.folding_schedule;
  rounds = vec_items w.round_parameters;
  commitment_samples = w.commitment_ood_samples;
  first_difficulty = w.starting_folding_pow_bits;
  terminal = w.terminal;
  final_rounds = w.final_sumcheck_rounds;
  final_difficulty = w.final_folding_pow_bits;
}
