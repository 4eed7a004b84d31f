-- The lines of a configuration, in their order.
use Rattle.std.specs.Prelude.{List, ℕ}
use Rattle.configuration.specs.Numbers.{Numbers}
use Rattle.format.specs.declared.keys.Key.TheVariants as key
use Rattle.format.specs.Reading.{Read, found, then, next_number, list}
use Rattle.format.specs.Lines.{line, byte_list, flag, strategy, rounds, terminal_of}

-- A configuration: its lines from that of the variables to that of the last difficulty.
unfoldable pub configuration_lines : List ℕ → Read Numbers
configuration_lines bs =
    then (line key.NumVariables next_number bs)
    (λ variables b1. then (line key.Capacity next_number b1)
    (λ capacity b2. then (line key.DomainId byte_list b2)
    (λ id b3. then (line key.Stratified flag b3)
    (λ strata b4. then (line key.StartingLogInvRate next_number b4)
    (λ first_rate b5. then (line key.RoundLogInvRates list b5)
    (λ listed_rates b6. then (line key.FoldingFactor strategy b6)
    (λ folding b7. then (line key.Soundness next_number b7)
    (λ soundness b8. then (line key.SecurityLevel next_number b8)
    (λ level b9. then (line key.PowBudget next_number b9)
    (λ budget b10. then (line key.Schedule list b10)
    (λ stored b11. then (rounds b11)
    (λ lines b12. then (line key.CommitmentOodSamples next_number b12)
    (λ commitment_samples b13. then (line key.StartingFoldingPowBits next_number b13)
    (λ first_difficulty b14. then (line key.Terminal terminal_of b14)
    (λ terminal b15. then (line key.FinalSumcheckRounds next_number b15)
    (λ final_rounds b16. then (line key.FinalFoldingPowBits next_number b16)
    (λ final_difficulty rest. found (record {
      variables = variables;
      capacity = capacity;
      id = id;
      strata = strata;
      first_rate = first_rate;
      listed_rates = listed_rates;
      strategy = folding;
      soundness = soundness;
      level = level;
      budget = budget;
      stored = stored;
      rounds = lines;
      commitment_samples = commitment_samples;
      first_difficulty = first_difficulty;
      terminal = terminal;
      final_rounds = final_rounds;
      final_difficulty = final_difficulty;
    }) rest)))))))))))))))))
