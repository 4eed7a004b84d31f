-- The key words as they are written.
use Rattle.std.specs.Prelude.{ℕ, List, codes}
use Rattle.format.specs.declared.keys.Key.{Key}
use Rattle.format.specs.declared.keys.Key.TheVariants.{Degree, NumVariables, Capacity, DomainId, Stratified, StartingLogInvRate, RoundLogInvRates, FoldingFactor, Soundness, SecurityLevel, PowBudget, Schedule, Rounds, Round, CommitmentOodSamples, StartingFoldingPowBits, Terminal, FinalSumcheckRounds, FinalFoldingPowBits, NumOpeningClaims}

abbrev pub letters : Key → List ℕ
letters Degree = codes "degree"
letters NumVariables = codes "num_variables"
letters Capacity = codes "capacity"
letters DomainId = codes "domain_id"
letters Stratified = codes "stratified"
letters StartingLogInvRate = codes "starting_log_inv_rate"
letters RoundLogInvRates = codes "round_log_inv_rates"
letters FoldingFactor = codes "folding_factor"
letters Soundness = codes "soundness"
letters SecurityLevel = codes "security_level"
letters PowBudget = codes "pow_budget"
letters Schedule = codes "schedule"
letters Rounds = codes "rounds"
letters Round = codes "round"
letters CommitmentOodSamples = codes "commitment_ood_samples"
letters StartingFoldingPowBits = codes "starting_folding_pow_bits"
letters Terminal = codes "terminal"
letters FinalSumcheckRounds = codes "final_sumcheck_rounds"
letters FinalFoldingPowBits = codes "final_folding_pow_bits"
letters NumOpeningClaims = codes "num_opening_claims"
