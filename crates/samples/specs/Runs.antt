-- Small verifications on the trial sponge, which the original Rust answers so too.
use Rattle.std.specs.Prelude.{◌≡◌, ℕ, List, [], ◌∷◌, Ok, Err}
use Rattle.sponge.specs.Play.{Outcome, run}
use Rattle.sponge.specs.Trial.{trial}
use Rattle.argument.specs.Readings.{el, els}
use Rattle.verification.specs.Setting.{Setting, Inputs}
use Rattle.errors.specs.declared.VerifierError.{VerifierError}
use Rattle.errors.specs.declared.VerifierError.TheVariants.{RoundCountMismatch, Sumcheck, InvalidPowWitness, MerkleProofInvalid, MissingRoundCommitment, StirQueryCountMismatch, MissingFinalPoly, StirChallengeFailed, SumcheckFailed}
use Rattle.sumcheck.specs.declared.errors.SumcheckError.TheVariants.{MessageCount, Grind}
use Rattle.errors.specs.declared.OpeningFault.TheVariants.{Kind, Base as BaseFault, Extension as ExtensionFault}
use Rattle.verification.specs.Verifying.{verifying}
use Rattle.samples.specs.Elements.{Element}
use Rattle.field.specs.Tower.{pair}
use Rattle.samples.specs.Pairs.{pairs, over_pairs, pair_honest, pair_false_claim, pair_other_kind}
use Rattle.samples.specs.Eight.{eight, eight_honest, eight_false_claim, eight_other_answer, eight_no_commitment, eight_more_rows, eight_wrong_row}
use Rattle.samples.specs.Three.{three, three_honest, three_false_claim}
use Rattle.samples.specs.Two.{two, two_other, two_honest, two_false_claim, two_false_claims, two_false_polynomial, two_false_message, two_wrong_row, two_no_polynomial, two_no_message, two_other_witness, two_other_query_witness, two_extra_round, two_other_polynomial}

-- the sponge then stands for s alone: accepted with these challenges, or refused
abbrev pub accepted : {E : Type 0} → (challenges : List E) (s : ℕ) → Outcome (VerifierError E) (List E)
accepted rs s = record { answer = Ok rs; list = s ∷ [] }

abbrev pub refused : {E : Type 0} → VerifierError E → (s : ℕ) → Outcome (VerifierError E) (List E)
refused r s = record { answer = Err r; list = s ∷ [] }

-- from a new sponge
abbrev pub outcome : {E : Type 0} → Setting Element E ℕ (Unit {0}) → Inputs Element E ℕ (Unit {0}) → Outcome (VerifierError E) (List E)
outcome S I = run trial (0 ∷ []) (verifying S I)

pub record TwoRuns : Type 0 where
  -- tests/tiny/two_accepted.txt
  pub honest : outcome two two_honest ≡ accepted (els (34 ∷ 138 ∷ [])) 17906508602623944821
  -- two_false_claim.txt; two_false_accepted.txt, where the errors cancel at the challenge α that is drawn
  pub false_claim : outcome two two_false_claim ≡ refused (SumcheckFailed 1 (el 79) (el 145)) 17906508602623944821
  pub false_claims : outcome two two_false_claims ≡ accepted (els (34 ∷ 138 ∷ [])) 17906508602623944821
  -- two_false_polynomial.txt, where another polynomial has the same rows; two_false_message.txt, where the first challenge is 0
  pub false_polynomial : outcome two two_false_polynomial ≡ accepted (els (34 ∷ 184 ∷ [])) 5339674027509073075
  pub false_message : outcome two_other two_false_message ≡ accepted (els (0 ∷ 56 ∷ [])) 778539318562046705
  -- two_wrong_row.txt, two_no_polynomial.txt, two_no_message.txt
  pub wrong_row : outcome two two_wrong_row ≡ refused (MerkleProofInvalid 0 0 BaseFault) 15269604858839283572
  pub no_polynomial : outcome two two_no_polynomial ≡ refused MissingFinalPoly 17104767066782033999
  pub no_message : outcome two two_no_message ≡ refused (Sumcheck (MessageCount 0 1 0)) 7021240183676257648
  -- two_other_witness.txt, two_other_query_witness.txt, two_other_polynomial.txt
  pub other_witness : outcome two two_other_witness ≡ refused (Sumcheck (Grind 0 0 1)) 15895710208648307535
  pub other_query_witness : outcome two two_other_query_witness ≡ refused (InvalidPowWitness 0 1) 10469261712178855519
  pub other_polynomial : outcome two two_other_polynomial ≡ refused (StirChallengeFailed 0) 9054793598293096794
  -- two_extra_round.txt: the sponge is not touched
  pub extra_round : outcome two two_extra_round ≡ refused (RoundCountMismatch 0 1) 0

-- those with a round, of the files eight_accepted.txt and so on
pub record EightRuns : Type 0 where
  pub honest : outcome eight eight_honest ≡ accepted (els (50 ∷ 103 ∷ 188 ∷ 246 ∷ 203 ∷ 64 ∷ 155 ∷ 200 ∷ [])) 14111365710728727937
  pub false_claim : outcome eight eight_false_claim ≡ refused (SumcheckFailed 6 (el 173) (el 29)) 14111365710728727937
  pub other_answer : outcome eight eight_other_answer ≡ refused (SumcheckFailed 6 (el 224) (el 118)) 5897169360792287897
  pub no_commitment : outcome eight eight_no_commitment ≡ refused (MissingRoundCommitment 0) 17512186564886743247
  pub more_rows : outcome eight eight_more_rows ≡ refused (StirQueryCountMismatch 0 2 3) 8577134954305657133
  pub wrong_row : outcome eight eight_wrong_row ≡ refused (MerkleProofInvalid 1 0 ExtensionFault) 14077509921851929158

-- those over pairs, of the files pair_accepted.txt and so on
pub record PairRuns : Type 0 where
  pub honest : outcome over_pairs pair_honest ≡ accepted (pairs (107 ∷ 64 ∷ 21 ∷ 144 ∷ [])) 1495791013038353744
  pub false_claim : outcome over_pairs pair_false_claim ≡ refused (SumcheckFailed 1 (pair (el 231) (el 26)) (pair (el 115) (el 109))) 1495791013038353744
  pub other_kind : outcome over_pairs pair_other_kind ≡ refused (MerkleProofInvalid 0 0 Kind) 14205506239357763990

-- those with a round and few variables, which the crate alone answers so: three_accepted.txt and three_false_claim.txt of tests/tiny_bare
pub record ThreeRuns : Type 0 where
  pub honest : outcome three three_honest ≡ accepted (els (166 ∷ 239 ∷ 33 ∷ [])) 15185022215624530423
  pub false_claim : outcome three three_false_claim ≡ refused (SumcheckFailed 1 (el 138) (el 222)) 15185022215624530423

pub record TinyRuns : Type 0 where
  pub two : TwoRuns
  pub eight : EightRuns
  pub over_pairs : PairRuns
  pub three : ThreeRuns
