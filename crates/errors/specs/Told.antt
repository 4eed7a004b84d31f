-- A refusal as it is read out: its number and its values. Assumes nothing.
use Rattle.std.specs.Prelude.{ℕ, List, [], ◌∷◌}
use Rattle.sumcheck.specs.declared.errors.SumcheckError.{SumcheckError}
use Rattle.sumcheck.specs.declared.errors.SumcheckError.TheVariants.{MessageCount, WitnessCount, Grind}
use Rattle.transcript.specs.declared.failure.TranscriptFailure.{TranscriptFailure}
use Rattle.transcript.specs.declared.failure.TranscriptFailure.TheVariants.{PowWitness, NonCanonicalPowWitness as NotZero, FinalPolyLength}
use Rattle.errors.specs.declared.OpeningFault.{OpeningFault}
use Rattle.errors.specs.declared.OpeningFault.TheVariants.{Kind, Base, Extension}
use Rattle.errors.specs.declared.VerifierError.{VerifierError}
use Rattle.errors.specs.declared.VerifierError.TheVariants.{Limit, BufferTooSmall, RoundCountMismatch, NonCanonicalPowWitness, Sumcheck, MissingRoundCommitment, RoundOodAnswerCountMismatch, InvalidPowWitness, MerkleProofInvalid, StirQueryCountMismatch, MissingFinalPoly, FinalPolyLengthMismatch, StirChallengeFailed, SumcheckFailed}

-- What fails within the transcript is refused with the same values.
abbrev pub of_transcript : {E : Type 0} → TranscriptFailure → VerifierError E
of_transcript (PowWitness round bits) = InvalidPowWitness round bits
of_transcript (NotZero round) = NonCanonicalPowWitness round
of_transcript (FinalPolyLength expected got) = FinalPolyLengthMismatch expected got

-- The number; the values in their order, first the numbers, then the elements. A sumcheck's fault and an opening's have a number of their
-- own: behind the sumcheck's phase, and behind the position.
pub record Told (E : Type 0) : Type 0 where
  pub number : ℕ
  pub values : List ℕ
  pub elements : List E

abbrev pub told_sumcheck : SumcheckError → List ℕ
told_sumcheck (MessageCount phase expected actual) = phase ∷ 0 ∷ expected ∷ actual ∷ []
told_sumcheck (WitnessCount phase expected actual) = phase ∷ 1 ∷ expected ∷ actual ∷ []
told_sumcheck (Grind phase round bits) = phase ∷ 2 ∷ round ∷ bits ∷ []

abbrev pub told_opening : OpeningFault → ℕ
told_opening Kind = 0
told_opening Base = 1
told_opening Extension = 2

module _ {E : Type 0} where
  abbrev pub tells : ℕ → List ℕ → Told E
  tells n vs = record { number = n; values = vs; elements = [] }

  abbrev pub told : VerifierError E → Told E
  told Limit = tells 1 []
  told BufferTooSmall = tells 5 []
  told (RoundCountMismatch expected actual) = tells 10 (expected ∷ actual ∷ [])
  told (NonCanonicalPowWitness round) = tells 11 (round ∷ [])
  told (Sumcheck e) = tells 12 (told_sumcheck e)
  told (MissingRoundCommitment round) = tells 13 (round ∷ [])
  told (RoundOodAnswerCountMismatch round expected actual) = tells 14 (round ∷ expected ∷ actual ∷ [])
  told (InvalidPowWitness round bits) = tells 15 (round ∷ bits ∷ [])
  told (MerkleProofInvalid phase position reason) = tells 16 (phase ∷ position ∷ told_opening reason ∷ [])
  told (StirQueryCountMismatch round expected actual) = tells 17 (round ∷ expected ∷ actual ∷ [])
  told MissingFinalPoly = tells 18 []
  told (FinalPolyLengthMismatch expected actual) = tells 19 (expected ∷ actual ∷ [])
  told (StirChallengeFailed challenge) = tells 20 (challenge ∷ [])
  told (SumcheckFailed round expected actual) = record { number = 21; values = round ∷ []; elements = expected ∷ actual ∷ [] }
