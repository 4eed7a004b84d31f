-- What verifying the queries of a phase does. Assumes nothing.
use Rattle.std.specs.Prelude.{◌≡◌, ℕ, List, length, Ok, Err, Option, Result}
use Rattle.sponge.specs.Play.{Rules, Play, done, read, ◌>>=◌, ◌>>◌}
use Rattle.sponge.specs.Plays.{Plays}
use Rattle.sumcheck.specs.Checks.{ask_all}
use Rattle.errors.specs.declared.VerifierError.{VerifierError}
use Rattle.errors.specs.declared.VerifierError.TheVariants.{Limit, BufferTooSmall, RoundCountMismatch, NonCanonicalPowWitness, Sumcheck, MissingRoundCommitment, RoundOodAnswerCountMismatch, InvalidPowWitness, MerkleProofInvalid, StirQueryCountMismatch, MissingFinalPoly, FinalPolyLengthMismatch, StirChallengeFailed, SumcheckFailed}
use Rattle.verification.specs.Proof.{Opening}
use Rattle.verification.specs.Setting.{Setting}
use Rattle.verification.specs.Verifying.{queries, opening_checks}

-- The queries of a phase, and its opening.
unfoldable pub queried_play : {F E C P : Type 0} → Setting F E C P → ℕ → Option C → F → Opening F E P → Play (VerifierError E) (List ℕ)
queried_play S i c witness o = do
  q ← queries S i witness
  ask_all (opening_checks S i c q.positions o)
  done q.positions

-- What stands in the places after a refusal: what stood there, where the grinding was refused, and else the positions that were drawn.
abbrev pub left_by : {E : Type 0} → VerifierError E → (old drawn : List ℕ) → List ℕ
left_by Limit old drawn = drawn
left_by BufferTooSmall old drawn = drawn
left_by (RoundCountMismatch expected actual) old drawn = drawn
left_by (NonCanonicalPowWitness round) old drawn = drawn
left_by (Sumcheck e) old drawn = drawn
left_by (MissingRoundCommitment round) old drawn = drawn
left_by (RoundOodAnswerCountMismatch round expected actual) old drawn = drawn
left_by (InvalidPowWitness round bits) old drawn = old
left_by (MerkleProofInvalid phase position reason) old drawn = drawn
left_by (StirQueryCountMismatch round expected actual) old drawn = drawn
left_by MissingFinalPoly old drawn = drawn
left_by (FinalPolyLengthMismatch expected actual) old drawn = drawn
left_by (StirChallengeFailed challenge) old drawn = drawn
left_by (SumcheckFailed round expected actual) old drawn = drawn

-- Where it answers, the positions stand in the places; where it refuses, there are as many places as before, and it is said what they hold.
abbrev pub Queried : {E : Type 0} → Rules → List ℕ → Play (VerifierError E) (List ℕ) → Result Unit (VerifierError E) → List ℕ → (old new : List ℕ) → Type 0
Queried m s p (Ok u) t old new = Plays m s p (Ok new) t
Queried m s p (Err e) t old new = Plays m s p (Err e) t × (length new ≡ length old) × (new ≡ left_by e old (read m s p).value)
