-- The witnesses that are to be 0. Assumes nothing.
use Rattle.std.specs.Prelude.{ℕ, suc, List, [], ◌∷◌}
use Rattle.field.specs.Numbers.{Numbering}
use Rattle.configuration.specs.Numbers.{Numbers}
use Rattle.transcript.specs.Shape.{difficulty}
use Rattle.transcript.specs.declared.failure.TranscriptFailure.{TranscriptFailure}
use Rattle.transcript.specs.declared.failure.TranscriptFailure.TheVariants.{NonCanonicalPowWitness}
use Rattle.proof.specs.declared.whir_proof.WhirRoundProof.{WhirRoundProof}
use Rattle.sumcheck.specs.Checks.{Check}
use Rattle.verification.specs.Verifying.{zero_where_free}

module _ {F : Type 0} (n : Numbering F) (N : Numbers) where
  -- The witness before the queries of a phase.
  abbrev pub witness_check : ℕ → F → Check TranscriptFailure
  witness_check i w = record { holds = zero_where_free (difficulty N i) (n.number w); refusal = NonCanonicalPowWitness i }

  -- Those of rounds from a number on, and then the final phase's.
  abbrev pub witness_checks : ℕ → List (WhirRoundProof F) → F → List (Check TranscriptFailure)
  witness_checks i [] last = witness_check i last ∷ []
  witness_checks i (r ∷ rs) last = witness_check i r.pow_witness ∷ witness_checks (suc i) rs last
