-- The steps of an open run that can fail, as plays.
use Rattle.std.specs.Prelude.{◌≡◌, ℕ, ◌^◌, cond, not, ◌&&◌, T, List, [], ◌∷◌, length, Ok, Err, Result, ◌==◌}
use Rattle.field.specs.Numbers.{Numbering}
use Rattle.field.specs.Extension.{Extension}
use Rattle.sponge.specs.Play.{Play, done, check, sure, ◌>>=◌, ◌>>◌}
use Rattle.sponge.specs.Deciding.{true?, same?}
use Rattle.sponge.specs.Drawing.{check_witness, observe_extension}
use Rattle.configuration.specs.Numbers.{Numbers}
use Rattle.transcript.specs.Shape.{difficulty}
use Rattle.transcript.specs.Sites.{phase_of}
use Rattle.transcript.specs.declared.failure.TranscriptFailure.{TranscriptFailure}
use Rattle.transcript.specs.declared.failure.TranscriptFailure.TheVariants.{PowWitness, NonCanonicalPowWitness, FinalPolyLength}

-- The grinding before the queries of a round; a round at or past the last names the final site. The refusal has the round as it was
-- asked for, and the bits.
unfoldable pub query_grinding : {F : Type 0} → Numbering F → Numbers → ℕ → F → Play TranscriptFailure (Unit {0})
query_grinding n N round witness = do
  clear ← sure (check_witness (difficulty N (phase_of N round)) (n.number witness))
  check (T clear) (true? clear) (PowWitness round (difficulty N (phase_of N round)))

-- Each value is observed by itself.
unfoldable pub values_observed : {F E : Type 0} → Numbering F → Extension F E → List E → Play ⊥ (Unit {0})
values_observed n X [] = done tt
values_observed n X (v ∷ vs) = do
  observe_extension n X v
  values_observed n X vs

-- The final polynomial: as many values as were described, each observed.
unfoldable pub final_values : {F E : Type 0} → Numbering F → Extension F E → Numbers → List E → Play TranscriptFailure (Unit {0})
final_values n X N values = do
  check (length values ≡ 2 ^ N.final_rounds) (same? (length values) (2 ^ N.final_rounds)) (FinalPolyLength (2 ^ N.final_rounds) (length values))
  sure (values_observed n X values)

-- Where no work is asked for, the witness is 0.
abbrev pub canonical : ℕ → ℕ → ℕ → Result (Unit {0}) TranscriptFailure
canonical bits round witness = cond (bits == 0 && not (witness == 0)) (Err (NonCanonicalPowWitness round)) (Ok tt)

-- A bracket says where a sumcheck stands, and observes nothing.
abbrev pub nothing : Play ⊥ (Unit {0})
nothing = done tt
