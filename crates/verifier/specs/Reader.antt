-- What parsing a round's commitment does. Assumes nothing.
use Rattle.std.specs.Prelude.{◌≡◌, ℕ, List, Some, Ok, Err, Result}
use Rattle.std.specs.Borrow.{Bor}
use Rattle.sponge.specs.Play.{Rules, Play, done, observe, sure, ◌>>=◌, ◌>>◌, each}
use Rattle.sponge.specs.Plays.{Plays}
use Rattle.sponge.specs.Drawing.{draw_extension, observe_extension}
use Rattle.field.specs.Numbers.{Numbering}
use Rattle.field.specs.Extension.{Extension}
use Rattle.sumcheck.specs.Checks.{ask_all}
use Rattle.errors.specs.declared.VerifierError.{VerifierError}
use Rattle.verification.specs.Setting.{Setting, Item}
use Rattle.verification.specs.Verifying.{round_checks, observed_as, sample}

-- A point is drawn and the answer there observed.
unfoldable pub sampled : {F E : Type 0} → Numbering F → Extension F E → E → Play ⊥ E
sampled n x answer = do
  z ← draw_extension n x
  observe_extension n x answer
  done z

-- What a round brings is asked for; its commitment is observed; its samples are drawn, and each one's answer observed.
unfoldable pub parsed_play : {F E C P : Type 0} → Setting F E C P → Item F E C P → Play (VerifierError E) (List E)
parsed_play S x = do
  ask_all (round_checks S x)
  observe (observed_as S x.part.commitment)
  samples ← sure (each (sample S) x.part.answers)
  done samples

-- Where it answers, it is with the round's commitment, and the samples stand in the places; where it refuses, the places are untouched.
abbrev pub Parsed : {F E C P : Type 0} → Setting F E C P → Rules → List ℕ → Item F E C P → Result (Bor C) (VerifierError E) → List ℕ → (old new : List E) → Type 0
Parsed S m s x (Ok c) t old new = (x.part.commitment ≡ Some c.now) × Plays m s (parsed_play S x) (Ok new) t
Parsed S m s x (Err e) t old new = Plays m s (parsed_play S x) (Err e) t × (new ≡ old)
