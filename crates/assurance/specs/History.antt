-- Any mixture of calls. Assumes nothing.
use Rattle.std.specs.Prelude.{◌≡◌, ℕ, ◌⊎◌, List, Ok}
use Rattle.sponge.specs.Play.{Rules, Play, observe, draw, run, read}
use Rattle.verification.specs.Setting.{Setting, Inputs}
use Rattle.verification.specs.Verifying.{challenges, reading, verifying}
use Rattle.verification.specs.Checks.{verdict, checks}
use Rattle.verification.specs.Decision.{Decides}
use Rattle.assurance.specs.Committed.{Fitted, Committed}
use Rattle.assurance.specs.Accepted.{ClaimsTrue, AccidentShown}
use Rattle.assurance.specs.Honest.{HonestProof}

-- Calls on a sponge, one after another; each is any play, of which only what it does to the sponge counts. So a verification over another
-- configuration, order, domain, scheme or tower is such a call, whether it accepts or refuses.
pub data Calls : Type 1 where
  none : Calls
  call : {R A : Type 0} → Play R A → Calls → Calls

-- the list after them
abbrev pub history : Rules → List ℕ → Calls → List ℕ
history m s none = s
history m s (call p cs) = history m (run m s p).list cs

-- Observing, drawing and verifying are such calls: they leave the list that a sponge has after them.
pub record CallsArePlays {F E C P : Type 0} (S : Setting F E C P) (m : Rules) : Type 0 where
  pub observes : (s bs : List ℕ) → history m s (call (observe {R = ⊥} bs) none) ≡ m.after_observe s bs
  pub draws : (s : List ℕ) → history m s (call (draw {R = ⊥}) none) ≡ m.after_draw s
  pub verifies : (s : List ℕ) (I : Inputs F E C P) → history m s (call (verifying S I) none) ≡ (run m s (verifying S I)).list

-- Of a verification from a list: its answer is what the first failing check of its reading says, it accepts by the decision, loses no good
-- proof, and shows an accident where it accepts and a claim is not true.
pub record Stands {F E C P : Type 0} (S : Setting F E C P) (Of : C → List (List F) → Type 0) (m : Rules) (s : List ℕ) (I : Inputs F E C P) : Type 0 where
  pub answers : let r = (read m s (reading S I)).value in (run m s (verifying S I)).answer ≡ verdict (checks S I r) (challenges S I r)
  pub decides : Decides S I m s
  pub honest_accepted : (g : List F) (gs : ℕ → List E)
      → let r = (read m s (reading S I)).value in HonestProof S g gs Of I r → (run m s (verifying S I)).answer ≡ Ok (challenges S I r)
  pub accepted_or_accident : (point : List E) (g : List F) (gs : ℕ → List E) → Committed S g gs Of I → (run m s (verifying S I)).answer ≡ Ok point
      → ClaimsTrue S g gs I ⊎ AccidentShown S g gs I (read m s (reading S I)).value

-- After any calls on a new sponge, whatever it was made from.
abbrev pub EveryVerificationStands : {F E C P Seed : Type 0} → Setting F E C P → (C → List (List F) → Type 0) → Rules → (Seed → List ℕ) → Calls → Type 0
EveryVerificationStands {F} {E} {C} {P} {Seed} S Of m fresh calls = Fitted S → (seed : Seed) (I : Inputs F E C P) → Stands S Of m (history m (fresh seed) calls) I
