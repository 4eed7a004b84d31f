-- A wrong yes shows its accident. Assumes nothing.
use Rattle.std.specs.Prelude.{◌≡◌, ℕ, ◌⊎◌, List, Ok}
use Rattle.std.specs.List.{AllByRecursion}
use Rattle.argument.specs.Claims.{TrueOf}
use Rattle.argument.specs.Accidents.{AnyAccident}
use Rattle.sponge.specs.Play.{Rules, run, read}
use Rattle.verification.specs.Setting.{Setting, Inputs, Reading, claims}
use Rattle.sumcheck.specs.Rounds.{steps}
use Rattle.verification.specs.Verifying.{tail, reading, verifying}
use Rattle.assurance.specs.Committed.{Fitted, embedded, phases, Committed}

module _ {F E C P : Type 0} (S : Setting F E C P) (g : List F) (gs : ℕ → List E) (I : Inputs F E C P) where
  -- Every claim is true of the first table.
  abbrev pub ClaimsTrue : Type 0
  ClaimsTrue = AllByRecursion (TrueOf S.field (embedded S g)) (claims S I)

  -- An accident of this reading: lists of one phase collide, one of them digested in checking this proof and the other in committing
  -- these tables; a challenge meets a root of its error polynomial, which is not zero; or two different tables are alike at every
  -- position that a phase opens, and not at some other position.
  abbrev pub AccidentShown : Reading E → Type 0
  AccidentShown r = AnyAccident S.field S.scheme.digest S.order (phases S g gs I r) (claims S I) r.alpha (steps r.initial) (tail S I r)

-- Of every accepted verification, from every list, for all tables that the commitments are of.
abbrev pub AcceptedOrAccident : {F E C P : Type 0} → Setting F E C P → (C → List (List F) → Type 0) → Type 0
AcceptedOrAccident {F} {E} {C} {P} S Of =
    Fitted S → (m : Rules) (s : List ℕ) (I : Inputs F E C P) (point : List E) (g : List F) (gs : ℕ → List E)
    → Committed S g gs Of I → (run m s (verifying S I)).answer ≡ Ok point
    → ClaimsTrue S g gs I ⊎ AccidentShown S g gs I (read m s (reading S I)).value
