-- Where a phase opens everything no tables are alike; and how long an accepted point is. Assumes nothing.
use Rattle.std.specs.Prelude.{◌≡◌, ℕ, List, map, length, Ok}
use Rattle.argument.specs.Accidents.{Alike}
use Rattle.sponge.specs.Play.{Rules, run, read}
use Rattle.sponge.specs.Deciding.{Every}
use Rattle.verification.specs.Proof.{Opening}
use Rattle.verification.specs.Setting.{Setting, Inputs, last, point_at, given}
use Rattle.verification.specs.Verifying.{rows_opened, all_items, reading, verifying}
use Rattle.verification.specs.Shaped.{draws_at}
use Rattle.assurance.specs.Committed.{Fitted, positions_of}

module _ {F E C P : Type 0} (S : Setting F E C P) where
  -- If phase i draws no positions, no two tables are alike at the rows that it opens and different elsewhere.
  abbrev pub NeverAlike : ℕ → List ℕ → Opening F E P → Type 0
  NeverAlike i ps o = draws_at S i ≡ 0 → (h k : List E) → ¬ (Alike S.field h k (rows_opened S i ps o) (map (point_at S i) (positions_of S i)))

  -- Of every reading, phase by phase.
  pub record WholeNeverAlike (m : Rules) (s : List ℕ) (I : Inputs F E C P) : Type 0 where
    pub rounds : Every (λ x a. NeverAlike x.number a.positions x.part.opening) (all_items S I) (read m s (reading S I)).value.rounds
    pub final : NeverAlike (last S) (read m s (reading S I)).value.positions (given S I).opening

  -- An accepted point has a coordinate for each variable.
  abbrev pub AcceptedPointLong : Type 0
  AcceptedPointLong = Fitted S → (m : Rules) (s : List ℕ) (I : Inputs F E C P) (point : List E) → (run m s (verifying S I)).answer ≡ Ok point → length point ≡ S.numbers.variables
