-- Tests in a play: each has its refusal. Assumes nothing.
use Rattle.std.specs.Prelude.{Bool, T, List, [], ◌∷◌}
use Rattle.sponge.specs.Play.{Play, done, check, ◌>>◌}
use Rattle.sponge.specs.Deciding.{true?}

-- A test, and the refusal where it fails.
pub record Check (R : Type 0) : Type 0 where
  pub holds : Bool
  pub refusal : R

abbrev pub ask : {R : Type 0} → Bool → R → Play R (Unit {0})
ask b r = check (T b) (true? b) r

-- Tests in turn.
abbrev pub ask_all : {R : Type 0} → List (Check R) → Play R (Unit {0})
ask_all [] = done tt
ask_all (c ∷ cs) = do
  ask c.holds c.refusal
  ask_all cs
