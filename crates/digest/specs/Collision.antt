-- Byte lists that collide. Assumes nothing.
use Rattle.std.specs.Prelude.{◌≡◌, ℕ, List, ◌≢◌}
use mathlib.Core.List.{Memᴰ}

-- a list digested in checking and a different one digested in committing have one digest
pub record Collision (digest : List ℕ → List ℕ) (checked committed : List (List ℕ)) : Type 0 where
  pub one : List ℕ
  pub other : List ℕ
  pub in_checking : Memᴰ one checked
  pub in_committing : Memᴰ other committed
  pub different : one ≢ other
  pub shared : digest one ≡ digest other
