-- Whether rows agree with a polynomial. Assumes nothing.
use Rattle.std.specs.Prelude.{ℕ, Bool, List, zip}
use Rattle.std.specs.List.{list_all}
use Rattle.ring.specs.Ring.{Ops}
use Rattle.multilinear.specs.Tables.{position}

-- The point of each position is given, and the test of equality.
module _ {E : Type 0} (F : Ops E) (equal : E → E → Bool) (point : ℕ → List E) (polynomial : List E) where
  -- a row's value is the polynomial's value at the row's position
  abbrev pub agrees : ℕ → E → Bool
  agrees p v = equal v (position F polynomial (point p))

  -- so are all, the rows' values standing in the order of their positions
  abbrev pub all_agree : List ℕ → List E → Bool
  all_agree ps vs = list_all (λ q. agrees q.0 q.1) (zip ps vs)
