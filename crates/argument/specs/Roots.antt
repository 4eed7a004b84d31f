-- A challenge that meets a root of an error polynomial.
use Rattle.std.specs.Prelude.{◌≡◌, ◌⊎◌, List, [], ◌∷◌}
use Rattle.ring.specs.Ring.{Ops}
use Rattle.ring.specs.Polynomials.{value as at}

-- what holds of some member of a list
abbrev pub Any : {A : Type 0} → (A → Type 0) → List A → Type 0
Any P [] = ⊥
Any P (a ∷ l) = P a ⊎ Any P l

-- the error polynomial, by its coefficients, lowest first, is not zero, since some coefficient is not; and its value at x is zero
pub record Root {E : Type 0} (F : Ops E) (error : List E) (x : E) : Type 0 where
  pub nonzero : Any (λ c. ¬ (c ≡ F.zero)) error
  pub vanishes : at F error x ≡ F.zero
