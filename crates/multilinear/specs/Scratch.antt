-- A table that is folded in place, in the front of a lent slice.
use Rattle.std.specs.Prelude.{ℕ, ◌^◌, List, [], ◌∷◌, ◌++◌, length, take, drop}
use Rattle.ring.specs.Ring.{Ops}

module _ {E : Type 0} (F : Ops E) where
  open F use {add as ◌⊕◌, sub as ◌⊖◌, mul as ◌⊗◌}

  infixl 60 ◌⊕◌
  infixl 60 ◌⊖◌
  infixl 70 ◌⊗◌
  -- the first variable bound at r: the lower half and the upper half, mixed place by place
  unfoldable pub mixed : E → List E → List E → List E
  mixed r [] [] = []
  mixed r [] (v ∷ b) = []
  mixed r (u ∷ a) [] = []
  mixed r (u ∷ a) (v ∷ b) = (u ⊕ r ⊗ (v ⊖ u)) ∷ mixed r a b

  -- a slice after the first variable of the table in its front, of two halves of h values, was bound at r in place
  unfoldable pub bound : E → ℕ → List E → List E
  bound r h s = mixed r (take h s) (take h (drop h s)) ++ drop h s

  -- a slice after all variables of the table in its front were bound, one after another, at the coordinates of p
  unfoldable pub spent : List E → List E → List E
  spent [] s = s
  spent (r ∷ p) s = spent p (bound r (2 ^ length p) s)
