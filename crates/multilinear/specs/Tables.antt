-- Tables, points, weights, folds and rows, over any ring.
--
-- A table of n variables is the list of its 2^n values in corner order: entry x is its value at corner x, whose coordinates are the
-- binary digits of x, highest first. A point is a list of coordinates, which need not be 0 or 1.
use Rattle.std.specs.Prelude.{ℕ, zero, suc, ◌/◌, ◌%◌, ◌^◌, List, [], ◌∷◌, ◌++◌, map, reverse, length}
use Rattle.ring.specs.Ring.{Ops}
use Rattle.multilinear.specs.declared.order.VariableOrder.{VariableOrder}
use Rattle.multilinear.specs.declared.order.VariableOrder.TheVariants.{Prefix, Suffix}

-- a list of draws as a point of a table: Prefix binds the first free variable at each draw, Suffix the last
unfoldable pub orient : {E : Type 0} → VariableOrder → List E → List E
orient Prefix x = x
orient Suffix x = reverse x

-- the point of a table with b for the variables bound next and x for the others
unfoldable pub setting : {E : Type 0} → VariableOrder → List E → List E → List E
setting Prefix b x = b ++ x
setting Suffix b x = x ++ b

module _ {E : Type 0} (F : Ops E) where
  open F use {zero as 𝟘, one as 𝟙, add as ◌⊕◌, sub as ◌⊖◌, mul as ◌⊗◌}

  infixl 60 ◌⊕◌
  infixl 60 ◌⊖◌
  infixl 70 ◌⊗◌
  -- a binary digit as a coordinate
  unfoldable pub bit : ℕ → E
  bit zero = 𝟘
  bit (suc d) = 𝟙

  -- the n binary digits of x, highest first
  unfoldable pub digits : ℕ → ℕ → List E
  digits zero x = []
  digits (suc n) x = bit (x / 2 ^ n) ∷ digits n (x % 2 ^ n)

  -- the corners of n variables, in order
  unfoldable pub corners : ℕ → List (List E)
  corners zero = [] ∷ []
  corners (suc n) = map (λ x. 𝟘 ∷ x) (corners n) ++ map (λ x. 𝟙 ∷ x) (corners n)

  -- the product over the coordinates of a factor of p_j and x_j
  unfoldable pub product : (E → E → E) → List E → List E → E
  product f [] [] = 𝟙
  product f [] (x ∷ xs) = 𝟙
  product f (p ∷ ps) [] = 𝟙
  product f (p ∷ ps) (x ∷ xs) = f p x ⊗ product f ps xs

  -- eq(p, x), the product of p_j·x_j + (1 − p_j)·(1 − x_j): at a corner p, 1 at x = p and 0 at every other corner
  unfoldable pub eq_factor : E → E → E
  eq_factor p x = p ⊗ x ⊕ (𝟙 ⊖ p) ⊗ (𝟙 ⊖ x)

  abbrev pub eq : List E → List E → E
  eq = product eq_factor

  -- select(p, x), the product of 1 − x_j + x_j·p_j: at a corner x, the product of those p_j whose digit in x is 1
  unfoldable pub select_factor : E → E → E
  select_factor p x = (𝟙 ⊖ x) ⊕ x ⊗ p

  abbrev pub select : List E → List E → E
  select = product select_factor

  -- the sum of products, place by place: a table under the weights at its corners
  unfoldable pub dot : List E → List E → E
  dot [] [] = 𝟘
  dot [] (v ∷ g) = 𝟘
  dot (w ∷ ws) [] = 𝟘
  dot (w ∷ ws) (v ∷ g) = w ⊗ v ⊕ dot ws g

  -- the sum of f(x) over a list of points
  unfoldable pub over : List (List E) → (List E → E) → E
  over [] f = 𝟘
  over (x ∷ C) f = f x ⊕ over C f

  -- the sum of f(x) over the corners of n variables
  unfoldable pub cube : ℕ → (List E → E) → E
  cube n f = over (corners n) f

  -- the table of a function of n variables: its values at the corners, in order
  unfoldable pub tabulate : ℕ → (List E → E) → List E
  tabulate n f = map f (corners n)

  -- a table's value at the point p: the sum of eq(p, x)·g(x) over the corners x
  unfoldable pub value : List E → List E → E
  value g p = dot (tabulate (length p) (eq p)) g

  -- a table's value at a list of draws
  unfoldable pub view : VariableOrder → List E → List E → E
  view o g x = value g (orient o x)

  -- a table's value at the position of the point q: the sum of select(q, x)·g(x) over the corners x
  unfoldable pub position : List E → List E → E
  position g q = dot (tabulate (length q) (select q)) g

  -- a table folded at the draws rs, with n variables left: x ↦ g(rs, x) under Prefix, x ↦ g(x, rs reversed) under Suffix
  unfoldable pub folded : VariableOrder → ℕ → List E → List E → List E
  folded o n g rs = tabulate n (λ x. value g (setting o (orient o rs) x))

  -- a table's row at the position of the point q: for each corner b of the k variables bound next, in corner order,
  -- the sum of select(q, x)·g(b, x) over the corners x of the others (g(x, b) under Suffix)
  unfoldable pub row : VariableOrder → ℕ → List E → List E → List E
  row o k g q = tabulate k (λ b. position (tabulate (length q) (λ x. value g (setting o b x))) q)
