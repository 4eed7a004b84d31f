-- The laws of tables, weights, folds and rows.
use Rattle.std.specs.Prelude.{◌≡◌, ℕ, ◌^◌, ◌<◌, List, [], ◌∷◌, ◌++◌, length, slice_index_or}
use Rattle.ring.specs.Ring.{Ops}
use Rattle.multilinear.specs.declared.order.VariableOrder.{VariableOrder}
use Rattle.std.specs.List.{AllByRecursion}
use Rattle.multilinear.specs.Tables.{orient, digits, corners, select, tabulate, value, view, position, folded, row}
use Rattle.ring.specs.Polynomials.{Distinct, value as at}
use Rattle.multilinear.specs.Univariate.{pow, expand}

module _ {E : Type 0} (F : Ops E) where
  open F use {zero as 𝟘, add as ◌⊕◌, mul as ◌⊗◌}

  infixl 60 ◌⊕◌
  infixl 70 ◌⊗◌
  -- linear in each coordinate: with all others kept, a line
  abbrev pub Multilinear : (List E → E) → Type 0
  Multilinear f = (xs ys : List E) → (d : E) × ((r : E) → f (xs ++ (r ∷ ys)) ≡ f (xs ++ (𝟘 ∷ ys)) ⊕ r ⊗ d)

-- entry x of the corners is the digits of x
abbrev pub CornersAreDigits : {E : Type 0} → Ops E → Type 0
CornersAreDigits F = (n x : ℕ) → x < 2 ^ n → slice_index_or (corners F n) x [] ≡ digits F n x

-- interpolation: a table's value is linear in each coordinate and at corner x is entry x, and no other such function has those values
pub record Interpolation {E : Type 0} (F : Ops E) : Type 0 where
  pub linear : (g : List E) → Multilinear F (value F g)
  pub entries : (n x : ℕ) (g : List E) → length g ≡ 2 ^ n → x < 2 ^ n → value F g (digits F n x) ≡ slice_index_or g x F.zero
  pub only : (f : List E → E) → Multilinear F f → (p : List E) → f p ≡ value F (tabulate F (length p) f) p

-- a folded table's value is the table's own, with the fold's draws put before the others
abbrev pub FoldKeepsValue : {E : Type 0} → Ops E → Type 0
FoldKeepsValue {E} F = (o : VariableOrder) (g rs x : List E) → view F o (folded F o (length x) g rs) x ≡ view F o g (rs ++ x)

-- a right row, evaluated at the fold's draws, is the folded table's value at the row's position
abbrev pub RowTellsPosition : {E : Type 0} → Ops E → Type 0
RowTellsPosition {E} F =
    (o : VariableOrder) (g q rs : List E) → value F (row F o (length rs) g q) (orient o rs) ≡ position F (folded F o (length q) g rs) q

-- select at the point that v stands for and corner x is v to the power x; so a position's value there is a polynomial's at v
pub record SelectIsPower {E : Type 0} (F : Ops E) : Type 0 where
  pub corner : (v : E) (n x : ℕ) → x < 2 ^ n → select F (expand F v n) (digits F n x) ≡ pow F v x
  pub table : (v : E) (n : ℕ) (g : List E) → length g ≡ 2 ^ n → position F g (expand F v n) ≡ at F g v

-- two different tables of m variables agree at fewer than 2^m of the positions that distinct elements stand for
abbrev pub DifferentTablesAgreeRarely : {E : Type 0} → Ops E → Type 0
DifferentTablesAgreeRarely {E} F =
    (m : ℕ) (g h : List E) → length g ≡ 2 ^ m → length h ≡ 2 ^ m → ¬ (g ≡ h)
    → (vs : List E) → Distinct vs → AllByRecursion (λ v. position F g (expand F v m) ≡ position F h (expand F v m)) vs → length vs < 2 ^ m
