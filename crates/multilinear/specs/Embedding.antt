-- Tables of base elements in an extension.
use Rattle.std.specs.Prelude.{◌≡◌, ℕ, List, map}
use Rattle.ring.specs.Ring.{Ops}
use Rattle.multilinear.specs.declared.order.VariableOrder.{VariableOrder}
use Rattle.multilinear.specs.Tables.{value, position, folded, row}
use Rattle.multilinear.specs.Univariate.{expand}

-- a table worked on below and then embedded is the embedded table worked on above: values, positions, expansions, folds and rows
pub record EmbeddingKeepsTables {A B : Type 0} (F : Ops A) (G : Ops B) (φ : A → B) : Type 0 where
  pub values : (g p : List A) → φ (value F g p) ≡ value G (map φ g) (map φ p)
  pub positions : (g q : List A) → φ (position F g q) ≡ position G (map φ g) (map φ q)
  pub expansions : (v : A) (n : ℕ) → map φ (expand F v n) ≡ expand G (φ v) n
  pub folds : (o : VariableOrder) (n : ℕ) (g rs : List A) → map φ (folded F o n g rs) ≡ folded G o n (map φ g) (map φ rs)
  pub rows : (o : VariableOrder) (k : ℕ) (g q : List A) → map φ (row F o k g q) ≡ row G o k (map φ g) (map φ q)
