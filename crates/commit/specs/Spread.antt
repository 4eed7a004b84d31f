-- Rows of an extension's elements as rows of their coefficients. Assumes nothing.
use Rattle.std.specs.Prelude.{◌*◌, List, [], ◌∷◌, ◌++◌, map}
use Rattle.field.specs.Extension.{Extension}
use Rattle.commit.specs.Opening.{Meaning}

module _ {X Y : Type 0} (x : Extension X Y) where
  -- the coefficients of the elements in turn
  abbrev pub spread : List Y → List X
  spread [] = []
  spread (y ∷ ys) = x.coefficients y ++ spread ys

  -- a scheme for rows of base elements as one for rows of an extension's: the rows are so many times as wide
  abbrev pub extended : {C N : Type 0} → Meaning X C N → Meaning Y C N
  extended m = record {
    right = λ c w p i row path. m.right c (w * x.degree) p i (spread row) path;
    path_length = m.path_length;
    own_path = λ matrix i. m.own_path (map spread matrix) i;
    digest = m.digest;
    checked_lists = λ i row path. m.checked_lists i (spread row) path;
    committed_lists = λ matrix. m.committed_lists (map spread matrix);
    observed = m.observed;
  }
