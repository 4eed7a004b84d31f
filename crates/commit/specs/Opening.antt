-- What an opening scheme means, when an opening is right, and the laws of a scheme. Assumes nothing.
use Rattle.std.specs.Prelude.{◌≡◌, ℕ, ◌*◌, ◌<◌, Bool, true, ◌&&◌, ◌⊎◌, List, [], ◌∷◌, ◌++◌, length, take, drop, ◌==◌, slice_index, slice_index_or}
use Rattle.digest.specs.Collision.{Collision}

-- a scheme for rows of X, with commitments C and paths of N
pub record Meaning (X C N : Type 0) : Type 0 where
  -- is a row, with its path, right at an index of a matrix of that width and that many positions
  pub right : C → (width positions index : ℕ) → List X → List N → Bool
  -- how many nodes a path has
  pub path_length : (positions : ℕ) → ℕ
  -- the scheme's own path of a matrix's row
  pub own_path : (matrix : List (List X)) → (index : ℕ) → List N
  -- the digest, and the byte lists that are digested in checking one row and in committing to a matrix
  pub digest : List ℕ → List ℕ
  pub checked_lists : (index : ℕ) → List X → List N → List (List ℕ)
  pub committed_lists : (matrix : List (List X)) → List (List ℕ)
  -- the bytes that a commitment is observed as
  pub observed : C → List ℕ

-- the row of a matrix at an index
abbrev pub row_of : {X : Type 0} → List (List X) → ℕ → List X
row_of matrix i = slice_index_or matrix i []

-- each row of a matrix has this many elements
abbrev pub Wide : {X : Type 0} → ℕ → List (List X) → Type 0
Wide w matrix = (i : ℕ) → i < length matrix → length (row_of matrix i) ≡ w

-- the rows stand one after another in a flat list: the k-th of them
abbrev pub piece : {X : Type 0} → List X → (width : ℕ) → (k : ℕ) → List X
piece l w k = take w (drop (k * w) l)

module _ {X C N : Type 0} (m : Meaning X C N) where
  -- each index in turn takes its row and its path from the front of the flat lists, and they are right there
  abbrev pub rows_right : C → (width positions : ℕ) → List ℕ → List X → List N → Bool
  rows_right c w p [] rows paths = true
  rows_right c w p (i ∷ is) rows paths =
      m.right c w p i (take w rows) (take (m.path_length p) paths) && rows_right c w p is (drop w rows) (drop (m.path_length p) paths)

  -- an opening is right: it has as many rows and path parts as its indices ask, and every row is right
  abbrev pub opens : C → (width positions : ℕ) → List ℕ → List X → List N → Bool
  opens c w p is rows paths =
      (length rows == length is * w) && (length paths == length is * m.path_length p && rows_right c w p is rows paths)

  -- the laws, at the matrix's own width and number of rows, of a scheme whose commitments are of matrices so
  pub record Laws (Commits : C → List (List X) → Type 0) : Type 0 where
    -- the scheme's own path makes each row right
    pub own_right : (c : C) (matrix : List (List X)) (w i : ℕ) → Commits c matrix → Wide w matrix → i < length matrix → m.right c w (length matrix) i (row_of matrix i) (m.own_path matrix i) ≡ true
    pub own_long : (c : C) (matrix : List (List X)) (i : ℕ) → Commits c matrix → length (m.own_path matrix i) ≡ m.path_length (length matrix)
    -- what is right at an index is the matrix's row there, or two lists collide
    pub binding : (c : C) (matrix : List (List X)) (w i : ℕ) (row : List X) (path : List N) → Commits c matrix → Wide w matrix → m.right c w (length matrix) i row path ≡ true
        → ((i < length matrix) × (row ≡ row_of matrix i)) ⊎ Collision m.digest (m.checked_lists i row path) (m.committed_lists matrix)
    -- a right row has the declared width, and its path the scheme's length
    pub wide : (c : C) (w p i : ℕ) (row : List X) (path : List N) → m.right c w p i row path ≡ true → length row ≡ w
    pub long : (c : C) (w p i : ℕ) (row : List X) (path : List N) → m.right c w p i row path ≡ true → length path ≡ m.path_length p

  -- the matrix's own rows at the indices in turn, and their own paths
  abbrev pub own_rows : List (List X) → List ℕ → List X
  own_rows matrix [] = []
  own_rows matrix (i ∷ is) = row_of matrix i ++ own_rows matrix is

  abbrev pub own_paths : List (List X) → List ℕ → List N
  own_paths matrix [] = []
  own_paths matrix (i ∷ is) = m.own_path matrix i ++ own_paths matrix is

  -- whatever matrix of that width and that many rows the commitment is of: each opened row is the matrix's own, or two lists collide
  abbrev pub Bound : (Commits : C → List (List X) → Type 0) → C → (width positions : ℕ) → List ℕ → List X → List N → Type 0
  Bound Commits c w p is rows paths =
      (matrix : List (List X)) → Commits c matrix → Wide w matrix → length matrix ≡ p → (k : ℕ) → k < length is
      → ((slice_index is k < p) × (piece rows w k ≡ row_of matrix (slice_index is k)))
      ⊎ Collision m.digest (m.checked_lists (slice_index is k) (piece rows w k) (piece paths (m.path_length p) k)) (m.committed_lists matrix)

  -- these are the own rows and own paths of a matrix of that width and that many rows, which the commitment is of, at indices that it has
  pub record Own (Commits : C → List (List X) → Type 0) (c : C) (w p : ℕ) (is : List ℕ) (rows : List X) (paths : List N) : Type 0 where
    pub matrix : List (List X)
    pub commits : Commits c matrix
    pub wide : Wide w matrix
    pub high : length matrix ≡ p
    pub within : (k : ℕ) → k < length is → slice_index is k < p
    pub rows_own : rows ≡ own_rows matrix is
    pub paths_own : paths ≡ own_paths matrix is
