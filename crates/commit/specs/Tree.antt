-- Commitments by a tree of digests over the rows of a matrix. Assumes nothing.
use Rattle.std.specs.Prelude.{◌≡◌, ℕ, zero, suc, ◌+◌, ◌-◌, ◌/◌, ◌%◌, ◌^◌, ◌<◌, Bool, true, cond, ◌&&◌, List, [], ◌∷◌, ◌++◌, map, length, ◌==◌, nat_lt, slice_index_or}
use Rattle.std.specs.Str.{bytes_eq}
use Rattle.blake2s.specs.Blake2s.{hash}
use Rattle.field.specs.Numbers.{Numbering}
use Rattle.field.specs.Bytes.{coefficients_bytes}
use Rattle.commit.specs.Opening.{Meaning}

-- how often a number can be halved before it is below two
abbrev pub halvings : (fuel n : ℕ) → ℕ
halvings zero n = 0
halvings (suc fuel) n = cond (nat_lt n 2) 0 (suc (halvings fuel (n / 2)))

-- the levels above that many leaves
unfoldable pub levels : ℕ → ℕ
levels n = halvings n n

-- the digest at an index and its sibling, the left one first: at an even index the digest is the left one
abbrev pub ordered : (index : ℕ) → (digest sibling : List ℕ) → List ℕ
ordered i d s = cond (i % 2 == 0) (d ++ s) (s ++ d)

-- from a digest at an index up to the root: at each level the positions are halved, down to one
abbrev pub climbs : (root : List ℕ) → (positions index : ℕ) → (digest : List ℕ) → (path : List (List ℕ)) → Bool
climbs root p i d [] = p == 1 && (i == 0 && bytes_eq d root)
climbs root p i d (s ∷ ss) = p % 2 == 0 && climbs root (p / 2) (i / 2) (hash (ordered i d s)) ss

-- the pairs that are digested on the way up
abbrev pub climbed_lists : (index : ℕ) → (digest : List ℕ) → (path : List (List ℕ)) → List (List ℕ)
climbed_lists i d [] = []
climbed_lists i d (s ∷ ss) = ordered i d s ∷ climbed_lists (i / 2) (hash (ordered i d s)) ss

-- each two neighbours of a level, the left one first
abbrev pub pairs : List (List ℕ) → List (List ℕ)
pairs [] = []
pairs (a ∷ []) = []
pairs (a ∷ (b ∷ rest)) = (a ++ b) ∷ pairs rest

-- the level above
abbrev pub above : List (List ℕ) → List (List ℕ)
above level = map hash (pairs level)

-- the digest at the top, so many levels up
abbrev pub root_of : (levels : ℕ) → List (List ℕ) → List ℕ
root_of zero level = slice_index_or level 0 []
root_of (suc n) level = root_of n (above level)

-- the other index of a pair
abbrev pub sibling : ℕ → ℕ
sibling i = cond (i % 2 == 0) (i + 1) (i - 1)

-- the siblings from an index up, so many levels
abbrev pub siblings : (levels : ℕ) → List (List ℕ) → (index : ℕ) → List (List ℕ)
siblings zero level i = []
siblings (suc n) level i = slice_index_or level (sibling i) [] ∷ siblings n (above level) (i / 2)

-- every pair of every level
abbrev pub paired_lists : (levels : ℕ) → List (List ℕ) → List (List ℕ)
paired_lists zero level = []
paired_lists (suc n) level = pairs level ++ paired_lists n (above level)

module _ {X : Type 0} (n : Numbering X) where
  -- the digests of the rows
  abbrev pub leaves : List (List X) → List (List ℕ)
  leaves matrix = map (λ row. hash (coefficients_bytes n row)) matrix

  -- rows are digested as their elements' bytes, four each, and nodes as two digests
  abbrev pub merkle : Meaning X (List ℕ) (List ℕ)
  merkle = record {
    right = λ c w p i row path. (length row == w) && climbs c p i (hash (coefficients_bytes n row)) path;
    path_length = levels;
    own_path = λ matrix i. siblings (levels (length matrix)) (leaves matrix) i;
    digest = hash;
    checked_lists = λ i row path. coefficients_bytes n row ∷ climbed_lists i (hash (coefficients_bytes n row)) path;
    committed_lists = λ matrix. map (coefficients_bytes n) matrix ++ paired_lists (levels (length matrix)) (leaves matrix);
    observed = λ c. c;
  }

  -- a commitment is of a matrix: the rows are a power of two, and it is the root over them
  pub record RootOf (c : List ℕ) (matrix : List (List X)) : Type 0 where
    pub full : length matrix ≡ 2 ^ levels (length matrix)
    pub top : c ≡ root_of (levels (length matrix)) (leaves matrix)

  -- what is right stands among a power of two of positions, with one node of the path for each halving
  abbrev pub Placed : Type 0
  Placed = (c : List ℕ) (w p i : ℕ) (row : List X) (path : List (List ℕ)) → merkle.right c w p i row path ≡ true → (p ≡ 2 ^ length path) × (i < p)

-- over 2 ^ n positions a path has n nodes
abbrev pub PathLengths : Type 0
PathLengths = (n : ℕ) → levels (2 ^ n) ≡ n
