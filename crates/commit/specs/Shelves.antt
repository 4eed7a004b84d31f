-- Tables kept on shelves: a commitment is a shelf's number. Assumes nothing.
use Rattle.std.specs.Prelude.{◌≡◌, ℕ, ◌+◌, ◌*◌, ◌<◌, Bool, false, ◌&&◌, Option, Some, None, List, [], ◌++◌, map, length, get_or, take, drop, ◌==◌, nat_lt, slice_index_or}
use Rattle.std.specs.Str.{bytes_eq}
use Rattle.field.specs.Numbers.{Numbering}
use Rattle.field.specs.Bytes.{word_bytes}
use Rattle.commit.specs.declared.shelf.Shelf.{Shelf}
use Rattle.commit.specs.Opening.{Meaning, row_of}

-- nothing stands there
abbrev pub bare : Shelf
bare = record { start = 0; height = 0; width = 0 }

-- the row of a shelf at an index: the rows stand one after another among the values
abbrev pub shelf_row : {X : Type 0} → (values : List X) → Shelf → (index : ℕ) → List X
shelf_row values s i = take s.width (drop (s.start + i * s.width) values)

module _ {X : Type 0} (n : Numbering X) where
  -- two rows have the same elements
  abbrev pub same_row : List X → List X → Bool
  same_row xs ys = bytes_eq (map n.number xs) (map n.number ys)

  -- a row is what is left of another, of which nothing is left once they differ
  abbrev pub same_rest : Option (List X) → List X → Bool
  same_rest None xs = false
  same_rest (Some rest) xs = same_row xs rest

  -- comparing the elements xs of a row leads from one rest of the other row to another
  abbrev pub Compared : Option (List X) → (xs : List X) → Option (List X) → Type 0
  Compared from xs to = (ys : List X) → same_rest from (xs ++ ys) ≡ same_rest to ys

module _ {X : Type 0} (n : Numbering X) (values : List X) where
  -- the row at an index is that of a shelf that has this width
  abbrev pub stands : List Shelf → (number width index : ℕ) → List X → Bool
  stands shelves c w i row =
      let s = get_or shelves c bare in
      nat_lt c (length shelves) && (w == s.width && (nat_lt i s.height && same_row n row (shelf_row values s i)))

  abbrev pub kept : List Shelf → Meaning X ℕ (Unit {0})
  kept shelves = record {
    right = λ c w p i row path. (length row == w) && (length path == 0 && stands shelves c w i row);
    path_length = λ _. 0;
    own_path = λ _ _. [];
    digest = λ l. l;
    checked_lists = λ _ _ _. [];
    committed_lists = λ _. [];
    observed = word_bytes;
  }

-- a commitment is of a matrix: it is the number of a shelf that holds that matrix
pub record HeldOn {X : Type 0} (values : List X) (shelves : List Shelf) (c : ℕ) (matrix : List (List X)) : Type 0 where
  pub there : c < length shelves
  pub high : length matrix ≡ (get_or shelves c bare).height
  pub rows : (i : ℕ) → i < length matrix → row_of matrix i ≡ shelf_row values (slice_index_or shelves c bare) i
  pub wide : (i : ℕ) → i < length matrix → length (row_of matrix i) ≡ (get_or shelves c bare).width
