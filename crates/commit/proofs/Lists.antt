-- Rows that stand one after another, and those that are left of them. Assumes nothing.
use Rattle.std.proofs.Common.{◌≡◌, ℕ, ◌+◌, ◌*◌, ◌<◌, Bool, true, ◌&&◌, eqb, List, [], ◌∷◌, length, drop, sym, refl, ap, ◌∙◌, mul-le-mul_right, zero-mul, add-mul, one-mul, arith, length-drop}
use Rattle.std.proofs.lemmas.List.{drop-drop, length-take-le}
use Rattle.std.specs.List.{list_all, enumerate_from}
use Rattle.commit.specs.Opening.{Meaning, piece, rows_right, opens}

-- one row more of rows that stand one after another
pub drop_rows : {X : Type 0} (l : List X) (k w : ℕ) → drop w (drop (k * w) l) ≡ drop ((k + 1) * w) l
drop_rows l k w = drop-drop w (k * w) l ∙ ap (λ n. drop n l) (omega (arith, add-mul k 1 w, one-mul w))

pub piece_long : {X : Type 0} (l : List X) (n k w : ℕ) → length l ≡ n * w → k < n → length (piece l w k) ≡ w
piece_long l n k w e h =
    length-take-le w (drop (k * w) l) (rw (length-drop (k * w) l) (omega (arith, mul-le-mul_right w h, add-mul k 1 w, one-mul w)))

-- a test of a place and an index answers whether the row at that place, with its path, is right at that index
module _ {X C N : Type 0} (m : Meaning X C N) (c : C) (w p count : ℕ) (rows : List X) (paths : List N) (test : ℕ × ℕ → Bool)
    (at : (k i : ℕ) → k < count → test (k, i) ≡ m.right c w p i (piece rows w k) (piece paths (m.path_length p) k)) where
  -- from the k-th place on
  all_right_from : (is : List ℕ) (k : ℕ) → k + length is ≡ count → list_all test (enumerate_from k is) ≡ rows_right m c w p is (drop (k * w) rows) (drop (k * m.path_length p) paths)
  all_right_from [] k e = refl
  all_right_from (i ∷ is) k e =
      let n = m.path_length p in
      let here = m.right c w p i (piece rows w k) (piece paths n k) in
      ap (λ b. b && list_all test (enumerate_from (k + 1) is)) (at k i (omega arith))
      ∙ ap (λ b. here && b) (all_right_from is (k + 1) (omega arith))
      ∙ ap (λ r. here && rows_right m c w p is r (drop ((k + 1) * n) paths)) (sym (drop_rows rows k w))
      ∙ ap (λ r. here && rows_right m c w p is (drop w (drop (k * w) rows)) r) (sym (drop_rows paths k n))

  -- so an opening that is counted right is right where every place passes the test
  pub all_open : (is : List ℕ) → length is ≡ count → eqb (length rows) (length is * w) ≡ true → eqb (length paths) (length is * m.path_length p) ≡ true → list_all test (enumerate_from 0 is) ≡ opens m c w p is rows paths
  all_open is e er ep =
      let n = m.path_length p in
      let right = rows_right m c w p is rows paths in
      all_right_from is 0 (omega arith)
      ∙ ap (λ j. rows_right m c w p is (drop j rows) (drop (0 * n) paths)) (zero-mul w)
      ∙ ap (λ j. rows_right m c w p is rows (drop j paths)) (zero-mul n)
      ∙ ap (λ b. b && right) (sym ep)
      ∙ ap (λ b. b && (eqb (length paths) (length is * n) && right)) (sym er)
