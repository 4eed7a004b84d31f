-- What both laws say of an opening of many rows. Assumes nothing.
use Rattle.std.proofs.Common.{◌≡◌, ℕ, zero, suc, ◌*◌, ◌<◌, true, ◌&&◌, eqb, List, [], ◌∷◌, ◌++◌, length, get_or, take, drop, sym, refl, ap, ◌∙◌, subst, inl, inr, ⊎_elim, le_of_suc-le-suc, not-suc-le-zero, suc-mul, zero-mul, arith, length-append}
use Rattle.std.proofs.lemmas.List.{drop-drop, take_at, drop_at}
use Rattle.std.proofs.lemmas.Bool.{and_parts, and_from, eq-eqb}
use Rattle.digest.specs.Collision.{Collision}
use Rattle.commit.specs.Opening.{Meaning, Laws, row_of, Wide, piece, rows_right, opens, own_rows, own_paths, Bound, Own}

first_piece : {X : Type 0} (l : List X) (w : ℕ) → take w l ≡ piece l w 0
first_piece l w = ap (λ k. take w (drop k l)) (sym (zero-mul w))

later_piece : {X : Type 0} (l : List X) (w k : ℕ) → piece (drop w l) w k ≡ piece l w (suc k)
later_piece l w k = ap (take w) (drop-drop (k * w) w l) ∙ ap (λ n. take w (drop n l)) (omega (arith, suc-mul k w))

module _ {X C N : Type 0} (m : Meaning X C N) where
  -- every row of a right opening is right
  pub right_at : (c : C) (w p : ℕ) (is : List ℕ) (rows : List X) (paths : List N) (k : ℕ) → rows_right m c w p is rows paths ≡ true → k < length is → m.right c w p (get_or is k 0) (piece rows w k) (piece paths (m.path_length p) k) ≡ true
  right_at c w p [] rows paths k t h = absurd (not-suc-le-zero h)
  right_at c w p (i ∷ is) rows paths zero t h =
      let n = m.path_length p in
      ap (λ r. m.right c w p i r (piece paths n 0)) (sym (first_piece rows w))
      ∙ ap (λ q. m.right c w p i (take w rows) q) (sym (first_piece paths n))
      ∙ (and_parts (m.right c w p i (take w rows) (take n paths)) (rows_right m c w p is (drop w rows) (drop n paths)) t).0
  right_at c w p (i ∷ is) rows paths (suc k) t h =
      let n = m.path_length p in
      let rest = (and_parts (m.right c w p i (take w rows) (take n paths)) (rows_right m c w p is (drop w rows) (drop n paths)) t).1 in
      ap (λ r. m.right c w p (get_or is k 0) r (piece paths n (suc k))) (sym (later_piece rows w k))
      ∙ ap (λ q. m.right c w p (get_or is k 0) (piece (drop w rows) w k) q) (sym (later_piece paths n k))
      ∙ right_at c w p is (drop w rows) (drop n paths) k rest (le_of_suc-le-suc h)

  module _ (Commits : C → List (List X) → Type 0) (laws : Laws m Commits) where
    pub bound_by_laws : (c : C) (w p : ℕ) (is : List ℕ) (rows : List X) (paths : List N) → opens m c w p is rows paths ≡ true → Bound m Commits c w p is rows paths
    bound_by_laws c w p is rows paths t matrix of wide high k h =
        let n = m.path_length p in
        let i = get_or is k 0 in
        let R = rows_right m c w p is rows paths in
        let counted = (and_parts (eqb (length rows) (length is * w)) (eqb (length paths) (length is * n) && R) t).1 in
        let right = right_at c w p is rows paths k (and_parts (eqb (length paths) (length is * n)) R counted).1 h in
        let found = laws.binding c matrix w i (piece rows w k) (piece paths n k) of wide (subst (λ (q : ℕ). m.right c w q i (piece rows w k) (piece paths n k) ≡ true) (sym high) right) in
        ⊎_elim
        (λ (f : (i < length matrix) × (piece rows w k ≡ row_of matrix i)). inl (subst (λ (q : ℕ). i < q) high f.0, f.1))
        (λ (x : Collision m.digest (m.checked_lists i (piece rows w k) (piece paths n k)) (m.committed_lists matrix)). inr x)
        found

    module _ (c : C) (matrix : List (List X)) (w : ℕ) (of : Commits c matrix) (wide : Wide w matrix) where
      long_rows : (is : List ℕ) → ((k : ℕ) → k < length is → get_or is k 0 < length matrix) → length (own_rows m matrix is) ≡ length is * w
      long_rows [] h = sym (zero-mul w)
      long_rows (i ∷ is) h =
          let r = long_rows is (λ k l. h (suc k) (omega arith)) in
          let j = length-append (row_of matrix i) (own_rows m matrix is) in
          let e = wide i (h 0 (omega arith)) in
          omega (arith, suc-mul (length is) w)

      long_paths : (is : List ℕ) → length (own_paths m matrix is) ≡ length is * m.path_length (length matrix)
      long_paths [] = sym (zero-mul (m.path_length (length matrix)))
      long_paths (i ∷ is) =
          let r = long_paths is in
          let j = length-append (m.own_path matrix i) (own_paths m matrix is) in
          let e = laws.own_long c matrix i of in
          omega (arith, suc-mul (length is) (m.path_length (length matrix)))

      own_right : (is : List ℕ) → ((k : ℕ) → k < length is → get_or is k 0 < length matrix) → rows_right m c w (length matrix) is (own_rows m matrix is) (own_paths m matrix is) ≡ true
      own_right [] h = refl
      own_right (i ∷ is) h =
          let p = length matrix in
          let n = m.path_length p in
          let row = row_of matrix i in
          let path = m.own_path matrix i in
          let rows = own_rows m matrix is in
          let paths = own_paths m matrix is in
          let lt = h 0 (omega arith) in
          let lr = wide i lt in
          let lp = laws.own_long c matrix i of in
          and_from (m.right c w p i (take w (row ++ rows)) (take n (path ++ paths))) (rows_right m c w p is (drop w (row ++ rows)) (drop n (path ++ paths)))
          (ap (λ r. m.right c w p i r (take n (path ++ paths))) (take_at row rows w lr) ∙ ap (λ q. m.right c w p i row q) (take_at path paths n lp) ∙ laws.own_right c matrix w i of wide lt)
          (ap (λ r. rows_right m c w p is r (drop n (path ++ paths))) (drop_at row rows w lr) ∙ ap (λ q. rows_right m c w p is rows q) (drop_at path paths n lp) ∙ own_right is (λ k l. h (suc k) (omega arith)))

      own_opens : (is : List ℕ) → ((k : ℕ) → k < length is → get_or is k 0 < length matrix) → opens m c w (length matrix) is (own_rows m matrix is) (own_paths m matrix is) ≡ true
      own_opens is h =
          let rows = own_rows m matrix is in
          let paths = own_paths m matrix is in
          let n = m.path_length (length matrix) in
          and_from (eqb (length rows) (length is * w)) (eqb (length paths) (length is * n) && rows_right m c w (length matrix) is rows paths) (eq-eqb (length rows) (length is * w) (long_rows is h))
          (and_from (eqb (length paths) (length is * n)) (rows_right m c w (length matrix) is rows paths) (eq-eqb (length paths) (length is * n) (long_paths is)) (own_right is h))

    pub own_by_laws : (c : C) (w p : ℕ) (is : List ℕ) (rows : List X) (paths : List N) → Own m Commits c w p is rows paths → opens m c w p is rows paths ≡ true
    own_by_laws c w p is rows paths o =
        let within = λ (k : ℕ) (l : k < length is). subst (λ (q : ℕ). get_or is k 0 < q) (sym o.high) (o.within k l) in
        ap (λ q. opens m c w q is rows paths) (sym o.high)
        ∙ ap (λ r. opens m c w (length o.matrix) is r paths) o.rows_own
        ∙ ap (λ q. opens m c w (length o.matrix) is (own_rows m o.matrix is) q) o.paths_own
        ∙ own_opens c o.matrix w o.commits o.wide is within
