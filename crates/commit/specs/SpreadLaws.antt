-- Rows of coefficients. Assumes nothing.
use Rattle.std.proofs.Common.{◌≡◌, ℕ, zero, suc, ◌+◌, ◌*◌, ◌<◌, ◌≤◌, true, ◌&&◌, eqb, List, [], ◌∷◌, ◌++◌, map, length, take, drop, sym, refl, ap, ◌∙◌, subst, inl, inr, ⊎_elim, append_assoc, not-suc-le-zero, mul_assoc, suc-mul, zero-mul, arith, length-append}
use Rattle.std.proofs.Math.Nat.{eq_of_mul-eq-mul_right}
use Rattle.std.proofs.Math.Seq.{take-nil, drop-nil, take-append-add, drop-append-add}
use Rattle.std.proofs.lemmas.List.{get_or-map, length-map, get_or_past}
use Rattle.std.proofs.lemmas.Bool.{cases_lt}
use Rattle.field.specs.Extension.{Extension, Sized}
use Rattle.digest.specs.Collision.{Collision}
use Rattle.commit.specs.Opening.{Meaning, Laws, row_of, Wide, piece, rows_right, opens}
use Rattle.commit.specs.Spread.{spread, extended}
use Rattle.commit.specs.ListLemmas.{eqb_same, append_inj}

pub some_degree : {d : ℕ} → Sized d → 0 < d
some_degree s = ⊎_elim (λ e. omega arith) (λ s. ⊎_elim (λ e. omega arith) (λ s. ⊎_elim (λ e. omega arith) (λ e. omega arith) s) s) s

module _ {X Y : Type 0} (x : Extension X Y) where
  pub spread_append : (a b : List Y) → spread x (a ++ b) ≡ spread x a ++ spread x b
  spread_append [] b = refl
  spread_append (y ∷ a) b = ap (λ l. x.coefficients y ++ l) (spread_append a b) ∙ sym (append_assoc (x.coefficients y) (spread x a) (spread x b))

module _ {X Y : Type 0} (x : Extension X Y) (count : (y : Y) → length (x.coefficients y) ≡ x.degree) where
  pub length_spread : (l : List Y) → length (spread x l) ≡ length l * x.degree
  length_spread [] = sym (zero-mul x.degree)
  length_spread (y ∷ l) =
      let e = length-append (x.coefficients y) (spread x l) in
      let r = length_spread l in
      let k = count y in
      omega (arith, suc-mul (length l) x.degree)

  pub spread_take : (n : ℕ) (l : List Y) → take (n * x.degree) (spread x l) ≡ spread x (take n l)
  spread_take zero l = ap (λ k. take k (spread x l)) (zero-mul x.degree)
  spread_take (suc n) [] = take-nil (suc n * x.degree)
  spread_take (suc n) (y ∷ l) =
      let split : suc n * x.degree ≡ length (x.coefficients y) + n * x.degree = omega (arith, suc-mul n x.degree, count y) in
      ap (λ k. take k (x.coefficients y ++ spread x l)) split
      ∙ take-append-add (x.coefficients y) (spread x l) (n * x.degree)
      ∙ ap (λ r. x.coefficients y ++ r) (spread_take n l)

  pub spread_drop : (n : ℕ) (l : List Y) → drop (n * x.degree) (spread x l) ≡ spread x (drop n l)
  spread_drop zero l = ap (λ k. drop k (spread x l)) (zero-mul x.degree)
  spread_drop (suc n) [] = drop-nil (suc n * x.degree)
  spread_drop (suc n) (y ∷ l) =
      let split : suc n * x.degree ≡ length (x.coefficients y) + n * x.degree = omega (arith, suc-mul n x.degree, count y) in
      ap (λ k. drop k (x.coefficients y ++ spread x l)) split
      ∙ drop-append-add (x.coefficients y) (spread x l) (n * x.degree)
      ∙ spread_drop n l

  -- a row of coefficients is the coefficients of the row
  pub spread_piece : (l : List Y) (w k : ℕ) → piece (spread x l) (w * x.degree) k ≡ spread x (piece l w k)
  spread_piece l w k =
      ap (λ n. take (w * x.degree) (drop n (spread x l))) (sym (mul_assoc k w x.degree))
      ∙ ap (λ r. take (w * x.degree) r) (spread_drop (k * w) l)
      ∙ spread_take w (drop (k * w) l)

  pub count_same : 0 < x.degree → (l : List Y) (n w : ℕ) → eqb (length (spread x l)) (n * (w * x.degree)) ≡ eqb (length l) (n * w)
  count_same pos l n w =
      let long = length_spread l in
      let due = mul_assoc n w x.degree in
      eqb_same (length (spread x l)) (n * (w * x.degree)) (length l) (n * w)
      (λ e. eq_of_mul-eq-mul_right x.degree pos (length l) (n * w) (sym long ∙ e ∙ sym due))
      (λ e. long ∙ ap (λ k. k * x.degree) e ∙ due)

  module _ {C N : Type 0} (m : Meaning X C N) where
    rows_same : (c : C) (w p : ℕ) (is : List ℕ) (rows : List Y) (paths : List N) → rows_right m c (w * x.degree) p is (spread x rows) paths ≡ rows_right (extended x m) c w p is rows paths
    rows_same c w p [] rows paths = refl
    rows_same c w p (i ∷ is) rows paths =
        let n = m.path_length p in
        ap (λ r. m.right c (w * x.degree) p i r (take n paths) && rows_right m c (w * x.degree) p is (drop (w * x.degree) (spread x rows)) (drop n paths)) (spread_take w rows)
        ∙ ap (λ r. m.right c (w * x.degree) p i (spread x (take w rows)) (take n paths) && rows_right m c (w * x.degree) p is r (drop n paths)) (spread_drop w rows)
        ∙ ap (λ b. m.right c (w * x.degree) p i (spread x (take w rows)) (take n paths) && b) (rows_same c w p is (drop w rows) (drop n paths))

    -- an opening of coefficients in the scheme below is an opening of the elements
    pub opens_same : 0 < x.degree → (c : C) (w p : ℕ) (is : List ℕ) (rows : List Y) (paths : List N) → opens m c (w * x.degree) p is (spread x rows) paths ≡ opens (extended x m) c w p is rows paths
    opens_same pos c w p is rows paths =
        ap (λ b. b && (eqb (length paths) (length is * m.path_length p) && rows_right m c (w * x.degree) p is (spread x rows) paths)) (count_same pos rows (length is) w)
        ∙ ap (λ b. eqb (length rows) (length is * w) && (eqb (length paths) (length is * m.path_length p) && b)) (rows_same c w p is rows paths)

  -- coefficients settle a row
  pub spread_settled : 0 < x.degree → ((y z : Y) → x.coefficients y ≡ x.coefficients z → y ≡ z) → (a b : List Y) → spread x a ≡ spread x b → a ≡ b
  spread_settled pos settled [] [] e = refl
  spread_settled pos settled [] (z ∷ b) e =
      absurd (not-suc-le-zero {n = 0} (omega (arith, ap length e, length-append (x.coefficients z) (spread x b), count z)))
  spread_settled pos settled (y ∷ a) [] e =
      absurd (not-suc-le-zero {n = 0} (omega (arith, ap length e, length-append (x.coefficients y) (spread x a), count y)))
  spread_settled pos settled (y ∷ a) (z ∷ b) e =
      let both = append_inj (x.coefficients y) (x.coefficients z) (spread x a) (spread x b) (count y ∙ sym (count z)) e in
      let heads = settled y z both.0 in
      let tails = spread_settled pos settled a b both.1 in
      cc (heads, tails)

  row_spread : (matrix : List (List Y)) (i : ℕ) → row_of (map (spread x) matrix) i ≡ spread x (row_of matrix i)
  row_spread matrix i =
      ⊎_elim (λ (h : i < length matrix). get_or-map (spread x) matrix i [] [] h)
      (λ (h : length matrix ≤ i). get_or_past (map (spread x) matrix) i [] (rw (length-map matrix (spread x)) h) ∙ sym (ap (spread x) (get_or_past matrix i [] h)))
      (cases_lt i (length matrix))

  wide_spread : (w : ℕ) (matrix : List (List Y)) → Wide w matrix → Wide (w * x.degree) (map (spread x) matrix)
  wide_spread w matrix wide i h =
      let h' : i < length matrix = rw (length-map matrix (spread x)) at h in
      ap length (row_spread matrix i) ∙ length_spread (row_of matrix i) ∙ ap (λ k. k * x.degree) (wide i h')

  -- the laws of the scheme below give those of the scheme above it
  pub extended_laws : 0 < x.degree → ((y z : Y) → x.coefficients y ≡ x.coefficients z → y ≡ z) → {C N : Type 0} (m : Meaning X C N) (Commits : C → List (List X) → Type 0) → Laws m Commits → Laws (extended x m) (λ c matrix. Commits c (map (spread x) matrix))
  extended_laws pos settled {C} {N} m Commits laws =
      let same : (matrix : List (List Y)) → length (map (spread x) matrix) ≡ length matrix = λ matrix. length-map matrix (spread x) in
      record {
        own_right = λ c matrix w i of wide h.
            let right = laws.own_right c (map (spread x) matrix) (w * x.degree) i of (wide_spread w matrix wide) (subst (λ (n : ℕ). i < n) (sym (same matrix)) h) in
            subst (λ (r : List X). m.right c (w * x.degree) (length matrix) i r (m.own_path (map (spread x) matrix) i) ≡ true) (row_spread matrix i)
            (subst (λ (n : ℕ). m.right c (w * x.degree) n i (row_of (map (spread x) matrix) i) (m.own_path (map (spread x) matrix) i) ≡ true) (same matrix) right);
        own_long = λ c matrix i of. laws.own_long c (map (spread x) matrix) i of ∙ ap m.path_length (same matrix);
        binding = λ c matrix w i row path of wide right.
            let right' = subst (λ (n : ℕ). m.right c (w * x.degree) n i (spread x row) path ≡ true) (sym (same matrix)) right in
            ⊎_elim
            (λ (found : (i < length (map (spread x) matrix)) × (spread x row ≡ row_of (map (spread x) matrix) i)). inl (subst (λ (n : ℕ). i < n) (same matrix) found.0, spread_settled pos settled row (row_of matrix i) (found.1 ∙ row_spread matrix i)))
            (λ (clash : Collision m.digest (m.checked_lists i (spread x row) path) (m.committed_lists (map (spread x) matrix))). inr clash)
            (laws.binding c (map (spread x) matrix) (w * x.degree) i (spread x row) path of (wide_spread w matrix wide) right');
        wide = λ c w p i row path right. eq_of_mul-eq-mul_right x.degree pos (length row) w (sym (length_spread row) ∙ laws.wide c (w * x.degree) p i (spread x row) path right);
        long = λ c w p i row path right. laws.long c (w * x.degree) p i (spread x row) path right;
      }
