-- The matrices that are committed to: a row for each position, and what stands in it.
use Rattle.std.proofs.Common.{◌≡◌, ℕ, zero, suc, ◌+◌, ◌^◌, ◌<◌, List, [], ◌∷◌, map, length, get_or, refl, ap, ◌∙◌, arith, not-suc-le-zero}
use Rattle.std.proofs.lemmas.List.{get_or-map, length-map, length-append}
use Rattle.ring.specs.Ring.{Ops}
use Rattle.field.specs.Extension.{Extends}
use Rattle.multilinear.specs.declared.order.VariableOrder.{VariableOrder}
use Rattle.multilinear.specs.Tables.{corners, tabulate, row}
use Rattle.multilinear.proofs.Embedded.{keeps_tables}
use Rattle.domain.specs.Domains.{Lawful}
use Rattle.commit.specs.Opening.{row_of, Wide}
use Rattle.sponge.specs.Play.{counted}
use Rattle.transcript.proofs.Describing.{counted_length}
use Rattle.verification.specs.Setting.{Setting, folds, vars_after, log_positions, point_at}
use Rattle.assurance.specs.Committed.{base_rows, extension_rows, embedded}

-- the j-th of the numbers from k on
counted_at : (k n j d : ℕ) → j < n → get_or (counted k n) j d ≡ k + j
counted_at k zero j d h = absurd (not-suc-le-zero h)
counted_at k (suc n) zero d h = omega arith
counted_at k (suc n) (suc j) d h = counted_at (suc k) n j d (omega (arith, h)) ∙ omega arith

-- a matrix with a row for each of 2^n positions
module _ {X : Type 0} (f : ℕ → List X) (n : ℕ) where
  rows_count : length (map f (counted 0 n)) ≡ n
  rows_count = length-map (counted 0 n) f ∙ counted_length 0 n

  rows_at : (p : ℕ) → p < n → row_of (map f (counted 0 n)) p ≡ f p
  rows_at p h =
      let within : p < length (counted 0 n) = rw (counted_length 0 n) h in
      get_or-map f (counted 0 n) p 0 [] within ∙ ap f (counted_at 0 n p 0 h ∙ omega arith)

  rows_wide : (w : ℕ) → ((p : ℕ) → length (f p) ≡ w) → Wide w (map f (counted 0 n))
  rows_wide w h i l = let within : i < n = rw (rows_count) at l in ap length (rows_at i within) ∙ h i

-- n variables have 2^n corners
corners_long : {E : Type 0} (F : Ops E) (n : ℕ) → length (corners F n) ≡ 2 ^ n
unfolding corners
corners_long F zero = refl
corners_long F (suc n) =
    let c = corners_long F n in
    let a = length-map (corners F n) (λ x. F.zero ∷ x) in
    let b = length-map (corners F n) (λ x. F.one ∷ x) in
    let j = length-append (map (λ x. F.zero ∷ x) (corners F n)) (map (λ x. F.one ∷ x) (corners F n)) in
    omega (arith, a, b, c, j)

-- a row of k variables has 2^k values
pub row_long : {E : Type 0} (F : Ops E) (o : VariableOrder) (k : ℕ) (g q : List E) → length (row F o k g q) ≡ 2 ^ k
unfolding row tabulate
row_long F o k g q = length-map (corners F k) _ ∙ corners_long F k

module _ {F E C P : Type 0} (S : Setting F E C P) where
  -- the matrix of the first table: its height, its width, its rows in the base and in the extension
  pub base_high : (g : List F) → length (base_rows S g) ≡ 2 ^ log_positions S 0
  base_high g = rows_count (λ p. row S.base S.order (folds S 0) g (S.domain.point (log_positions S 0) (vars_after S 0) p)) (2 ^ log_positions S 0)

  pub base_wide : (g : List F) → Wide (2 ^ folds S 0) (base_rows S g)
  base_wide g =
      rows_wide (λ p. row S.base S.order (folds S 0) g (S.domain.point (log_positions S 0) (vars_after S 0) p)) (2 ^ log_positions S 0) (2 ^ folds S 0)
      (λ p. row_long S.base S.order (folds S 0) g (S.domain.point (log_positions S 0) (vars_after S 0) p))

  pub base_row_at : (g : List F) (p : ℕ) → p < 2 ^ log_positions S 0 → row_of (base_rows S g) p ≡ row S.base S.order (folds S 0) g (S.domain.point (log_positions S 0) (vars_after S 0) p)
  base_row_at g p h = rows_at (λ p. row S.base S.order (folds S 0) g (S.domain.point (log_positions S 0) (vars_after S 0) p)) (2 ^ log_positions S 0) p h

  pub base_row_embedded : Extends S.base S.field S.extension → (g : List F) (p : ℕ) → p < 2 ^ log_positions S 0
      → map S.extension.embed (row_of (base_rows S g) p) ≡ row S.field S.order (folds S 0) (embedded S g) (point_at S 0 p)
  base_row_embedded X g p h =
      ap (map S.extension.embed) (base_row_at g p h)
      ∙ (keeps_tables S.base S.field S.extension X).rows S.order (folds S 0) g (S.domain.point (log_positions S 0) (vars_after S 0) p)

  -- the matrix of a later table
  pub later_high : (i : ℕ) (g : List E) → length (extension_rows S i g) ≡ 2 ^ log_positions S i
  later_high i g = rows_count (λ p. row S.field S.order (folds S i) g (point_at S i p)) (2 ^ log_positions S i)

  pub later_wide : (i : ℕ) (g : List E) → Wide (2 ^ folds S i) (extension_rows S i g)
  later_wide i g =
      rows_wide (λ p. row S.field S.order (folds S i) g (point_at S i p)) (2 ^ log_positions S i) (2 ^ folds S i) (λ p. row_long S.field S.order (folds S i) g (point_at S i p))

  pub later_row_at : (i : ℕ) (g : List E) (p : ℕ) → p < 2 ^ log_positions S i → row_of (extension_rows S i g) p ≡ row S.field S.order (folds S i) g (point_at S i p)
  later_row_at i g p h = rows_at (λ p. row S.field S.order (folds S i) g (point_at S i p)) (2 ^ log_positions S i) p h

  -- a position's point has a coordinate for each variable that the phase leaves
  pub point_long : Lawful S.base S.field S.extension.embed S.domain → (i p : ℕ) → length (point_at S i p) ≡ vars_after S i
  point_long D i p = length-map (S.domain.point (log_positions S i) (vars_after S i) p) S.extension.embed ∙ D.sized (log_positions S i) (vars_after S i) p
