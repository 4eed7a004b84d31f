-- What a right opening says of the table behind its commitment: each row is the table's own, or lists collide. Assumes nothing.
use Rattle.std.proofs.Common.{◌≡◌, ℕ, zero, suc, ◌*◌, ◌^◌, ◌<◌, ◌⊎◌, Bool, true, ◌&&◌, eqb, Option, Some, None, List, [], ◌∷◌, ◌++◌, map, length, take, drop, sym, refl, ap, ◌∙◌, subst, inl, inr}
use mathlib.Core.List.Memᴰ
use Rattle.std.specs.List.{AllByRecursion}
use Rattle.std.proofs.lemmas.List.{take-map, drop-map}
use Rattle.std.proofs.lemmas.Bool.{and_parts, true≢false}
use Rattle.digest.specs.Collision.{Collision}
use Rattle.multilinear.specs.Tables.{row}
use Rattle.argument.specs.Reading.{Query}
use Rattle.field.specs.Extension.{Extends, Sized}
use Rattle.commit.specs.Spread.{spread}
use Rattle.commit.specs.SpreadLaws.{some_degree, extended_laws}
use Rattle.commit.specs.Opening.{Meaning, Laws, row_of, Wide, rows_right, opens}
use Rattle.verification.specs.Proof.{Rows, of_base, of_extension}
use Rattle.verification.specs.Setting.{Setting, folds, log_positions, point_at}
use Rattle.verification.specs.Verifying.{queries_at, elements_of, right_kind}
use Rattle.verification.specs.Verifying as v
use Rattle.assurance.proofs.Openings.{OfPhase}
use Rattle.assurance.specs.Committed.{base_rows, extension_rows, embedded, later_scheme, tables, committed_lists, checked_by, checked_in}
use Rattle.assurance.proofs.Matrices.{base_high, base_wide, base_row_embedded, later_high, later_wide, later_row_at}

-- A collision stays one among more lists that are digested in checking.
wider_left : {digest : List ℕ → List ℕ} {xs committed : List (List ℕ)} (ys : List (List ℕ)) → Collision digest xs committed → Collision digest (xs ++ ys) committed
wider_left ys k = record {
  one = k.one;
  other = k.other;
  in_checking = Memᴰ.append_left ys k.in_checking;
  in_committing = k.in_committing;
  different = k.different;
  shared = k.shared;
}

wider_right : {digest : List ℕ → List ℕ} (xs : List (List ℕ)) {ys committed : List (List ℕ)} → Collision digest ys committed → Collision digest (xs ++ ys) committed
wider_right xs k = record {
  one = k.one;
  other = k.other;
  in_checking = Memᴰ.append_right xs k.in_checking;
  in_committing = k.in_committing;
  different = k.different;
  shared = k.shared;
}

module _ {F E C P : Type 0} (S : Setting F E C P) (g : List F) (gs : ℕ → List E) where
  -- A query has the row of a table at its point, or Z holds.
  abbrev pub Owns : ℕ → List E → Type 0 → Query E → Type 0
  Owns k table Z q = (q.opened ≡ row S.field S.order k table q.point) ⊎ Z

  -- Rows of any scheme, which are carried into the extension by h: where they are right, each is the table's own or lists collide.
  module _ {X : Type 0} (m : Meaning X C P) (Commits : C → List (List X) → Type 0) (laws : Laws m Commits) (c : C) (matrix : List (List X)) (i : ℕ)
      (of : Commits c matrix) (wide : Wide (2 ^ folds S i) matrix) (high : length matrix ≡ 2 ^ log_positions S i)
      (h : List X → List E) (takes : (n : ℕ) (l : List X) → take n (h l) ≡ h (take n l)) (drops : (n : ℕ) (l : List X) → drop n (h l) ≡ h (drop n l))
      (table : List E) (known : (p : ℕ) → p < 2 ^ log_positions S i → h (row_of matrix p) ≡ row S.field S.order (folds S i) table (point_at S i p)) where
    -- a row's width, and how many positions there are
    abbrev w : ℕ
    w = 2 ^ folds S i

    abbrev size : ℕ
    size = 2 ^ log_positions S i

    -- one row
    one_row : (p : ℕ) (l : List X) (path : List P) → m.right c w size p (take w l) path ≡ true
        → (take w (h l) ≡ row S.field S.order (folds S i) table (point_at S i p)) ⊎ Collision m.digest (m.checked_lists p (take w l) path) (m.committed_lists matrix)
    one_row p l path right =
        elim (laws.binding c matrix w p (take w l) path of wide (subst (λ (n : ℕ). m.right c w n p (take w l) path ≡ true) (sym high) right)) [
          | inl found ↦ inl (takes w l ∙ ap h found.1 ∙ known p (subst (λ (n : ℕ). p < n) high found.0))
          | inr k ↦ inr k
        ]

    -- all rows, where a collision of their lists leads to Z
    pub rows_own : (Z : Type 0) (ps : List ℕ) (l : List X) (paths : List P) → rows_right m c w size ps l paths ≡ true
        → (Collision m.digest (checked_by S g gs m w size ps l paths) (m.committed_lists matrix) → Z)
        → AllByRecursion (Owns (folds S i) table Z) (queries_at S i ps (h l))
    rows_own Z [] l paths right clash = tt
    rows_own Z (p ∷ ps) l paths right clash =
        let n : ℕ = m.path_length size in
        let both = and_parts (m.right c w size p (take w l) (take n paths)) (rows_right m c w size ps (drop w l) (drop n paths)) right in
        let rest : AllByRecursion (Owns (folds S i) table Z) (queries_at S i ps (h (drop w l))) =
        rows_own Z ps (drop w l) (drop n paths) both.1 (λ k. clash (wider_right (m.checked_lists p (take w l) (take n paths)) k)) in (
          elim (one_row p l (take n paths) both.0) [
            | inl e ↦ inl e
            | inr k ↦ inr (clash (wider_left (checked_by S g gs m w size ps (drop w l) (drop n paths)) k))
          ],
          subst (λ (t : List E). AllByRecursion (Owns (folds S i) table Z) (queries_at S i ps t)) (sym (drops w l)) rest,
        )

  -- An opening of phase i is right: its rows are those of the phase's table, or lists of the phase collide.
  module _ (H : Extends S.base S.field S.extension) (Of : C → List (List F) → Type 0) (laws : Laws S.scheme Of)
      (later_laws : Laws (later_scheme S) (λ c matrix. Of c (map (spread S.extension) matrix))) where
    -- each opened row is the table's, or lists of the phase collide
    abbrev RowsHold : ℕ → List ℕ → Rows F E → List P → Type 0
    RowsHold i ps rows paths =
        AllByRecursion (Owns (folds S i) (tables S g gs i) (Collision S.scheme.digest (checked_in S g gs i ps rows paths) (committed_lists S g gs i))) (queries_at S i ps (elements_of S rows))

    -- phase 0 opens rows of the base, and each later phase rows of the extension
    first_rows : (c : C) (ps : List ℕ) (l : List F) (paths : List P) → rows_right S.scheme c (2 ^ folds S 0) (2 ^ log_positions S 0) ps l paths ≡ true
        → Of c (base_rows S g) → RowsHold 0 ps (of_base l) paths
    first_rows c ps l paths right of =
        rows_own S.scheme Of laws c (base_rows S g) 0 of (base_wide S g) (base_high S g) (map S.extension.embed)
        (take-map S.extension.embed) (drop-map S.extension.embed) (embedded S g)
        (base_row_embedded S H g)
        (Collision S.scheme.digest (checked_in S g gs 0 ps (of_base l) paths) (committed_lists S g gs 0)) ps l paths right (λ k. k)

    later_rows : (i : ℕ) (c : C) (ps : List ℕ) (l : List E) (paths : List P) → rows_right (later_scheme S) c (2 ^ folds S (suc i)) (2 ^ log_positions S (suc i)) ps l paths ≡ true
        → Of c (map (spread S.extension) (extension_rows S (suc i) (gs i))) → RowsHold (suc i) ps (of_extension l) paths
    later_rows i c ps l paths right of =
        rows_own (later_scheme S) (λ d matrix. Of d (map (spread S.extension) matrix)) later_laws c (extension_rows S (suc i) (gs i)) (suc i) of (later_wide S (suc i) (gs i)) (later_high S (suc i) (gs i)) (λ r. r)
        (λ n r. refl) (λ n r. refl) (gs i) (later_row_at S (suc i) (gs i))
        (Collision S.scheme.digest (checked_in S g gs (suc i) ps (of_extension l) paths) (committed_lists S g gs (suc i))) ps l paths right (λ k. k)

    -- rows that open are right
    opened : {X : Type 0} (m : Meaning X C P) (c : C) (w p : ℕ) (is : List ℕ) (l : List X) (paths : List P) → opens m c w p is l paths ≡ true → rows_right m c w p is l paths ≡ true
    opened m c w p is l paths o =
        let n : Bool = eqb (length paths) (length is * m.path_length p) in
        (and_parts n (rows_right m c w p is l paths) (and_parts (eqb (length l) (length is * w)) (n && rows_right m c w p is l paths) o).1).1

    -- the kind tells which
    pub rows_of_phase : (i : ℕ) (c : Option C) (ps : List ℕ) (rows : Rows F E) (paths : List P) → right_kind i rows ≡ true → v.rows_right S i c ps rows paths ≡ true → OfPhase S g gs Of i c → RowsHold i ps rows paths
    rows_of_phase zero None ps rows paths kind right of = absurd of
    rows_of_phase zero (Some c) ps (of_base l) paths kind right of = first_rows c ps l paths (opened S.scheme c (2 ^ folds S 0) (2 ^ log_positions S 0) ps l paths right) of
    rows_of_phase zero (Some c) ps (of_extension l) paths kind right of = absurd (true≢false (sym kind))
    rows_of_phase (suc i) None ps rows paths kind right of = absurd of
    rows_of_phase (suc i) (Some c) ps (of_base l) paths kind right of = absurd (true≢false (sym kind))
    rows_of_phase (suc i) (Some c) ps (of_extension l) paths kind right of = later_rows i c ps l paths (opened (later_scheme S) c (2 ^ folds S (suc i)) (2 ^ log_positions S (suc i)) ps l paths right) of

-- The laws of a scheme give those of the scheme for rows of the extension.
pub spread_laws : {F E C P : Type 0} (S : Setting F E C P) (Of : C → List (List F) → Type 0) → Extends S.base S.field S.extension → Sized S.extension.degree → Laws S.scheme Of
    → Laws (later_scheme S) (λ c matrix. Of c (map (spread S.extension) matrix))
spread_laws S Of H sized laws = extended_laws S.extension H.count (some_degree sized) H.settled S.scheme Of laws
