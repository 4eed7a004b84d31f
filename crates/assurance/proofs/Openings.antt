-- Openings that have a table's own rows: they are right against its commitment, and their rows are the table's own.
use Rattle.std.proofs.Common.{◌≡◌, ℕ, zero, suc, ◌^◌, ◌<◌, true, is_some, List, [], ◌∷◌, ◌++◌, map, length, take, drop, get_or, Option, Some, None, sym, refl, ap, ◌∙◌, subst, ap₂, not-suc-le-zero, le_of_suc-le-suc}
use Rattle.std.specs.List.{AllByRecursion}
use Rattle.std.proofs.lemmas.List.{take_at, drop_at, map-append}
use Rattle.field.specs.Extension.{Extends, Sized}
use Rattle.multilinear.specs.Tables.{row}
use Rattle.argument.specs.Honest.{OwnRow}
use Rattle.domain.specs.Domains.{Lawful}
use Rattle.commit.specs.Opening.{Laws, row_of, own_rows, own_paths}
use Rattle.commit.specs.Spread.{spread}
use Rattle.commit.specs.SpreadLaws.{some_degree, extended_laws}
use Rattle.commit.proofs.Openings.{own_by_laws}
use Rattle.verification.specs.Proof.{Opening}
use Rattle.verification.specs.Setting.{Setting, folds, vars_after, log_positions, point_at}
use Rattle.verification.specs.Verifying.{right_kind, rows_right, elements_of, queries_at, rows_opened}
use Rattle.verification.specs.Decision.{OpeningRight}
use Rattle.assurance.specs.Committed.{base_rows, extension_rows, embedded, later_scheme, tables, OfLater}
use Rattle.assurance.specs.Honest.{OwnOpening}
use Rattle.assurance.proofs.Matrices.{row_long, base_high, base_wide, base_row_embedded, later_high, later_wide, later_row_at, point_long}

-- a law of all members holds of each
pub all_at : (P : ℕ → Type 0) (ps : List ℕ) → AllByRecursion P ps → (k : ℕ) → k < length ps → P (get_or ps k 0)
all_at P [] h k l = absurd (not-suc-le-zero l)
all_at P (p ∷ ps) h zero l = h.0
all_at P (p ∷ ps) h (suc k) l = all_at P ps h.1 k (le_of_suc-le-suc l)

module _ {F E C P : Type 0} (S : Setting F E C P) (g : List F) (gs : ℕ → List E) where
  -- the rows of an opening, where each is the table's own and they stand one after another
  queries_own : Lawful S.base S.field S.extension.embed S.domain → (i : ℕ) (t : List E) (flat : List ℕ → List E)
      → ((p : ℕ) (ps : List ℕ) → p < 2 ^ log_positions S i → flat (p ∷ ps) ≡ row S.field S.order (folds S i) t (point_at S i p) ++ flat ps)
      → (ps : List ℕ) → AllByRecursion (λ p. p < 2 ^ log_positions S i) ps → AllByRecursion (OwnRow S.field S.order (folds S i) (vars_after S i) t) (queries_at S i ps (flat ps))
  queries_own D i t flat h [] b = tt
  queries_own D i t flat h (p ∷ ps) b =
      let w : ℕ = 2 ^ folds S i in
      let own : List E = row S.field S.order (folds S i) t (point_at S i p) in
      let long : length own ≡ w = row_long S.field S.order (folds S i) t (point_at S i p) in
      let e : flat (p ∷ ps) ≡ own ++ flat ps = h p ps b.0 in (
        record { point = point_long S D i p; own = ap (take w) e ∙ take_at own (flat ps) w long },
        subst (λ l. AllByRecursion (OwnRow S.field S.order (folds S i) (vars_after S i) t) (queries_at S i ps l)) (sym (ap (drop w) e ∙ drop_at own (flat ps) w long))
            (queries_own D i t flat h ps b.1),
      )

  -- the rows of an opening that has the table's own
  pub own_queries : Extends S.base S.field S.extension → Lawful S.base S.field S.extension.embed S.domain → (i : ℕ) (ps : List ℕ) (o : Opening F E P)
      → AllByRecursion (λ p. p < 2 ^ log_positions S i) ps → (Of : C → List (List F) → Type 0) → OwnOpening S g gs Of i ps o
      → AllByRecursion (OwnRow S.field S.order (folds S i) (vars_after S i) (tables S g gs i)) (rows_opened S i ps o)
  own_queries X D zero ps o b Of h =
      let φ : F → E = S.extension.embed in
      let m : List (List F) = base_rows S g in
      subst (λ l. AllByRecursion (OwnRow S.field S.order (folds S 0) (vars_after S 0) (embedded S g)) (queries_at S 0 ps l)) (sym (ap (elements_of S) h.rows))
      (queries_own D 0 (embedded S g) (λ is. map φ (own_rows S.scheme m is))
      (λ p is l. map-append φ (row_of m p) (own_rows S.scheme m is) ∙ ap (λ z. z ++ map φ (own_rows S.scheme m is)) (base_row_embedded S X g p l)) ps b)
  own_queries X D (suc i) ps o b Of h =
      let m : List (List E) = extension_rows S (suc i) (gs i) in
      subst (λ l. AllByRecursion (OwnRow S.field S.order (folds S (suc i)) (vars_after S (suc i)) (gs i)) (queries_at S (suc i) ps l)) (sym (ap (elements_of S) h.rows))
      (queries_own D (suc i) (gs i) (λ is. own_rows (later_scheme S) m is)
      (λ p is l. ap (λ z. z ++ own_rows (later_scheme S) m is) (later_row_at S (suc i) (gs i) p l)) ps b)

  module _ (Of : C → List (List F) → Type 0) where
    -- the commitment that phase i opens is there, and is of its table's rows
    abbrev pub OfPhase : ℕ → Option C → Type 0
    OfPhase zero None = ⊥
    OfPhase zero (Some c) = Of c (base_rows S g)
    OfPhase (suc i) c = OfLater S g gs Of i c

    pub later_there : (i : ℕ) (c : Option C) → OfLater S g gs Of i c → is_some c ≡ true
    later_there i None h = absurd h
    later_there i (Some c) h = refl

    -- an opening that has the table's own rows and paths is right
    pub own_right : Laws S.scheme Of → Extends S.base S.field S.extension → Sized S.extension.degree → (i : ℕ) (c : Option C) (ps : List ℕ) (o : Opening F E P)
        → AllByRecursion (λ p. p < 2 ^ log_positions S i) ps → OfPhase i c → OwnOpening S g gs Of i ps o → OpeningRight S i c ps o
    own_right W X Z zero None ps o b of h = absurd of
    own_right W X Z zero (Some c) ps o b of h =
        let m : List (List F) = base_rows S g in
        let w : ℕ = 2 ^ folds S 0 in
        let p : ℕ = 2 ^ log_positions S 0 in
        record {
          kind = ap (right_kind 0) h.rows;
          count = h.count;
          rows =
              ap₂ (λ x y. rows_right S 0 (Some c) ps x y) h.rows h.paths
              ∙ own_by_laws S.scheme Of W c w p ps (own_rows S.scheme m ps) (own_paths S.scheme m ps)
              (record { matrix = m; commits = of; wide = base_wide S g; high = base_high S g; within = all_at (λ q. q < p) ps b; rows_own = refl; paths_own = refl });
        }
    own_right W X Z (suc i) None ps o b of h = absurd of
    own_right W X Z (suc i) (Some c) ps o b of h =
        let m : List (List E) = extension_rows S (suc i) (gs i) in
        let w : ℕ = 2 ^ folds S (suc i) in
        let p : ℕ = 2 ^ log_positions S (suc i) in
        let laws : Laws (later_scheme S) (λ d matrix. Of d (map (spread S.extension) matrix)) = extended_laws S.extension X.count (some_degree Z) X.settled S.scheme Of W in
        record {
          kind = ap (right_kind (suc i)) h.rows;
          count = h.count;
          rows =
              ap₂ (λ x y. rows_right S (suc i) (Some c) ps x y) h.rows h.paths
              ∙ own_by_laws (later_scheme S) (λ d matrix. Of d (map (spread S.extension) matrix)) laws c w p ps (own_rows (later_scheme S) m ps) (own_paths (later_scheme S) m ps)
              (record { matrix = m; commits = of; wide = later_wide S (suc i) (gs i); high = later_high S (suc i) (gs i); within = all_at (λ q. q < p) ps b; rows_own = refl; paths_own = refl });
        }
