-- The claim and the weight of a round, as the verification has them.
use Rattle.std.proofs.Common.{◌≡◌, ℕ, ◌^◌, List, [], ◌∷◌, ◌++◌, map, length, drop, sym, refl, arith, ap, ◌∙◌, ap₂}
use Rattle.std.proofs.lemmas.List.{map-append}
use Rattle.ring.specs.Polynomials.{value as at}
use Rattle.multilinear.specs.Tables.{eq, select, orient}
use Rattle.multilinear.specs.Univariate.{expand}
use Rattle.argument.specs.Claims.{weight_at, joined}
use Rattle.argument.specs.Reading.{queried, fresh}
use Rattle.verification.specs.Proof.{Opening}
use Rattle.verification.specs.Setting.{Setting, folds, vars_after, log_positions}
use Rattle.verification.specs.Verifying.{samples_at, elements_of, queries_at, rows_opened}
use Rattle.verifier.specs.Rows.{elements, row_values}
use Rattle.verifier.proofs.RowValues.{rows_embedded, queries_values}

module _ {F E C P : Type 0} (S : Setting F E C P) where
  -- The values that samples claim are their answers.
  samples_values : (i : ℕ) (zs vs : List E) → length zs ≡ length vs → map (λ q. q.claimed) (samples_at S i zs vs) ≡ vs
  samples_values i [] [] e = refl
  samples_values i [] (v ∷ vs) e = absurd (omega (arith, e))
  samples_values i (z ∷ zs) [] e = absurd (omega (arith, e))
  samples_values i (z ∷ zs) (v ∷ vs) e = ap (λ l. v ∷ l) (samples_values i zs vs (omega (arith, e)))

  -- Their weights at a point are those of the points that they stand for.
  samples_weights : (i : ℕ) (x zs vs : List E) → length zs ≡ length vs → map (λ q. q.point x) (samples_at S i zs vs) ≡ map (λ z. eq S.field (expand S.field z (vars_after S i)) x) zs
  samples_weights i x [] [] e = refl
  samples_weights i x [] (v ∷ vs) e = refl
  samples_weights i x (z ∷ zs) [] e = absurd (omega (arith, e))
  samples_weights i x (z ∷ zs) (v ∷ vs) e = ap (λ l. eq S.field (expand S.field z (vars_after S i)) x ∷ l) (samples_weights i x zs vs (omega (arith, e)))

  -- The weights of rows are those of their positions.
  rows_weights : (i : ℕ) (rs x : List E) (ps : List ℕ) (l : List E)
      → map (λ q. q.point x) (map (queried S.field S.order rs) (queries_at S i ps l)) ≡ map (λ p. select S.field (map S.extension.embed (S.domain.point (log_positions S i) (vars_after S i) p)) x) ps
  rows_weights i rs x [] l = refl
  rows_weights i rs x (p ∷ ps) l = ap (λ ws. select S.field (map S.extension.embed (S.domain.point (log_positions S i) (vars_after S i) p)) x ∷ ws) (rows_weights i rs x ps (drop (2 ^ folds S i) l))

  -- The carried claim with the answers and the rows' values is the one that the round goes on with.
  pub claims_joined : (i : ℕ) (rs zs vs : List E) (ps : List ℕ) (o : Opening F E P) (c γ : E) (point : List E) (count : ℕ) → length zs ≡ length vs → count ≡ length ps → point ≡ orient S.order rs → length point ≡ folds S i
      → at S.field (c ∷ (vs ++ row_values S.field (2 ^ length point) point count (elements S.extension o.rows))) γ
      ≡ joined S.field c (fresh S.field S.order rs (rows_opened S i ps o) (samples_at S i zs vs)) γ
  claims_joined i rs zs vs ps o c γ point count answered each at_draws long =
      let rows = elements_of S o.rows in
      let samples = samples_at S i zs vs in
      let values : row_values S.field (2 ^ length point) point count (elements S.extension o.rows) ≡ map (λ q. q.claimed) (map (queried S.field S.order rs) (rows_opened S i ps o)) =
      ap₂ (λ n e. row_values S.field (2 ^ n) point count e) long (rows_embedded S o.rows) ∙ ap₂ (λ p n. row_values S.field (2 ^ folds S i) p n rows) at_draws each ∙ sym (queries_values S i rs ps rows) in
      ap (λ l. at S.field (c ∷ l) γ)
      (ap₂ (λ u w. u ++ w) (sym (samples_values i zs vs answered)) values
      ∙ sym (map-append (λ q. q.claimed) samples (map (queried S.field S.order rs) (rows_opened S i ps o))))

  -- What a round adds to the weight is that of its fresh claims at a point, from the power 1 on.
  pub round_weight : (i : ℕ) (rs zs vs : List E) (ps : List ℕ) (o : Opening F E P) (γ : E) (x : List E) (log vars : ℕ) → length zs ≡ length vs → log ≡ log_positions S i → vars ≡ vars_after S i → length x ≡ vars
      → S.field.mul γ (at S.field (map (λ z. eq S.field (expand S.field z (length x)) x) zs ++ map (λ p. select S.field (map S.extension.embed (S.domain.point log vars p)) x) ps) γ)
      ≡ S.field.mul γ (weight_at S.field (fresh S.field S.order rs (rows_opened S i ps o) (samples_at S i zs vs)) γ x)
  round_weight i rs zs vs ps o γ x log vars answered el ev long =
      let weights : List ℕ → ℕ → ℕ → List E = λ ps log vars. map (λ p. select S.field (map S.extension.embed (S.domain.point log vars p)) x) ps in
      ap (λ l. S.field.mul γ (at S.field l γ))
      (ap₂ (λ u w. u ++ w)
      (ap (λ n. map (λ z. eq S.field (expand S.field z n) x) zs) (long ∙ ev) ∙ sym (samples_weights i x zs vs answered))
      (ap₂ (weights ps) el ev ∙ sym (rows_weights i rs x ps (elements_of S o.rows)))
      ∙ sym (map-append (λ q. q.point x) (samples_at S i zs vs) (map (queried S.field S.order rs) (rows_opened S i ps o))))
