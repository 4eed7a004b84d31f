-- Rows beside a polynomial: one row after another, and the verification's test of the last phase's rows.
use Rattle.std.proofs.Common.{◌≡◌, ℕ, ◌+◌, ◌^◌, ◌<◌, ◌≤◌, Bool, true, false, ◌&&◌, not, List, [], ◌∷◌, map, length, take, drop, get_or, sym, refl, ap, ◌∙◌, ap₂, add-one, arith, drop-cons, drop_of_length-le}
use Rattle.std.proofs.lemmas.Bool.{not-true, not-false}
use Rattle.std.specs.List.{list_all}
use Rattle.ring.specs.Ring.{Ops}
use Rattle.multilinear.specs.Tables.{value, position, orient}
use Rattle.commit.specs.Opening.{piece}
use Rattle.argument.specs.Claims.{worth}
use Rattle.argument.specs.Reading.{queried}
use Rattle.sumcheck.specs.Rounds.{Turn}
use Rattle.verification.specs.Proof.{Rows}
use Rattle.verification.specs.Setting.{log_positions, vars_after, Setting, Inputs, RoundReading, given, last, folds, point_at}
use Rattle.verification.specs.Verifying.{elements_of, queries_at, newest_draws, final_polynomial, rows_agree}
use Rattle.verifier.specs.Rows.{elements, row_values}
use Rattle.verifier.specs.Agreeing.{agrees, all_agree}
use Rattle.verifier.proofs.RowValues.{rest, rest_begins, rest_next, rows_embedded}

module _ {E : Type 0} (F : Ops E) (equal : E → E → Bool) (point : ℕ → List E) (f : List E) (w : ℕ) (p rows : List E) where
  -- whether the rows from row k on agree
  abbrev pub left_agree : (positions : List ℕ) → (count k : ℕ) → Bool
  left_agree ps count k = all_agree F equal point f (drop k ps) (rest F w p rows count k)

  pub left_begins : (ps : List ℕ) (count : ℕ) → left_agree ps count 0 ≡ all_agree F equal point f ps (row_values F w p count rows)
  left_begins ps count = ap (all_agree F equal point f ps) (rest_begins F w p rows count)

  -- where a row's value is v and the polynomial's u
  left_next : (ps : List ℕ) (count k : ℕ) (v u : E) → k < length ps → count ≡ length ps → v ≡ value F (piece rows w k) p → u ≡ position F f (point (get_or ps k 0))
      → left_agree ps count k ≡ (equal v u && left_agree ps count (k + 1))
  left_next ps count k v u h each ev eu =
      let next : drop k ps ≡ get_or ps k 0 ∷ drop (k + 1) ps = drop-cons ps k 0 h ∙ ap (λ n. get_or ps k 0 ∷ drop n ps) (sym (add-one k)) in
      let more : rest F w p rows count k ≡ v ∷ rest F w p rows count (k + 1) = rest_next F w p rows count k (omega arith) ∙ ap (λ a. a ∷ rest F w p rows count (k + 1)) (sym ev) in
      ap₂ (all_agree F equal point f) next more ∙ ap (λ a. equal v a && left_agree ps count (k + 1)) (sym eu)

  -- they are equal: the others decide
  pub row_agrees : (ps : List ℕ) (count k : ℕ) (v u : E) → k < length ps → count ≡ length ps → v ≡ value F (piece rows w k) p → u ≡ position F f (point (get_or ps k 0)) → false ≡ not (equal v u)
      → left_agree ps count (k + 1) ≡ left_agree ps count k
  row_agrees ps count k v u h each ev eu same = sym (left_next ps count k v u h each ev eu ∙ ap (λ b. b && left_agree ps count (k + 1)) (not-false (equal v u) (sym same)))

  -- they differ: the rows do not agree
  pub row_differs : (ps : List ℕ) (count k : ℕ) (v u : E) → k < length ps → count ≡ length ps → v ≡ value F (piece rows w k) p → u ≡ position F f (point (get_or ps k 0)) → true ≡ not (equal v u)
      → false ≡ left_agree ps count k
  row_differs ps count k v u h each ev eu other = sym (left_next ps count k v u h each ev eu ∙ ap (λ b. b && left_agree ps count (k + 1)) (not-true (equal v u) (sym other)))

  -- past the last
  pub none_left : (ps : List ℕ) (count k : ℕ) → length ps ≤ k → true ≡ left_agree ps count k
  none_left ps count k h = sym (ap (λ l. all_agree F equal point f l (rest F w p rows count k)) (drop_of_length-le ps h))

module _ {F E C P : Type 0} (S : Setting F E C P) where
  -- The rows at positions are tested as their queries are: a query's worth is the polynomial's value at its point.
  queries_agree : (i : ℕ) (f rs : List E) (ps : List ℕ) (l : List E)
      → list_all (λ q. S.equal q.claimed (worth S.field f q)) (map (queried S.field S.order rs) (queries_at S i ps l))
      ≡ all_agree S.field S.equal (point_at S i) f ps (row_values S.field (2 ^ folds S i) (orient S.order rs) (length ps) l)
  unfolding position
  queries_agree i f rs [] l = refl
  queries_agree i f rs (p ∷ ps) l =
      ap (λ b. agrees S.field S.equal (point_at S i) f p (value S.field (take (2 ^ folds S i) l) (orient S.order rs)) && b) (queries_agree i f rs ps (drop (2 ^ folds S i) l))

  -- What the code tests of the last phase's rows, at the draws of the last sumcheck so far, is what the verification tests of them.
  pub last_rows_agree : (I : Inputs F E C P) (ts : List (Turn E)) (l : List (RoundReading E)) (ps : List ℕ) (rows : Rows F E) (f point : List E) (count log vars : ℕ)
      → rows ≡ (given S I).opening.rows → f ≡ final_polynomial S I → point ≡ orient S.order (newest_draws ts l) → length point ≡ folds S (last S) → count ≡ length ps → log ≡ log_positions S (last S) → vars ≡ vars_after S (last S)
      → all_agree S.field S.equal (λ p. map S.extension.embed (S.domain.point log vars p)) f ps (row_values S.field (2 ^ length point) point count (elements S.extension rows)) ≡ rows_agree S I ts l ps
  last_rows_agree I ts l ps rows f point count log vars same polynomial at_draws long each el ev =
      let rs = newest_draws ts l in
      let all = elements_of S (given S I).opening.rows in
      let place : ℕ → ℕ → ℕ → List E = λ log vars p. map S.extension.embed (S.domain.point log vars p) in
      let values : row_values S.field (2 ^ length point) point count (elements S.extension rows) ≡ row_values S.field (2 ^ folds S (last S)) (orient S.order rs) (length ps) all =
      ap₂ (λ n e. row_values S.field (2 ^ n) point count e) long (ap (elements S.extension) same ∙ rows_embedded S (given S I).opening.rows)
      ∙ ap₂ (λ p n. row_values S.field (2 ^ folds S (last S)) p n all) at_draws each in
      ap₂ (λ a b. all_agree S.field S.equal (place a b) f ps (row_values S.field (2 ^ length point) point count (elements S.extension rows))) el ev
      ∙ ap₂ (λ g vs. all_agree S.field S.equal (point_at S (last S)) g ps vs) polynomial values
      ∙ sym (queries_agree (last S) (final_polynomial S I) rs ps all)
