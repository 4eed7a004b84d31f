-- Completeness, forwards from the claims.
use Rattle.std.proofs.Common.{◌≡◌, ℕ, ◌^◌, List, ◌++◌, map, length, sym, ap, ◌∙◌, append-nil}
use Rattle.ring.specs.Ring.{Ops, IsRing}
use Rattle.field.specs.Laws.{IsField}
use Rattle.multilinear.specs.declared.order.VariableOrder.{VariableOrder}
use Rattle.std.specs.List.{AllByRecursion}
use Rattle.multilinear.specs.Tables.{orient, cube, view, folded}
use Rattle.multilinear.specs.Laws.{Multilinear}
use Rattle.multilinear.proofs.Algebra as A
use Rattle.multilinear.proofs.Sums as S
use Rattle.multilinear.proofs.Linear as M
use Rattle.argument.specs.Sumcheck.{Step, draws, before, after, TrueSteps}
use Rattle.argument.specs.Claims.{Claim, Extends, TrueOf, worth, batched, weight, weight_at, joined, joint}
use Rattle.argument.specs.Reading.{Query, Tail, end, round, left, all_draws, last_draws, polynomial, queried, fresh, carried, later_weight, LastRowsAgree, Accepted}
use Rattle.argument.specs.Accidents.{onward}
use Rattle.argument.specs.Honest.{TrueClaim, OwnRow, Honest}
use Rattle.argument.specs.Completeness.{HonestMeansAccepted}
use Rattle.std.proofs.ByRecursion.{All-append, All-weaker, All-map}
use Rattle.argument.proofs.Steps as D
use Rattle.argument.proofs.Weights as W
use Rattle.argument.proofs.Sound as N

module _ {E : Type 0} (F : Ops E) (K : IsField F) (o : VariableOrder) where
  open F use {zero as 𝟘, one as 𝟙, add as ◌⊕◌, sub as ◌⊖◌, mul as ◌⊗◌}

  infixl 60 ◌⊕◌
  infixl 60 ◌⊖◌
  infixl 70 ◌⊗◌
  L : IsRing F
  L = K.ring

  -- own rows tell the next table's values
  own_rows : (n : ℕ) (g' g rs : List E) → g' ≡ folded F o n g rs → (qs : List (Query E)) → AllByRecursion (OwnRow F o (length rs) n g) qs → AllByRecursion (TrueOf F g') (map (queried F o rs) qs)
  own_rows n g' g rs e qs h =
      All-map (TrueOf F g') (queried F o rs) qs
      (All-weaker (OwnRow F o (length rs) n g) (λ q. TrueOf F g' (queried F o rs q)) (λ q t. W.row_true F K o n g rs q t.point t.own ∙ ap (λ z. worth F z (queried F o rs q)) (sym e)) qs h)

  points : (k n : ℕ) (g : List E) (qs : List (Query E)) → AllByRecursion (OwnRow F o k n g) qs → AllByRecursion (λ q. length q.point ≡ n) qs
  points k n g qs h = All-weaker (OwnRow F o k n g) (λ q. length q.point ≡ n) (λ q t. t.point) qs h

  lawfuls : (n : ℕ) (g : List E) (qs : List (Claim E)) → AllByRecursion (TrueClaim F o n g) qs → AllByRecursion (Extends F n) qs
  lawfuls n g qs h = All-weaker (TrueClaim F o n g) (Extends F n) (λ q t. t.lawful) qs h

  trues : (n : ℕ) (g : List E) (qs : List (Claim E)) → AllByRecursion (TrueClaim F o n g) qs → AllByRecursion (TrueOf F g) qs
  trues n g qs h = All-weaker (TrueClaim F o n g) (TrueOf F g) (λ q t. t.holds) qs h

  honest_lawful : (tail : Tail E) (g rs : List E) (gs : ℕ → List E) (V : List E → E) → Honest F o g rs gs V tail → N.Lawful F K o rs tail
  honest_lawful (end f qs ss) g rs gs V h = tt
  honest_lawful (round qs samples γ ss tail) g rs gs V h =
      let n : ℕ = before ss (left tail) in (
        W.fresh_lawful F K o n rs qs samples (points (length rs) n g qs h.rows) (lawfuls n (gs 0) samples h.sampled),
        honest_lawful tail (gs 0) (draws ss) (onward gs) (λ x. joint F o V (fresh F o rs qs samples) γ (draws ss ++ x)) h.rest,
      )

  tail_complete : (tail : Tail E) (g rs : List E) (gs : ℕ → List E) (V : List E → E) (c : E) → Multilinear F V → Honest F o g rs gs V tail
      → c ≡ cube F (left tail) (λ x. V x ⊗ view F o g (rs ++ x)) → N.Passes F K o rs V c tail
  tail_complete (end f qs ss) g rs gs V c mV h e = (
    own_rows (before ss 0) f g rs h.folds qs h.rows,
    D.steps_complete F K ss 0 V (view F o f) c mV (M.ml_view F L o f) h.messages (e ∙ sym (W.cube_folded F K o (before ss 0) f g rs V h.folds))
        ∙ S.cube_zero F L (λ x. V (draws ss ++ x) ⊗ view F o f (draws ss ++ x)) ∙ ap (λ z. V z ⊗ view F o f z) (append-nil (draws ss)),
  )
  tail_complete (round qs samples γ ss tail) g rs gs V c mV h e =
      let g' : List E = gs 0 in
      let n : ℕ = before ss (left tail) in
      let new : List (Claim E) = fresh F o rs qs samples in
      let len : length (gs 0) ≡ 2 ^ before ss (left tail) = ap length h.folds ∙ W.length_folded F K o n g rs in
      let mV' : Multilinear F (joint F o V new γ) = W.ml_joint F K o V mV new γ in
      let laws : AllByRecursion (Extends F n) new = W.fresh_lawful F K o n rs qs samples (points (length rs) n g qs h.rows) (lawfuls n g' samples h.sampled) in
      let true : AllByRecursion (TrueOf F g') new = All-append (TrueOf F g') samples (map (queried F o rs) qs) (trues n g' samples h.sampled) (own_rows n g' g rs h.folds qs h.rows) in
      let batch : joined F c new γ ≡ cube F n (λ x. joint F o V new γ x ⊗ view F o g' x) =
      W.round_complete F K o n g' V c new γ len laws (e ∙ sym (W.cube_folded F K o n g' g rs V h.folds)) true in
      tail_complete tail g' (draws ss) (onward gs) (λ x. joint F o V new γ (draws ss ++ x)) (after F (joined F c new γ) ss) (M.ml_after F L (joint F o V new γ) (draws ss) mV') h.rest
      (D.steps_complete F K ss (left tail) (joint F o V new γ) (view F o g') (joined F c new γ) mV' (M.ml_view F L o g') h.messages batch)

  last_rows : (tail : Tail E) (rs : List E) (V : List E → E) (c : E) → N.Passes F K o rs V c tail → LastRowsAgree F o rs tail
  last_rows (end f qs ss) rs V c p = p.0
  last_rows (round qs samples γ ss tail) rs V c p = last_rows tail (draws ss) (λ x. joint F o V (fresh F o rs qs samples) γ (draws ss ++ x)) (after F (joined F c (fresh F o rs qs samples) γ) ss) p

  closes : (tail : Tail E) (rs : List E) (V : List E → E) (c : E) → N.Lawful F K o rs tail → N.Passes F K o rs V c tail
      → carried F o rs c tail ≡ (V (all_draws tail) ⊕ later_weight F o rs tail) ⊗ view F o (polynomial tail) (last_draws tail)
  closes (end f qs ss) rs V c lawful p = p.1 ∙ sym (ap (λ z. z ⊗ view F o f (draws ss)) (A.add-zero F L (V (draws ss))))
  closes (round qs samples γ ss tail) rs V c lawful p =
      closes tail (draws ss) (λ x. joint F o V (fresh F o rs qs samples) γ (draws ss ++ x)) (after F (joined F c (fresh F o rs qs samples) γ) ss) lawful.1 p
      ∙ sym (ap (λ z. z ⊗ view F o (polynomial tail) (last_draws tail)) (N.joint_at F K o rs qs samples γ ss tail V lawful))

  pub run_complete : (gs : ℕ → List E) (claims : List (Claim E)) (α : E) (ss : List (Step E)) (tail : Tail E)
      → length (gs 0) ≡ 2 ^ before ss (left tail) → AllByRecursion (TrueClaim F o (before ss (left tail)) (gs 0)) claims → TrueSteps F ss (left tail) (weight F o claims α) (view F o (gs 0))
      → Honest F o (gs 0) (draws ss) (onward gs) (λ x. weight F o claims α (draws ss ++ x)) tail → Accepted F o claims α ss tail
  run_complete gs claims α ss tail len claimed messages honest =
      let g : List E = gs 0 in
      let n : ℕ = before ss (left tail) in
      let V : List E → E = weight F o claims α in
      let laws : AllByRecursion (Extends F n) claims = lawfuls n g claims claimed in
      let mV : Multilinear F V = W.ml_weight F K o claims α in
      let there : V (draws ss ++ all_draws tail) ≡ weight_at F claims α (orient o (draws ss ++ all_draws tail)) =
      W.weight_point F K o n claims α (draws ss ++ all_draws tail) laws (D.length_draws ss (all_draws tail) ∙ ap (before ss) (N.length_all_draws tail)) in
      let c : E = after F (batched F claims α) ss in
      let pass : N.Passes F K o (draws ss) (λ x. V (draws ss ++ x)) c tail =
      tail_complete tail g (draws ss) (onward gs) (λ x. V (draws ss ++ x)) c (M.ml_after F L V (draws ss) mV) honest
      (D.steps_complete F K ss (left tail) V (view F o g) (batched F claims α) mV (M.ml_view F L o g) messages (W.batch_complete F K o n g claims α len laws (trues n g claims claimed))) in
      record {
        rows = last_rows tail (draws ss) (λ x. V (draws ss ++ x)) c pass;
        closing =
            closes tail (draws ss) (λ x. V (draws ss ++ x)) c (honest_lawful tail g (draws ss) (onward gs) (λ x. V (draws ss ++ x)) honest) pass
            ∙ ap (λ z. (z ⊕ later_weight F o (draws ss) tail) ⊗ view F o (polynomial tail) (last_draws tail)) there;
      }

pub honest_means_accepted : {E : Type 0} (F : Ops E) → IsField F → HonestMeansAccepted F
honest_means_accepted F K o gs claims α ss tail = run_complete F K o gs claims α ss tail
