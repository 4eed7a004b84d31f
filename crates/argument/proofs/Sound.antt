-- Soundness, backwards from the closing check.
use Rattle.std.proofs.Common.{◌≡◌, ℕ, ◌^◌, ◌<◌, ◌⊎◌, List, [], ◌∷◌, ◌++◌, map, length, sym, ap, ◌∙◌, subst, inl, inr, append-nil, arith}
use mathlib.Core.List.{List-discrete}
use Rattle.ring.specs.Ring.{Ops, IsRing}
use Rattle.field.specs.Laws.{IsField}
use Rattle.multilinear.specs.declared.order.VariableOrder.{VariableOrder}
use Rattle.std.specs.List.{AllByRecursion}
use Rattle.argument.specs.Roots.{Any, Root}
use Rattle.multilinear.specs.Tables.{orient, cube, view, position, folded, row}
use Rattle.multilinear.specs.Laws.{Multilinear}
use Rattle.multilinear.proofs.Algebra as A
use Rattle.multilinear.proofs.Sums as S
use Rattle.multilinear.proofs.Linear as M
use Rattle.multilinear.specs.Univariate.{expand}
use Rattle.multilinear.proofs.Univariate as U
use Rattle.argument.specs.Sumcheck.{Step, draws, before, after}
use Rattle.argument.specs.Claims.{Claim, Extends, TrueOf, batched, weight, weight_at, joined, joint}
use Rattle.argument.specs.Reading.{Query, Tail, end, round, left, all_draws, last_draws, polynomial, queried, fresh, carried, later_weight, LastRowsAgree, Accepted}
use Rattle.argument.specs.Accidents.{Phase, onward, AtRound, AtEnd, AtStart, Alike, Apart, Clash, Opens, Behind, Accident, AnyAccident, round_error}
use Rattle.argument.specs.Soundness.{AcceptedMeansTrue, AllOpenedNeverAlike, DistinctElementsTellApart}
use Rattle.std.proofs.ByRecursion.{All-map}
use Rattle.argument.proofs.Members as Q
use Rattle.argument.proofs.Steps as D
use Rattle.argument.proofs.Weights as W

pub length_all_draws : {E : Type 0} (tail : Tail E) → length (all_draws tail) ≡ left tail
length_all_draws (end f qs ss) = ap length (sym (append-nil (draws ss))) ∙ D.length_draws ss []
length_all_draws (round qs samples γ ss tail) = D.length_draws ss (all_draws tail) ∙ ap (before ss) (length_all_draws tail)

module _ {E : Type 0} (F : Ops E) (K : IsField F) (o : VariableOrder) where
  open F use {zero as 𝟘, one as 𝟙, add as ◌⊕◌, sub as ◌⊖◌, mul as ◌⊗◌}

  infixl 60 ◌⊕◌
  infixl 60 ◌⊖◌
  infixl 70 ◌⊗◌
  L : IsRing F
  L = K.ring

  -- the claims of every round have the law
  abbrev pub Lawful : List E → Tail E → Type 0
  Lawful rs (end f qs ss) = Unit {0}
  Lawful rs (round qs samples γ ss tail) = AllByRecursion (Extends F (before ss (left tail))) (fresh F o rs qs samples) × Lawful (draws ss) tail

  -- the closing check taken apart by rounds: under the carried weight V and claim c all that is left passes
  abbrev pub Passes : List E → (List E → E) → E → Tail E → Type 0
  Passes rs V c (end f qs ss) = AllByRecursion (TrueOf F f) (map (queried F o rs) qs) × (after F c ss ≡ V (draws ss) ⊗ view F o f (draws ss))
  Passes rs V c (round qs samples γ ss tail) =
      Passes (draws ss) (λ x. joint F o V (fresh F o rs qs samples) γ (draws ss ++ x)) (after F (joined F c (fresh F o rs qs samples) γ) ss) tail

  -- the weight of a round's claims, at all later draws
  pub joint_at : (rs : List E) (qs : List (Query E)) (samples : List (Claim E)) (γ : E) (ss : List (Step E)) (tail : Tail E) (V : List E → E) → Lawful rs (round qs samples γ ss tail)
      → V (all_draws (round qs samples γ ss tail)) ⊕ later_weight F o rs (round qs samples γ ss tail)
      ≡ joint F o V (fresh F o rs qs samples) γ (draws ss ++ all_draws tail) ⊕ later_weight F o (draws ss) tail
  joint_at rs qs samples γ ss tail V lawful =
      let x : List E = draws ss ++ all_draws tail in
      let new : List (Claim E) = fresh F o rs qs samples in
      ap (λ z. V x ⊕ (γ ⊗ z ⊕ later_weight F o (draws ss) tail)) (sym (W.weight_point F K o (before ss (left tail)) new γ x lawful.0 (length_all_draws (round qs samples γ ss tail))))
      ∙ sym (A.assoc F L (V x) (γ ⊗ weight F o new γ x) (later_weight F o (draws ss) tail))

  passes : (tail : Tail E) (rs : List E) (V : List E → E) (c : E) → Lawful rs tail → LastRowsAgree F o rs tail
      → carried F o rs c tail ≡ (V (all_draws tail) ⊕ later_weight F o rs tail) ⊗ view F o (polynomial tail) (last_draws tail) → Passes rs V c tail
  passes (end f qs ss) rs V c lawful agree e = (agree, e ∙ ap (λ z. z ⊗ view F o f (draws ss)) (A.add-zero F L (V (draws ss))))
  passes (round qs samples γ ss tail) rs V c lawful agree e =
      passes tail (draws ss) (λ x. joint F o V (fresh F o rs qs samples) γ (draws ss ++ x)) (after F (joined F c (fresh F o rs qs samples) γ) ss) lawful.1 agree
      (e ∙ ap (λ z. z ⊗ view F o (polynomial tail) (last_draws tail)) (joint_at rs qs samples γ ss tail V lawful))

  tables? : (g h : List E) → Dec (g ≡ h)
  tables? = List-discrete K.decide

  -- the values queried are those of both tables
  both : (g h : List E) (rs : List E) (qs : List (Query E)) → AllByRecursion (TrueOf F g) (map (queried F o rs) qs) → AllByRecursion (TrueOf F h) (map (queried F o rs) qs)
      → AllByRecursion (λ q. position F g q.point ≡ position F h q.point) qs
  unfolding position
  both g h rs [] a b = tt
  both g h rs (q ∷ qs) a b = (sym a.0 ∙ b.0, both g h rs qs a.1 b.1)

  module _ (digest : List ℕ → List ℕ) where
    -- rows that are right tell the folded table's values, or lists collide
    rows_true : (p : Phase E) (rs : List E) (m : ℕ) (qs : List (Query E)) → Opens F digest o p (length rs) m qs
        → AllByRecursion (TrueOf F (folded F o m p.table rs)) (map (queried F o rs) qs) ⊎ Clash digest p
    rows_true p rs m qs op =
        elim (Q.all_or (λ q. q.opened ≡ row F o (length rs) p.table q.point) (Clash digest p) qs op.rows) [
          | inl right ↦ inl (true_of right)
          | inr x ↦ inr x
        ]
      where
        true_of : AllByRecursion (λ q. q.opened ≡ row F o (length rs) p.table q.point) qs → AllByRecursion (TrueOf F (folded F o m p.table rs)) (map (queried F o rs) qs)
        true_of right =
            All-map (TrueOf F (folded F o m p.table rs)) (queried F o rs) qs
            (Q.all_both (λ q. length q.point ≡ m) (λ q. q.opened ≡ row F o (length rs) p.table q.point) (λ q. TrueOf F (folded F o m p.table rs) (queried F o rs q))
            (λ q a b. W.row_true F K o m p.table rs q a b) qs op.points right)

    -- different tables differ at some position
    differ : (m : ℕ) (g h : List E) (positions : List (List E)) → Apart F m positions → length g ≡ 2 ^ m → length h ≡ 2 ^ m → ¬ (g ≡ h) → Any (λ x. ¬ (position F g x ≡ position F h x)) positions
    differ m g h positions apart lg lh ne =
        elim (Q.all_or_any (λ x. position F g x ≡ position F h x) (λ x. K.decide (position F g x) (position F h x)) positions) [
          | inl same ↦ absurd (ne (apart g h lg lh same))
          | inr other ↦ other
        ]

    -- the claim on the next table is one on the table before, or the two are alike, or lists collide
    module _ (p : Phase E) (rs : List E) (m : ℕ) (qs : List (Query E)) (g' : List E) (V : List E → E) (c : E) (op : Opens F digest o p (length rs) m qs) (len : length g' ≡ 2 ^ m)
        (true : AllByRecursion (TrueOf F g') (map (queried F o rs) qs)) (claim : c ≡ cube F m (λ x. V x ⊗ view F o g' x)) where
      abbrev Fits : Type 0
      Fits = (c ≡ cube F m (λ x. V x ⊗ view F o p.table (rs ++ x))) ⊎ (Alike F g' (folded F o m p.table rs) qs p.positions ⊎ Clash digest p)

      by_tables : AllByRecursion (TrueOf F (folded F o m p.table rs)) (map (queried F o rs) qs) → Dec (g' ≡ folded F o m p.table rs) → Fits
      by_tables old (yes e) = inl (claim ∙ W.cube_folded F K o m g' p.table rs V e)
      by_tables old (no ne) =
          inr (inl (record {
            different = ne;
            opened = both g' (folded F o m p.table rs) rs qs true old;
            elsewhere = differ m g' (folded F o m p.table rs) p.positions op.apart len (W.length_folded F K o m p.table rs) ne;
          }))

      pub fits : Fits
      fits = elim (rows_true p rs m qs op) [ inl old ↦ by_tables old (tables? g' (folded F o m p.table rs)) | inr x ↦ inr (inr x) ]

    -- the end
    end_sound : (f : List E) (qs : List (Query E)) (ss : List (Step E)) (p : Phase E) (rs : List E) (ps : ℕ → Phase E) (V : List E → E) (c : E) → Multilinear F V
        → Behind F digest o p rs ps (end f qs ss) → Passes rs V c (end f qs ss)
        → (c ≡ cube F (before ss 0) (λ x. V x ⊗ view F o p.table (rs ++ x))) ⊎ Accident F digest o p rs ps V c (end f qs ss)
    end_sound f qs ss p rs ps V c mV behind pass =
        let ended : after F c ss ≡ cube F 0 (λ x. V (draws ss ++ x) ⊗ view F o f (draws ss ++ x)) =
        pass.1 ∙ sym (S.cube_zero F L (λ x. V (draws ss ++ x) ⊗ view F o f (draws ss ++ x)) ∙ ap (λ z. V z ⊗ view F o f z) (append-nil (draws ss))) in
        elim (D.steps_sound F K ss 0 V (view F o f) c mV (M.ml_view F L o f) ended) [
          | inl h ↦ elim (fits p rs (before ss 0) qs f V c behind.opens behind.sized pass.0 h) [
            | inl e ↦ inl e
            | inr (inl a) ↦ inr (AtEnd.alike a)
            | inr (inr x) ↦ inr (AtEnd.collision x)
          ]
          | inr b ↦ inr (AtEnd.message b)
        ]

    -- a round, given what is behind it
    module _ (qs : List (Query E)) (samples : List (Claim E)) (γ : E) (ss : List (Step E)) (tail : Tail E) (p : Phase E) (rs : List E) (ps : ℕ → Phase E) (V : List E → E) (c : E)
        (mV : Multilinear F V) (behind : Behind F digest o p rs ps (round qs samples γ ss tail)) where
      abbrev n : ℕ
      n = before ss (left tail)

      abbrev g' : List E
      g' = (ps 0).table

      abbrev new : List (Claim E)
      new = fresh F o rs qs samples

      abbrev Aim : Type 0
      Aim = (c ≡ cube F n (λ x. V x ⊗ view F o p.table (rs ++ x))) ⊎ Accident F digest o p rs ps V c (round qs samples γ ss tail)

      lawful : AllByRecursion (Extends F n) new
      lawful = W.fresh_lawful F K o n rs qs samples behind.opens.points behind.sampled

      by_claims : ((c ≡ cube F n (λ x. V x ⊗ view F o g' x)) × AllByRecursion (TrueOf F g') new) ⊎ Root F (round_error F o n g' V c new) γ → Aim
      by_claims (inl t) =
          elim (fits p rs n qs g' V c behind.opens behind.sized (Q.all_right (TrueOf F g') samples (map (queried F o rs) qs) t.1) t.0) [
            | inl e ↦ inl e
            | inr (inl a) ↦ inr (AtRound.alike a)
            | inr (inr x) ↦ inr (AtRound.collision x)
          ]
      by_claims (inr r) = inr (AtRound.gamma r)

      pub by_rest : (after F (joined F c new γ) ss ≡ cube F (left tail) (λ x. joint F o V new γ (draws ss ++ x) ⊗ view F o g' (draws ss ++ x)))
          ⊎ Accident F digest o (ps 0) (draws ss) (onward ps) (λ x. joint F o V new γ (draws ss ++ x)) (after F (joined F c new γ) ss) tail → Aim
      by_rest (inl h) =
          elim (D.steps_sound F K ss (left tail) (joint F o V new γ) (view F o g') (joined F c new γ) (W.ml_joint F K o V mV new γ) (M.ml_view F L o g') h) [
            | inl e ↦ by_claims (W.round_sound F K o n g' V c new γ behind.sized lawful e)
            | inr b ↦ inr (AtRound.message b)
          ]
      by_rest (inr a) = inr (AtRound.later a)

    tail_sound : (tail : Tail E) (p : Phase E) (rs : List E) (ps : ℕ → Phase E) (V : List E → E) (c : E) → Multilinear F V → Behind F digest o p rs ps tail → Passes rs V c tail
        → (c ≡ cube F (left tail) (λ x. V x ⊗ view F o p.table (rs ++ x))) ⊎ Accident F digest o p rs ps V c tail
    tail_sound (end f qs ss) p rs ps V c mV behind pass = end_sound f qs ss p rs ps V c mV behind pass
    tail_sound (round qs samples γ ss tail) p rs ps V c mV behind pass =
        by_rest qs samples γ ss tail p rs ps V c mV behind
        (tail_sound tail (ps 0) (draws ss) (onward ps) (λ x. joint F o V (fresh F o rs qs samples) γ (draws ss ++ x)) (after F (joined F c (fresh F o rs qs samples) γ) ss)
        (M.ml_after F L (joint F o V (fresh F o rs qs samples) γ) (draws ss) (W.ml_joint F K o V mV (fresh F o rs qs samples) γ)) behind.rest pass)

    behind_lawful : (tail : Tail E) (p : Phase E) (rs : List E) (ps : ℕ → Phase E) → Behind F digest o p rs ps tail → Lawful rs tail
    behind_lawful (end f qs ss) p rs ps b = tt
    behind_lawful (round qs samples γ ss tail) p rs ps b =
        (W.fresh_lawful F K o (before ss (left tail)) rs qs samples b.opens.points b.sampled, behind_lawful tail (ps 0) (draws ss) (onward ps) b.rest)

    -- the whole run
    pub run_sound : (ps : ℕ → Phase E) (claims : List (Claim E)) (α : E) (ss : List (Step E)) (tail : Tail E)
        → length (ps 0).table ≡ 2 ^ before ss (left tail) → AllByRecursion (Extends F (before ss (left tail))) claims → Behind F digest o (ps 0) (draws ss) (onward ps) tail
        → Accepted F o claims α ss tail → AllByRecursion (TrueOf F (ps 0).table) claims ⊎ AnyAccident F digest o ps claims α ss tail
    run_sound ps claims α ss tail len laws behind acc =
        let g : List E = (ps 0).table in
        let V : List E → E = weight F o claims α in
        let mV : Multilinear F (weight F o claims α) = W.ml_weight F K o claims α in
        let x : List E = draws ss ++ all_draws tail in
        let there : weight F o claims α (draws ss ++ all_draws tail) ≡ weight_at F claims α (orient o (draws ss ++ all_draws tail)) =
        W.weight_point F K o (before ss (left tail)) claims α x laws (D.length_draws ss (all_draws tail) ∙ ap (before ss) (length_all_draws tail)) in
        let pass : Passes (draws ss) (λ y. V (draws ss ++ y)) (after F (batched F claims α) ss) tail =
        passes tail (draws ss) (λ y. V (draws ss ++ y)) (after F (batched F claims α) ss) (behind_lawful tail (ps 0) (draws ss) (onward ps) behind) acc.rows
        (acc.closing ∙ ap (λ z. (z ⊕ later_weight F o (draws ss) tail) ⊗ view F o (polynomial tail) (last_draws tail)) (sym there)) in
        elim (tail_sound tail (ps 0) (draws ss) (onward ps) (λ y. V (draws ss ++ y)) (after F (batched F claims α) ss) (M.ml_after F L V (draws ss) mV) behind pass) [
          | inl h ↦ elim (D.steps_sound F K ss (left tail) V (view F o g) (batched F claims α) mV (M.ml_view F L o g) h) [
            | inl e ↦ elim (W.batch_sound F K o (before ss (left tail)) g claims α len laws e) [ inl t ↦ inl t | inr r ↦ inr (AtStart.alpha r) ]
            | inr b ↦ inr (AtStart.message b)
          ]
          | inr a ↦ inr (AtStart.later a)
        ]

pub accepted_means_true : {E : Type 0} (F : Ops E) → IsField F → AcceptedMeansTrue F
accepted_means_true F K digest o ps claims α ss tail = run_sound F K o digest ps claims α ss tail

pub all_opened_never_alike : {E : Type 0} (F : Ops E) → AllOpenedNeverAlike F
all_opened_never_alike {E} F g h qs positions e a =
    let P : List E → Type 0 = λ p. position F g p ≡ position F h p in
    Q.not_both P positions
    (subst (AllByRecursion P) (sym e) (All-map P (λ q. q.point) qs a.opened)) a.elsewhere

pub distinct_tell_apart : {E : Type 0} (F : Ops E) → IsField F → DistinctElementsTellApart F
distinct_tell_apart {E} F K m vs distinct many g h lg lh same = by_cases (List-discrete K.decide g h)
  where
    by_cases : Dec (g ≡ h) → g ≡ h
    by_cases (yes e) = e
    by_cases (no ne) =
        let P : List E → Type 0 = λ q. position F g q ≡ position F h q in
        let few : length vs < 2 ^ m = U.few F K m g h lg lh ne vs distinct (Q.all_unmap P (λ v. expand F v m) vs same) in
        absurd (omega arith)
