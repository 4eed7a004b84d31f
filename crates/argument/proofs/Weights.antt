-- Claims under the powers of a challenge, in the order of the draws.
use Rattle.std.proofs.Common.{◌≡◌, ℕ, suc, ◌^◌, ◌⊎◌, List, [], ◌∷◌, ◌++◌, map, length, sym, refl, ap, ◌∙◌, ap₂, inl, inr}
use mathlib.Core.Path.{fun_ext}
use Rattle.ring.specs.Ring.{Ops, IsRing}
use Rattle.field.specs.Laws.{IsField}
use Rattle.multilinear.specs.declared.order.VariableOrder.{VariableOrder}
use Rattle.std.specs.List.{AllByRecursion}
use Rattle.multilinear.specs.Tables.{orient, eq, select, dot, cube, tabulate, value, view, position, folded, row}
use Rattle.ring.specs.Polynomials.{value as at}
use Rattle.multilinear.specs.Laws.{Multilinear}
use Rattle.multilinear.proofs.Algebra as A
use Rattle.multilinear.proofs.Sums as S
use Rattle.multilinear.proofs.Linear as M
use Rattle.multilinear.proofs.Corners as C
use Rattle.argument.specs.Roots.{Root}
use Rattle.argument.specs.Claims.{Claim, Extends, worth, TrueOf, at_point, at_position, batched, weight, weight_at, joined, joint}
use Rattle.argument.specs.Reading.{Query, queried, fresh}
use Rattle.argument.specs.Accidents.{claims_error, round_error}
use Rattle.std.proofs.ByRecursion.{All-append, All-weaker, All-map}
use Rattle.argument.proofs.Members as Q
use Rattle.argument.proofs.Steps.{equal_or_root}

module _ {E : Type 0} (F : Ops E) (K : IsField F) where
  open F use {zero as 𝟘, one as 𝟙, add as ◌⊕◌, sub as ◌⊖◌, mul as ◌⊗◌}

  infixl 60 ◌⊕◌
  infixl 60 ◌⊖◌
  infixl 70 ◌⊗◌
  L : IsRing F
  L = K.ring

  -- the two kinds of claims of this protocol have the law
  tabulated : (f : List E → E) → Multilinear F f → (n : ℕ) (v : E) → Extends F n (record { claimed = v; corners = tabulate F n f; point = f })
  tabulated f mf n v = record { sized = C.tabulate_length F L n f; extended = λ p e. sym (C.value_of_tabulate F L n p f mf e) }

  pub at_point_extends : (p : List E) (v : E) → Extends F (length p) (at_point F p v)
  at_point_extends p v = tabulated (eq F p) (M.ml_eq F L p) (length p) v

  pub at_position_extends : (q : List E) (v : E) → Extends F (length q) (at_position F q v)
  at_position_extends q v = tabulated (select F q) (M.ml_select F L q) (length q) v

  -- the same for tables of n variables, where n is the number of coordinates
  pub extends_at : (m n : ℕ) (q : Claim E) → m ≡ n → Extends F m q → Extends F n q
  extends_at m n q e x = record { sized = x.sized ∙ ap (λ k. 2 ^ k) e; extended = λ p l. x.extended p (l ∙ sym e) }

  pub at_position_lawful : (n : ℕ) (q : List E) (v : E) → length q ≡ n → Extends F n (at_position F q v)
  at_position_lawful n q v e = extends_at (length q) n (at_position F q v) e (at_position_extends q v)

  -- what a table comes to under them
  pub worth_at_point : (g p : List E) (v : E) → worth F g (at_point F p v) ≡ value F g p
  unfolding value
  worth_at_point g p v = refl

  pub worth_at_position : (g q : List E) (v : E) → worth F g (at_position F q v) ≡ position F g q
  unfolding position
  worth_at_position g q v = refl

  module _ (o : VariableOrder) where
    -- weights by powers are linear in each draw
    pub ml_weight : (qs : List (Claim E)) (α : E) → Multilinear F (weight F o qs α)
    ml_weight [] α = M.ml_const F L 𝟘
    ml_weight (q ∷ qs) α = M.ml_add F L (view F o q.corners) (λ x. α ⊗ weight F o qs α x) (M.ml_view F L o q.corners) (M.ml_scale F L α (weight F o qs α) (ml_weight qs α))

    pub ml_joint : (W : List E → E) → Multilinear F W → (qs : List (Claim E)) (γ : E) → Multilinear F (joint F o W qs γ)
    ml_joint W mW qs γ = M.ml_add F L W (λ x. γ ⊗ weight F o qs γ x) mW (M.ml_scale F L γ (weight F o qs γ) (ml_weight qs γ))

    -- a claim's sum, in the order of the draws
    pub worth_cube : (n : ℕ) (g : List E) → length g ≡ 2 ^ n → (q : Claim E) → Extends F n q → cube F n (λ x. view F o q.corners x ⊗ view F o g x) ≡ worth F g q
    unfolding view
    worth_cube n g h q x =
        C.cube_orient F L o n (λ y. value F q.corners y ⊗ value F g y) ∙ sym (C.dot_cube F L n (value F q.corners) g h)
        ∙ ap (λ t. dot F t g) (C.tabulate_value F L n q.corners x.sized)

    -- the sum under a weight by powers, the first apart
    joint_step : (n : ℕ) (g : List E) (α : E) (W : List E → E) (qs : List (Claim E)) → cube F n (λ x. weight F o qs α x ⊗ view F o g x) ≡ at F (map (worth F g) qs) α
        → cube F n (λ x. joint F o W qs α x ⊗ view F o g x) ≡ at F (cube F n (λ x. W x ⊗ view F o g x) ∷ map (worth F g) qs) α
    joint_step n g α W qs ih =
        ap (cube F n) (fun_ext (λ x. A.distr F L (W x) (α ⊗ weight F o qs α x) (view F o g x) ∙ ap (λ z. W x ⊗ view F o g x ⊕ z) (A.massoc F L α (weight F o qs α x) (view F o g x))))
        ∙ S.cube_add F L n (λ x. W x ⊗ view F o g x) (λ x. α ⊗ (weight F o qs α x ⊗ view F o g x))
        ∙ ap (λ z. cube F n (λ x. W x ⊗ view F o g x) ⊕ z) (S.cube_scale F L n α (λ x. weight F o qs α x ⊗ view F o g x) ∙ ap (λ z. α ⊗ z) ih)

    -- the sum under a weight by powers is the sums by powers
    pub weight_cube : (n : ℕ) (g : List E) → length g ≡ 2 ^ n → (α : E) (qs : List (Claim E)) → AllByRecursion (Extends F n) qs
        → cube F n (λ x. weight F o qs α x ⊗ view F o g x) ≡ at F (map (worth F g) qs) α
    weight_cube n g h α [] a = ap (cube F n) (fun_ext (λ x. A.zero-mul F L (view F o g x))) ∙ S.cube_nothing F L n
    weight_cube n g h α (q ∷ qs) a =
        joint_step n g α (view F o q.corners) qs (weight_cube n g h α qs a.1) ∙ ap (λ z. z ⊕ α ⊗ at F (map (worth F g) qs) α) (worth_cube n g h q a.0)

    pub joint_cube : (n : ℕ) (g : List E) → length g ≡ 2 ^ n → (W : List E → E) (qs : List (Claim E)) (γ : E) → AllByRecursion (Extends F n) qs
        → cube F n (λ x. joint F o W qs γ x ⊗ view F o g x) ≡ at F (cube F n (λ x. W x ⊗ view F o g x) ∷ map (worth F g) qs) γ
    joint_cube n g h W qs γ a = joint_step n g γ W qs (weight_cube n g h γ qs a)

    -- the weights at a point are those of the draws that stand for it
    pub weight_point : (n : ℕ) (qs : List (Claim E)) (α : E) (x : List E) → AllByRecursion (Extends F n) qs → length x ≡ n → weight F o qs α x ≡ weight_at F qs α (orient o x)
    unfolding view
    weight_point n qs α x a e =
        ap (λ l. at F l α) (Q.maps_agree (λ q. value F q.corners (orient o x)) (λ q. q.point (orient o x)) qs
        (All-weaker (Extends F n) (λ q. value F q.corners (orient o x) ≡ q.point (orient o x)) (λ q h. sym (h.extended (orient o x) (C.length_orient F L o x ∙ e))) qs a))

    same : {A : Type 0} (f g : A → E) (l : List A) → length (map f l) ≡ length (map g l)
    same f g [] = refl
    same f g (a ∷ l) = ap suc (same f g l)

    -- batching: the claims from the power 0, and a round
    pub batch_sound : (n : ℕ) (g : List E) (qs : List (Claim E)) (α : E) → length g ≡ 2 ^ n → AllByRecursion (Extends F n) qs
        → batched F qs α ≡ cube F n (λ x. weight F o qs α x ⊗ view F o g x) → AllByRecursion (TrueOf F g) qs ⊎ Root F (claims_error F g qs) α
    batch_sound n g qs α h a e =
        elim (equal_or_root F K (map (λ q. q.claimed) qs) (map (worth F g) qs) α (same (λ q. q.claimed) (worth F g) qs) (e ∙ weight_cube n g h α qs a)) [
          | inl s ↦ inl (Q.agree_maps (λ q. q.claimed) (worth F g) qs s)
          | inr r ↦ inr r
        ]

    pub batch_complete : (n : ℕ) (g : List E) (qs : List (Claim E)) (α : E) → length g ≡ 2 ^ n → AllByRecursion (Extends F n) qs
        → AllByRecursion (TrueOf F g) qs → batched F qs α ≡ cube F n (λ x. weight F o qs α x ⊗ view F o g x)
    batch_complete n g qs α h a t = ap (λ l. at F l α) (Q.maps_agree (λ q. q.claimed) (worth F g) qs t) ∙ sym (weight_cube n g h α qs a)

    pub round_sound : (n : ℕ) (g : List E) (W : List E → E) (c : E) (qs : List (Claim E)) (γ : E) → length g ≡ 2 ^ n → AllByRecursion (Extends F n) qs
        → joined F c qs γ ≡ cube F n (λ x. joint F o W qs γ x ⊗ view F o g x)
        → ((c ≡ cube F n (λ x. W x ⊗ view F o g x)) × AllByRecursion (TrueOf F g) qs) ⊎ Root F (round_error F o n g W c qs) γ
    round_sound n g W c qs γ h a e =
        let p : List E = c ∷ map (λ q. q.claimed) qs in
        let t : List E = cube F n (λ x. W x ⊗ view F o g x) ∷ map (worth F g) qs in
        elim (equal_or_root F K p t γ (ap suc (same (λ q. q.claimed) (worth F g) qs)) (e ∙ joint_cube n g h W qs γ a)) [
          | inl s ↦ inl (Q.heads _ _ _ _ s, Q.agree_maps (λ q. q.claimed) (worth F g) qs (Q.tails _ _ _ _ s))
          | inr r ↦ inr r
        ]

    pub round_complete : (n : ℕ) (g : List E) (W : List E → E) (c : E) (qs : List (Claim E)) (γ : E) → length g ≡ 2 ^ n → AllByRecursion (Extends F n) qs
        → c ≡ cube F n (λ x. W x ⊗ view F o g x) → AllByRecursion (TrueOf F g) qs → joined F c qs γ ≡ cube F n (λ x. joint F o W qs γ x ⊗ view F o g x)
    round_complete n g W c qs γ h a e t = ap₂ (λ v l. at F (v ∷ l) γ) e (Q.maps_agree (λ q. q.claimed) (worth F g) qs t) ∙ sym (joint_cube n g h W qs γ a)

    -- what is fresh in a round has the law
    pub fresh_lawful : (n : ℕ) (rs : List E) (qs : List (Query E)) (samples : List (Claim E)) → AllByRecursion (λ q. length q.point ≡ n) qs → AllByRecursion (Extends F n) samples → AllByRecursion (Extends F n) (fresh F o rs qs samples)
    fresh_lawful n rs qs samples points a =
        All-append (Extends F n) samples (map (queried F o rs) qs) a
        (All-map (Extends F n) (queried F o rs) qs
        (All-weaker (λ q. length q.point ≡ n) (λ q. Extends F n (queried F o rs q)) (λ q e. at_position_lawful n q.point (value F q.opened (orient o rs)) e) qs points))

    -- a right row tells the folded table's value at its position
    pub row_true : (n : ℕ) (g rs : List E) (q : Query E) → length q.point ≡ n → q.opened ≡ row F o (length rs) g q.point → TrueOf F (folded F o n g rs) (queried F o rs q)
    unfolding position
    row_true n g rs q l e =
        ap (λ t. value F t (orient o rs)) e ∙ C.row_folded F L o (length rs) g q.point rs refl ∙ ap (λ m. dot F (tabulate F (length q.point) (select F q.point)) (folded F o m g rs)) l

    -- the folded table in place of the next
    pub cube_folded : (n : ℕ) (g' g rs : List E) (W : List E → E) → g' ≡ folded F o n g rs → cube F n (λ x. W x ⊗ view F o g' x) ≡ cube F n (λ x. W x ⊗ view F o g (rs ++ x))
    cube_folded n g' g rs W e =
        ap (λ t. cube F n (λ x. W x ⊗ view F o t x)) e ∙ S.cube_cong F L n (λ x. W x ⊗ view F o (folded F o n g rs) x) (λ x. W x ⊗ view F o g (rs ++ x)) (λ x l. ap (λ z. W x ⊗ z) (C.view_folded F L o n g rs x l))

    pub length_folded : (n : ℕ) (g rs : List E) → length (folded F o n g rs) ≡ 2 ^ n
    unfolding folded
    length_folded n g rs = C.tabulate_length F L n _
