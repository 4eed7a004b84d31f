-- Sumcheck and batching by themselves.
use Rattle.std.specs.Prelude.{◌≡◌, ℕ, ◌^◌, ◌⊎◌, List, ◌++◌, length}
use Rattle.ring.specs.Ring.{Ops}
use Rattle.multilinear.specs.declared.order.VariableOrder.{VariableOrder}
use Rattle.std.specs.List.{AllByRecursion}
use Rattle.multilinear.specs.Tables.{cube, value, view, position}
use Rattle.multilinear.specs.Laws.{Multilinear}
use Rattle.argument.specs.Roots.{Root}
use Rattle.argument.specs.Sumcheck.{Step, draws, before, after, TrueSteps, MessageRoot}
use Rattle.argument.specs.Claims.{Claim, Extends, TrueOf, worth, at_point, at_position, batched, weight, joined, joint}
use Rattle.argument.specs.Accidents.{claims_error, round_error}

-- of any steps: if the claim after them is true, the claim before them is true, or a challenge is a root of its message's error
abbrev pub TrueAfterMeansTrueBefore : {E : Type 0} → Ops E → Type 0
TrueAfterMeansTrueBefore {E} F =
    (ss : List (Step E)) (n : ℕ) (W g : List E → E) (c : E) → Multilinear F W → Multilinear F g
    → after F c ss ≡ cube F n (λ x. F.mul (W (draws ss ++ x)) (g (draws ss ++ x)))
    → (c ≡ cube F (before ss n) (λ x. F.mul (W x) (g x))) ⊎ MessageRoot F ss n W g c

-- true messages lead from a true claim to a true claim
abbrev pub TrueMessagesLead : {E : Type 0} → Ops E → Type 0
TrueMessagesLead {E} F =
    (ss : List (Step E)) (n : ℕ) (W g : List E → E) (c : E) → Multilinear F W → Multilinear F g → TrueSteps F ss n W g
    → c ≡ cube F (before ss n) (λ x. F.mul (W x) (g x)) → after F c ss ≡ cube F n (λ x. F.mul (W (draws ss ++ x)) (g (draws ss ++ x)))

-- claims by the powers of α, from the power 0: if their sum is true, each is true, or α is a root of their error; and the converse
pub record BatchTellsClaims {E : Type 0} (F : Ops E) : Type 0 where
  pub binds : (o : VariableOrder) (n : ℕ) (g : List E) (qs : List (Claim E)) (α : E) → length g ≡ 2 ^ n → AllByRecursion (Extends F n) qs
      → batched F qs α ≡ cube F n (λ x. F.mul (weight F o qs α x) (view F o g x)) → AllByRecursion (TrueOf F g) qs ⊎ Root F (claims_error F g qs) α
  pub leads : (o : VariableOrder) (n : ℕ) (g : List E) (qs : List (Claim E)) (α : E) → length g ≡ 2 ^ n → AllByRecursion (Extends F n) qs
      → AllByRecursion (TrueOf F g) qs → batched F qs α ≡ cube F n (λ x. F.mul (weight F o qs α x) (view F o g x))

-- a round: the carried claim with the power 0, the fresh ones from the power 1
pub record RoundTellsClaims {E : Type 0} (F : Ops E) : Type 0 where
  pub binds : (o : VariableOrder) (n : ℕ) (g : List E) (W : List E → E) (c : E) (qs : List (Claim E)) (γ : E) → length g ≡ 2 ^ n → AllByRecursion (Extends F n) qs
      → joined F c qs γ ≡ cube F n (λ x. F.mul (joint F o W qs γ x) (view F o g x))
      → ((c ≡ cube F n (λ x. F.mul (W x) (view F o g x))) × AllByRecursion (TrueOf F g) qs) ⊎ Root F (round_error F o n g W c qs) γ
  pub leads : (o : VariableOrder) (n : ℕ) (g : List E) (W : List E → E) (c : E) (qs : List (Claim E)) (γ : E) → length g ≡ 2 ^ n → AllByRecursion (Extends F n) qs
      → c ≡ cube F n (λ x. F.mul (W x) (view F o g x)) → AllByRecursion (TrueOf F g) qs → joined F c qs γ ≡ cube F n (λ x. F.mul (joint F o W qs γ x) (view F o g x))

-- the two kinds of claims that a run makes by itself have the law, and say of a table what their names say: its value at a point, its
-- value at a position
pub record PointsAndPositionsAreClaims {E : Type 0} (F : Ops E) : Type 0 where
  pub point_extends : (p : List E) (v : E) → Extends F (length p) (at_point F p v)
  pub point_says : (g p : List E) (v : E) → worth F g (at_point F p v) ≡ value F g p
  pub position_extends : (q : List E) (v : E) → Extends F (length q) (at_position F q v)
  pub position_says : (g q : List E) (v : E) → worth F g (at_position F q v) ≡ position F g q
