-- Claims about a table, of any kind: a value, the weight at each corner, and the weight at any point.
use Rattle.std.specs.Prelude.{◌≡◌, ℕ, ◌^◌, List, ◌∷◌, map, length}
use Rattle.ring.specs.Ring.{Ops}
use Rattle.multilinear.specs.declared.order.VariableOrder.{VariableOrder}
use Rattle.multilinear.specs.Tables.{eq, select, dot, tabulate, value, view}
use Rattle.ring.specs.Polynomials.{value as at}

-- the claim that a table, summed under the weights at the corners, comes to a value
pub record Claim (E : Type 0) : Type 0 where
  pub claimed : E
  -- the weight at each corner, in corner order
  pub corners : List E
  -- the weight at any point
  pub point : List E → E

module _ {E : Type 0} (F : Ops E) where
  -- the one law of a claim about tables of n variables: its weight at a point is the multilinear extension of its weights at the corners
  pub record Extends (n : ℕ) (q : Claim E) : Type 0 where
    pub sized : length q.corners ≡ 2 ^ n
    pub extended : (p : List E) → length p ≡ n → q.point p ≡ value F q.corners p

  -- what a table comes to under a claim's weights
  abbrev pub worth : List E → Claim E → E
  worth g q = dot F q.corners g

  abbrev pub TrueOf : List E → Claim E → Type 0
  TrueOf g q = q.claimed ≡ worth g q

  -- the value at a point: the table comes to its value there
  abbrev pub at_point : List E → E → Claim E
  at_point p v = record { claimed = v; corners = tabulate F (length p) (eq F p); point = eq F p }

  -- the value at a position: the table comes to its value there
  abbrev pub at_position : List E → E → Claim E
  at_position q v = record { claimed = v; corners = tabulate F (length q) (select F q); point = select F q }

  -- claims weighted by the powers of a challenge, from the power 0 on: their value, their weight as a function of the draws, and
  -- their weight at a point
  abbrev pub batched : List (Claim E) → E → E
  batched qs α = at F (map (λ q. q.claimed) qs) α

  abbrev pub weight : VariableOrder → List (Claim E) → E → List E → E
  weight o qs α x = at F (map (λ q. view F o q.corners x) qs) α

  abbrev pub weight_at : List (Claim E) → E → List E → E
  weight_at qs α p = at F (map (λ q. q.point p) qs) α

  -- the same beside a carried claim c of weight W, which has the power 0; the fresh claims follow from the power 1 on
  abbrev pub joined : E → List (Claim E) → E → E
  joined c qs γ = at F (c ∷ map (λ q. q.claimed) qs) γ

  abbrev pub joint : VariableOrder → (List E → E) → List (Claim E) → E → List E → E
  joint o W qs γ x = at F (W x ∷ map (λ q. view F o q.corners x) qs) γ
