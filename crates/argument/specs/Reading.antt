-- A run over its numbers alone, as it is read: claims, challenges, opened rows with their points, the final polynomial. No sponge.
use Rattle.std.specs.Prelude.{◌≡◌, ℕ, List, ◌++◌, map}
use Rattle.ring.specs.Ring.{Ops}
use Rattle.multilinear.specs.declared.order.VariableOrder.{VariableOrder}
use Rattle.std.specs.List.{AllByRecursion}
use Rattle.multilinear.specs.Tables.{orient, value, view}
use Rattle.argument.specs.Sumcheck.{Step, draws, before, after}
use Rattle.argument.specs.Claims.{Claim, TrueOf, at_position, batched, weight_at, joined}

-- a row opened at a position, with the position's point
pub record Query (E : Type 0) : Type 0 where
  pub point : List E
  pub opened : List E

-- what is read after the draws of a phase: the final polynomial, the phase's rows and the steps of the last sumcheck;
-- or a round: the phase's rows, the claims of its out-of-domain samples, its challenge γ, the steps of the next phase, and the rest
pub data Tail (E : Type 0) : Type 0 where
  end : List E → List (Query E) → List (Step E) → Tail E
  round : List (Query E) → List (Claim E) → E → List (Step E) → Tail E → Tail E

-- how many variables are left there: those that the later steps bind
abbrev pub left : {E : Type 0} → Tail E → ℕ
left (end f qs ss) = before ss 0
left (round qs samples γ ss tail) = before ss (left tail)

-- all later draws; those of the last sumcheck; the final polynomial
abbrev pub all_draws : {E : Type 0} → Tail E → List E
all_draws (end f qs ss) = draws ss
all_draws (round qs samples γ ss tail) = draws ss ++ all_draws tail

abbrev pub last_draws : {E : Type 0} → Tail E → List E
last_draws (end f qs ss) = draws ss
last_draws (round qs samples γ ss tail) = last_draws tail

abbrev pub polynomial : {E : Type 0} → Tail E → List E
polynomial (end f qs ss) = f
polynomial (round qs samples γ ss tail) = polynomial tail

module _ {E : Type 0} (F : Ops E) where
  open F use {zero as 𝟘, one as 𝟙, add as ◌⊕◌, sub as ◌⊖◌, mul as ◌⊗◌}

  infixl 60 ◌⊕◌
  infixl 60 ◌⊖◌
  infixl 70 ◌⊗◌
  module _ (o : VariableOrder) where
    -- the claim of a query, after the draws rs of its phase: the row's value at them, as the value at the position
    abbrev pub queried : List E → Query E → Claim E
    queried rs q = at_position F q.point (value F q.opened (orient o rs))

    -- the fresh claims of a round: the samples', then the queries'
    abbrev pub fresh : List E → List (Query E) → List (Claim E) → List (Claim E)
    fresh rs qs samples = samples ++ map (queried rs) qs

    -- the claim carried to the end
    abbrev pub carried : List E → E → Tail E → E
    carried rs c (end f qs ss) = after F c ss
    carried rs c (round qs samples γ ss tail) = carried (draws ss) (after F (joined F c (fresh rs qs samples) γ) ss) tail

    -- the weight of all rounds' fresh claims at the end, each claim at as many of the last draws as it has variables
    abbrev pub later_weight : List E → Tail E → E
    later_weight rs (end f qs ss) = 𝟘
    later_weight rs (round qs samples γ ss tail) =
        γ ⊗ weight_at F (fresh rs qs samples) γ (orient o (draws ss ++ all_draws tail)) ⊕ later_weight (draws ss) tail

    -- the rows of the last phase agree with the final polynomial
    abbrev pub LastRowsAgree : List E → Tail E → Type 0
    LastRowsAgree rs (end f qs ss) = AllByRecursion (TrueOf F f) (map (queried rs) qs)
    LastRowsAgree rs (round qs samples γ ss tail) = LastRowsAgree (draws ss) tail

    -- what is checked of the numbers: the last rows, and that the claim carried to the end is the weight of all claims at all draws
    -- times the final polynomial's value at the last ones
    pub record Accepted (claims : List (Claim E)) (α : E) (ss : List (Step E)) (tail : Tail E) : Type 0 where
      pub rows : LastRowsAgree (draws ss) tail
      pub closing :
          carried (draws ss) (after F (batched F claims α) ss) tail
          ≡ (weight_at F claims α (orient o (draws ss ++ all_draws tail)) ⊕ later_weight (draws ss) tail) ⊗ view F o (polynomial tail) (last_draws tail)
