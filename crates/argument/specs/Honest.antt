-- The honest rule over readings.
use Rattle.std.specs.Prelude.{◌≡◌, ℕ, List, ◌++◌, length}
use Rattle.ring.specs.Ring.{Ops}
use Rattle.multilinear.specs.declared.order.VariableOrder.{VariableOrder}
use Rattle.std.specs.List.{AllByRecursion}
use Rattle.multilinear.specs.Tables.{view, folded, row}
use Rattle.argument.specs.Sumcheck.{draws, before, TrueSteps}
use Rattle.argument.specs.Claims.{Claim, Extends, TrueOf, joint}
use Rattle.argument.specs.Reading.{Query, Tail, end, round, left, fresh}
use Rattle.argument.specs.Accidents.{onward}

module _ {E : Type 0} (F : Ops E) (o : VariableOrder) where
  -- a claim with its law that is true of a table of n variables
  pub record TrueClaim (n : ℕ) (g : List E) (q : Claim E) : Type 0 where
    pub lawful : Extends F n q
    pub holds : TrueOf F g q

  -- the table's own row, at a point of m coordinates
  pub record OwnRow (k m : ℕ) (g : List E) (q : Query E) : Type 0 where
    pub point : length q.point ≡ m
    pub own : q.opened ≡ row F o k g q.point

  -- after the draws rs on g, under the carried weight W: the next table (of gs) is g folded, samples and rows are true, and so are
  -- the messages; the final polynomial is the last table
  abbrev pub Honest : List E → List E → (ℕ → List E) → (List E → E) → Tail E → Type 0
  Honest g rs gs W (end f qs ss) =
      record {
        folds : f ≡ folded F o (before ss 0) g rs;
        rows : AllByRecursion (OwnRow (length rs) (before ss 0) g) qs;
        messages : TrueSteps F ss 0 W (view F o f);
      }
  Honest g rs gs W (round qs samples γ ss tail) =
      record {
        folds : gs 0 ≡ folded F o (before ss (left tail)) g rs;
        sampled : AllByRecursion (TrueClaim (before ss (left tail)) (gs 0)) samples;
        rows : AllByRecursion (OwnRow (length rs) (before ss (left tail)) g) qs;
        messages : TrueSteps F ss (left tail) (joint F o W (fresh F o rs qs samples) γ) (view F o (gs 0));
        rest : Honest (gs 0) (draws ss) (onward gs) (λ x. joint F o W (fresh F o rs qs samples) γ (draws ss ++ x)) tail;
      }
