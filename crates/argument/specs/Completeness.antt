-- No good reading is lost.
use Rattle.std.specs.Prelude.{◌≡◌, ℕ, ◌^◌, List, ◌++◌, length}
use Rattle.ring.specs.Ring.{Ops}
use Rattle.multilinear.specs.declared.order.VariableOrder.{VariableOrder}
use Rattle.std.specs.List.{AllByRecursion}
use Rattle.multilinear.specs.Tables.{view}
use Rattle.argument.specs.Sumcheck.{Step, draws, before, TrueSteps}
use Rattle.argument.specs.Claims.{Claim, weight}
use Rattle.argument.specs.Reading.{Tail, left, Accepted}
use Rattle.argument.specs.Accidents.{onward}
use Rattle.argument.specs.Honest.{TrueClaim, Honest}

-- a reading that follows the honest rule from a table of which every claim is true is accepted, under either order
abbrev pub HonestMeansAccepted : {E : Type 0} → Ops E → Type 0
HonestMeansAccepted {E} F =
    (o : VariableOrder) (gs : ℕ → List E) (claims : List (Claim E)) (α : E) (ss : List (Step E)) (tail : Tail E)
    → length (gs 0) ≡ 2 ^ before ss (left tail) → AllByRecursion (TrueClaim F o (before ss (left tail)) (gs 0)) claims
    → TrueSteps F ss (left tail) (weight F o claims α) (view F o (gs 0))
    → Honest F o (gs 0) (draws ss) (onward gs) (λ x. weight F o claims α (draws ss ++ x)) tail
    → Accepted F o claims α ss tail
