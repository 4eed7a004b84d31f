-- A wrong yes shows its accident.
use Rattle.std.specs.Prelude.{◌≡◌, ℕ, ◌^◌, ◌≤◌, ◌⊎◌, List, map, length}
use Rattle.ring.specs.Ring.{Ops}
use Rattle.multilinear.specs.declared.order.VariableOrder.{VariableOrder}
use Rattle.std.specs.List.{AllByRecursion}
use Rattle.argument.specs.Sumcheck.{Step, draws, before}
use Rattle.argument.specs.Claims.{Claim, Extends, TrueOf}
use Rattle.argument.specs.Reading.{Query, Tail, left, Accepted}
use Rattle.ring.specs.Polynomials.{Distinct}
use Rattle.multilinear.specs.Univariate.{expand}
use Rattle.argument.specs.Accidents.{Phase, onward, Alike, Apart, Behind, AnyAccident}

-- of every accepted reading, under either order, for all tables behind the commitments: every claim is true of the first table, or an
-- accident is shown
abbrev pub AcceptedMeansTrue : {E : Type 0} → Ops E → Type 0
AcceptedMeansTrue {E} F =
    (digest : List ℕ → List ℕ) (o : VariableOrder) (ps : ℕ → Phase E) (claims : List (Claim E)) (α : E) (ss : List (Step E)) (tail : Tail E)
    → length (ps 0).table ≡ 2 ^ before ss (left tail) → AllByRecursion (Extends F (before ss (left tail))) claims
    → Behind F digest o (ps 0) (draws ss) (onward ps) tail
    → Accepted F o claims α ss tail
    → AllByRecursion (TrueOf F (ps 0).table) claims ⊎ AnyAccident F digest o ps claims α ss tail

-- where every position of a phase is opened, two different tables are never alike
abbrev pub AllOpenedNeverAlike : {E : Type 0} → Ops E → Type 0
AllOpenedNeverAlike {E} F =
    (g h : List E) (qs : List (Query E)) (positions : List (List E)) → positions ≡ map (λ q. q.point) qs → Alike F g h qs positions → ⊥

-- 2^m or more distinct elements tell tables of m variables apart, by the positions that they stand for
abbrev pub DistinctElementsTellApart : {E : Type 0} → Ops E → Type 0
DistinctElementsTellApart {E} F = (m : ℕ) (vs : List E) → Distinct vs → 2 ^ m ≤ length vs → Apart F m (map (λ v. expand F v m) vs)
