-- What stands behind the commitments of a run, and the accidents by which a run can be accepted though a claim is false.
use Rattle.std.specs.Prelude.{◌≡◌, ℕ, suc, ◌^◌, ◌⊎◌, List, ◌∷◌, ◌++◌, map, length}
use Rattle.digest.specs.Collision.{Collision}
use Rattle.ring.specs.Ring.{Ops}
use Rattle.multilinear.specs.declared.order.VariableOrder.{VariableOrder}
use Rattle.std.specs.List.{AllByRecursion}
use Rattle.argument.specs.Roots.{Any, Root}
use Rattle.multilinear.specs.Tables.{cube, view, position, folded, row}
use Rattle.ring.specs.Polynomials.{minus}
use Rattle.argument.specs.Sumcheck.{Step, draws, before, after, MessageRoot}
use Rattle.argument.specs.Claims.{Claim, Extends, worth, batched, weight, joined, joint}
use Rattle.argument.specs.Reading.{Query, Tail, end, round, left, fresh}

-- behind the commitment that a phase opens: its table, the points of all positions of the phase, and the lists that are digested in
-- checking the opened rows and in committing the table
pub record Phase (E : Type 0) : Type 0 where
  pub table : List E
  pub positions : List (List E)
  pub checked : List (List ℕ)
  pub committed : List (List ℕ)

-- the phases after the first of a sequence
abbrev pub onward : {A : Type 0} → (ℕ → A) → ℕ → A
onward ps i = ps (suc i)

-- lists of one phase collide
abbrev pub Clash : {E : Type 0} → (List ℕ → List ℕ) → Phase E → Type 0
Clash digest p = Collision digest p.checked p.committed

-- the accidents behind the draws of a phase, by name: at a round, at the end; and those of the whole run
pub data AtRound (Clash Alike Gamma Message Later : Type 0) : Type 0 where
  collision : Clash → AtRound Clash Alike Gamma Message Later
  alike : Alike → AtRound Clash Alike Gamma Message Later
  gamma : Gamma → AtRound Clash Alike Gamma Message Later
  message : Message → AtRound Clash Alike Gamma Message Later
  later : Later → AtRound Clash Alike Gamma Message Later

pub data AtEnd (Clash Alike Message : Type 0) : Type 0 where
  collision : Clash → AtEnd Clash Alike Message
  alike : Alike → AtEnd Clash Alike Message
  message : Message → AtEnd Clash Alike Message

pub data AtStart (Alpha Message Later : Type 0) : Type 0 where
  alpha : Alpha → AtStart Alpha Message Later
  message : Message → AtStart Alpha Message Later
  later : Later → AtStart Alpha Message Later

module _ {E : Type 0} (F : Ops E) where
  open F use {mul as ◌⊗◌}

  infixl 70 ◌⊗◌
  -- two different tables with equal values at every position opened; and a position of the phase, so one not opened, where they differ
  pub record Alike (g h : List E) (qs : List (Query E)) (positions : List (List E)) : Type 0 where
    pub different : ¬ (g ≡ h)
    pub opened : AllByRecursion (λ q. position F g q.point ≡ position F h q.point) qs
    pub elsewhere : Any (λ p. ¬ (position F g p ≡ position F h p)) positions

  -- the positions tell tables of m variables apart: two that have equal values at all of them are one
  abbrev pub Apart : ℕ → List (List E) → Type 0
  Apart m positions =
      (g h : List E) → length g ≡ 2 ^ m → length h ≡ 2 ^ m → AllByRecursion (λ p. position F g p ≡ position F h p) positions → g ≡ h

  -- the error polynomial of the claims, for α: each value minus what the table comes to
  abbrev pub claims_error : List E → List (Claim E) → List E
  claims_error g claims = minus F (map (λ q. q.claimed) claims) (map (worth F g) claims)

  -- the error polynomial of a round, for γ: the carried claim minus the sum of W·g, then each fresh value minus what g comes to
  abbrev pub round_error : VariableOrder → ℕ → List E → (List E → E) → E → List (Claim E) → List E
  round_error o n g W c qs = minus F (c ∷ map (λ q. q.claimed) qs) (cube F n (λ x. W x ⊗ view F o g x) ∷ map (worth F g) qs)

  module _ (digest : List ℕ → List ℕ) (o : VariableOrder) where
    -- the queries of a phase that binds k variables and leaves m: each point is one of a table of m variables, each row is the
    -- table's own there, or lists collide; and the positions tell tables of m variables apart
    pub record Opens (p : Phase E) (k m : ℕ) (qs : List (Query E)) : Type 0 where
      pub points : AllByRecursion (λ q. length q.point ≡ m) qs
      pub rows : AllByRecursion (λ q. (q.opened ≡ row F o k p.table q.point) ⊎ Clash digest p) qs
      pub apart : Apart m p.positions

    -- what is asked of the phases, one by one: p is opened after the draws rs, ps are those after it
    abbrev pub Behind : Phase E → List E → (ℕ → Phase E) → Tail E → Type 0
    Behind p rs ps (end f qs ss) = record { opens : Opens p (length rs) (before ss 0) qs; sized : length f ≡ 2 ^ before ss 0 }
    Behind p rs ps (round qs samples γ ss tail) =
        record {
          opens : Opens p (length rs) (before ss (left tail)) qs;
          sized : length (ps 0).table ≡ 2 ^ before ss (left tail);
          sampled : AllByRecursion (Extends F (before ss (left tail))) samples;
          rest : Behind (ps 0) (draws ss) (onward ps) tail;
        }

    -- an accident after the draws rs on p's table, under the carried weight W and claim c
    abbrev pub Accident : Phase E → List E → (ℕ → Phase E) → (List E → E) → E → Tail E → Type 0
    Accident p rs ps W c (end f qs ss) =
        AtEnd (Clash digest p) (Alike f (folded F o (before ss 0) p.table rs) qs p.positions) (MessageRoot F ss 0 W (view F o f) c)
    Accident p rs ps W c (round qs samples γ ss tail) =
        let n = before ss (left tail) in
        let g = (ps 0).table in
        let new = fresh F o rs qs samples in
        AtRound (Clash digest p) (Alike g (folded F o n p.table rs) qs p.positions) (Root F (round_error o n g W c new) γ)
        (MessageRoot F ss (left tail) (joint F o W new γ) (view F o g) (joined F c new γ))
        (Accident (ps 0) (draws ss) (onward ps) (λ x. joint F o W new γ (draws ss ++ x)) (after F (joined F c new γ) ss) tail)

    -- an accident of the whole run
    abbrev pub AnyAccident : (ℕ → Phase E) → List (Claim E) → E → List (Step E) → Tail E → Type 0
    AnyAccident ps claims α ss tail =
        AtStart (Root F (claims_error (ps 0).table claims) α)
        (MessageRoot F ss (left tail) (weight F o claims α) (view F o (ps 0).table) (batched F claims α))
        (Accident (ps 0) (draws ss) (onward ps) (λ x. weight F o claims α (draws ss ++ x)) (after F (batched F claims α) ss) tail)
