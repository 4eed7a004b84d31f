-- What a verification is set up with, what it is given, what it reads, and its refusals. Assumes nothing.
use Rattle.std.specs.Prelude.{ℕ, suc, Bool, List, [], ◌∷◌, map, Option}
use Rattle.ring.specs.Ring.{Ops}
use Rattle.field.specs.Numbers.{Numbering}
use Rattle.field.specs.Extension.{Extension}
use Rattle.multilinear.specs.declared.order.VariableOrder.{VariableOrder}
use Rattle.argument.specs.Claims.{Claim, at_point}
use Rattle.domain.specs.Domains.{Domain}
use Rattle.commit.specs.Opening.{Meaning}
use Rattle.configuration.specs.Numbers.{Numbers}
use Rattle.configuration.specs.Phases.{factor, left, log_positions_of}
use Rattle.configuration_view.specs.declared.phases.Buffers.{Buffers}
use Rattle.transcript.specs.Shape.{last_phase}
use Rattle.sumcheck.specs.Rounds.{Turn}
use Rattle.proof.specs.declared.claims.Claim as claimed
use Rattle.verification.specs.Drawing.{Drawing}
use Rattle.verification.specs.Proof.{FlatProof, Proof, RoundProof, proof_of, part}

-- The numbers of a configuration; the operations of the base F and of the extension E, the test of equality in E, how F lies in E and how
-- both are written as bytes; how a base element is drawn; the domain; the opening scheme, with commitments C and path nodes P; the
-- variable order.
pub record Setting (F E C P : Type 0) : Type 0 where
  pub numbers : Numbers
  pub base : Ops F
  pub field : Ops E
  pub equal : E → E → Bool
  pub numbering : Numbering F
  pub extension : Extension F E
  pub drawing : Drawing F
  pub domain : Domain F
  pub scheme : Meaning F C P
  pub order : VariableOrder

-- A setting, from the numbers and the order, and from what the interfaces bring.
abbrev pub setting : {F E C P : Type 0} → Numbers → VariableOrder → Ops F → Ops E → (E → E → Bool) → Numbering F → Extension F E → Drawing F → Domain F → Meaning F C P → Setting F E C P
setting N o f e equal n x drawing domain scheme = record {
  numbers = N;
  base = f;
  field = e;
  equal = equal;
  numbering = n;
  extension = x;
  drawing = drawing;
  domain = domain;
  scheme = scheme;
  order = o;
}

-- A proof; the first commitment; how many opening claims the separator names; the claims, with the list of their points' coordinates;
-- the buffers' lengths.
pub record Inputs (F E C P : Type 0) : Type 0 where
  pub proof : FlatProof F E C P
  pub commitment : C
  pub opening_claims : ℕ
  pub coordinates : List E
  pub claims : List (claimed.Claim E)
  pub buffers : Buffers

-- A round: the points of its out-of-domain samples, whether the bits drawn at its grinding are all 0, its positions, its challenge γ, and
-- its sumcheck.
pub record RoundReading (E : Type 0) : Type 0 where
  pub samples : List E
  pub clear : Bool
  pub positions : List ℕ
  pub gamma : E
  pub turns : List (Turn E)

-- The whole: the challenge α, the initial sumcheck, the rounds, the grinding and the positions of the final phase, the final sumcheck.
pub record Reading (E : Type 0) : Type 0 where
  pub alpha : E
  pub initial : List (Turn E)
  pub rounds : List (RoundReading E)
  pub clear : Bool
  pub positions : List ℕ
  pub final : List (Turn E)

module _ {F E C P : Type 0} (S : Setting F E C P) where
  -- The final phase is phase M, after M rounds.
  abbrev pub last : ℕ
  last = last_phase S.numbers

  -- Phase i binds so many variables, and leaves so many; its positions are 2 to the power of the third.
  abbrev pub folds : ℕ → ℕ
  folds i = factor S.numbers.stored i

  abbrev pub vars_after : ℕ → ℕ
  vars_after i = left S.numbers S.numbers.stored (suc i)

  abbrev pub log_positions : ℕ → ℕ
  log_positions i = log_positions_of S.numbers S.numbers.stored i

  -- The point of a position of phase i, in the extension.
  abbrev pub point_at : ℕ → ℕ → List E
  point_at i index = map S.extension.embed (S.domain.point (log_positions i) (vars_after i) index)

  module _ (I : Inputs F E C P) where
    -- What stands at the proof's places.
    abbrev pub given : Proof F E C P
    given = proof_of I.proof

    -- The claims, each as a value and the weights by which the table is summed.
    abbrev pub claims : List (Claim E)
    claims = map (λ q. at_point S.field (part I.coordinates q.point) q.value) I.claims

-- A round as it is given: its number, the commitment that it opens, and its part of the proof.
pub record Item (F E C P : Type 0) : Type 0 where
  pub number : ℕ
  pub opens : Option C
  pub part : RoundProof F E C P

module _ {F E C P : Type 0} where
  -- Rounds from a number on, the first of which opens c, and each of the others its predecessor's commitment.
  abbrev pub items : ℕ → Option C → List (RoundProof F E C P) → List (Item F E C P)
  items i c [] = []
  items i c (p ∷ ps) = record { number = i; opens = c; part = p } ∷ items (suc i) p.commitment ps

  -- The last commitment after them.
  abbrev pub newest : Option C → List (RoundProof F E C P) → Option C
  newest c [] = c
  newest c (p ∷ ps) = newest p.commitment ps
