-- Sums of values weighted by the powers of a challenge. Assumes nothing.
use Rattle.std.specs.Prelude.{List, [], ◌∷◌}
use Rattle.ring.specs.Ring.{Ops}
use Rattle.verifier.specs.declared.powers.Powers.{Powers}

module _ {E : Type 0} (F : Ops E) where
  -- a value more
  abbrev pub with : Powers E → E → Powers E
  with s v = record { sum = F.add s.sum (F.mul s.power v); power = F.mul s.power s.challenge; challenge = s.challenge }

  -- values in turn
  abbrev pub with_all : Powers E → List E → Powers E
  with_all s [] = s
  with_all s (v ∷ vs) = with_all (with s v) vs
