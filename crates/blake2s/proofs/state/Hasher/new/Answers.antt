use Rattle.std.proofs.Common.{refl, arith}
use Rattle.blake2s.specs.Blake2s.{chain, padded}
use Rattle.blake2s.proofs.state.Hasher.new.Goals as goal

pub invariant_of-result-clause-clear : goal.invariant_of-result-clause-clear
unfolding padded
invariant_of-result-clause-clear c = refl

pub returns : goal.returns
unfolding chain
returns c =
    record {
      blocks = 0;
      cut = record { state = refl; counted = refl; waits = refl; whole = refl };
      held = λ h. omega (arith, h);
    }
