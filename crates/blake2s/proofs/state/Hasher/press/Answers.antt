use Rattle.std.proofs.Common.{refl}
use Rattle.blake2s.specs.Blake2s.{padded}
use Rattle.blake2s.proofs.state.Hasher.press.Goals as goal

pub invariant_of-self-clause-clear : goal.invariant_of-self-clause-clear
unfolding padded
invariant_of-self-clause-clear c = refl
