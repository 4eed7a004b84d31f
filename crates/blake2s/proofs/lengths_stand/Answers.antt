use Rattle.blake2s.proofs.Digests.{length_hash, hash_bytes}
use Rattle.blake2s.proofs.lengths_stand.Goals as goal

pub returns : goal.returns
returns c = λ xs. (length_hash xs, hash_bytes xs)
