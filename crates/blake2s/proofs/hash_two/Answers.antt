use Rattle.std.proofs.Common.{ap, ◌∙◌, ◌++◌}
use Rattle.std.proofs.lemmas.List.{append-nil}
use Rattle.blake2s.specs.Blake2s.{hash}
use Rattle.blake2s.proofs.hash_two.Goals as goal

pub returns : goal.returns
returns c = c.hash_pieces.ensures ∙ ap (λ xs. hash (c.args.left.now ++ xs)) (append-nil c.args.right.now)
