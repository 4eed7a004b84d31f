use Rattle.blake2s.proofs.Steps.{finished}
use Rattle.blake2s.proofs.state.Hasher.finish.Goals as goal

pub returns : goal.returns
returns c =
    finished c.args.self c.to_words.result c.compress.new.h c.to_bytes.result c.to_words.ensures c.compress.ensures
    c.to_bytes.ensures
