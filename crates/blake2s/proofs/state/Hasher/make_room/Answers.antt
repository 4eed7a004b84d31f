use Rattle.std.proofs.Common.{◌≡◌, suc, length, rules}
use Rattle.blake2s.proofs.Steps.{pressed_buffer}
use Rattle.blake2s.proofs.state.Hasher.make_room.Goals as goal

pub returns-then-self-eq64-clause-keeps : goal.returns-then-self-eq64-clause-keeps
returns-then-self-eq64-clause-keeps c =
    let long : length c.args.self.now.block ≡ 64 = search rules in
    λ xs n cut.
    (suc n, pressed_buffer c.args.self.now c.press.new.self c.if-self-eq64.true long c.press.ensures xs n cut)
