use Rattle.std.proofs.Common.{◌≡◌, ◌+◌, ◌≤◌, length, rules, arith}
use Rattle.std.proofs.lemmas.List.{length-take-le}
use Rattle.std.proofs.lemmas.Slice.{overwrites, take-put_mid, drop-put_mid}
use Rattle.blake2s.proofs.Padding.{padded_more}
use Rattle.blake2s.proofs.state.Hasher.fill.Goals as goal

pub invariant_of-self-clause-clear : goal.invariant_of-self-clause-clear
invariant_of-self-clause-clear c =
    let s = c.args.self.now in
    let n = c.min-n.result in
    let room : s.filled + n ≤ 64 = omega arith in
    let long : length s.block ≡ 64 = search rules in
    let part : length c.copy_from_slice.new.self ≡ n = search (rules, overwrites, length-take-le) in
    padded_more s.block _ c.copy_from_slice.new.self s.filled n long part room s.clear
    (take-put_mid s.filled _ s.block _ _ (omega (arith, part)) (omega (arith, long)))
    (drop-put_mid s.filled _ s.block _ _ (omega arith) (omega (arith, long)) (omega (arith, part)))
