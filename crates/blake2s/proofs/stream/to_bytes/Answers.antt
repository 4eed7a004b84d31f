use Rattle.std.proofs.Common.{◌≡◌, ◌/◌, ◌%◌, get_or, ◌∙◌, w32, arith, rules}
use Rattle.std.specs.Int.{to_le_bytes}
use Rattle.blake2s.specs.Blake2s.{digest, byte_at}
use Rattle.blake2s.proofs.Made.{made}
use Rattle.blake2s.proofs.Digests.{byte_in_word}
use Rattle.blake2s.proofs.stream.to_bytes.Goals as goal

pub returns : goal.returns
unfolding digest byte_at
returns c =
    let h = c.args.h in
    made _ (byte_at h) _ 32
    (λ k y q lt call.
    let read : y ≡ get_or (to_le_bytes w32 (get_or h (k / 4) 0)) (k % 4) 0 = search rules in
    (read ∙ byte_in_word (get_or h (k / 4) 0) (k % 4) (omega arith), search rules))
    c.from_fn.result c.from_fn.ensures.items
