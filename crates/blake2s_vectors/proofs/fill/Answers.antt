use Rattle.std.proofs.Common.{ℕ, ◌+◌, length, arith}
use Rattle.std.proofs.lemmas.List.Edits.{fill_by_more}
use Rattle.std.proofs.lemmas.List.FromFn.{fill_by_all}
use Rattle.blake2s_vectors.specs.Rule.{rule, bytes_from}
use Rattle.blake2s_vectors.proofs.fill.Goals as goal

pub loop-i-preserved : goal.loop-i-preserved
unfolding rule
loop-i-preserved c =
    fill_by_more (λ (k : ℕ). rule (c.args.done + k)) c.loop-i.buffer c.loop-i.i 0 (omega arith) c.loop-i.invariant

pub returns : goal.returns
unfolding bytes_from
returns c =
    fill_by_all (λ (k : ℕ). rule (c.args.done + k)) c.loop-i.buffer (length c.args.buffer.now) 0 (omega arith)
    (λ k lt. c.loop-i.invariant k (omega (arith, lt)))
