use Rattle.std.proofs.Common.{◌≡◌, ℕ, min, subst, arith}
use Rattle.blake2s.specs.Absorbed.{Absorbed}
use Rattle.blake2s_vectors.specs.Rule.{bytes_from}
use Rattle.blake2s_vectors.proofs.Pieces.{taken_more}
use Rattle.blake2s_vectors.proofs.filled.Goals as goal
use Rattle.blake2s_vectors.proofs.filled.Goals.{else-loop-done-test, then-loop-done-test+else-most-long}

pub loop-done-init : goal.loop-done-init
unfolding bytes_from
loop-done-init c =
    let none : 0 ≡ min 0 c.args.long = omega arith in
    subst (λ (k : ℕ). Absorbed c.new-hasher.result (bytes_from 0 k)) none c.new-hasher.ensures

pub loop-done-preserved : goal.loop-done-preserved
loop-done-preserved c =
    taken_more c.loop-done.hasher c.feed.new.hasher c.loop-done.done c.min.result _ _ (omega arith) (omega arith)
    c.loop-done.invariant c.feed.ensures

pub returns : goal.returns
returns c =
    let all : Absorbed c.loop-done-test.hasher (bytes_from 0 c.args.long) =
    elim c.loop-done-test.branch [
      | else-loop-done-test w ↦
          let end : min c.loop-done.done c.args.long ≡ c.args.long = omega arith in
          rw w.hasher-is (subst (λ (k : ℕ). Absorbed c.loop-done.hasher (bytes_from 0 k)) end c.loop-done.invariant)
      | then-loop-done-test+else-most-long w ↦
          rw w.hasher-is
          (taken_more c.loop-done.hasher w.feed.new.hasher c.loop-done.done w.min.result _ _ (omega arith) (omega arith)
          c.loop-done.invariant w.feed.ensures)
    ] in
    c.finish.ensures (bytes_from 0 c.args.long) all
