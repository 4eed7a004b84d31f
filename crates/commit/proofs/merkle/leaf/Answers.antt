use Rattle.std.proofs.Common.{ℕ, List, [], sym, subst, append-nil}
use Rattle.blake2s.specs.Absorbed.{Absorbed}
use Rattle.commit.proofs.merkle.leaf.Goals as goal

pub returns : goal.returns
returns g c =
    c.finish.ensures _ (c.feed.ensures _ [] (λ bs a. subst (λ (l : List ℕ). Absorbed c.new.result l) (sym (append-nil bs)) a) [] c.new.ensures)
