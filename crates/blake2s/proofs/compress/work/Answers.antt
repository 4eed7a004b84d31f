use Rattle.std.proofs.Common.{◌≡◌, length, cond, sym, ap, ◌∙◌, rules}
use Rattle.blake2s.specs.Compress.{working}
use Rattle.blake2s.proofs.Lists.{eight}
use Rattle.blake2s.proofs.compress.work.Goals as goal
use Rattle.blake2s.proofs.compress.work.Goals.{then-last, else-last}

pub returns : goal.returns
unfolding working
returns c =
    let long : length c.args.h ≡ 8 = search rules in
    let is : c.if-last.flag ≡ cond c.args.last 0xFFFFFFFF 0 =
    elim c.if-last.branch [
      | then-last w ↦ w.flag-is ∙ ap (λ b. cond b 0xFFFFFFFF 0) (sym w.if-last.true)
      | else-last w ↦ w.flag-is ∙ ap (λ b. cond b 0xFFFFFFFF 0) (sym w.if-last.false)
    ] in
    rw (is, eight c.args.h long)
