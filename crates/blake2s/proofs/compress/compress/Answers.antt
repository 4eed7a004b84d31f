use Rattle.std.proofs.Common.{map, ap, ◌∙◌, arith}
use Rattle.std.specs.List.{range_with_len}
use Rattle.std.proofs.lemmas.List.FromFn.{fill_by_all}
use Rattle.blake2s.specs.Compress.{compressed, folded, rounds}
use Rattle.blake2s.proofs.compress.compress.Goals as goal

pub returns : goal.returns
unfolding compressed
returns c =
    let f = folded c.args.h.now c.ten_rounds.new.v in
    fill_by_all f c.loop-i.h 8 0 c.loop-i.invariant.0 (λ k b. c.loop-i.invariant.1 k (omega arith))
    ∙ ap (λ v. map (folded c.args.h.now v) (range_with_len 0 8)) (c.ten_rounds.ensures ∙ ap (rounds 10 c.args.m) c.work-v.ensures)
