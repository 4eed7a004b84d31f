use Rattle.std.proofs.Common.{Ok, map, ap, subst, ◌∙◌}
use Rattle.std.proofs.lemmas.List.{take_all}
use Rattle.sponge.specs.Plays.{Plays}
use Rattle.transcript.specs.Opening.{taken, observe_all}
use Rattle.transcript.specs.Owned.{piece_bytes}
use Rattle.transcript.proofs.Taking.{all_taken}
use Rattle.transcript.proofs.Owning.{piece_taken}
use Rattle.transcript.proofs.separator.DomainSeparator.observe.Goals as goal

pub loop-piece-preserved : goal.loop-piece-preserved
loop-piece-preserved g c =
    piece_taken g.S.Sponge.rules _ _ _ c.deref-piece-items.result.now c.loop-piece.piece-index c.piece-item.result _ c.loop-piece-test.true c.loop-piece.invariant
    (c.as_slice.ensures.value ∙ ap piece_bytes c.piece-item.is) c.observe.ensures

pub returns : goal.returns
returns g c =
    subst (λ ps. Plays g.S.Sponge.rules (g.S.Sponge.held c.args.sponge.now) (observe_all (map piece_bytes ps)) (Ok tt) (g.S.Sponge.held c.loop-piece.sponge)) c.deref-piece-items.ensures.value
    (all_taken g.S.Sponge.rules piece_bytes _ _ c.deref-piece-items.result.now
    (c.loop-piece.invariant ∙ ap (taken g.S.Sponge.rules piece_bytes (g.S.Sponge.held c.args.sponge.now)) (take_all c.loop-piece.piece-index c.deref-piece-items.result.now c.loop-piece-test.false)))
