use Rattle.std.proofs.Common.{◌≡◌, take}
use Rattle.transcript.specs.Opening.{taken}
use Rattle.transcript.specs.Owned.{piece_bytes}
use Rattle.transcript.proofs.separator.DomainSeparator.observe.Given as goal

abbrev pub invariant-loop-piece : goal.invariant-loop-piece
invariant-loop-piece g l =
    g.S.Sponge.held l.sponge ≡ taken g.S.Sponge.rules piece_bytes (g.S.Sponge.held l.initial.sponge) (take l.piece-index l.piece-items)
