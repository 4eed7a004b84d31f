use Rattle.std.proofs.Common.{◌≡◌, length, map, take, drop}
use Rattle.sponge.specs.Drawing.{draw_base}
use Rattle.sumcheck.specs.Rounds.{turn, sumcheck, rounds_given}
use Rattle.sumcheck.specs.Verified.{sent_by, rounds_at}
use Rattle.sumcheck.proofs.Following.{Underway}
use Rattle.sumcheck.proofs.verify_rounds.Given as goal

abbrev pub invariant-loop-round : goal.invariant-loop-round
invariant-loop-round g l =
    let m = g.S.Sponge in
    let N = g.F.BaseField.numbering in
    let X = g.E.ExtensionField.extension in
    let n = rounds_at l.site (length l.initial.randomness) in
    let p = sent_by l.sent in
    Underway g.E.Field.ops m.rules (m.held l.initial.sponge) (sumcheck N X (draw_base N) n p) (turn N X (draw_base N) n) (drop l.round (rounds_given 0 p.messages (map N.number p.witnesses)))
    (m.held l.sponge) l.initial.claim l.claim (take l.round l.randomness) × (drop l.round l.randomness ≡ drop l.round l.initial.randomness)
