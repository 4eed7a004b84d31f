use Rattle.std.proofs.Common.{length, map, ◌<◌, ◌≤◌, refl, ◌∙◌, arith}
use Rattle.std.proofs.lemmas.List.{set-get_or}
use Rattle.sponge.specs.Drawing.{draw_base}
use Rattle.sumcheck.specs.Rounds.{messages_of, rounds_given, turn, sumcheck}
use Rattle.sumcheck.specs.Verified.{sent_by, rounds_at}
use Rattle.sumcheck.proofs.Counting.{messages_there, message_there}
use Rattle.sumcheck.proofs.Following.{counts_passed, counts_refused, counts_read, none_played, place_kept, rounds_begin, refusal_handed}
use Rattle.sumcheck.proofs.Rounding.{loop_on, loop_refused, loop_stands, loop_end}
use Rattle.sumcheck.proofs.verify_rounds.Goals as goal

pub returns-in_err-check_counts : goal.returns-in_err-check_counts
returns-in_err-check_counts g c =
    let N = g.F.BaseField.numbering in
    let n = rounds_at c.args.site (length c.args.randomness.now) in
    let p = sent_by c.args.sent.now in
    refusal_handed g.E.Field.ops _ _ (sumcheck N g.E.ExtensionField.extension (draw_base N) n p) _ c.args.claim 0 _ c.from_residual.result c.args.randomness.now c.args.randomness.now c.from_residual.ensures.1
    (counts_refused N g.E.ExtensionField.extension (draw_base N) g.S.Sponge.rules _ n p _ c.in_err-check_counts.ensures) (none_played n p _ c.in_err-check_counts.ensures) refl

pub loop-round-init : goal.loop-round-init
loop-round-init g c =
    let N = g.F.BaseField.numbering in
    let X = g.E.ExtensionField.extension in
    let n = rounds_at c.args.site (length c.args.randomness.now) in
    let p = sent_by c.args.sent.now in (
      rounds_begin g.E.Field.ops g.S.Sponge.rules _ (sumcheck N X (draw_base N) n p) (turn N X (draw_base N) n) c.args.claim (rounds_given 0 p.messages (map N.number p.witnesses)) (counts_passed N X (draw_base N) g.S.Sponge.rules _ n p c.in_ok-check_counts.ensures)
          (counts_read N X (draw_base N) g.S.Sponge.rules _ n p),
      refl,
    )

pub overflow_mul-h0 : goal.overflow_mul-h0
overflow_mul-h0 g c =
    omega (arith, message_there (rounds_at c.args.site (length c.args.randomness.now)) c.args.sent.now.messages.now c.args.sent.now.witnesses.now c.loop-round.round c.in_ok-check_counts.ensures c.loop-round-test.true)

pub bounds-sent-round : goal.bounds-sent-round
bounds-sent-round g c =
    omega (arith, message_there (rounds_at c.args.site (length c.args.randomness.now)) c.args.sent.now.messages.now c.args.sent.now.witnesses.now c.loop-round.round c.in_ok-check_counts.ensures c.loop-round-test.true)

pub overflow_mul-h2 : goal.overflow_mul-h2
overflow_mul-h2 g c =
    omega (arith, message_there (rounds_at c.args.site (length c.args.randomness.now)) c.args.sent.now.messages.now c.args.sent.now.witnesses.now c.loop-round.round c.in_ok-check_counts.ensures c.loop-round-test.true)

pub overflow_add-h2 : goal.overflow_add-h2
overflow_add-h2 g c =
    omega (arith, message_there (rounds_at c.args.site (length c.args.randomness.now)) c.args.sent.now.messages.now c.args.sent.now.witnesses.now c.loop-round.round c.in_ok-check_counts.ensures c.loop-round-test.true)

pub bounds-sent-round-in-loop-round : goal.bounds-sent-round-in-loop-round
bounds-sent-round-in-loop-round g c =
    message_there (rounds_at c.args.site (length c.args.randomness.now)) c.args.sent.now.messages.now c.args.sent.now.witnesses.now c.loop-round.round c.in_ok-check_counts.ensures c.loop-round-test.true

pub returns-in_err-r : goal.returns-in_err-r
returns-in_err-r g c =
    let N = g.F.BaseField.numbering in
    let X = g.E.ExtensionField.extension in
    let n = rounds_at c.args.site (length c.args.randomness.now) in
    let ms = c.args.sent.now.messages.now in
    let ws = c.args.sent.now.witnesses.now in
    let there = message_there n ms ws c.loop-round.round c.in_ok-check_counts.ensures c.loop-round-test.true in
    let xs = c.loop-round.randomness in
    let old = c.args.randomness.now in
    let i = c.loop-round.round in
    let p = sumcheck N X (draw_base N) n (sent_by c.args.sent.now) in
    let room : i < length xs = omega (arith, c.loop-round.auto.randomness, c.loop-round-test.true) in
    let same = set-get_or xs i c.index-randomness-round.result in
    let stands = loop_stands N X c.args.site.phase (length old) c.args.site.pow_bits ms ws g.E.Field.ops g.S.Sponge.rules _ p c.args.claim xs i _ c.index-sent-round.result c.index-sent-round-in-loop-round.result
    c.loop-round.invariant.0 there c.witness_at-witness.ensures _ old room c.loop-round.invariant.1 c.in_err-r.ensures in
    refusal_handed g.E.Field.ops _ _ p _ c.args.claim i _ c.from_residual-in_err-r.result old _ c.from_residual-in_err-r.ensures.1
    (loop_refused N X c.args.site.phase (length old) c.args.site.pow_bits ms ws g.E.Field.ops g.S.Sponge.rules _ p c.args.claim xs i _ c.index-sent-round.result c.index-sent-round-in-loop-round.result
    c.loop-round.invariant.0 there c.witness_at-witness.ensures _ c.in_err-r.ensures) stands.0 (same ∙ stands.1)

pub loop-round-preserved : goal.loop-round-preserved
loop-round-preserved g c =
    let N = g.F.BaseField.numbering in
    let X = g.E.ExtensionField.extension in
    let n = rounds_at c.args.site (length c.args.randomness.now) in
    let ms = c.args.sent.now.messages.now in
    let ws = c.args.sent.now.witnesses.now in
    let there = message_there n ms ws c.loop-round.round c.in_ok-check_counts.ensures c.loop-round-test.true in
    let room : c.loop-round.round < length c.loop-round.randomness = omega (arith, c.loop-round.auto.randomness, c.loop-round-test.true) in (
      loop_on N X c.args.site.phase (length c.args.randomness.now) c.args.site.pow_bits ms ws g.E.Field.ops g.S.Sponge.rules _ (sumcheck N X (draw_base N) n (sent_by c.args.sent.now)) c.args.claim c.loop-round.randomness c.loop-round.round _
          c.index-sent-round.result c.index-sent-round-in-loop-round.result c.loop-round.invariant.0 there c.witness_at-witness.ensures c.in_ok-r.r _ room c.in_ok-r.ensures c.claim_after-claim.ensures,
      place_kept c.loop-round.randomness c.args.randomness.now c.loop-round.round c.in_ok-r.r c.loop-round.invariant.1,
    )

pub returns : goal.returns
returns g c =
    let N = g.F.BaseField.numbering in
    let X = g.E.ExtensionField.extension in
    let n = rounds_at c.args.site (length c.args.randomness.now) in
    let none : length (messages_of c.args.sent.now.messages.now) ≤ c.loop-round.round = omega (arith, messages_there n (sent_by c.args.sent.now) c.in_ok-check_counts.ensures, c.loop-round-test.false) in
    let full : length c.loop-round.randomness ≤ c.loop-round.round = omega (arith, c.loop-round.auto.randomness, c.loop-round-test.false) in
    loop_end N X c.args.site.phase (length c.args.randomness.now) c.args.site.pow_bits c.args.sent.now.messages.now c.args.sent.now.witnesses.now
    g.E.Field.ops g.S.Sponge.rules _ (sumcheck N X (draw_base N) n (sent_by c.args.sent.now)) c.args.claim c.loop-round.randomness c.loop-round.round c.loop-round.invariant.0 none full
