use Rattle.std.proofs.Common.{◌≡◌, ◌∙◌}
use Rattle.sumcheck.specs.Rounds.{due}
use Rattle.sumcheck.specs.Verified.{sent_by, rounds_at}
use Rattle.sumcheck.proofs.Counting.{messages_count, message_count, witness_count, counts_right, none_due, each_due}
use Rattle.sumcheck.proofs.check_counts.Goals.{then-site-eq0, else-site-eq0}
use Rattle.sumcheck.proofs.check_counts.Goals as goal

pub returns-then-messages-rounds : goal.returns-then-messages-rounds
returns-then-messages-rounds g c =
    message_count (rounds_at c.args.site c.args.rounds) (sent_by c.args.sent.now) _ (messages_count c.args.sent.now.messages.now) c.if-messages-rounds.true

pub returns-then-witnesses-due : goal.returns-then-witnesses-due
returns-then-witnesses-due g c =
    let n = rounds_at c.args.site c.args.rounds in
    let asked : c.if-site-eq0.due ≡ due (rounds_at c.args.site c.args.rounds) =
    elim c.if-site-eq0.branch [
      | then-site-eq0 w ↦ none_due c.args.site.pow_bits c.args.rounds _ w.if-site-eq0.true w.due-is
      | else-site-eq0 w ↦ each_due c.args.site.pow_bits c.args.rounds _ w.if-site-eq0.false w.due-is
    ] in
    witness_count (rounds_at c.args.site c.args.rounds) (sent_by c.args.sent.now) _ (messages_count c.args.sent.now.messages.now ∙ c.if-messages-rounds.false) asked c.if-witnesses-due.true

pub returns : goal.returns
returns g c =
    let asked : c.if-site-eq0.due ≡ due (rounds_at c.args.site c.args.rounds) =
    elim c.if-site-eq0.branch [
      | then-site-eq0 w ↦ none_due c.args.site.pow_bits c.args.rounds _ w.if-site-eq0.true w.due-is
      | else-site-eq0 w ↦ each_due c.args.site.pow_bits c.args.rounds _ w.if-site-eq0.false w.due-is
    ] in
    counts_right (rounds_at c.args.site c.args.rounds) (sent_by c.args.sent.now) (messages_count c.args.sent.now.messages.now ∙ c.if-messages-rounds.false) (c.if-witnesses-due.false ∙ asked)
