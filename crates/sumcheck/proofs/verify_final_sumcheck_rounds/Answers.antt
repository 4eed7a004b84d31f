use Rattle.std.proofs.Common.{length, sym, ◌∙◌}
use Rattle.std.proofs.lemmas.Bool.{eqb-true}
use Rattle.sumcheck.proofs.Closing.{closed_by_none}
use Rattle.sumcheck.proofs.verify_final_sumcheck_rounds.Goals as goal

pub returns-then-is_empty : goal.returns-then-is_empty
returns-then-is_empty g c =
    closed_by_none g.E.Field.ops g.F.BaseField.numbering g.E.ExtensionField.extension g.S.Sponge.rules _ c.args.site c.args.claim c.args.randomness.now c.args.sent
    (eqb-true (length c.args.randomness.now) 0 (sym c.is_empty.ensures ∙ c.if-is_empty.true))
