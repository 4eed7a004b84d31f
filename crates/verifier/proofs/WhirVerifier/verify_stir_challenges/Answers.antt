use Rattle.std.proofs.Common.{Some}
use Rattle.configuration.specs.Numbers.{numbers_of}
use Rattle.verification.specs.Drawing.{by_word}
use Rattle.verification.specs.Setting.{setting}
use Rattle.verifier.specs.Rows.{opening_of}
use Rattle.verifier.proofs.Querying.{refused_by_grinding, answered_by_opening}
use Rattle.verifier.proofs.WhirVerifier.verify_stir_challenges.Goals as goal

pub returns-in_err-query_pow : goal.returns-in_err-query_pow
returns-in_err-query_pow g c =
    let v = c.args.self.now in
    let S = setting (numbers_of v.config.now.numbers) v.variable_order g.F.Field.ops g.E.Field.ops g.E.PartialEq.eq g.F.BaseField.numbering g.E.ExtensionField.extension (by_word g.F.BaseField.numbering) (g.D.WhirDomain.meaning v.domain.now)
    (g.O.OpeningScheme.meaning v.scheme.now) in
    refused_by_grinding S g.S.Sponge.rules _ _ c.args.phase c.args.witness c.requires.phase
    (Some c.args.commitment.now) (opening_of c.args.opened.now) c.args.positions.now _ c.from_residual.result c.in_err-query_pow.ensures c.from_residual.ensures.1

pub returns : goal.returns
returns g c =
    let v = c.args.self.now in
    let S = setting (numbers_of v.config.now.numbers) v.variable_order g.F.Field.ops g.E.Field.ops g.E.PartialEq.eq g.F.BaseField.numbering g.E.ExtensionField.extension (by_word g.F.BaseField.numbering) (g.D.WhirDomain.meaning v.domain.now)
    (g.O.OpeningScheme.meaning v.scheme.now) in
    answered_by_opening S g.S.Sponge.rules _ _ c.args.phase c.args.witness c.requires.phase
    (Some c.args.commitment.now) (opening_of c.args.opened.now) c.args.positions.now _ c.query_indices.new.out c.query_indices.result c.verify_merkle_proof.result c.in_ok-query_pow.ensures c.requires.room
    c.query_indices.ensures c.verify_merkle_proof.ensures
