use Rattle.std.proofs.Common.{ap, sym, ◌∙◌}
use Rattle.sponge.specs.Play.{reworded}
use Rattle.configuration.specs.Numbers.{numbers_of}
use Rattle.errors.specs.Told.{of_transcript}
use Rattle.verification.specs.Drawing.{by_word}
use Rattle.verification.specs.Setting.{setting}
use Rattle.verification.specs.Verifying.{suffices}
use Rattle.verifier.specs.Inputs.{inputs_of}
use Rattle.verifier.proofs.Prechecks.{witnesses_left, refusal_handed}
use Rattle.verifier.proofs.WhirVerifier.check_inputs.Goals as goal

pub returns-in_err-check_witnesses : goal.returns-in_err-check_witnesses
returns-in_err-check_witnesses g c commitment n =
    let v = c.args.self.now in
    let S = setting (numbers_of v.config.now.numbers) v.variable_order g.F.Field.ops g.E.Field.ops g.E.PartialEq.eq g.F.BaseField.numbering g.E.ExtensionField.extension (by_word g.F.BaseField.numbering) (g.D.WhirDomain.meaning v.domain.now) (g.O.OpeningScheme.meaning v.scheme.now) in
    let placed = sym c.claims_fit.ensures ∙ c.if-not-claims_fit.false in
    let room = ap (λ b. suffices b c.args.lengths) (sym c.buffers_needed.ensures) ∙ sym c.buffers_suffice.ensures ∙ c.if-not-buffers_suffice.false in
    let count = c.if-actual-expected.false ∙ c.n_rounds-expected.ensures in
    refusal_handed c.in_err-check_witnesses.field-0.0 _ c.from_residual.result c.from_residual.ensures.1 c.in_err-check_witnesses.ensures
    ∙ witnesses_left S (inputs_of c.args.proof.now commitment n c.args.claims.now c.args.lengths) placed room count

pub returns : goal.returns
returns g c commitment n =
    let v = c.args.self.now in
    let S = setting (numbers_of v.config.now.numbers) v.variable_order g.F.Field.ops g.E.Field.ops g.E.PartialEq.eq g.F.BaseField.numbering g.E.ExtensionField.extension (by_word g.F.BaseField.numbering) (g.D.WhirDomain.meaning v.domain.now) (g.O.OpeningScheme.meaning v.scheme.now) in
    let placed = sym c.claims_fit.ensures ∙ c.if-not-claims_fit.false in
    let room = ap (λ b. suffices b c.args.lengths) (sym c.buffers_needed.ensures) ∙ sym c.buffers_suffice.ensures ∙ c.if-not-buffers_suffice.false in
    let count = c.if-actual-expected.false ∙ c.n_rounds-expected.ensures in
    ap (reworded of_transcript) c.in_ok-check_witnesses.ensures
    ∙ witnesses_left S (inputs_of c.args.proof.now commitment n c.args.claims.now c.args.lengths) placed room count
