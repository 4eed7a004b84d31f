use Rattle.std.proofs.Common.{length, refl, ap, ◌∙◌}
use Rattle.std.specs.Option.{option_and_then}
use Rattle.std.specs.List.{slice_get}
use Rattle.configuration.specs.Numbers.{numbers_of}
use Rattle.verification.specs.Drawing.{by_word}
use Rattle.verification.specs.Setting.{setting}
use Rattle.verification.proofs.Parts.{by_word_draws}
use Rattle.verifier.specs.Inputs.{item_of}
use Rattle.verifier.proofs.Parsing.{none_refused, count_refused, parsed, nothing_there, item_there}
use Rattle.verifier.proofs.WhirVerifier.parse_with_round.Goals as goal

pub returns-in_default : goal.returns-in_default
returns-in_default g c opens =
    let v = c.args.self.now in
    let S = setting (numbers_of v.config.now.numbers) v.variable_order g.F.Field.ops g.E.Field.ops g.E.PartialEq.eq g.F.BaseField.numbering g.E.ExtensionField.extension (by_word g.F.BaseField.numbering) (g.D.WhirDomain.meaning v.domain.now) (g.O.OpeningScheme.meaning v.scheme.now) in
    let x = item_of c.args.proof.now c.args.round_proof.now c.args.round opens in
    (none_refused S g.S.Sponge.rules _ x (ap (option_and_then (slice_get c.args.proof.now.lists.commitments.now)) c.in_default.is), refl)

pub returns-in_default-get : goal.returns-in_default-get
returns-in_default-get g c opens =
    let v = c.args.self.now in
    let S = setting (numbers_of v.config.now.numbers) v.variable_order g.F.Field.ops g.E.Field.ops g.E.PartialEq.eq g.F.BaseField.numbering g.E.ExtensionField.extension (by_word g.F.BaseField.numbering) (g.D.WhirDomain.meaning v.domain.now) (g.O.OpeningScheme.meaning v.scheme.now) in
    let x = item_of c.args.proof.now c.args.round_proof.now c.args.round opens in
    let missing = nothing_there c.args.proof.now.lists.commitments.now c.in-Some.place _ c.in-Some.is c.in_default-get.ensures.lookup.0 in
    (none_refused S g.S.Sponge.rules _ x missing, refl)

pub returns-then-answers-samples : goal.returns-then-answers-samples
returns-then-answers-samples g c opens =
    let v = c.args.self.now in
    let S = setting (numbers_of v.config.now.numbers) v.variable_order g.F.Field.ops g.E.Field.ops g.E.PartialEq.eq g.F.BaseField.numbering g.E.ExtensionField.extension (by_word g.F.BaseField.numbering) (g.D.WhirDomain.meaning v.domain.now) (g.O.OpeningScheme.meaning v.scheme.now) in
    let x = item_of c.args.proof.now c.args.round_proof.now c.args.round opens in
    let told = c.in-Some-get.ensures.lookup in
    let there = item_there c.args.proof.now.lists.commitments.now c.in-Some.place _ c.in-Some-get.root.now c.in-Some.is told.0 told.1 in
    (count_refused S g.S.Sponge.rules _ x c.in-Some-get.root.now _ _ there c.requires (ap length c.part-answers.ensures.part) c.if-answers-samples.true, refl)

pub returns : goal.returns
returns g c opens =
    let v = c.args.self.now in
    let S = setting (numbers_of v.config.now.numbers) v.variable_order g.F.Field.ops g.E.Field.ops g.E.PartialEq.eq g.F.BaseField.numbering g.E.ExtensionField.extension (by_word g.F.BaseField.numbering) (g.D.WhirDomain.meaning v.domain.now) (g.O.OpeningScheme.meaning v.scheme.now) in
    let x = item_of c.args.proof.now c.args.round_proof.now c.args.round opens in
    let told = c.in-Some-get.ensures.lookup in
    let there = item_there c.args.proof.now.lists.commitments.now c.in-Some.place _ c.in-Some-get.root.now c.in-Some.is told.0 told.1 in
    let count = c.if-answers-samples.false ∙ c.requires in
    let bytes = c.deref.ensures.0 ∙ c.commitment_bytes.ensures in (
      there,
      parsed S g.S.Sponge.rules _ x c.in-Some-get.root.now _ c.part-answers.result.now c.draw_samples.new.samples _ _ (by_word_draws g.F.BaseField.numbering) there c.part-answers.ensures.part count bytes
          c.commitment.ensures c.draw_samples.ensures,
    )
