use Rattle.std.proofs.Common.{◌<◌, ◌≤◌, length, arith}
use Rattle.verifier.proofs.Sampling.{sampling_on, sampling_ends}
use Rattle.verifier.proofs.reader.draw_samples.Goals as goal

pub loop-i-preserved : goal.loop-i-preserved
loop-i-preserved g c =
    let room : c.loop-i.i < length c.loop-i.samples = omega (arith, c.loop-i-test.true, c.loop-i.auto.samples) in
    let there : c.loop-i.i < length c.args.answers.now = omega (arith, c.loop-i-test.true, c.requires) in
    sampling_on g.F.BaseField.numbering g.E.ExtensionField.extension g.S.Sponge.rules _ c.args.answers.now c.loop-i.samples c.loop-i.i c.index-answers-i.result c.ood_point.result _ _ _ room there c.index-answers-i.is
    c.loop-i.invariant c.ood_point.ensures c.ood_answer.ensures

pub returns : goal.returns
returns g c =
    let full : length c.loop-i.samples ≤ c.loop-i.i = omega (arith, c.loop-i-test.false, c.loop-i.auto.samples) in
    let none : length c.args.answers.now ≤ c.loop-i.i = omega (arith, c.loop-i-test.false, c.requires) in
    sampling_ends g.F.BaseField.numbering g.E.ExtensionField.extension g.S.Sponge.rules _ c.args.answers.now c.loop-i.samples c.loop-i.i _ full none c.loop-i.invariant
