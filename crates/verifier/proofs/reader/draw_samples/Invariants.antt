use Rattle.verifier.proofs.Sampling.{Sampling}
use Rattle.verifier.proofs.reader.draw_samples.Given as goal

abbrev pub invariant-loop-i : goal.invariant-loop-i
invariant-loop-i g l =
    Sampling g.F.BaseField.numbering g.E.ExtensionField.extension g.S.Sponge.rules (g.S.Sponge.held l.initial.sponge) l.answers l.i l.samples (g.S.Sponge.held l.sponge)
