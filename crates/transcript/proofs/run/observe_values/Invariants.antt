use Rattle.std.proofs.Common.{drop}
use Rattle.sponge.specs.Plays.{Leads}
use Rattle.transcript.specs.Playing.{values_observed}
use Rattle.transcript.proofs.run.observe_values.Given as goal

abbrev pub invariant-loop-value : goal.invariant-loop-value
invariant-loop-value g l =
    Leads g.S.Sponge.rules (g.S.Sponge.held l.initial.sponge) (values_observed g.F.BaseField.numbering g.E.ExtensionField.extension l.values)
    (g.S.Sponge.held l.sponge) (values_observed g.F.BaseField.numbering g.E.ExtensionField.extension (drop l.value-index l.values))
