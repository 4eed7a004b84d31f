use Rattle.std.proofs.Common.{◌≡◌, drop}
use Rattle.sponge.specs.Trial.{stirs}
use Rattle.sponge.proofs.trial.TrialSpongeSponge.observe.Given as goal

abbrev pub invariant-loop-b : goal.invariant-loop-b
invariant-loop-b l = stirs l.self.s (drop l.b-index l.bytes) ≡ stirs l.initial.self.s l.bytes
