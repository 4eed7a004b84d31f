use Rattle.std.proofs.Common.{◌≡◌, drop}
use Rattle.verifier.specs.Powers.{with_all}
use Rattle.verifier.proofs.powers.Powers.with_all.Given as goal

abbrev pub invariant-loop-value : goal.invariant-loop-value
invariant-loop-value g l = with_all g.E.Field.ops l.powers (drop l.value-index l.values) ≡ with_all g.E.Field.ops l.fn.self l.values
