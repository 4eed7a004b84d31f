use Rattle.std.proofs.Common.{◌≡◌, take}
use Rattle.field.specs.Bytes.{coefficients_bytes}
use Rattle.field.proofs.bytes.element_bytes.Given as goal

abbrev pub invariant-loop-j : goal.invariant-loop-j
invariant-loop-j g l = l.bytes.items ≡ coefficients_bytes g.F.BaseField.numbering (take l.j (g.E.ExtensionField.extension.coefficients l.x))
