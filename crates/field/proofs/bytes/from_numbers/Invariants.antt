use Rattle.std.proofs.Common.{◌≡◌, map, take}
use Rattle.field.proofs.bytes.from_numbers.Given as goal

abbrev pub invariant-loop-j : goal.invariant-loop-j
invariant-loop-j g l = map g.F.BaseField.numbering.number (take l.j (g.E.ExtensionField.extension.coefficients l.y)) ≡ take l.j l.numbers
