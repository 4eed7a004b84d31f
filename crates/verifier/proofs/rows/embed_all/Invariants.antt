use Rattle.std.proofs.Common.{◌≡◌, map, length, take}
use Rattle.verifier.proofs.rows.embed_all.Given as goal

abbrev pub invariant-loop-j : goal.invariant-loop-j
invariant-loop-j g l = length l.elements ≡ length l.places → take l.j l.places ≡ map g.E.ExtensionField.extension.embed (take l.j l.elements)
