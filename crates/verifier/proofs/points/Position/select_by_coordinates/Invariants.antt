use Rattle.std.proofs.Common.{map}
use Rattle.verifier.proofs.Coordinates.{Selected}
use Rattle.verifier.proofs.points.Position.select_by_coordinates.Given as goal

abbrev pub invariant-loop-j : goal.invariant-loop-j
invariant-loop-j g l =
    let place = l.self in
    Selected g.E.Field.ops g.met.E.Field.lawful.ring (map g.E.ExtensionField.extension.embed ((g.D.WhirDomain.meaning l.domain).point place.log place.vars place.index)) l.x place.vars l.j l.x_j-iterator l.product
