use Rattle.std.proofs.Common.{◌≡◌, ◌+◌, ◌<◌, [], ◌∷◌, map, length, drop, ap, arith, rules}
use Rattle.verifier.proofs.Coordinates.{next_coordinate, selected_more, selected_all}
use Rattle.verifier.proofs.points.Position.select_by_coordinates.Goals as goal

pub loop-j-preserved : goal.loop-j-preserved
loop-j-preserved g c =
    let G = g.E.Field.ops in
    let X = g.E.ExtensionField.extension in
    let p = c.args.self in
    let point = (g.D.WhirDomain.meaning c.args.domain.now).point p.log p.vars p.index in
    let q = map X.embed point in
    let j = c.loop-j.j in
    let step : c.loop-j.x_j-iterator ≡ c.in-Some.x_j ∷ c.next.new.self = search rules in
    let near : j < length point = omega (arith, ap length step, c.loop-j.invariant.count, c.requires.sized) in
    let next : drop j q ≡ c.coordinate-p_j.result ∷ drop (j + 1) q = next_coordinate X.embed point j g.F.Field.ops.zero c.coordinate-p_j.result near c.coordinate-p_j.ensures in
    let factor : c.mul-product.result ≡ G.mul c.loop-j.product (G.add (G.sub G.one c.in-Some.x_j) (G.mul c.in-Some.x_j c.coordinate-p_j.result)) = search rules in
    selected_more G g.met.E.Field.lawful.ring q c.args.x.now p.vars j c.loop-j.x_j-iterator c.next.new.self c.coordinate-p_j.result c.in-Some.x_j c.loop-j.product c.mul-product.result
    next step factor c.loop-j.invariant

pub returns : goal.returns
returns g c =
    let p = c.args.self in
    let q = map g.E.ExtensionField.extension.embed ((g.D.WhirDomain.meaning c.args.domain.now).point p.log p.vars p.index) in
    let none : c.loop-j.x_j-iterator ≡ [] = search rules in
    selected_all g.E.Field.ops g.met.E.Field.lawful.ring q c.args.x.now p.vars c.loop-j.j c.loop-j.x_j-iterator c.loop-j.product none c.loop-j.invariant
