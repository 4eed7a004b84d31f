use Rattle.std.proofs.Common.{◌≡◌, ◌-◌, ◌+◌, ◌^◌, ◌<◌, ◌∷◌, map, length, drop, arith, rules}
use Rattle.multilinear.specs.Tables.{position}
use Rattle.verifier.proofs.Coordinates.{next_coordinate, length_left, position_none, half_sizes, position_more}
use Rattle.verifier.proofs.points.Position.+value_by_halves.Goals as goal

pub returns-then-j-self : goal.returns-then-j-self
returns-then-j-self g t c =
    let p = c.args.self in
    let point = (g.D.WhirDomain.meaning c.args.domain.now).point p.log p.vars p.index in
    let embed = g.E.ExtensionField.extension.embed in
    let none : p.vars - c.args.j ≡ 0 = omega (arith, c.if-j-self.true) in
    position_none g.E.Field.ops g.met.E.Field.lawful.ring c.args.table.now (drop c.args.j (map embed point)) c.index-table-0.result (p.vars - c.args.j)
    (length_left embed point c.args.j p.vars c.requires.sized) none c.requires.long c.index-table-0.is

pub value_by_halves-below-requires : goal.value_by_halves-below-requires
value_by_halves-below-requires g t c κs within =
    let vars = c.args.self.vars in
    let near : c.args.j < vars = omega (arith, c.if-j-self.false, c.requires.left) in
    let sizes = half_sizes g.E.Field.ops g.met.E.Field.lawful.ring c.args.table.now c.split_at.result.0.now c.split_at.result.1.now vars c.args.j near c.requires.long c.split_at.ensures.front_len c.split_at.ensures.back_len in
    let less : vars - (c.args.j + 1) < vars - c.args.j = omega arith in
    let size : length c.split_at.result.0.now ≡ 2 ^ (vars - (c.args.j + 1)) = sizes.0 in
    search rules

pub value_by_halves-above-requires : goal.value_by_halves-above-requires
value_by_halves-above-requires g t c κs within =
    let vars = c.args.self.vars in
    let near : c.args.j < vars = omega (arith, c.if-j-self.false, c.requires.left) in
    let sizes = half_sizes g.E.Field.ops g.met.E.Field.lawful.ring c.args.table.now c.split_at.result.0.now c.split_at.result.1.now vars c.args.j near c.requires.long c.split_at.ensures.front_len c.split_at.ensures.back_len in
    let less : vars - (c.args.j + 1) < vars - c.args.j = omega arith in
    let size : length c.split_at.result.1.now ≡ 2 ^ (vars - (c.args.j + 1)) = sizes.1 in
    search rules

pub returns : goal.returns
returns g t c =
    let G = g.E.Field.ops in
    let embed = g.E.ExtensionField.extension.embed in
    let p = c.args.self in
    let j = c.args.j in
    let point = (g.D.WhirDomain.meaning c.args.domain.now).point p.log p.vars p.index in
    let q = map embed point in
    let low = c.split_at.result.0.now in
    let high = c.split_at.result.1.now in
    let near : j < p.vars = omega (arith, c.if-j-self.false, c.requires.left) in
    let sizes = half_sizes G g.met.E.Field.lawful.ring c.args.table.now low high p.vars j near c.requires.long c.split_at.ensures.front_len c.split_at.ensures.back_len in
    let inside_point : j < length point = omega (arith, c.requires.sized, near) in
    let next : drop j q ≡ c.coordinate-p_j.result ∷ drop (j + 1) q = next_coordinate embed point j g.F.Field.ops.zero c.coordinate-p_j.result inside_point c.coordinate-p_j.ensures in
    let count = length_left embed point (j + 1) p.vars c.requires.sized in
    let below : c.value_by_halves-below.result ≡ position G low (drop (j + 1) q) = search rules in
    let above : c.value_by_halves-above.result ≡ position G high (drop (j + 1) q) = search rules in
    position_more G g.met.E.Field.lawful.ring c.args.table.now low high (drop j q) (drop (j + 1) q) (p.vars - (j + 1)) c.coordinate-p_j.result c.value_by_halves-below.result c.value_by_halves-above.result c.mul.result c.add.result
    next c.split_at.ensures.by_index.0 sizes.0 count below above c.mul.ensures c.add.ensures
