use Rattle.std.proofs.Common.{◌<◌, length, sym, ◌∙◌, arith}
use Rattle.field.specs.Extensions.{set_left, set_right}
use Rattle.field.proofs.extension.pair_with_coefficient.Goals as goal

pub returns-then-index-half : goal.returns-then-index-half
returns-then-index-half g c =
    let co = g.E.ExtensionField.extension.coefficients in
    let n = g.met.E.ExtensionField.extends.count c.args.y.a in
    let d = c.degree-half.ensures in
    let k : c.args.index < length (g.E.ExtensionField.extension.coefficients c.args.y.a) = omega arith in
    set_left (co c.args.y.a) (co c.args.y.b) (co c.with_coefficient.result) c.args.index c.args.x c.with_coefficient.ensures k

pub returns-else-index-half : goal.returns-else-index-half
returns-else-index-half g c =
    let co = g.E.ExtensionField.extension.coefficients in
    let n = g.met.E.ExtensionField.extends.count c.args.y.a in
    set_right (co c.args.y.a) (co c.args.y.b) (co c.with_coefficient-else-index-half.result) c.degree-half.result c.args.index c.args.x
    c.with_coefficient-else-index-half.ensures (n ∙ sym c.degree-half.ensures) c.if-index-half.false
