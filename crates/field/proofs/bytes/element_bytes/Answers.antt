use Rattle.std.proofs.Common.{◌<◌, ◌++◌, length, ap, ◌∙◌, arith}
use Rattle.field.proofs.Encoding.{write_more, written_length}
use Rattle.field.specs.Extensions.{degree_small}
use Rattle.field.proofs.bytes.element_bytes.Goals as goal

pub unwrap-requires : goal.unwrap-requires
unwrap-requires g c =
    let cs = g.E.ExtensionField.extension.coefficients c.args.x in
    let count = g.met.E.ExtensionField.extends.count c.args.x in
    let d = c.degree-j-end.ensures in
    let small = degree_small g.met.E.ExtensionField.sized in
    let l : c.loop-j.j < length (g.E.ExtensionField.extension.coefficients c.args.x) = omega (arith, c.loop-j-test.true) in
    let size = written_length g.F.BaseField.numbering cs c.loop-j.j c.loop-j.bytes.items l c.loop-j.invariant in
    let word = ap length c.to_le_bytes-word.ensures in
    c.try_extend_from_slice.ensures.variant.1 (omega arith)

pub loop-j-preserved : goal.loop-j-preserved
loop-j-preserved g c =
    let cs = g.E.ExtensionField.extension.coefficients c.args.x in
    let count = g.met.E.ExtensionField.extends.count c.args.x in
    let d = c.degree-j-end.ensures in
    let l : c.loop-j.j < length (g.E.ExtensionField.extension.coefficients c.args.x) = omega (arith, c.loop-j-test.true) in
    let pushed = rw c.unwrap.ensures at c.try_extend_from_slice.ensures.ok in
    write_more g.F.BaseField.numbering cs g.F.Field.ops.zero c.coefficient.result c.loop-j.j c.number.result
    c.loop-j.bytes.items _ l c.loop-j.invariant c.coefficient.ensures c.number.ensures (pushed ∙ ap (λ b. c.loop-j.bytes.items ++ b) c.to_le_bytes-word.ensures)
