use Rattle.std.proofs.Common.{◌≡◌, ◌*◌, ◌/◌, ◌<◌, ◌≤◌, length, sym, ap, ◌∙◌, lit<, arith}
use Rattle.std.proofs.lemmas.List.{take_all}
use Rattle.std.proofs.lemmas.Grind.{common_steps}
use Rattle.field.proofs.Encoding.{words_count, length_words, read_more, reads_words}
use Rattle.field.specs.Extensions.{degree_small}
use Rattle.field.proofs.bytes.read_element.Goals as goal

pub push-requires : goal.push-requires
push-requires g c =
    let small = degree_small g.met.E.ExtensionField.sized in
    let d = c.degree.ensures in
    let many : length c.as_chunks.result.0.now ≡ length c.args.bytes.now / 4 = c.as_chunks.ensures.front_len in
    let count = words_count c.loop-word.numbers.items c.args.bytes.now c.loop-word.word-index (omega (arith, c.loop-word-test.true, c.if-bytes-degree.false)) c.loop-word.invariant.read in
    let room : length c.loop-word.numbers.items < 8 = omega (arith, c.loop-word-test.true, c.if-bytes-degree.false) in
    (lit< tt, room)

pub loop-word-preserved : goal.loop-word-preserved
loop-word-preserved g c =
    let many : length c.as_chunks.result.0.now ≡ length c.args.bytes.now / 4 = c.as_chunks.ensures.front_len in
    let l : c.loop-word.word-index < length c.args.bytes.now / 4 = omega (arith, c.loop-word-test.true) in
    let word = c.from_le_bytes.type_inv in
    record {
      read =
          read_more c.loop-word.numbers.items c.push.new.self.items c.args.bytes.now _ c.as_chunks.result.0.now c.loop-word.word-index (length c.args.bytes.now / 4) c.from_le_bytes.result
          (omega arith) c.as_chunks.ensures.front l (λ i. (c.type_inv.bytes i).fits) c.from_le_bytes.ensures c.loop-word.invariant.read c.push.ensures.items;
      small = rw c.push.ensures.items (grind (arith, common_steps, c.loop-word.invariant.small));
    }

pub returns : goal.returns
returns g c =
    let d = c.degree.ensures in
    let many : length c.as_chunks.result.0.now ≡ length c.args.bytes.now / 4 = c.as_chunks.ensures.front_len in
    let whole : length c.args.bytes.now ≤ 4 * c.loop-word.word-index = omega (arith, c.loop-word-test.false, c.if-bytes-degree.false) in
    let inv = c.loop-word.invariant in
    let read = inv.read ∙ take_all (4 * c.loop-word.word-index) c.args.bytes.now whole in
    let count : length c.loop-word.numbers.items ≡ g.E.ExtensionField.extension.degree = omega (arith, sym (length_words c.loop-word.numbers.items) ∙ ap length read, c.if-bytes-degree.false) in
    reads_words g.F.BaseField.numbering g.E.ExtensionField.extension c.loop-word.numbers.items c.args.bytes.now count inv.small read c.from_numbers.result (rw c.deref.ensures.0 at c.from_numbers.ensures)
