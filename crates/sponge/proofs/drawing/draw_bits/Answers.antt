use Rattle.std.proofs.Common.{◌≡◌, ◌*◌, ◌%◌, ◌^◌, arith, rules}
use Rattle.sponge.proofs.Draws.{few_bits, bits_drawn}
use Rattle.sponge.proofs.drawing.draw_bits.Goals as goal

pub returns-then-bits-lt32 : goal.returns-then-bits-lt32
returns-then-bits-lt32 g c =
    let e : c.draw-word.result % (1 * 2 ^ c.args.bits % 4294967296) ≡ c.draw-word.result % 2 ^ c.args.bits = search rules in
    bits_drawn c.args.bits _ e c.draw-word.ensures.word c.draw-word.ensures.list

pub returns-else-bits-lt32 : goal.returns-else-bits-lt32
returns-else-bits-lt32 g c =
    bits_drawn c.args.bits _ (few_bits _ _ (omega arith) c.if-bits-lt32.false) c.draw-word.ensures.word c.draw-word.ensures.list
