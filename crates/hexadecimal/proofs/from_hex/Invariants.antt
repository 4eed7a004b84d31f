use Rattle.std.proofs.Common.{◌≡◌, vec_items}
use Rattle.std.specs.Slice.Iter.{chunks_rest, chunks_size}
use Rattle.hexadecimal.specs.Hex.{spell, spelled}
use Rattle.hexadecimal.proofs.from_hex.Given as goal

abbrev pub invariant-loop-pair : goal.invariant-loop-pair
invariant-loop-pair l = record {
  in_twos : chunks_size l.pair-iterator ≡ 2;
  spelled_on : spell (vec_items l.bytes) (chunks_rest l.pair-iterator) ≡ spelled l.fn.text;
}
