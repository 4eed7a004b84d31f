use Rattle.std.proofs.Common.{◌≡◌, ◌*◌, ◌^◌, ◌<◌, take}
use Rattle.std.specs.List.{All}
use Rattle.field.proofs.Encoding.{words_bytes}
use Rattle.field.proofs.bytes.read_element.Given as goal

abbrev pub invariant-loop-word : goal.invariant-loop-word
invariant-loop-word g l = record {
  read : words_bytes l.numbers.items ≡ take (4 * l.word-index) l.bytes;
  small : All (λ w. w < 2 ^ 32) l.numbers.items;
}
