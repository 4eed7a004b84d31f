-- Numbers as bytes, highest first.
use Rattle.std.specs.Prelude.{ℕ, zero, suc, ◌*◌, ◌/◌, ◌%◌, ◌^◌, List, [], ◌∷◌}

-- The lowest count bytes of a number, highest first.
abbrev pub big_endian : ℕ → ℕ → List ℕ
big_endian zero n = []
big_endian (suc count) n = n / 2 ^ (8 * count) % 256 ∷ big_endian count n

-- A number below 2 ^ 64 as eight bytes.
unfoldable pub eight : ℕ → List ℕ
eight n = big_endian 8 n
