-- The trial sponge: one number below 2^64, at first 0.
use Rattle.std.specs.Prelude.{ℕ, ◌+◌, ◌*◌, ◌/◌, ◌%◌, ◌^◌, List, [], ◌∷◌, bit_xor}
use Rattle.sponge.specs.Play.{Rules}

-- the number after one number is taken in
abbrev pub stir : ℕ → ℕ → ℕ
stir s v = (bit_xor s v * 6364136223846793005 + 1) % 2 ^ 64

-- .. and after several, in turn
abbrev pub stirs : ℕ → List ℕ → ℕ
stirs s [] = s
stirs s (v ∷ vs) = stirs (stir s v) vs

-- a sponge that holds the number s stands for the list of s alone
abbrev pub alone : ℕ → List ℕ
alone s = s ∷ []

-- the number of such a list
abbrev pub number : List ℕ → ℕ
number [] = 0
number (s ∷ l) = s

-- Bytes are taken in one by one; at a draw 256 is, and the word is the upper half of the number.
abbrev pub trial : Rules
trial = record {
  after_observe = λ l bytes. alone (stirs (number l) bytes);
  after_draw = λ l. alone (stir (number l) 256);
  word = λ l. stir (number l) 256 / 2 ^ 32;
}
