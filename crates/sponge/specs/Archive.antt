-- The archive sponge: 32 bytes h, at first zero. H is BLAKE2s with no key and a digest of 32 bytes.
use Rattle.std.specs.Prelude.{ℕ, ◌+◌, ◌*◌, List, ◌∷◌, ◌++◌, replicate, slice_index}
use Rattle.blake2s.specs.Blake2s.{hash}
use Rattle.sponge.specs.Play.{Rules}

-- the number whose four bytes, lowest first, a list begins with
abbrev pub first_four : List ℕ → ℕ
first_four l = slice_index l 0 + slice_index l 1 * 256 + slice_index l 2 * 65536 + slice_index l 3 * 16777216

abbrev pub zeros : List ℕ
zeros = replicate 32 0

-- Observing makes h = H(00 ‖ h ‖ bytes). A draw makes h = H(01 ‖ h) and answers its first four bytes.
abbrev pub archive : Rules
archive = record {
  after_observe = λ h bytes. hash (0 ∷ (h ++ bytes));
  after_draw = λ h. hash (1 ∷ h);
  word = λ h. first_four (hash (1 ∷ h));
}
