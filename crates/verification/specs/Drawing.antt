-- How a base element is drawn: any play that cannot refuse, as data. Assumes nothing.
use Rattle.std.specs.Prelude.{ℕ, List}
use Rattle.field.specs.Numbers.{Numbering}
use Rattle.sponge.specs.Play.{Play, done, observe, draw, ◌>>=◌, ◌>>◌}

-- It answers; or bytes are observed, and it goes on; or a word is drawn, and it goes on by the word.
pub data Drawing (A : Type 0) : Type 0 where
  answers : A → Drawing A
  observes : List ℕ → Drawing A → Drawing A
  draws : (ℕ → Drawing A) → Drawing A

abbrev pub played : {A : Type 0} → Drawing A → Play ⊥ A
played (answers a) = done a
played (observes bs d) = observe bs >> played d
played (draws f) = draw >>= λ w. played (f w)

-- a base element is a word modulo the modulus
abbrev pub by_word : {F : Type 0} → Numbering F → Drawing F
by_word N = draws (λ w. answers (N.residue w))
