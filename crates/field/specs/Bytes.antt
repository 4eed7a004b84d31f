-- Elements as bytes: each coefficient in turn, as the four bytes of its number, the lowest first. Assumes nothing.
use Rattle.std.specs.Prelude.{◌≡◌, ℕ, ◌+◌, ◌*◌, ◌/◌, ◌%◌, ◌<◌, ◌≤◌, ◌⊎◌, List, [], ◌∷◌, ◌++◌, map, length, take, drop, Some, None, Option, ◌≢◌}
use Rattle.std.specs.List.{Any}
use Rattle.field.specs.Numbers.{Numbering}
use Rattle.field.specs.Extension.{Extension}

-- the four bytes of a number below 2 ^ 32
abbrev pub word_bytes : ℕ → List ℕ
word_bytes n = (n % 256) ∷ (n / 256 % 256) ∷ (n / 65536 % 256) ∷ (n / 16777216 % 256) ∷ []

-- the number that bytes are, the lowest first
abbrev pub little_endian : List ℕ → ℕ
little_endian [] = 0
little_endian (b ∷ bs) = b + 256 * little_endian bs

module _ {A : Type 0} (n : Numbering A) where
  abbrev pub coefficients_bytes : List A → List ℕ
  coefficients_bytes [] = []
  coefficients_bytes (c ∷ cs) = word_bytes (n.number c) ++ coefficients_bytes cs

  module _ {B : Type 0} (x : Extension A B) where
    abbrev pub element_bytes : B → List ℕ
    element_bytes y = coefficients_bytes (x.coefficients y)

    -- some coefficient is not below the modulus
    abbrev pub Overflows : List ℕ → Type 0
    Overflows bytes = (j : ℕ) × (j < x.degree) × (n.modulus ≤ little_endian (take 4 (drop (4 * j) bytes)))

    -- reading gives the element that has these bytes, and refuses another length and a coefficient not below the modulus
    abbrev pub Reads : List ℕ → Option B → Type 0
    Reads bytes (Some y) = element_bytes y ≡ bytes
    Reads bytes None = (length bytes ≢ 4 * x.degree) ⊎ Overflows bytes

    -- reading numbers gives the element whose coefficients have them, and refuses another count and a number not below the modulus
    abbrev pub ReadsNumbers : List ℕ → Option B → Type 0
    ReadsNumbers numbers (Some y) = map n.number (x.coefficients y) ≡ numbers
    ReadsNumbers numbers None = (length numbers ≢ x.degree) ⊎ Any (λ k. n.modulus ≤ k) numbers

    -- what was written is read as what it was, and is 4 bytes a coefficient
    abbrev pub ReadBack : Type 0
    ReadBack = (y : B) → (length (element_bytes y) ≡ 4 * x.degree) × ((r : Option B) → Reads (element_bytes y) r → r ≡ Some y)
