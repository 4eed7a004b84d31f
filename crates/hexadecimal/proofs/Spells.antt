-- Two digits more of a text.
use Rattle.std.proofs.Common.{◌≡◌, ℕ, eqb, false, List, [], ◌∷◌, ◌++◌, length, get_or, refl, arith}
use Rattle.std.proofs.lemmas.Bool.Decides.{nat_tests}
use Rattle.hexadecimal.specs.Hex.{digit_value, byte_value, then_spell, spell, spelled}
use lib.Pointwise.{pointwise}

-- a text that is not `-`
pub many_spelled : (t : List ℕ) → pointwise eqb t (45 ∷ []) ≡ false → spelled t ≡ spell [] t
many_spelled [] e = refl
many_spelled (c ∷ []) e = grind (arith, nat_tests)
many_spelled (h ∷ k ∷ r) e = refl

-- the first two digits, and what is left
pub two_left : (bytes pair rest : List ℕ) → length pair ≡ 2
    → spell bytes (pair ++ rest) ≡ then_spell bytes (byte_value (digit_value (get_or pair 0 0)) (digit_value (get_or pair 1 0))) (λ more. spell more rest)
two_left bytes [] rest e = absurd (omega arith)
two_left bytes (h ∷ []) rest e = absurd (omega arith)
two_left bytes (h ∷ k ∷ []) rest e = refl
two_left bytes (h ∷ k ∷ m ∷ ks) rest e = absurd (omega arith)
