-- Bytes written as hexadecimal digits, in lower case, two to a byte, the higher one first; no bytes are written `-`.
use Rattle.std.specs.Prelude.{ℕ, ◌+◌, ◌-◌, ◌*◌, cond, ◌&&◌, List, [], ◌∷◌, ◌++◌, Some, None, Option, nat_le}

-- the value of a digit
abbrev pub digit_value : ℕ → Option ℕ
digit_value c = cond (nat_le 48 c && nat_le c 57) (Some (c - 48)) (cond (nat_le 97 c && nat_le c 102) (Some (c - 87)) None)

-- the byte of two digits
abbrev pub byte_value : Option ℕ → Option ℕ → Option ℕ
byte_value (Some h) (Some l) = Some (16 * h + l)
byte_value (Some h) None = None
byte_value None (Some l) = None
byte_value None None = None

-- one byte more, and what the characters after it spell
abbrev pub then_spell : List ℕ → Option ℕ → (List ℕ → Option (List ℕ)) → Option (List ℕ)
then_spell bytes (Some b) rest = rest (bytes ++ (b ∷ []))
then_spell bytes None rest = None

-- the bytes so far, and those that the characters spell after them
abbrev pub spell : List ℕ → List ℕ → Option (List ℕ)
spell bytes [] = Some bytes
spell bytes (h ∷ []) = None
spell bytes (h ∷ l ∷ rest) = then_spell bytes (byte_value (digit_value h) (digit_value l)) (λ more. spell more rest)

-- What a text spells.
abbrev pub spelled : List ℕ → Option (List ℕ)
spelled [] = Some []
spelled (c ∷ []) = cond (nat_le 45 c && nat_le c 45) (Some []) None
spelled (h ∷ l ∷ rest) = spell [] (h ∷ l ∷ rest)
