-- Numbers as they are written: decimal digits, at least one, the highest first.
use Rattle.std.specs.Prelude.{ℕ, ◌+◌, ◌-◌, ◌*◌, cond, List, [], ◌∷◌, Some, None, Option}
use Rattle.std.specs.Char.{is_ascii_digit}

-- The largest number that the code holds.
abbrev pub largest : ℕ
largest = 18446744073709551615

-- Further digits behind a number; any other character, and it is no number. The code of the character 0 is 48.
abbrev pub digits_after : ℕ → List ℕ → Option ℕ
digits_after n [] = Some n
digits_after n (b ∷ bs) = cond (is_ascii_digit b) (digits_after (n * 10 + (b - 48)) bs) None

abbrev pub decimal_of : List ℕ → Option ℕ
decimal_of [] = None
decimal_of (b ∷ bs) = digits_after 0 (b ∷ bs)
