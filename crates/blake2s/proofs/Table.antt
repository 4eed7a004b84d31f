-- Each place of the table of orders names one of the sixteen message words.
use Rattle.std.proofs.Common.{◌≡◌, ℕ, zero, suc, ◌<◌, Bool, true, ◌&&◌, ltb, List, [], ◌∷◌, get_or, refl, lit<, ltb-true, arith}
use Rattle.std.proofs.lemmas.Bool.{and_parts}
use Rattle.blake2s.specs.Compress.{sigma}

-- every place of a row is below sixteen, and of each row
below : List ℕ → Bool
below [] = true
below (x ∷ xs) = ltb x 16 && below xs

all_below : List (List ℕ) → Bool
all_below [] = true
all_below (xs ∷ rows) = below xs && all_below rows

below_at : (xs : List ℕ) → below xs ≡ true → (j : ℕ) → get_or xs j 0 < 16
unfolding below
below_at [] e j = lit< tt
below_at (x ∷ xs) e zero = omega (arith, ltb-true, (and_parts (ltb x 16) (below xs) e).0)
below_at (x ∷ xs) e (suc j) = below_at xs (and_parts (ltb x 16) (below xs) e).1 j

row_below : (rows : List (List ℕ)) → all_below rows ≡ true → (r j : ℕ) → get_or (get_or rows r []) j 0 < 16
unfolding all_below
row_below [] e r j = lit< tt
row_below (xs ∷ rows) e zero j = below_at xs (and_parts (below xs) (all_below rows) e).0 j
row_below (xs ∷ rows) e (suc r) j = row_below rows (and_parts (below xs) (all_below rows) e).1 r j

pub sigma_below : (r j : ℕ) → get_or (get_or sigma r []) j 0 < 16
unfolding sigma below all_below
sigma_below r j = row_below sigma refl r j
