-- A number of draws as a sum of powers of two: its set bits, highest first.
use Rattle.std.specs.Prelude.{◌≡◌, ℕ, zero, suc, ◌-◌, ◌^◌, ◌<◌, cond, List, [], ◌∷◌, length, sum_by, count_ones, nat_le}

-- The set bits among the lowest k of a number below 2 ^ k, highest first.
unfoldable pub set_bits : ℕ → ℕ → List ℕ
set_bits zero d = []
set_bits (suc k) d = cond (nat_le (2 ^ k) d) (k ∷ set_bits k (d - 2 ^ k)) (set_bits k d)

-- The set bits of a number, highest first. A number has no more bits than itself.
unfoldable pub depths : ℕ → List ℕ
depths d = set_bits d d

-- The numbers fall, each below the one before, the first below the bound.
abbrev pub Falling : ℕ → List ℕ → Type 0
Falling bound [] = Unit {0}
Falling bound (t ∷ ts) = (t < bound) × Falling t ts

-- What depths are: their powers of two sum to the number, they fall, and there are as many as bits are set.
pub record Summands (d : ℕ) (ts : List ℕ) : Type 0 where
  pub whole : sum_by (λ t. 2 ^ t) ts ≡ d
  pub falling : (k : ℕ) → d < 2 ^ k → Falling k ts
  pub count : length ts ≡ count_ones d

abbrev pub DepthsSum : Type 0
DepthsSum = (d : ℕ) → Summands d (depths d)
