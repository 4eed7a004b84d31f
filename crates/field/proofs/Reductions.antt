-- What the code computes in place of a division by the modulus. Assumes nothing.
use Rattle.std.proofs.Common.{◌≡◌, ℕ, ◌+◌, ◌-◌, ◌*◌, ◌/◌, ◌%◌, ◌<◌, ◌≤◌, sym, ap, ◌∙◌, mod-lt, add-mul, mul-le-mul, one-mul, mul-one, mul-add, arith}
use native.Mathlib.Nat.{mod-add-div', div-le_of_le-mul}
use lib.Arith.{digits_mod}

-- n is some multiple of p and the rest
rest_of : (p q r n : ℕ) → q * p + r ≡ n → r < p → r ≡ n % p
rest_of p q r n e l = sym (sym (ap (λ k. k % p) e) ∙ digits_mod q l)

pub sum_large : (p x y : ℕ) → x < p → y < p → p ≤ x + y → x + y - p ≡ (x + y) % p
sum_large p x y lx ly g = rest_of p 1 (x + y - p) (x + y) (omega arith) (omega arith)

-- a product of two numbers below p, taken apart at p - 1
module _ (p x y : ℕ) (large : 1 < p) (lx : x < p) (ly : y < p) where
  abbrev pub high : ℕ
  high = x * y / (p - 1)

  abbrev pub low : ℕ
  low = x * y % (p - 1)

  pub high_small : high ≤ p - 1
  high_small =
      let a : x ≤ p - 1 = omega arith in
      let b : y ≤ p - 1 = omega arith in
      div-le_of_le-mul (p - 1) (mul-le-mul a b)

  parts : (q : ℕ) → q * p ≡ q * (p - 1) + q
  parts q =
      let e : p ≡ p - 1 + 1 = omega arith in
      ap (λ n. q * n) e ∙ mul-add q (p - 1) 1 ∙ ap (λ n. q * (p - 1) + n) (mul-one q)

  pub product_up : high ≤ low → low - high ≡ x * y % p
  product_up g =
      let w = mod-add-div' (x * y) (p - 1) in
      let m : low < p - 1 = mod-lt (x * y) (omega arith) in
      let e : high * p + (low - high) ≡ x * y = omega (arith, parts high) in
      rest_of p high (low - high) (x * y) e (omega arith)

  pub product_down : low < high → low + p - high ≡ x * y % p
  product_down g =
      let w = mod-add-div' (x * y) (p - 1) in
      let h = high_small in
      let one_less : high ≡ high - 1 + 1 = omega arith in
      let q : high * (p - 1) ≡ (high - 1) * (p - 1) + (p - 1) = ap (λ n. n * (p - 1)) one_less ∙ add_one_mul (high - 1) (p - 1) in
      let e : (high - 1) * p + (low + p - high) ≡ x * y = omega (arith, parts (high - 1)) in
      rest_of p (high - 1) (low + p - high) (x * y) e (omega arith)
    where
      add_one_mul : (a b : ℕ) → (a + 1) * b ≡ a * b + b
      add_one_mul a b = add-mul a 1 b ∙ ap (λ n. a * b + n) (one-mul b)
