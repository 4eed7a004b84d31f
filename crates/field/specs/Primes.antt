-- The primes 1 + 2^k below which 3 is no square, and the two base fields. Each number's test is computed, 256 and 65,536 in all. Assumes nothing.
use Rattle.std.proofs.Common.{arith, lit<, lit≤, sym, ap, ◌∙◌, subst, mod-lt}
use Rattle.std.proofs.Math.Pow.{pow-lt, pow_mono}
use Rattle.std.specs.Prelude.{◌≡◌, ◌≢◌, ℕ, suc, ◌+◌, ◌-◌, ◌*◌, ◌%◌, ◌^◌, ◌<◌, ◌≤◌, T, refl}
use Rattle.field.specs.Laws.{IsField}
use Rattle.field.specs.Numbers.{Numbers}
use Rattle.field.specs.Residues.{residue_ops, residue_numbering, ops_257, ops_65537, numbering_257, numbering_65537}
use Rattle.field.specs.ResiduesLemmas.{squared, squared-zero, fermat, fermat_at, residue_field, residue_numbers}

-- p is 1 + 2^k and a prime, 3 is no square modulo p, and root is a square root of minus one
pub record IsFermatPrime (p k root : ℕ) : Type 0 where
  pub positive : 0 < p
  pub size : p ≡ 1 + 2 ^ k
  pub exponent_positive : 0 < k
  pub exponent_small : k ≤ 16
  -- x^(2^k) is 1 modulo p for each x from 1 to 2^k
  pub test : T (fermat p k)
  -- 3^(2^(k-1)) is neither 1 nor 0 modulo p
  pub not_one : squared p (k - 1) (3 % p) ≢ 1
  pub not-zero : squared p (k - 1) (3 % p) ≢ 0
  pub square : (root % p) * (root % p) % p ≡ (0 % p + (p - 1 % p)) % p

pub test_257 : T (fermat 257 8)
unfolding fermat
test_257 = tt

pub test_65537 : T (fermat 65537 16)
unfolding fermat
test_65537 = tt

abbrev pub prime_257 : IsFermatPrime 257 8 16
prime_257 = record {
  positive = lit< tt;
  size = refl;
  exponent_positive = lit< tt;
  exponent_small = lit≤ tt;
  test = test_257;
  not_one = omega arith;
  not-zero = omega arith;
  square = refl;
}

abbrev pub prime_65537 : IsFermatPrime 65537 16 256
prime_65537 = record {
  positive = lit< tt;
  size = refl;
  exponent_positive = lit< tt;
  exponent_small = lit≤ tt;
  test = test_65537;
  not_one = omega arith;
  not-zero = omega arith;
  square = refl;
}

module _ {p k root : ℕ} (h : IsFermatPrime p k root) where
  exponent : suc (k - 1) ≡ k
  exponent = let e = h.exponent_positive in omega arith

  wide : 2 ^ 0 < 2 ^ k
  wide = let e = h.exponent_positive in pow-lt e

  pub prime_large : 1 < p
  prime_large = let e = h.size in let w = wide in omega arith

  fits : p < 2 ^ 32
  fits = let e = h.size in let w : 2 ^ k ≤ 2 ^ 16 = pow_mono h.exponent_small in omega arith

  pub prime_field : IsField (residue_ops p h.positive 3 root)
  prime_field =
      residue_field p h.positive 3 root (k - 1) (subst (λ j. p ≡ 1 + 2 ^ j) (sym exponent) h.size)
      (subst (λ j. T (fermat p j)) (sym exponent) h.test) prime_large h.not_one h.not-zero h.square

  pub prime_numbers : Numbers (residue_ops p h.positive 3 root) (residue_numbering p h.positive)
  prime_numbers = residue_numbers p h.positive 3 root prime_large fits

  -- 3 to the power 2^k is one
  pub prime_three : squared p k (3 % p) ≡ 1
  prime_three = fermat_at p k (3 % p) h.test three small
    where
      three : 3 % p ≢ 0
      three e = h.not-zero (ap (squared p (k - 1)) e ∙ squared-zero p (k - 1))

      small : 3 % p ≤ 2 ^ k
      small = let l = mod-lt 3 h.positive in let e = h.size in omega arith

-- the two base fields are instances
pub field_257 : IsField ops_257
field_257 = prime_field prime_257

pub field_65537 : IsField ops_65537
field_65537 = prime_field prime_65537

pub numbers_257 : Numbers ops_257 numbering_257
numbers_257 = prime_numbers prime_257

pub numbers_65537 : Numbers ops_65537 numbering_65537
numbers_65537 = prime_numbers prime_65537
