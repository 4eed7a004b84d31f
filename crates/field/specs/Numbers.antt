-- What a base field is besides a field: its elements are the numbers below a modulus. Assumes nothing.
use Rattle.std.specs.Prelude.{◌≡◌, ℕ, ◌+◌, ◌-◌, ◌*◌, ◌%◌, ◌^◌, ◌<◌}
use Rattle.ring.specs.Ring.{Ops}

pub record Numbering (A : Type 0) : Type 0 where
  pub modulus : ℕ
  -- which number an element is
  pub number : A → ℕ
  -- the element that a number is modulo the modulus
  pub residue : ℕ → A

pub record Numbers {A : Type 0} (o : Ops A) (n : Numbering A) : Type 0 where
  pub small : n.modulus < 2 ^ 32
  pub below : (x : A) → n.number x < n.modulus
  pub residue_number : (x : A) → n.residue (n.number x) ≡ x
  pub number_residue : (k : ℕ) → n.number (n.residue k) ≡ k % n.modulus
  pub zero : n.number o.zero ≡ 0
  pub one : n.number o.one ≡ 1
  pub add : (x y : A) → n.number (o.add x y) ≡ (n.number x + n.number y) % n.modulus
  pub sub : (x y : A) → n.number (o.sub x y) ≡ (n.number x + (n.modulus - n.number y)) % n.modulus
  pub mul : (x y : A) → n.number (o.mul x y) ≡ n.number x * n.number y % n.modulus
