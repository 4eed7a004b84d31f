-- The numbers below a modulus, with sum, difference and product modulo it. Assumes nothing.
use Rattle.std.specs.Prelude.{ℕ, ◌+◌, ◌-◌, ◌*◌, ◌%◌, ◌<◌}
use Rattle.std.proofs.Common.{mod-lt, lit<}
use Rattle.ring.specs.Ring.{Ops}
use Rattle.field.specs.declared.residue.Residue.{Residue}
use Rattle.field.specs.Numbers.{Numbering}

abbrev pub reduce : (p : ℕ) → 0 < p → ℕ → Residue p
reduce p h n = record { value = n % p; below = mod-lt n h }

abbrev pub residue_ops : (p : ℕ) → 0 < p → ℕ → ℕ → Ops (Residue p)
residue_ops p h s i = record {
  zero = reduce p h 0;
  one = reduce p h 1;
  add = λ x y. reduce p h (x.value + y.value);
  sub = λ x y. reduce p h (x.value + (p - y.value));
  mul = λ x y. reduce p h (x.value * y.value);
  s = reduce p h s;
  i = reduce p h i;
}

abbrev pub residue_numbering : (p : ℕ) → 0 < p → Numbering (Residue p)
residue_numbering p h = record { modulus = p; number = λ x. x.value; residue = reduce p h }

abbrev pub ops_257 : Ops (Residue 257)
ops_257 = residue_ops 257 (lit< tt) 3 16

abbrev pub ops_65537 : Ops (Residue 65537)
ops_65537 = residue_ops 65537 (lit< tt) 3 256

abbrev pub numbering_257 : Numbering (Residue 257)
numbering_257 = residue_numbering 257 (lit< tt)

abbrev pub numbering_65537 : Numbering (Residue 65537)
numbering_65537 = residue_numbering 65537 (lit< tt)
