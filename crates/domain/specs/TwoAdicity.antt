-- 3 has order 2^k below a Fermat prime 1 + 2^k of which it is no square, as below 257 and 65,537: squared so often it is one, and once
-- less often it is not. Assumes nothing.
use Rattle.std.proofs.Common.{◌≡◌, ℕ, zero, suc, ◌-◌, ◌%◌, ◌<◌, sym, refl, ap, ◌∙◌, mod-eq_of_lt}
use Rattle.field.specs.declared.residue.Residue.{Residue}
use Rattle.field.specs.Residues.{residue_ops, residue_numbering, ops_257, numbering_257, ops_65537, numbering_65537}
use Rattle.field.specs.ResiduesLemmas.{residue_path, residue_ring, squared as squared_number}
use Rattle.field.specs.Primes.{IsFermatPrime, prime_large, prime_three, prime_257, prime_65537}
use Rattle.domain.specs.Subgroup.{TwoAdic}
use Rattle.domain.specs.Powers.{squared, pow_squared}

squared_value : (p : ℕ) (h : 0 < p) (s i k : ℕ) (x : Residue p) →
    (squared (residue_ops p h s i) (residue_ring p h s i) k x).value ≡ squared_number p k x.value
squared_value p h s i zero x = refl
squared_value p h s i (suc k) x = squared_value p h s i k ((residue_ops p h s i).mul x x)

pub prime_order : {p k root : ℕ} (h : IsFermatPrime p k root) → TwoAdic (residue_ops p h.positive 3 root) (residue_numbering p h.positive) k
prime_order {p} {k} {root} h =
    let F = residue_ops p h.positive 3 root in
    let L = residue_ring p h.positive 3 root in
    let three = (residue_numbering p h.positive).residue 3 in
    let one : 1 % p ≡ 1 = mod-eq_of_lt (prime_large h) in
    record {
      positive = h.exponent_positive;
      small = h.exponent_small;
      whole = pow_squared F L k three ∙ residue_path (squared_value p h.positive 3 root k three ∙ prime_three h ∙ sym one);
      half = λ e. h.not_one (sym (squared_value p h.positive 3 root (k - 1) three) ∙ ap (λ r. r.value) (sym (pow_squared F L (k - 1) three) ∙ e) ∙ one);
    }

pub order_257 : TwoAdic ops_257 numbering_257 8
order_257 = prime_order prime_257

pub order_65537 : TwoAdic ops_65537 numbering_65537 16
order_65537 = prime_order prime_65537
