-- The powers of an element of order 2^log are distinct below that power. Assumes nothing.
use Rattle.std.proofs.Common.{◌≡◌, ℕ, zero, suc, ◌+◌, ◌-◌, ◌*◌, ◌/◌, ◌%◌, ◌^◌, ◌<◌, ◌≤◌, sym, ap, ◌∙◌, ap₂, mul_comm, arith}
use native.Mathlib.Nat.{pow-succ'}
use native.Mathlib.Decide.{ℕ_discrete, dec_lt}
use Rattle.std.proofs.lemmas.Nat.{pow-add as two-pow-add}
use Rattle.ring.specs.Ring.{Ops, IsRing}
use Rattle.field.specs.Numbers.{Numbering}
use Rattle.multilinear.specs.Univariate.{pow}
use Rattle.multilinear.proofs.Algebra as A
use Rattle.multilinear.proofs.Digits.{pow-add}
use Rattle.domain.specs.Subgroup.{TwoAdic, generator}
use Rattle.domain.specs.Powers.{pow_one, pow_of_one, pow_mul, pow_double, pow_square}

pub pick : {A B : Type 0} → Dec A → (A → B) → (¬ A → B) → B
pick (yes a) f g = f a
pick (no a) f g = g a

module _ {E : Type 0} (F : Ops E) (L : IsRing F) where
  open F use {one as 𝟙, mul as ◌⊗◌}

  infixl 70 ◌⊗◌
  -- an odd power of u, whose square is one, is u
  odd_power : (u : E) (d : ℕ) → u ⊗ u ≡ 𝟙 → d % 2 ≡ 1 → pow F u d ≡ u
  unfolding pow
  odd_power u d e odd =
      let k : d ≡ suc (2 * (d / 2)) = omega arith in
      ap (pow F u) k ∙ ap (λ z. u ⊗ z) (sym (pow_double F L u (d / 2)) ∙ ap (λ z. pow F z (d / 2)) e ∙ pow_of_one F L (d / 2)) ∙ A.mul-one F L u

  -- where w^d is one at an odd d, so is w^(2^l)
  odd_case : (l : ℕ) (w : E) → pow F w (2 ^ suc l) ≡ 𝟙 → (d : ℕ) → d % 2 ≡ 1 → pow F w d ≡ 𝟙 → pow F w (2 ^ l) ≡ 𝟙
  odd_case l w whole d odd e =
      let u = pow F w (2 ^ l) in
      let square : u ⊗ u ≡ 𝟙 = ap₂ ◌⊗◌ (sym (pow_one F L u)) (sym (pow_one F L u)) ∙ sym (pow-add F L u 1 1) ∙ pow_mul F L w (2 ^ l) 2 ∙ ap (pow F w) (mul_comm (2 ^ l) 2 ∙ sym (pow-succ' 2 l)) ∙ whole in
      sym (odd_power u d square odd) ∙ pow_mul F L w (2 ^ l) d ∙ ap (pow F w) (mul_comm (2 ^ l) d) ∙ sym (pow_mul F L w d (2 ^ l)) ∙ ap (λ z. pow F z (2 ^ l)) e ∙ pow_of_one F L (2 ^ l)

  -- w^(2^(l+1)) is one and w^(2^l) is not: no power between is one
  pub no_power_one : (l : ℕ) (w : E) → pow F w (2 ^ suc l) ≡ 𝟙 → (pow F w (2 ^ l) ≡ 𝟙 → ⊥) → (d : ℕ) → 0 < d → d < 2 ^ suc l → pow F w d ≡ 𝟙 → ⊥
  no_power_one zero w whole half d low high e = let k : d ≡ 1 = omega arith in half (ap (pow F w) (sym k) ∙ e)
  no_power_one (suc l) w whole half d low high e =
      pick (ℕ_discrete (d % 2) 1) (λ odd. half (odd_case (suc l) w whole d odd e))
      (λ even.
      let t : 2 ^ suc (suc l) ≡ 2 * 2 ^ suc l = pow-succ' 2 (suc l) in
      let k : 2 * (d / 2) ≡ d = omega arith in
      let low' : 0 < d / 2 = omega arith in
      let high' : d / 2 < 2 ^ suc l = omega arith in
      no_power_one l (w ⊗ w) (pow_square F L w (suc l) ∙ whole) (λ q. half (sym (pow_square F L w l) ∙ q)) (d / 2) low' high'
      (pow_double F L w (d / 2) ∙ ap (pow F w) k ∙ e))

  -- where w^N is one and no power between is, equal powers below N have equal exponents
  module _ (w : E) (N : ℕ) (whole : pow F w N ≡ 𝟙) (between : (d : ℕ) → 0 < d → d < N → pow F w d ≡ 𝟙 → ⊥) where
    not_less : (i j : ℕ) → i < j → j < N → pow F w i ≡ pow F w j → ⊥
    not_less i j l h e =
        let a : N - i + j ≡ N + (j - i) = omega arith in
        let b : N - i + i ≡ N = omega arith in
        between (j - i) (omega arith) (omega arith)
        (sym (A.one-mul F L (pow F w (j - i))) ∙ ap (λ z. z ⊗ pow F w (j - i)) (sym whole) ∙ sym (pow-add F L w N (j - i)) ∙ ap (pow F w) (sym a)
        ∙ pow-add F L w (N - i) j ∙ ap (λ z. pow F w (N - i) ⊗ z) (sym e) ∙ sym (pow-add F L w (N - i) i) ∙ ap (pow F w) b ∙ whole)

    pub powers_apart : (i j : ℕ) → i < N → j < N → pow F w i ≡ pow F w j → i ≡ j
    powers_apart i j hi hj e =
        pick (ℕ_discrete i j) (λ s. s)
        (λ n. pick (dec_lt i j) (λ l. absurd (not_less i j l hj e)) (λ g. absurd (not_less j i (omega arith) hi (sym e))))

  module _ (n : Numbering E) (c : ℕ) (two : TwoAdic F n c) where
    -- a power of the generator is a power of 3
    generator_power : (log k : ℕ) → pow F (generator F n c log) (2 ^ k) ≡ pow F (n.residue 3) (2 ^ (c - log + k))
    generator_power log k = pow_mul F L (n.residue 3) (2 ^ (c - log)) (2 ^ k) ∙ ap (pow F (n.residue 3)) (sym (two-pow-add 2 (c - log) k))

    generator_whole : (log : ℕ) → log ≤ c → pow F (generator F n c log) (2 ^ log) ≡ 𝟙
    generator_whole log h =
        let e : c - log + log ≡ c = omega arith in
        generator_power log log ∙ ap (λ k. pow F (n.residue 3) (2 ^ k)) e ∙ two.whole

    generator_half : (l : ℕ) → suc l ≤ c → pow F (generator F n c (suc l)) (2 ^ l) ≡ 𝟙 → ⊥
    generator_half l h q =
        let e : c - suc l + l ≡ c - 1 = omega arith in
        two.half (ap (λ k. pow F (n.residue 3) (2 ^ k)) (sym e) ∙ sym (generator_power (suc l) l) ∙ q)

    -- the positions of the subgroup domain are distinct
    pub generator_apart : (log : ℕ) → log ≤ c → (i j : ℕ) → i < 2 ^ log → j < 2 ^ log → pow F (generator F n c log) i ≡ pow F (generator F n c log) j → i ≡ j
    generator_apart zero h i j hi hj e = omega arith
    generator_apart (suc l) h i j hi hj e =
        powers_apart (generator F n c (suc l)) (2 ^ suc l) (generator_whole (suc l) h)
        (no_power_one l (generator F n c (suc l)) (generator_whole (suc l) h) (generator_half l h)) i j hi hj e
