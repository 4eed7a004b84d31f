-- Powers, and powers by squaring. Assumes nothing.
use Rattle.std.specs.Prelude.{◌≡◌, ℕ, zero, suc, ◌-◌, ◌*◌, ◌/◌, ◌%◌, ◌^◌, ◌<◌, length, ◌≢◌, slice_index_or}
use Rattle.std.proofs.Math.Path.{refl, sym, ap, ap₂}
use Rattle.std.proofs.Common.{◌∙◌, mul-suc, mul-zero, add_comm}
use Rattle.std.proofs.Math.Nat.{pow-succ'}
use native.Mathlib.Omega.{arith}
use Rattle.ring.specs.Ring.{Ops, IsRing}
use Rattle.multilinear.specs.Univariate.{pow, expand}
use Rattle.multilinear.proofs.Algebra as A
use Rattle.multilinear.proofs.Digits.{pow-add}

module _ {E : Type 0} (F : Ops E) (L : IsRing F) where
  open F use {zero as 𝟘, one as 𝟙, mul as ◌⊗◌}

  infixl 70 ◌⊗◌
  pub pow_one : (v : E) → pow F v 1 ≡ v
  unfolding pow
  pow_one v = A.mul-one F L v

  pub pow_of_one : (n : ℕ) → pow F 𝟙 n ≡ 𝟙
  unfolding pow
  pow_of_one zero = refl
  pow_of_one (suc n) = A.one-mul F L (pow F 𝟙 n) ∙ pow_of_one n

  pub pow_mul : (v : E) (a b : ℕ) → pow F (pow F v a) b ≡ pow F v (a * b)
  unfolding pow
  pow_mul v a zero = ap (pow F v) (sym (mul-zero a))
  pow_mul v a (suc b) =
      ap (λ z. pow F v a ⊗ z) (pow_mul v a b) ∙ sym (pow-add F L v a (a * b)) ∙ ap (pow F v) (add_comm a (a * b) ∙ sym (mul-suc a b))

  pub pow_double : (v : E) (n : ℕ) → pow F (v ⊗ v) n ≡ pow F v (2 * n)
  unfolding pow
  pow_double v n = ap (λ z. pow F z n) (ap (λ z. v ⊗ z) (sym (pow_one v))) ∙ pow_mul v 2 n

  -- a square's power is twice the power
  pub pow_square : (v : E) (k : ℕ) → pow F (v ⊗ v) (2 ^ k) ≡ pow F v (2 ^ suc k)
  pow_square v k = pow_double v (2 ^ k) ∙ ap (pow F v) (sym (pow-succ' 2 k))

  -- k squarings
  abbrev pub squared : ℕ → E → E
  squared zero v = v
  squared (suc k) v = squared k (v ⊗ v)

  pub pow_squared : (k : ℕ) (v : E) → pow F v (2 ^ k) ≡ squared k v
  pow_squared zero v = pow_one v
  pow_squared (suc k) v = sym (pow_square v k) ∙ pow_squared k (v ⊗ v)

  -- a coordinate of the point that v stands for
  pub expand_coordinate : (v d : E) (m j : ℕ) → j < m → slice_index_or (expand F v m) j d ≡ pow F v (2 ^ (m - 1 - j))
  unfolding expand
  expand_coordinate v d zero j h = absurd (omega arith)
  expand_coordinate v d (suc m) zero h = let e : suc m - 1 - 0 ≡ m = omega arith in ap (λ k. pow F v (2 ^ k)) (sym e)
  expand_coordinate v d (suc m) (suc j) h =
      let l : j < m = omega arith in
      let e : m - 1 - j ≡ suc m - 1 - suc j = omega arith in
      expand_coordinate v d m j l ∙ ap (λ k. pow F v (2 ^ k)) e

  pub length_expand : (v : E) (m : ℕ) → length (expand F v m) ≡ m
  unfolding expand
  length_expand v zero = refl
  length_expand v (suc m) = ap suc (length_expand v m)

  -- one turn of the loop, at an odd and at an even exponent
  pub odd_turn : (p s q t w : E) (n : ℕ) → n % 2 ≡ 1 → q ≡ p ⊗ s → t ≡ s ⊗ s → p ⊗ pow F s n ≡ w → q ⊗ pow F t (n / 2) ≡ w
  unfolding pow
  odd_turn p s q t w n odd eq et inv =
      let e : suc (2 * (n / 2)) ≡ n = omega arith in
      ap₂ (λ a b. a ⊗ pow F b (n / 2)) eq et ∙ ap (λ z. p ⊗ s ⊗ z) (pow_double s (n / 2)) ∙ A.massoc F L p s (pow F s (2 * (n / 2)))
      ∙ ap (λ k. p ⊗ pow F s k) e ∙ inv

  pub even_turn : (p s t w : E) (n : ℕ) → (n % 2 ≢ 1) → t ≡ s ⊗ s → p ⊗ pow F s n ≡ w → p ⊗ pow F t (n / 2) ≡ w
  even_turn p s t w n even et inv =
      let e : 2 * (n / 2) ≡ n = omega arith in
      ap (λ b. p ⊗ pow F b (n / 2)) et ∙ ap (λ z. p ⊗ z) (pow_double s (n / 2)) ∙ ap (λ k. p ⊗ pow F s k) e ∙ inv

  pub no_turns : (p s : E) (n : ℕ) → p ≡ 𝟙 → p ⊗ pow F s n ≡ pow F s n
  no_turns p s n e = ap (λ z. z ⊗ pow F s n) e ∙ A.one-mul F L (pow F s n)

  pub all_turns : (p s w : E) (n : ℕ) → n ≡ 0 → p ⊗ pow F s n ≡ w → p ≡ w
  unfolding pow
  all_turns p s w n e inv = sym (A.mul-one F L p) ∙ ap (λ k. p ⊗ pow F s k) (sym e) ∙ inv
