-- The numbers below a modulus are a ring, and a field where a test passes at each of them. Assumes nothing.
use Rattle.std.specs.Prelude.{◌≡◌, ℕ, zero, suc, ◌+◌, ◌-◌, ◌*◌, ◌/◌, ◌%◌, ◌^◌, ◌<◌, ◌≤◌, Bool, true, false, ◌&&◌, T, ◌≢◌, ◌⊎◌, ◌↔◌, [], ◌∷◌, ◌==◌, nat_eq}
use Rattle.std.proofs.Math.Path.{refl, sym, ap}
use Rattle.std.proofs.Common.{ap₂, subst, ◌∙◌, inl, inr, ⊎_elim, arith, add_assoc, add_comm, add-zero, add-mul, mul_assoc, mul_comm, mul-one, mul-add}
use mathlib.Core.HLevel.{is_prop→PathP}
use Rattle.std.proofs.Math.Bridge.{le_prop}
use Rattle.std.proofs.Math.Decide.{ℕ_discrete, dec_lt}
use Rattle.std.proofs.Math.Nat.{mod-eq_of_lt, mod-add-mod, add-mod-mod, mod-add-div, add-mod_right, add-mul-mod_self_left, zero-mod, two-pow-succ}
use Rattle.std.proofs.Math.Dec.{eqb→eq}
use Rattle.std.proofs.lemmas.Bool.{eqb-true, eq-eqb}
use Rattle.ring.specs.Ring.{Ops, IsRing}
use Rattle.ring.proofs.Basic.{mul-zero as ring-mul-zero}
use Rattle.ring.proofs.Solve.{ring, v0, v1, ◌⊗◌}
use Rattle.field.specs.declared.residue.Residue.{Residue}
use Rattle.field.specs.Laws.{IsField}
use Rattle.field.specs.Numbers.{Numbers}
use Rattle.field.specs.Residues.{residue_ops, residue_numbering}

pub residue_path : {p : ℕ} {x y : Residue p} → x.value ≡ y.value → x ≡ y
residue_path {p} {x} {y} e = λ j. record { value = e j; below = is_prop→PathP (λ k. suc (e k) ≤ p) (λ k. le_prop) x.below y.below j }

pub mod_mul_mod : (a b m : ℕ) → a % m * b % m ≡ a * b % m
mod_mul_mod a b m =
    sym
    (ap (λ n. n * b % m) (sym (mod-add-div a m)) ∙ ap (λ n. n % m) (add-mul (a % m) (m * (a / m)) b ∙ ap (λ n. a % m * b + n) (mul_assoc m (a / m) b)) ∙
    add-mul-mod_self_left (a % m * b) m (a / m * b))

pub mul_mod_mod : (a b m : ℕ) → a * (b % m) % m ≡ a * b % m
mul_mod_mod a b m = ap (λ n. n % m) (mul_comm a (b % m)) ∙ mod_mul_mod b a m ∙ ap (λ n. n % m) (mul_comm b a)

-- 2 ^ k squarings modulo p
abbrev pub squared : ℕ → ℕ → ℕ → ℕ
squared p zero x = x
squared p (suc k) x = squared p k (x * x % p)

-- the test passes at each of the 2 ^ d numbers from b on
pub every : ℕ → ℕ → (ℕ → Bool) → Bool
every zero b f = f b
every (suc d) b f = every d b f && every d (b + 2 ^ d) f

-- x ^ (2 ^ k) is 1 modulo p, for x from 1 to 2 ^ k
unfoldable pub fermat : ℕ → ℕ → Bool
unfolding every
fermat p k = every k 1 (λ x. nat_eq (squared p k x) 1)

and_left : (a b : Bool) → T (a && b) → T a
and_left true b t = tt
and_left false b t = t

and_right : (a b : Bool) → T (a && b) → T b
and_right true b t = t
and_right false b t = absurd t

pick : {A B : Type 0} → Dec A → (A → B) → (¬ A → B) → B
pick (yes a) f g = f a
pick (no a) f g = g a

at : (d b : ℕ) (f : ℕ → Bool) → T (every d b f) → (x : ℕ) → b ≤ x → x < b + 2 ^ d → T (f x)
unfolding every
at zero b f t x l h = let e : b ≡ x = omega arith in subst (λ n. T (f n)) e t
at (suc d) b f t x l h =
    let w = two-pow-succ d in
    pick (dec_lt x (b + 2 ^ d)) (λ low. at d b f (and_left (every d b f) (every d (b + 2 ^ d) f) t) x l low)
    (λ high. at d (b + 2 ^ d) f (and_right (every d b f) (every d (b + 2 ^ d) f) t) x (omega arith) (omega arith))

pub fermat_at : (p k x : ℕ) → T (fermat p k) → x ≢ 0 → x ≤ 2 ^ k → squared p k x ≡ 1
unfolding fermat
fermat_at p k x test n l = eqb→eq _ _ (at k 1 (λ y. nat_eq (squared p k y) 1) test x (omega arith) (omega arith))

pub squared-zero : (p k : ℕ) → squared p k 0 ≡ 0
squared-zero p zero = refl
squared-zero p (suc k) = ap (squared p k) (zero-mod p) ∙ squared-zero p k

module _ (p : ℕ) (h : 0 < p) (s i : ℕ) where
  abbrev o : Ops (Residue p)
  o = residue_ops p h s i

  small : (x : Residue p) → x.value % p ≡ x.value
  small x = mod-eq_of_lt x.below

  pub residue_ring : IsRing (residue_ops p h s i)
  residue_ring = record {
    add_assoc = λ x y z. residue_path (mod-add-mod (x.value + y.value) p z.value ∙ ap (λ n. n % p) (add_assoc x.value y.value z.value) ∙ sym (add-mod-mod x.value (y.value + z.value) p));
    add_comm = λ x y. residue_path (ap (λ n. n % p) (add_comm x.value y.value));
    add-zero = λ x. residue_path (add-mod-mod x.value 0 p ∙ ap (λ n. n % p) (add-zero x.value) ∙ small x);
    sub_add = λ x y.
        let l = y.below in
        let e : x.value + (p - y.value) + y.value ≡ x.value + p = omega arith in
        residue_path (mod-add-mod (x.value + (p - y.value)) p y.value ∙ ap (λ n. n % p) e ∙ add-mod_right x.value p ∙ small x);
    mul_assoc = λ x y z. residue_path (mod_mul_mod (x.value * y.value) z.value p ∙ ap (λ n. n % p) (mul_assoc x.value y.value z.value) ∙ sym (mul_mod_mod x.value (y.value * z.value) p));
    mul_comm = λ x y. residue_path (ap (λ n. n % p) (mul_comm x.value y.value));
    mul-one = λ x. residue_path (mul_mod_mod x.value 1 p ∙ ap (λ n. n % p) (mul-one x.value) ∙ small x);
    mul-add = λ x y z.
        residue_path
        (mul_mod_mod x.value (y.value + z.value) p ∙ ap (λ n. n % p) (mul-add x.value y.value z.value) ∙
        sym (mod-add-mod (x.value * y.value) p (x.value * z.value % p) ∙ add-mod-mod (x.value * y.value) (x.value * z.value) p));
  }

  pub residue_numbers : 1 < p → p < 2 ^ 32 → Numbers (residue_ops p h s i) (residue_numbering p h)
  residue_numbers large fits = record {
    small = fits;
    below = λ x. x.below;
    residue_number = λ x. residue_path (small x);
    number_residue = λ k. refl;
    zero = zero-mod p;
    one = mod-eq_of_lt large;
    add = λ x y. refl;
    sub = λ x y. refl;
    mul = λ x y. refl;
  }

  -- x to the power 2 ^ k
  sqr : ℕ → Residue p → Residue p
  sqr zero x = x
  sqr (suc k) x = sqr k (o.mul x x)

  sqr_value : (k : ℕ) (x : Residue p) → (sqr k x).value ≡ squared p k x.value
  unfolding sqr
  sqr_value zero x = refl
  sqr_value (suc k) x = sqr_value k (o.mul x x)

  sqr_mul : (k : ℕ) (x y : Residue p) → sqr k (o.mul x y) ≡ o.mul (sqr k x) (sqr k y)
  unfolding sqr
  sqr_mul zero x y = refl
  sqr_mul (suc k) x y =
      ap (sqr k) (ring residue_ring (x ∷ y ∷ []) ((v0 ⊗ v1) ⊗ (v0 ⊗ v1)) ((v0 ⊗ v0) ⊗ (v1 ⊗ v1)) tt) ∙ sqr_mul k (o.mul x x) (o.mul y y)

  sqr_zero : (k : ℕ) → sqr k o.zero ≡ o.zero
  unfolding sqr
  sqr_zero zero = refl
  sqr_zero (suc k) = ap (sqr k) (ring-mul-zero residue_ring o.zero) ∙ sqr_zero k

  is_zero : (x : Residue p) → x.value ≡ 0 → x ≡ o.zero
  is_zero x e = residue_path (e ∙ sym (zero-mod p))

  decide : (x y : Residue p) → Dec (x ≡ y)
  decide x y = pick (ℕ_discrete x.value y.value) (λ e. yes (residue_path e)) (λ n. no (λ e. n (ap (λ r. r.value) e)))

  -- what a field asks of the modulus, of s and of i; p is 1 + 2 ^ (j + 1)
  module _ (j : ℕ) (size : p ≡ 1 + 2 ^ suc j) (test : T (fermat p (suc j))) (large : 1 < p)
      (not_one : squared p j (s % p) ≢ 1) (not-zero : squared p j (s % p) ≢ 0) (square : (i % p) * (i % p) % p ≡ (0 % p + (p - 1 % p)) % p) where
    one_not_zero : o.one ≡ o.zero → ⊥
    one_not_zero e = let f : 1 % p ≡ 0 % p = ap (λ r. r.value) e in let a = mod-eq_of_lt large in let b = zero-mod p in omega arith

    unit : (x : Residue p) → x ≢ o.zero → sqr (suc j) x ≡ o.one
    unit x n =
        let l = x.below in
        residue_path (sqr_value (suc j) x ∙ fermat_at p (suc j) x.value test (λ e. n (is_zero x e)) (omega arith) ∙ sym (mod-eq_of_lt large))

    no_divisors : (x y : Residue p) → o.mul x y ≡ o.zero → (x ≡ o.zero) ⊎ (y ≡ o.zero)
    no_divisors x y e =
        pick (decide x o.zero) inl
        (λ nx.
        pick (decide y o.zero) inr
        (λ ny.
        absurd
        (one_not_zero
        (sym (residue_ring.mul-one o.one) ∙ ap₂ o.mul (sym (unit x nx)) (sym (unit y ny)) ∙ sym (sqr_mul (suc j) x y) ∙ ap (sqr (suc j)) e ∙ sqr_zero (suc j)))))

    -- b is zero
    flat : (a b : Residue p) → o.mul a a ≡ o.mul o.s (o.mul b b) → b ≡ o.zero → (a ≡ o.zero) × (b ≡ o.zero)
    flat a b e z = (
      ⊎_elim (λ q. q) (λ q. q)
          (no_divisors a a (e ∙ ap (λ w. o.mul o.s (o.mul w w)) z ∙ ap (o.mul o.s) (ring-mul-zero residue_ring o.zero) ∙ ring-mul-zero residue_ring o.s)),
      z,
    )

    -- b is not zero: the power (p - 1) / 2 of s would be one or zero
    steep : (a b : Residue p) → o.mul a a ≡ o.mul o.s (o.mul b b) → b ≢ o.zero → ⊥
    unfolding sqr
    steep a b e nb =
        let m = sqr j o.s in
        let key : sqr (suc j) a ≡ m =
        ap (sqr j) e ∙ sqr_mul j o.s (o.mul b b) ∙ ap (o.mul m) (unit b nb) ∙ residue_ring.mul-one m in
        pick (decide a o.zero)
        (λ z. not-zero (sym (sqr_value j o.s) ∙ ap (λ r. r.value) (sym key ∙ ap (sqr (suc j)) z ∙ sqr_zero (suc j)) ∙ zero-mod p))
        (λ na. not_one (sym (sqr_value j o.s) ∙ ap (λ r. r.value) (sym key ∙ unit a na) ∙ mod-eq_of_lt large))

    nonresidue : (a b : Residue p) → o.mul a a ≡ o.mul o.s (o.mul b b) → (a ≡ o.zero) × (b ≡ o.zero)
    nonresidue a b e = pick (decide b o.zero) (flat a b e) (λ nb. absurd (steep a b e nb))

    pub residue_field : IsField (residue_ops p h s i)
    residue_field = record {
      ring = residue_ring;
      one_not_zero = one_not_zero;
      no_divisors = no_divisors;
      nonresidue = nonresidue;
      imaginary = residue_path square;
      decide = decide;
    }

-- residues are equal where their numbers are
pub residue_same : {p : ℕ} (x y : Residue p) → ((x.value == y.value) ≡ true) ↔ (x ≡ y)
residue_same x y = (λ e. residue_path (eqb-true x.value y.value e), λ e. eq-eqb x.value y.value (ap (λ r. r.value) e))
