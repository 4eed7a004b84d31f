-- How many roots a polynomial has, and polynomials that are alike at a point. Assumes nothing.
use Rattle.std.proofs.Common.{◌≡◌, suc, ◌⊎◌, List, [], ◌∷◌, length, sym, refl, ap, ◌∙◌, ap₂, inl, inr, ⊎_elim, suc-ne-zero, arith}
use native.Mathlib.Nat.{suc_inj}
use Rattle.std.specs.List.{AllByRecursion}
use Rattle.ring.specs.Ring.{Ops, IsRing}
use Rattle.ring.specs.Polynomials.{value, Root, Zero, negated, minus, FewRoots, EqualOrRoot, SameOrRoot}
use Rattle.ring.proofs.Basic.{eq_of_sub, sub_self}
use Rattle.ring.proofs.Solve.{ring, ring_from, by, v0, v1, v2, v3, v4, O, I, ◌⊕◌, ◌⊖◌, ◌⊗◌}

module _ {A : Type 0} {o : Ops A} (L : IsRing o) where
  -- the quotient by X - a
  abbrev quotient : A → List A → List A
  quotient a [] = []
  quotient a (c ∷ []) = []
  quotient a (c ∷ d ∷ p) = value o (d ∷ p) a ∷ quotient a (d ∷ p)

  length_quotient : (a c : A) (p : List A) → length (quotient a (c ∷ p)) ≡ length p
  length_quotient a c [] = refl
  length_quotient a c (d ∷ p) = ap suc (length_quotient a d p)

  -- p(x) = (x - a) q(x) + p(a)
  divided : (a x : A) (p : List A) → value o p x ≡ o.add (o.mul (o.sub x a) (value o (quotient a p) x)) (value o p a)
  divided a x [] = ring L (a ∷ x ∷ []) O ((v1 ⊖ v0) ⊗ O ⊕ O) tt
  divided a x (c ∷ []) = ring L (a ∷ x ∷ c ∷ []) (v2 ⊕ v1 ⊗ O) ((v1 ⊖ v0) ⊗ O ⊕ (v2 ⊕ v0 ⊗ O)) tt
  divided a x (c ∷ d ∷ p) =
      let q = value o (quotient a (d ∷ p)) x in
      let r = value o (d ∷ p) a in
      ap (λ w. o.add c (o.mul x w)) (divided a x (d ∷ p)) ∙
      ring L (a ∷ x ∷ c ∷ q ∷ r ∷ []) (v2 ⊕ v1 ⊗ ((v1 ⊖ v0) ⊗ v3 ⊕ v4)) ((v1 ⊖ v0) ⊗ (v4 ⊕ v1 ⊗ v3) ⊕ (v2 ⊕ v0 ⊗ v4)) tt

  -- where a is a root and the quotient is zero, so is the polynomial
  zero_from_quotient : (a : A) (p : List A) → Root o p a → Zero o (quotient a p) → Zero o p
  zero_from_quotient a [] root z = tt
  zero_from_quotient a (c ∷ []) root z = (ring L (a ∷ c ∷ []) v1 (v1 ⊕ v0 ⊗ O) tt ∙ root, tt)
  zero_from_quotient a (c ∷ d ∷ p) root z = (
    ring_from L (a ∷ c ∷ value o (d ∷ p) a ∷ []) v1 O (by L I (v1 ⊕ v0 ⊗ v2) O root ∷ by L (O ⊖ v0) v2 O z.0 ∷ []) tt,
    zero_from_quotient a (d ∷ p) z.0 z.1,
  )

  module _ (no_divisors : (x y : A) → o.mul x y ≡ o.zero → (x ≡ o.zero) ⊎ (y ≡ o.zero)) where
    -- another root is a root of the quotient
    root_of_quotient : (a x : A) (p : List A) → Root o p a → (a ≡ x → ⊥) → Root o p x → Root o (quotient a p) x
    root_of_quotient a x p at_a apart at_x =
        let q = value o (quotient a p) x in
        let product : o.mul (o.sub x a) q ≡ o.zero =
        ring_from L (o.mul (o.sub x a) q ∷ value o p a ∷ value o p x ∷ []) v0 O
        (by L (O ⊖ I) v2 (v0 ⊕ v1) (divided a x p) ∷ by L (O ⊖ I) v1 O at_a ∷ by L I v2 O at_x ∷ []) tt in
        ⊎_elim (λ e. absurd (apart (sym (eq_of_sub L x a e)))) (λ e. e) (no_divisors (o.sub x a) q product)

    roots_of_quotient : (a : A) (p xs : List A) → Root o p a → AllByRecursion (λ x. a ≡ x → ⊥) xs → AllByRecursion (Root o p) xs → AllByRecursion (Root o (quotient a p)) xs
    roots_of_quotient a p [] root apart roots = tt
    roots_of_quotient a p (x ∷ xs) root apart roots =
        (root_of_quotient a x p root apart.0 roots.0, roots_of_quotient a p xs root apart.1 roots.1)

    pub few_roots : FewRoots o
    few_roots [] xs nonzero distinct roots = absurd (nonzero tt)
    few_roots (c ∷ p) [] nonzero distinct roots = omega arith
    few_roots (c ∷ p) (a ∷ xs) nonzero distinct roots =
        let q = quotient a (c ∷ p) in
        let more = few_roots q xs (λ z. nonzero (zero_from_quotient a (c ∷ p) roots.0 z)) distinct.1
        (roots_of_quotient a (c ∷ p) xs roots.0 distinct.0 roots.1) in
        omega (arith, length_quotient a c p)

  value_negated : (q : List A) (x : A) → value o (negated o q) x ≡ o.sub o.zero (value o q x)
  value_negated [] x = ring L [] O (O ⊖ O) tt
  value_negated (c ∷ q) x =
      ap (λ w. o.add (o.sub o.zero c) (o.mul x w)) (value_negated q x) ∙
      ring L (c ∷ x ∷ value o q x ∷ []) ((O ⊖ v0) ⊕ v1 ⊗ (O ⊖ v2)) (O ⊖ (v0 ⊕ v1 ⊗ v2)) tt

  pub value_minus : (p q : List A) (x : A) → value o (minus o p q) x ≡ o.sub (value o p x) (value o q x)
  value_minus [] q x = value_negated q x
  value_minus (c ∷ p) [] x = ring L (value o (c ∷ p) x ∷ []) v0 (v0 ⊖ O) tt
  value_minus (c ∷ p) (d ∷ q) x =
      ap (λ w. o.add (o.sub c d) (o.mul x w)) (value_minus p q x) ∙
      ring L (c ∷ d ∷ x ∷ value o p x ∷ value o q x ∷ []) ((v0 ⊖ v1) ⊕ v2 ⊗ (v3 ⊖ v4)) ((v0 ⊕ v2 ⊗ v3) ⊖ (v1 ⊕ v2 ⊗ v4)) tt

  pub value_of_zero : (p : List A) (x : A) → Zero o p → value o p x ≡ o.zero
  value_of_zero [] x z = refl
  value_of_zero (c ∷ p) x z = ap₂ (λ a b. o.add a (o.mul x b)) z.0 (value_of_zero p x z.1) ∙ ring L (x ∷ []) (O ⊕ v0 ⊗ O) O tt

  alike_everywhere : (p q : List A) → Zero o (minus o p q) → (y : A) → value o p y ≡ value o q y
  alike_everywhere p q z y = eq_of_sub L _ _ (sym (value_minus p q y) ∙ value_of_zero (minus o p q) y z)

  same : (p q : List A) → length p ≡ length q → Zero o (minus o p q) → p ≡ q
  same [] [] n z = refl
  same [] (d ∷ q) n z = absurd (suc-ne-zero (length q) (sym n))
  same (c ∷ p) [] n z = absurd (suc-ne-zero (length p) n)
  same (c ∷ p) (d ∷ q) n z = ap₂ ◌∷◌ (eq_of_sub L c d z.0) (same p q (suc_inj n) z.1)

  root_of_minus : (p q : List A) (x : A) → value o p x ≡ value o q x → Root o (minus o p q) x
  root_of_minus p q x e = value_minus p q x ∙ ap (λ w. o.sub w (value o q x)) e ∙ sub_self L (value o q x)

  module _ (decide : (x y : A) → Dec (x ≡ y)) where
    pub zero? : (p : List A) → Dec (Zero o p)
    zero? [] = yes tt
    zero? (c ∷ p) = both (decide c o.zero) (zero? p)
      where
        both : Dec (c ≡ o.zero) → Dec (Zero o p) → Dec (Zero o (c ∷ p))
        both (yes a) (yes b) = yes (a, b)
        both (yes a) (no b) = no (λ z. b z.1)
        both (no a) d = no (λ z. a z.0)

    either : {B : Type 0} (p q : List A) (x : A) → (Zero o (minus o p q) → B) → value o p x ≡ value o q x → Dec (Zero o (minus o p q)) →
        B ⊎ ((Zero o (minus o p q) → ⊥) × Root o (minus o p q) x)
    either p q x f e (yes z) = inl (f z)
    either p q x f e (no z) = inr (z, root_of_minus p q x e)

    pub equal_or_root : EqualOrRoot o
    equal_or_root p q x e = either p q x (alike_everywhere p q) e (zero? (minus o p q))

    pub same_or_root : SameOrRoot o
    same_or_root p q x n e = either p q x (same p q n) e (zero? (minus o p q))
