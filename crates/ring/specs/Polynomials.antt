-- Polynomials in one variable, by their coefficients, the constant one first. Assumes nothing.
use Rattle.std.specs.Prelude.{◌≡◌, ◌<◌, ◌⊎◌, List, [], ◌∷◌, length, ◌≢◌}
use Rattle.std.specs.List.{AllByRecursion}
use Rattle.ring.specs.Ring.{Ops}

-- no two entries of the list are equal
abbrev pub Distinct : {A : Type 0} → List A → Type 0
Distinct [] = Unit {0}
Distinct (x ∷ xs) = AllByRecursion (λ y. x ≢ y) xs × Distinct xs

module _ {A : Type 0} (o : Ops A) where
  -- the value at a point, by Horner's rule
  abbrev pub value : List A → A → A
  value [] x = o.zero
  value (c ∷ p) x = o.add c (o.mul x (value p x))

  abbrev pub Root : List A → A → Type 0
  Root p x = value p x ≡ o.zero

  -- every coefficient is zero
  abbrev pub Zero : List A → Type 0
  Zero p = AllByRecursion (λ c. c ≡ o.zero) p

  abbrev pub negated : List A → List A
  negated [] = []
  negated (c ∷ p) = o.sub o.zero c ∷ negated p

  -- the difference, the shorter of the two continued by zeros
  abbrev pub minus : List A → List A → List A
  minus [] q = negated q
  minus (c ∷ p) [] = c ∷ p
  minus (c ∷ p) (d ∷ q) = o.sub c d ∷ minus p q

  -- d + 1 coefficients, not all zero, have at most d roots
  abbrev pub FewRoots : Type 0
  FewRoots = (p xs : List A) → (Zero p → ⊥) → Distinct xs → AllByRecursion (Root p) xs → length xs < length p

  -- polynomials that are alike at a point are alike everywhere, or the point is a root of their difference, which is not zero
  abbrev pub EqualOrRoot : Type 0
  EqualOrRoot = (p q : List A) (x : A) → value p x ≡ value q x →
      ((y : A) → value p y ≡ value q y) ⊎ ((Zero (minus p q) → ⊥) × Root (minus p q) x)

  -- with as many coefficients they are the same
  abbrev pub SameOrRoot : Type 0
  SameOrRoot = (p q : List A) (x : A) → length p ≡ length q → value p x ≡ value q x → (p ≡ q) ⊎ ((Zero (minus p q) → ⊥) × Root (minus p q) x)
