-- Roots of a polynomial, and positions of a table.
use Rattle.std.proofs.Common.{◌≡◌, ℕ, zero, suc, ◌*◌, ◌^◌, ◌<◌, List, [], ◌∷◌, ◌++◌, length, take, drop, sym, refl, ap, ◌∙◌, ap₂, arith, length-drop, take-append-drop, length-take}
use native.Mathlib.Nat.{pow-succ'}
use Rattle.ring.specs.Ring.{Ops}
use Rattle.ring.specs.Polynomials.{value as at, Root, Zero, minus}
use Rattle.ring.proofs.Roots.{few_roots, value_minus}
use Rattle.field.specs.Laws.{IsField}
use Rattle.std.specs.List.{AllByRecursion}
use Rattle.multilinear.specs.Tables.{corners, product, tabulate, dot, position}
use Rattle.multilinear.specs.Univariate.{pow, expand}
use Rattle.multilinear.specs.Laws.{DifferentTablesAgreeRarely}
use Rattle.multilinear.proofs.Algebra as A
use Rattle.multilinear.proofs.Corners as C

module _ {E : Type 0} (F : Ops E) (K : IsField F) where
  open F use {zero as 𝟘, one as 𝟙, add as ◌⊕◌, sub as ◌⊖◌, mul as ◌⊗◌}

  infixl 60 ◌⊕◌
  infixl 60 ◌⊖◌
  infixl 70 ◌⊗◌
  at_++ : (a b : List E) (v : E) → at F (a ++ b) v ≡ at F a v ⊕ pow F v (length a) ⊗ at F b v
  unfolding pow
  at_++ [] b v = sym (A.zero-add F K.ring _ ∙ A.one-mul F K.ring (at F b v))
  at_++ (c ∷ a) b v =
      ap (λ z. c ⊕ v ⊗ z) (at_++ a b v)
      ∙ ap (λ z. c ⊕ z) (A.dist F K.ring v (at F a v) (pow F v (length a) ⊗ at F b v) ∙ ap (λ z. v ⊗ at F a v ⊕ z) (sym (A.massoc F K.ring v (pow F v (length a)) (at F b v))))
      ∙ sym (A.assoc F K.ring c (v ⊗ at F a v) _)

  pub length_expand : (v : E) (n : ℕ) → length (expand F v n) ≡ n
  unfolding expand
  length_expand v zero = refl
  length_expand v (suc n) = ap suc (length_expand v n)

  one_value : (v : E) (g : List E) → length g ≡ 1 → position F g [] ≡ at F g v
  unfolding position tabulate corners dot product
  one_value v [] h = absurd (C.none_left F K.ring 0 (sym h))
  one_value v (c ∷ []) h = ap₂ (λ a b. a ⊕ b) (A.one-mul F K.ring c) (sym (A.mul-zero F K.ring v))
  one_value v (c ∷ d ∷ g) h = absurd (C.none_left F K.ring (length g) (omega arith))

  -- a table's value at the position that v stands for is its polynomial's at v
  pub position_at : (n : ℕ) (v : E) (g : List E) → length g ≡ 2 ^ n → position F g (expand F v n) ≡ at F g v
  unfolding expand
  position_at zero v g h = one_value v g h
  position_at (suc n) v g h =
      let p : 2 ^ suc n ≡ 2 * 2 ^ n = pow-succ' 2 n in
      let a = take (2 ^ n) g in
      let b = drop (2 ^ n) g in
      let la : length a ≡ 2 ^ n = simp length-take (omega arith) in
      let lb : length b ≡ 2 ^ n = simp length-drop (omega arith) in
      let joined : a ++ b ≡ g = take-append-drop (2 ^ n) g in
      ap (λ t. position F t (pow F v (2 ^ n) ∷ expand F v n)) (sym joined)
      ∙ C.position_halves F K.ring (pow F v (2 ^ n)) (expand F v n) a b (la ∙ ap (λ m. 2 ^ m) (sym (length_expand v n)))
      ∙ ap₂ (λ c d. c ⊕ d) (position_at n v a la) (ap₂ (λ m z. pow F v m ⊗ z) (sym la) (position_at n v b lb))
      ∙ sym (at_++ a b v) ∙ ap (λ z. at F z v) joined

  length_minus : (g h : List E) → length g ≡ length h → length (minus F g h) ≡ length g
  length_minus [] [] e = refl
  length_minus [] (y ∷ h) e = absurd (C.none_left F K.ring (length h) (sym e))
  length_minus (x ∷ g) [] e = absurd (C.none_left F K.ring (length g) e)
  length_minus (x ∷ g) (y ∷ h) e = ap suc (length_minus g h (omega arith))

  equal_tables : (g h : List E) → length g ≡ length h → Zero F (minus F g h) → g ≡ h
  equal_tables [] [] e z = refl
  equal_tables [] (y ∷ h) e z = absurd (C.none_left F K.ring (length h) (sym e))
  equal_tables (x ∷ g) [] e z = absurd (C.none_left F K.ring (length g) e)
  equal_tables (x ∷ g) (y ∷ h) e z = ap₂ (λ a l. a ∷ l) (A.sub_eq F K.ring x y z.0) (equal_tables g h (omega arith) z.1)

  -- where two tables agree, their difference has a root
  roots : (m : ℕ) (g h : List E) → length g ≡ 2 ^ m → length h ≡ 2 ^ m → (vs : List E)
      → AllByRecursion (λ v. position F g (expand F v m) ≡ position F h (expand F v m)) vs → AllByRecursion (Root F (minus F g h)) vs
  roots m g h lg lh [] z = tt
  roots m g h lg lh (v ∷ vs) z =
      let same : at F g v ≡ at F h v = sym (position_at m v g lg) ∙ z.0 ∙ position_at m v h lh in
      (value_minus K.ring g h v ∙ ap (λ w. w ⊖ at F h v) same ∙ A.sub_self F K.ring (at F h v), roots m g h lg lh vs z.1)

pub few : {E : Type 0} (F : Ops E) → IsField F → DifferentTablesAgreeRarely F
few F K m g h lg lh ne vs d z =
    let e = lg ∙ sym lh in
    let l : length vs < length (minus F g h) = few_roots K.ring K.no_divisors (minus F g h) vs (λ y. ne (equal_tables F K g h e y)) d (roots F K m g h lg lh vs z) in
    omega (arith, length_minus F K g h e)
