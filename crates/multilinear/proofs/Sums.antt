-- Sums over lists of points.
use Rattle.std.proofs.Common.{◌≡◌, ℕ, zero, suc, List, [], ◌∷◌, ◌++◌, map, reverse, length, sym, refl, ap, ◌∙◌, ap₂}
use mathlib.Core.Path.{fun_ext}
use mathlib.Core.List.{reverse-cons}
use Rattle.ring.specs.Ring.{Ops, IsRing}
use Rattle.multilinear.specs.Tables.{corners, dot, over, cube}
use Rattle.multilinear.proofs.Algebra as A

module _ {E : Type 0} (F : Ops E) (L : IsRing F) where
  open F use {zero as 𝟘, one as 𝟙, add as ◌⊕◌, sub as ◌⊖◌, mul as ◌⊗◌}

  infixl 60 ◌⊕◌
  infixl 60 ◌⊖◌
  infixl 70 ◌⊗◌
  pub over_++ : (C D : List (List E)) (f : List E → E) → over F (C ++ D) f ≡ over F C f ⊕ over F D f
  unfolding over
  over_++ [] D f = sym (A.zero-add F L (over F D f))
  over_++ (x ∷ C) D f = ap (λ s. f x ⊕ s) (over_++ C D f) ∙ sym (A.assoc F L (f x) (over F C f) (over F D f))

  pub over_map : (φ : List E → List E) (C : List (List E)) (f : List E → E) → over F (map φ C) f ≡ over F C (λ x. f (φ x))
  unfolding over
  over_map φ [] f = refl
  over_map φ (x ∷ C) f = ap (λ s. f (φ x) ⊕ s) (over_map φ C f)

  pub over_add : (C : List (List E)) (f g : List E → E) → over F C (λ x. f x ⊕ g x) ≡ over F C f ⊕ over F C g
  unfolding over
  over_add [] f g = sym (A.add-zero F L 𝟘)
  over_add (x ∷ C) f g = ap (λ s. (f x ⊕ g x) ⊕ s) (over_add C f g) ∙ A.swap4 F L (f x) (g x) (over F C f) (over F C g)

  pub over_scale : (C : List (List E)) (r : E) (f : List E → E) → over F C (λ x. r ⊗ f x) ≡ r ⊗ over F C f
  unfolding over
  over_scale [] r f = sym (A.mul-zero F L r)
  over_scale (x ∷ C) r f = ap (λ s. r ⊗ f x ⊕ s) (over_scale C r f) ∙ sym (A.dist F L r (f x) (over F C f))

  pub over_zero : (C : List (List E)) → over F C (λ x. 𝟘) ≡ 𝟘
  unfolding over
  over_zero [] = refl
  over_zero (x ∷ C) = A.zero-add F L (over F C (λ x. 𝟘)) ∙ over_zero C

  pub dot_over : (C : List (List E)) (f g : List E → E) → dot F (map f C) (map g C) ≡ over F C (λ x. f x ⊗ g x)
  unfolding over dot
  dot_over [] f g = refl
  dot_over (x ∷ C) f g = ap (λ s. f x ⊗ g x ⊕ s) (dot_over C f g)

  -- a line of weights has a line of sums
  pub dot_line : (C : List (List E)) (g : List E) (r : E) (w a d : List E → E) → ((x : List E) → w x ≡ a x ⊕ r ⊗ d x) → dot F (map w C) g ≡ dot F (map a C) g ⊕ r ⊗ dot F (map d C) g
  unfolding dot
  dot_line [] [] r w a d h = A.line_still F L 𝟘 r
  dot_line [] (v ∷ g) r w a d h = A.line_still F L 𝟘 r
  dot_line (x ∷ C) [] r w a d h = A.line_still F L 𝟘 r
  dot_line (x ∷ C) (v ∷ g) r w a d h =
      ap₂ (λ y z. y ⊗ v ⊕ z) (h x) (dot_line C g r w a d h) ∙ A.line_dot F L (a x) (d x) r v (dot F (map a C) g) (dot F (map d C) g)

  pub cube_suc : (n : ℕ) (f : List E → E) → cube F (suc n) f ≡ cube F n (λ x. f (𝟘 ∷ x)) ⊕ cube F n (λ x. f (𝟙 ∷ x))
  unfolding cube corners
  cube_suc n f = over_++ (map (λ x. 𝟘 ∷ x) (corners F n)) (map (λ x. 𝟙 ∷ x) (corners F n)) f ∙ ap₂ (λ a b. a ⊕ b) (over_map (λ x. 𝟘 ∷ x) (corners F n) f) (over_map (λ x. 𝟙 ∷ x) (corners F n) f)

  pub cube_zero : (f : List E → E) → cube F zero f ≡ f []
  unfolding cube corners over
  cube_zero f = A.add-zero F L (f [])

  -- the last variable in place of the first
  pub cube_snoc : (n : ℕ) (f : List E → E) → cube F (suc n) f ≡ cube F n (λ x. f (x ++ (𝟘 ∷ []))) ⊕ cube F n (λ x. f (x ++ (𝟙 ∷ [])))
  cube_snoc zero f = cube_suc zero f ∙ simp (cube_zero)
  cube_snoc (suc n) f =
      cube_suc (suc n) f ∙ ap₂ (λ a b. a ⊕ b) (cube_snoc n (λ x. f (𝟘 ∷ x))) (cube_snoc n (λ x. f (𝟙 ∷ x)))
      ∙ A.swap4 F L _ _ _ _
      ∙ sym (ap₂ (λ a b. a ⊕ b) (cube_suc n (λ x. f (x ++ (𝟘 ∷ [])))) (cube_suc n (λ x. f (x ++ (𝟙 ∷ [])))))

  pub cube_reverse : (n : ℕ) (f : List E → E) → cube F n (λ x. f (reverse x)) ≡ cube F n f
  cube_reverse zero f = cube_zero (λ x. f (reverse x)) ∙ sym (cube_zero f)
  cube_reverse (suc n) f =
      cube_suc n (λ x. f (reverse x))
      ∙ ap₂ (λ a b. a ⊕ b) (ap (cube F n) (fun_ext (λ x. ap f (reverse-cons 𝟘 x))) ∙ cube_reverse n (λ x. f (x ++ (𝟘 ∷ []))))
      (ap (cube F n) (fun_ext (λ x. ap f (reverse-cons 𝟙 x))) ∙ cube_reverse n (λ x. f (x ++ (𝟙 ∷ []))))
      ∙ sym (cube_snoc n f)

  -- only points of n coordinates count
  pub cube_cong : (n : ℕ) (f g : List E → E) → ((x : List E) → length x ≡ n → f x ≡ g x) → cube F n f ≡ cube F n g
  cube_cong zero f g h = cube_zero f ∙ h [] refl ∙ sym (cube_zero g)
  cube_cong (suc n) f g h =
      cube_suc n f ∙ ap₂ (λ a b. a ⊕ b) (cube_cong n (λ x. f (𝟘 ∷ x)) (λ x. g (𝟘 ∷ x)) (λ x e. h (𝟘 ∷ x) (ap suc e))) (cube_cong n (λ x. f (𝟙 ∷ x)) (λ x. g (𝟙 ∷ x)) (λ x e. h (𝟙 ∷ x) (ap suc e))) ∙ sym (cube_suc n g)

  pub cube_add : (n : ℕ) (f g : List E → E) → cube F n (λ x. f x ⊕ g x) ≡ cube F n f ⊕ cube F n g
  unfolding cube
  cube_add n f g = over_add (corners F n) f g

  pub cube_scale : (n : ℕ) (r : E) (f : List E → E) → cube F n (λ x. r ⊗ f x) ≡ r ⊗ cube F n f
  unfolding cube
  cube_scale n r f = over_scale (corners F n) r f

  pub cube_nothing : (n : ℕ) → cube F n (λ x. 𝟘) ≡ 𝟘
  unfolding cube
  cube_nothing n = over_zero (corners F n)
