-- Functions of a point that are linear in each coordinate.
use Rattle.std.proofs.Common.{◌≡◌, suc, List, [], ◌∷◌, ◌++◌, map, reverse, length, sym, refl, ap, ◌∙◌, ap₂, append_assoc}
use mathlib.Core.Path.{fun_ext}
use mathlib.Core.List.{reverse-cons, reverse-append}
use Rattle.ring.specs.Ring.{Ops, IsRing}
use Rattle.multilinear.specs.declared.order.VariableOrder.{VariableOrder}
use Rattle.multilinear.specs.declared.order.VariableOrder.TheVariants.{Prefix, Suffix}
use Rattle.multilinear.specs.Tables.{orient, corners, product, eq, eq_factor, select, select_factor, dot, cube, tabulate, value, view}
use Rattle.multilinear.specs.Laws.{Multilinear}
use Rattle.multilinear.proofs.Algebra as A
use Rattle.multilinear.proofs.Sums as S

module _ {E : Type 0} (F : Ops E) (L : IsRing F) where
  open F use {zero as 𝟘, one as 𝟙, add as ◌⊕◌, sub as ◌⊖◌, mul as ◌⊗◌}

  infixl 60 ◌⊕◌
  infixl 60 ◌⊖◌
  infixl 70 ◌⊗◌
  pub ml_const : (c : E) → Multilinear F (λ x. c)
  ml_const c xs ys = (𝟘, λ r. A.line_still F L c r)

  pub ml_add : (f g : List E → E) → Multilinear F f → Multilinear F g → Multilinear F (λ x. f x ⊕ g x)
  ml_add f g mf mg xs ys =
      ((mf xs ys).0 ⊕ (mg xs ys).0, λ r. ap₂ (λ a b. a ⊕ b) ((mf xs ys).1 r) ((mg xs ys).1 r) ∙ A.line_add F L (f (xs ++ (𝟘 ∷ ys))) (mf xs ys).0 (g (xs ++ (𝟘 ∷ ys))) (mg xs ys).0 r)

  pub ml_scale : (c : E) (f : List E → E) → Multilinear F f → Multilinear F (λ x. c ⊗ f x)
  ml_scale c f mf xs ys = (c ⊗ (mf xs ys).0, λ r. ap (λ a. c ⊗ a) ((mf xs ys).1 r) ∙ A.line_scale F L c (f (xs ++ (𝟘 ∷ ys))) (mf xs ys).0 r)

  -- what is left after draws
  pub ml_after : (f : List E → E) (rs : List E) → Multilinear F f → Multilinear F (λ x. f (rs ++ x))
  ml_after f rs mf xs ys =
      ((mf (rs ++ xs) ys).0, λ r. ap f (sym (append_assoc rs xs (r ∷ ys))) ∙ (mf (rs ++ xs) ys).1 r ∙ ap (λ z. f z ⊕ r ⊗ (mf (rs ++ xs) ys).0) (append_assoc rs xs (𝟘 ∷ ys)))

  pub ml_bind : (f : List E → E) (r : E) → Multilinear F f → Multilinear F (λ x. f (r ∷ x))
  ml_bind f r mf xs ys = mf (r ∷ xs) ys

  rev_mid : (xs ys : List E) (r : E) → reverse (xs ++ (r ∷ ys)) ≡ reverse ys ++ (r ∷ reverse xs)
  rev_mid xs ys r = reverse-append xs (r ∷ ys) ∙ ap (λ z. z ++ reverse xs) (reverse-cons r ys) ∙ append_assoc (reverse ys) (r ∷ []) (reverse xs)

  pub ml_reverse : (f : List E → E) → Multilinear F f → Multilinear F (λ x. f (reverse x))
  ml_reverse f mf xs ys =
      ((mf (reverse ys) (reverse xs)).0, λ r. ap f (rev_mid xs ys r) ∙ (mf (reverse ys) (reverse xs)).1 r ∙ ap (λ z. f z ⊕ r ⊗ (mf (reverse ys) (reverse xs)).0) (sym (rev_mid xs ys 𝟘)))

  pub ml_orient : (o : VariableOrder) (f : List E → E) → Multilinear F f → Multilinear F (λ x. f (orient o x))
  unfolding orient
  ml_orient Prefix f mf = mf
  ml_orient Suffix f mf = ml_reverse f mf

  -- a factor that is a line in x for every p
  abbrev pub LineFactor : (E → E → E) → Type 0
  LineFactor f = (p : E) → (d : E) × ((x : E) → f p x ≡ f p 𝟘 ⊕ x ⊗ d)

  -- a product of such factors is linear in each coordinate
  pub ml_product : (f : E → E → E) → LineFactor f → (p : List E) → Multilinear F (product F f p)
  unfolding product
  ml_product f line [] [] ys = (𝟘, λ r. A.line_still F L 𝟙 r)
  ml_product f line [] (x ∷ xs) ys = (𝟘, λ r. A.line_still F L 𝟙 r)
  ml_product f line (p ∷ ps) [] ys =
      ((line p).0 ⊗ product F f ps ys, λ r. ap (λ z. z ⊗ product F f ps ys) ((line p).1 r) ∙ A.line_times F L (f p 𝟘) (line p).0 r (product F f ps ys))
  ml_product f line (p ∷ ps) (x ∷ xs) ys = ml_scale (f p x) (product F f ps) (ml_product f line ps) xs ys

  pub product_sym : (f : E → E → E) → ((p x : E) → f p x ≡ f x p) → (p x : List E) → product F f p x ≡ product F f x p
  unfolding product
  product_sym f h [] [] = refl
  product_sym f h [] (x ∷ xs) = refl
  product_sym f h (p ∷ ps) [] = refl
  product_sym f h (p ∷ ps) (x ∷ xs) = ap₂ (λ a b. a ⊗ b) (h p x) (product_sym f h ps xs)

  pub eq_factor_at_zero : (p : E) → eq_factor F p 𝟘 ≡ 𝟙 ⊖ p
  unfolding eq_factor
  eq_factor_at_zero p = A.eq_zero F L p

  pub eq_factor_at_one : (p : E) → eq_factor F p 𝟙 ≡ p
  unfolding eq_factor
  eq_factor_at_one p = A.eq_one F L p

  eq_factor_line : LineFactor (eq_factor F)
  unfolding eq_factor
  eq_factor_line p = (p ⊖ (𝟙 ⊖ p), λ x. A.eq_line F L p x)

  eq_factor_sym : (p x : E) → eq_factor F p x ≡ eq_factor F x p
  unfolding eq_factor
  eq_factor_sym p x = ap₂ (λ a b. a ⊕ b) (A.mcomm F L p x) (A.mcomm F L (𝟙 ⊖ p) (𝟙 ⊖ x))

  pub eq_sym : (p x : List E) → eq F p x ≡ eq F x p
  eq_sym p x = product_sym (eq_factor F) eq_factor_sym p x

  pub ml_eq : (p : List E) → Multilinear F (eq F p)
  ml_eq p = ml_product (eq_factor F) eq_factor_line p

  pub select_factor_at_zero : (p : E) → select_factor F p 𝟘 ≡ 𝟙
  unfolding select_factor
  select_factor_at_zero p = A.select_zero F L p

  pub select_factor_at_one : (p : E) → select_factor F p 𝟙 ≡ p
  unfolding select_factor
  select_factor_at_one p = A.select_one F L p

  select_factor_line : LineFactor (select_factor F)
  unfolding select_factor
  select_factor_line p = (p ⊖ 𝟙, λ x. A.select_line F L p x)

  pub ml_select : (p : List E) → Multilinear F (select F p)
  ml_select p = ml_product (select_factor F) select_factor_line p

  length_mid : (xs ys : List E) (r s : E) → length (xs ++ (r ∷ ys)) ≡ length (xs ++ (s ∷ ys))
  length_mid [] ys r s = refl
  length_mid (x ∷ xs) ys r s = ap suc (length_mid xs ys r s)

  -- a table's value is linear in each coordinate of the point
  pub ml_value : (g : List E) → Multilinear F (value F g)
  unfolding value tabulate
  ml_value g xs ys =
      let n = length (xs ++ (𝟘 ∷ ys)) in
      let slope : List E → E = λ x. (ml_eq x xs ys).0 in (
        dot F (map slope (corners F n)) g,
        λ r. ap (λ m. dot F (map (eq F (xs ++ (r ∷ ys))) (corners F m)) g) (length_mid xs ys r 𝟘)
            ∙ S.dot_line F L (corners F n) g r (eq F (xs ++ (r ∷ ys))) (eq F (xs ++ (𝟘 ∷ ys))) slope (λ x. eq_sym (xs ++ (r ∷ ys)) x ∙ (ml_eq x xs ys).1 r ∙ ap (λ z. z ⊕ r ⊗ slope x) (eq_sym x (xs ++ (𝟘 ∷ ys)))),
      )

  pub ml_view : (o : VariableOrder) (g : List E) → Multilinear F (view F o g)
  unfolding view
  ml_view o g = ml_orient o (value F g) (ml_value g)

  -- the slope at the first coordinate
  pub at_first : (f : List E → E) → Multilinear F f → (r : E) (x : List E) → f (r ∷ x) ≡ f (𝟘 ∷ x) ⊕ r ⊗ (f (𝟙 ∷ x) ⊖ f (𝟘 ∷ x))
  at_first f mf r x =
      let d = (mf [] x).0 in
      let e : f (𝟙 ∷ x) ⊖ f (𝟘 ∷ x) ≡ d = A.sub_unique F L (f (𝟙 ∷ x)) (f (𝟘 ∷ x)) d (A.comm F L d (f (𝟘 ∷ x)) ∙ ap (λ z. f (𝟘 ∷ x) ⊕ z) (sym (A.one-mul F L d)) ∙ sym ((mf [] x).1 𝟙)) in
      (mf [] x).1 r ∙ ap (λ z. f (𝟘 ∷ x) ⊕ r ⊗ z) (sym e)

  -- such a function is settled by its values at the corners
  pub interpolation : (p : List E) (f : List E → E) → Multilinear F f → cube F (length p) (λ x. eq F p x ⊗ f x) ≡ f p
  unfolding product
  interpolation [] f mf = S.cube_zero F L (λ x. eq F [] x ⊗ f x) ∙ A.one-mul F L (f [])
  interpolation (p ∷ ps) f mf =
      let half : (b : E) → cube F (length ps) (λ x. eq F (p ∷ ps) (b ∷ x) ⊗ f (b ∷ x)) ≡ eq_factor F p b ⊗ f (b ∷ ps) = λ b.
      ap (cube F (length ps)) (fun_ext (λ x. A.massoc F L (eq_factor F p b) (eq F ps x) (f (b ∷ x))))
      ∙ S.cube_scale F L (length ps) (eq_factor F p b) (λ x. eq F ps x ⊗ f (b ∷ x))
      ∙ ap (λ z. eq_factor F p b ⊗ z) (interpolation ps (λ x. f (b ∷ x)) (ml_bind f b mf)) in
      S.cube_suc F L (length ps) (λ x. eq F (p ∷ ps) x ⊗ f x)
      ∙ ap₂ (λ a b. a ⊕ b) (half 𝟘 ∙ ap (λ z. z ⊗ f (𝟘 ∷ ps)) (eq_factor_at_zero p)) (half 𝟙 ∙ ap (λ z. z ⊗ f (𝟙 ∷ ps)) (eq_factor_at_one p))
      ∙ A.mix F L p (f (𝟘 ∷ ps)) (f (𝟙 ∷ ps)) ∙ sym (at_first f mf p ps)

  -- a table that was made from such a function
  pub value_tabulate : (p : List E) (f : List E → E) → Multilinear F f → value F (tabulate F (length p) f) p ≡ f p
  unfolding value tabulate cube
  value_tabulate p f mf = S.dot_over F L (corners F (length p)) (eq F p) f ∙ interpolation p f mf
