-- A flat table and its function: halves, corners, folding.
use Rattle.std.proofs.Common.{◌≡◌, ℕ, zero, suc, ◌*◌, ◌^◌, List, [], ◌∷◌, ◌++◌, map, length, take, drop, sym, refl, ap, ◌∙◌, ap₂, append_assoc, arith, length-append, length-drop, take-append-drop, length-take}
use mathlib.Core.Path.{fun_ext}
use mathlib.Core.List.{map-map, reverse-append}
use native.Mathlib.Nat.{pow-succ'}
use lib.ListN.{length-reverse, length-map}
use Rattle.std.proofs.lemmas.List.{map-append}
use Rattle.ring.specs.Ring.{Ops, IsRing}
use Rattle.multilinear.specs.declared.order.VariableOrder.{VariableOrder}
use Rattle.multilinear.specs.declared.order.VariableOrder.TheVariants.{Prefix, Suffix}
use Rattle.multilinear.specs.Tables.{orient, setting, corners, product, dot, over, tabulate, cube, eq_factor, select, select_factor, value, view, position, folded, row}
use Rattle.multilinear.specs.Weights.{weighted}
use Rattle.multilinear.specs.Laws.{Multilinear}
use Rattle.multilinear.proofs.Algebra as A
use Rattle.multilinear.proofs.Sums as S
use Rattle.multilinear.proofs.Linear as M

module _ {E : Type 0} (F : Ops E) (L : IsRing F) where
  open F use {zero as 𝟘, one as 𝟙, add as ◌⊕◌, sub as ◌⊖◌, mul as ◌⊗◌}

  infixl 60 ◌⊕◌
  infixl 60 ◌⊖◌
  infixl 70 ◌⊗◌
  pub corners_count : (n : ℕ) → length (corners F n) ≡ 2 ^ n
  unfolding corners
  corners_count zero = refl
  corners_count (suc n) =
      let ih = corners_count n in
      let p : 2 ^ suc n ≡ 2 * 2 ^ n = pow-succ' 2 n in
      let a = length-append (map (λ x. 𝟘 ∷ x) (corners F n)) (map (λ x. 𝟙 ∷ x) (corners F n)) in
      let b = length-map (corners F n) (λ x. 𝟘 ∷ x) in
      let c = length-map (corners F n) (λ x. 𝟙 ∷ x) in
      omega arith

  -- the corners have n coordinates
  pub corners_cong : {B : Type 0} (n : ℕ) (f g : List E → B) → ((x : List E) → length x ≡ n → f x ≡ g x) → map f (corners F n) ≡ map g (corners F n)
  unfolding corners
  corners_cong zero f g h = ap (λ z. z ∷ []) (h [] refl)
  corners_cong (suc n) f g h =
      let C = corners F n in
      let half : (b : E) → map f (map (λ x. b ∷ x) C) ≡ map g (map (λ x. b ∷ x) C) = λ b. map-map f (λ x. b ∷ x) C ∙ corners_cong n (λ x. f (b ∷ x)) (λ x. g (b ∷ x)) (λ x e. h (b ∷ x) (ap suc e)) ∙ sym (map-map g (λ x. b ∷ x) C) in
      map-append f (map (λ x. 𝟘 ∷ x) C) (map (λ x. 𝟙 ∷ x) C) ∙ ap₂ (λ a b. a ++ b) (half 𝟘) (half 𝟙) ∙ sym (map-append g (map (λ x. 𝟘 ∷ x) C) (map (λ x. 𝟙 ∷ x) C))

  pub tabulate_suc : (n : ℕ) (f : List E → E) → tabulate F (suc n) f ≡ tabulate F n (λ x. f (𝟘 ∷ x)) ++ tabulate F n (λ x. f (𝟙 ∷ x))
  unfolding tabulate corners
  tabulate_suc n f =
      let C = corners F n in
      map-append f (map (λ x. 𝟘 ∷ x) C) (map (λ x. 𝟙 ∷ x) C) ∙ ap₂ (λ a b. a ++ b) (map-map f (λ x. 𝟘 ∷ x) C) (map-map f (λ x. 𝟙 ∷ x) C)

  pub tabulate_length : (n : ℕ) (f : List E → E) → length (tabulate F n f) ≡ 2 ^ n
  unfolding tabulate
  tabulate_length n f = length-map (corners F n) f ∙ corners_count n

  pub none_left : (n : ℕ) → suc n ≡ 0 → ⊥
  none_left n h = omega arith

  pub dot_++ : (u a v b : List E) → length u ≡ length a → dot F (u ++ v) (a ++ b) ≡ dot F u a ⊕ dot F v b
  unfolding dot
  dot_++ [] [] v b h = sym (A.zero-add F L (dot F v b))
  dot_++ [] (x ∷ a) v b h = absurd (none_left (length a) (sym h))
  dot_++ (w ∷ u) [] v b h = absurd (none_left (length u) h)
  dot_++ (w ∷ u) (x ∷ a) v b h = ap (λ z. w ⊗ x ⊕ z) (dot_++ u a v b (omega arith)) ∙ sym (A.assoc F L (w ⊗ x) (dot F u a) (dot F v b))

  pub dot_scale : (C : List (List E)) (r : E) (f : List E → E) (g : List E) → dot F (map (λ x. r ⊗ f x) C) g ≡ r ⊗ dot F (map f C) g
  unfolding dot
  dot_scale [] r f [] = sym (A.mul-zero F L r)
  dot_scale [] r f (v ∷ g) = sym (A.mul-zero F L r)
  dot_scale (x ∷ C) r f [] = sym (A.mul-zero F L r)
  dot_scale (x ∷ C) r f (v ∷ g) = ap₂ (λ a b. a ⊕ b) (A.massoc F L r (f x) v) (dot_scale C r f g) ∙ sym (A.dist F L r (f x ⊗ v) (dot F (map f C) g))

  -- a table under a weight, by its halves: what the first variable does
  pub weighted_halves : (f : E → E → E) (p : E) (ps a b : List E) → length a ≡ 2 ^ length ps → weighted F f (a ++ b) (p ∷ ps) ≡ f p 𝟘 ⊗ weighted F f a ps ⊕ f p 𝟙 ⊗ weighted F f b ps
  unfolding weighted tabulate product
  weighted_halves f p ps a b h =
      let n = length ps in
      ap (λ z. dot F z (a ++ b)) (unfold tabulate in tabulate_suc n (product F f (p ∷ ps)))
      ∙ dot_++ (tabulate F n (λ x. product F f (p ∷ ps) (𝟘 ∷ x))) a (tabulate F n (λ x. product F f (p ∷ ps) (𝟙 ∷ x))) b (tabulate_length n (λ x. product F f (p ∷ ps) (𝟘 ∷ x)) ∙ sym h)
      ∙ ap₂ (λ c d. c ⊕ d) (dot_scale (corners F n) (f p 𝟘) (product F f ps) a) (dot_scale (corners F n) (f p 𝟙) (product F f ps) b)

  pub value_halves : (p : E) (ps a b : List E) → length a ≡ 2 ^ length ps → value F (a ++ b) (p ∷ ps) ≡ (𝟙 ⊖ p) ⊗ value F a ps ⊕ p ⊗ value F b ps
  unfolding value weighted
  value_halves p ps a b h =
      weighted_halves (eq_factor F) p ps a b h
      ∙ ap₂ (λ c d. c ⊗ value F a ps ⊕ d ⊗ value F b ps) (M.eq_factor_at_zero F L p) (M.eq_factor_at_one F L p)

  pub position_halves : (p : E) (ps a b : List E) → length a ≡ 2 ^ length ps → position F (a ++ b) (p ∷ ps) ≡ position F a ps ⊕ p ⊗ position F b ps
  unfolding position weighted
  position_halves p ps a b h =
      weighted_halves (select_factor F) p ps a b h
      ∙ ap₂ (λ c d. c ⊗ position F a ps ⊕ d ⊗ position F b ps) (M.select_factor_at_zero F L p) (M.select_factor_at_one F L p) ∙ ap (λ z. z ⊕ p ⊗ position F b ps) (A.one-mul F L (position F a ps))

  singleton : (g : List E) → length g ≡ 1 → map (value F g) ([] ∷ []) ≡ g
  unfolding value tabulate corners dot product
  singleton [] h = absurd (none_left 0 (sym h))
  singleton (v ∷ []) h = ap (λ z. z ∷ []) (A.add-zero F L (𝟙 ⊗ v) ∙ A.one-mul F L v)
  singleton (v ∷ w ∷ g) h = absurd (none_left (length g) (omega arith))

  -- a table holds its function's values at the corners
  pub tabulate_value : (n : ℕ) (g : List E) → length g ≡ 2 ^ n → tabulate F n (value F g) ≡ g
  unfolding tabulate
  tabulate_value zero g h = unfold corners in singleton g h
  tabulate_value (suc n) g h =
      let p : 2 ^ suc n ≡ 2 * 2 ^ n = pow-succ' 2 n in
      let a = take (2 ^ n) g in
      let b = drop (2 ^ n) g in
      let la : length a ≡ 2 ^ n = simp length-take (omega arith) in
      let lb : length b ≡ 2 ^ n = simp length-drop (omega arith) in
      let joined : a ++ b ≡ g = take-append-drop (2 ^ n) g in
      ap (λ z. tabulate F (suc n) (value F z)) (sym joined) ∙ tabulate_suc n (value F (a ++ b))
      ∙ ap₂ (λ c d. c ++ d)
      (corners_cong n (λ x. value F (a ++ b) (𝟘 ∷ x)) (value F a) (λ x e. value_halves 𝟘 x a b (la ∙ ap (λ m. 2 ^ m) (sym e)) ∙ A.mix_zero F L (value F a x) (value F b x)) ∙ tabulate_value n a la)
      (corners_cong n (λ x. value F (a ++ b) (𝟙 ∷ x)) (value F b) (λ x e. value_halves 𝟙 x a b (la ∙ ap (λ m. 2 ^ m) (sym e)) ∙ A.mix_one F L (value F a x) (value F b x)) ∙ tabulate_value n b lb)
      ∙ joined

  -- what a table comes to under a weight, as a sum over corners
  pub dot_cube : (n : ℕ) (w : List E → E) (g : List E) → length g ≡ 2 ^ n → dot F (tabulate F n w) g ≡ cube F n (λ x. w x ⊗ value F g x)
  unfolding cube
  dot_cube n w g h = ap (dot F (tabulate F n w)) (sym (tabulate_value n g h)) ∙ (unfold tabulate in S.dot_over F L (corners F n) w (value F g))

  pub cube_orient : (o : VariableOrder) (n : ℕ) (f : List E → E) → cube F n (λ x. f (orient o x)) ≡ cube F n f
  unfolding orient
  cube_orient Prefix n f = refl
  cube_orient Suffix n f = S.cube_reverse F L n f

  pub length_orient : (o : VariableOrder) (x : List E) → length (orient o x) ≡ length x
  unfolding orient
  length_orient Prefix x = refl
  length_orient Suffix x = length-reverse x

  -- folding
  ml_before : (f : List E → E) (t : List E) → Multilinear F f → Multilinear F (λ x. f (x ++ t))
  ml_before f t mf xs ys =
      ((mf xs (ys ++ t)).0, λ r. ap f (append_assoc xs (r ∷ ys) t) ∙ (mf xs (ys ++ t)).1 r ∙ ap (λ z. f z ⊕ r ⊗ (mf xs (ys ++ t)).0) (sym (append_assoc xs (𝟘 ∷ ys) t)))

  pub ml_setting : (o : VariableOrder) (f : List E → E) (b : List E) → Multilinear F f → Multilinear F (λ x. f (setting o b x))
  unfolding setting
  ml_setting Prefix f b mf = M.ml_after F L f b mf
  ml_setting Suffix f b mf = ml_before f b mf

  pub ml_bound : (o : VariableOrder) (f : List E → E) (x : List E) → Multilinear F f → Multilinear F (λ b. f (setting o b x))
  unfolding setting
  ml_bound Prefix f x mf = ml_before f x mf
  ml_bound Suffix f x mf = M.ml_after F L f x mf

  pub setting_orient : (o : VariableOrder) (rs x : List E) → setting o (orient o rs) (orient o x) ≡ orient o (rs ++ x)
  unfolding setting orient
  setting_orient Prefix rs x = refl
  setting_orient Suffix rs x = sym (reverse-append rs x)

  pub value_of_tabulate : (n : ℕ) (p : List E) (f : List E → E) → Multilinear F f → length p ≡ n → value F (tabulate F n f) p ≡ f p
  value_of_tabulate n p f mf e = ap (λ m. value F (tabulate F m f) p) (sym e) ∙ M.value_tabulate F L p f mf

  -- the folded table's function is the table's with the draws put in
  pub view_folded : (o : VariableOrder) (n : ℕ) (g rs x : List E) → length x ≡ n → view F o (folded F o n g rs) x ≡ view F o g (rs ++ x)
  unfolding view folded
  view_folded o n g rs x e =
      value_of_tabulate n (orient o x) (λ y. value F g (setting o (orient o rs) y)) (ml_setting o (value F g) (orient o rs) (M.ml_value F L g)) (length_orient o x ∙ e) ∙ ap (value F g) (setting_orient o rs x)

  ml_over : (D : List (List E)) (h : List E → List E → E) → ((x : List E) → Multilinear F (h x)) → Multilinear F (λ b. over F D (λ x. h x b))
  unfolding over
  ml_over [] h mh = M.ml_const F L 𝟘
  ml_over (x ∷ D) h mh = M.ml_add F L (h x) (λ b. over F D (λ y. h y b)) (mh x) (ml_over D h mh)

  -- a right row, evaluated at the draws, is the position's value of the folded table
  pub row_folded : (o : VariableOrder) (k : ℕ) (g point rs : List E) → length rs ≡ k → value F (row F o k g point) (orient o rs) ≡ position F (folded F o (length point) g rs) point
  unfolding row position folded tabulate
  row_folded o k g point rs e =
      let C = corners F (length point) in
      let w = select F point in
      let entry : List E → E = λ b. over F C (λ x. w x ⊗ value F g (setting o b x)) in
      ap (λ t. value F t (orient o rs)) (ap (λ f. map f (corners F k)) (fun_ext (λ b. S.dot_over F L C w (λ x. value F g (setting o b x)))))
      ∙ value_of_tabulate k (orient o rs) entry (ml_over C (λ x b. w x ⊗ value F g (setting o b x)) (λ x. M.ml_scale F L (w x) (λ b. value F g (setting o b x)) (ml_bound o (value F g) x (M.ml_value F L g)))) (length_orient o rs ∙ e)
      ∙ sym (S.dot_over F L C w (λ x. value F g (setting o (orient o rs) x)))

  pub fold_view : (o : VariableOrder) (g rs x : List E) → view F o (folded F o (length x) g rs) x ≡ view F o g (rs ++ x)
  fold_view o g rs x = view_folded o (length x) g rs x refl

  pub row_position : (o : VariableOrder) (g q rs : List E) → value F (row F o (length rs) g q) (orient o rs) ≡ position F (folded F o (length q) g rs) q
  row_position o g q rs = row_folded o (length rs) g q rs refl
