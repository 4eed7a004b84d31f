-- What a map that keeps the operations keeps of tables.
use Rattle.std.proofs.Common.{◌≡◌, ℕ, zero, suc, ◌^◌, List, [], ◌∷◌, ◌++◌, map, reverse, length, sym, refl, ap, ◌∙◌, ap₂}
use mathlib.Core.Path.{fun_ext}
use mathlib.Core.List.{map-map, reverse-cons}
use lib.ListN.{length-map}
use Rattle.std.proofs.lemmas.List.{map-append}
use Rattle.ring.specs.Ring.{Ops}
use Rattle.field.specs.Extension.{Extension, Extends}
use Rattle.multilinear.specs.declared.order.VariableOrder.{VariableOrder}
use Rattle.multilinear.specs.declared.order.VariableOrder.TheVariants.{Prefix, Suffix}
use Rattle.multilinear.specs.Tables.{orient, setting, corners, product, eq_factor, select_factor, dot, tabulate, value, position, folded, row}
use Rattle.multilinear.specs.Univariate.{pow, expand}
use Rattle.multilinear.specs.Embedding.{EmbeddingKeepsTables}

map_reverse : {A B : Type 0} (φ : A → B) (l : List A) → map φ (reverse l) ≡ reverse (map φ l)
map_reverse φ [] = refl
map_reverse φ (a ∷ l) = ap (map φ) (reverse-cons a l) ∙ map-append φ (reverse l) (a ∷ []) ∙ ap (λ z. z ++ (φ a ∷ [])) (map_reverse φ l) ∙ sym (reverse-cons (φ a) (map φ l))

map_orient : {A B : Type 0} (φ : A → B) (o : VariableOrder) (x : List A) → map φ (orient o x) ≡ orient o (map φ x)
unfolding orient
map_orient φ Prefix x = refl
map_orient φ Suffix x = map_reverse φ x

map_setting : {A B : Type 0} (φ : A → B) (o : VariableOrder) (b x : List A) → map φ (setting o b x) ≡ setting o (map φ b) (map φ x)
unfolding setting
map_setting φ Prefix b x = map-append φ b x
map_setting φ Suffix b x = map-append φ x b

module _ {A B : Type 0} (F : Ops A) (G : Ops B) (E : Extension A B) (H : Extends F G E) where
  abbrev φ : A → B
  φ = E.embed

  map_corners : (n : ℕ) → map (map φ) (corners F n) ≡ corners G n
  unfolding corners
  map_corners zero = refl
  map_corners (suc n) =
      let C = corners F n in
      let half : (a : A) (b : B) → φ a ≡ b → map (map φ) (map (λ x. a ∷ x) C) ≡ map (λ x. b ∷ x) (corners G n) =
      λ a b e. map-map (map φ) (λ x. a ∷ x) C ∙ ap (λ (c : B). map (λ x. c ∷ map φ x) C) e ∙ sym (map-map (λ x. b ∷ x) (map φ) C) ∙ ap (map (λ x. b ∷ x)) (map_corners n) in
      map-append (map φ) (map (λ x. F.zero ∷ x) C) (map (λ x. F.one ∷ x) C) ∙ ap₂ (λ l m. l ++ m) (half F.zero G.zero H.zero) (half F.one G.one H.one)

  map_tabulate : (n : ℕ) (f : List A → A) (f' : List B → B) → ((x : List A) → φ (f x) ≡ f' (map φ x)) → map φ (tabulate F n f) ≡ tabulate G n f'
  unfolding tabulate
  map_tabulate n f f' h = map-map φ f (corners F n) ∙ ap (λ k. map k (corners F n)) (fun_ext h) ∙ sym (map-map f' (map φ) (corners F n)) ∙ ap (map f') (map_corners n)

  map_product : (f : A → A → A) (f' : B → B → B) → ((a b : A) → φ (f a b) ≡ f' (φ a) (φ b)) → (p x : List A) → φ (product F f p x) ≡ product G f' (map φ p) (map φ x)
  unfolding product
  map_product f f' h [] [] = H.one
  map_product f f' h [] (x ∷ xs) = H.one
  map_product f f' h (p ∷ ps) [] = H.one
  map_product f f' h (p ∷ ps) (x ∷ xs) = H.mul (f p x) (product F f ps xs) ∙ ap₂ G.mul (h p x) (map_product f f' h ps xs)

  map_dot : (ws g : List A) → φ (dot F ws g) ≡ dot G (map φ ws) (map φ g)
  unfolding dot
  map_dot [] [] = H.zero
  map_dot [] (v ∷ g) = H.zero
  map_dot (w ∷ ws) [] = H.zero
  map_dot (w ∷ ws) (v ∷ g) = H.add (F.mul w v) (dot F ws g) ∙ ap₂ G.add (H.mul w v) (map_dot ws g)

  co : (a : A) → φ (F.sub F.one a) ≡ G.sub G.one (φ a)
  co a = H.sub F.one a ∙ ap (λ z. G.sub z (φ a)) H.one

  map_eq_factor : (p x : A) → φ (eq_factor F p x) ≡ eq_factor G (φ p) (φ x)
  unfolding eq_factor
  map_eq_factor p x = H.add _ _ ∙ ap₂ G.add (H.mul p x) (H.mul _ _ ∙ ap₂ G.mul (co p) (co x))

  map_select_factor : (p x : A) → φ (select_factor F p x) ≡ select_factor G (φ p) (φ x)
  unfolding select_factor
  map_select_factor p x = H.add _ _ ∙ ap₂ G.add (co x) (H.mul x p)

  -- a table under a weight
  map_weighted : (f : A → A → A) (f' : B → B → B) → ((a b : A) → φ (f a b) ≡ f' (φ a) (φ b)) → (g p : List A)
      → φ (dot F (tabulate F (length p) (product F f p)) g) ≡ dot G (tabulate G (length (map φ p)) (product G f' (map φ p))) (map φ g)
  map_weighted f f' h g p =
      map_dot (tabulate F (length p) (product F f p)) g
      ∙ ap (λ t. dot G t (map φ g)) (map_tabulate (length p) (product F f p) (product G f' (map φ p)) (map_product f f' h p) ∙ ap (λ n. tabulate G n (product G f' (map φ p))) (sym (length-map p φ)))

  map_value : (g p : List A) → φ (value F g p) ≡ value G (map φ g) (map φ p)
  unfolding value
  map_value g p = map_weighted (eq_factor F) (eq_factor G) map_eq_factor g p

  map_position : (g q : List A) → φ (position F g q) ≡ position G (map φ g) (map φ q)
  unfolding position
  map_position g q = map_weighted (select_factor F) (select_factor G) map_select_factor g q

  map_pow : (v : A) (x : ℕ) → φ (pow F v x) ≡ pow G (φ v) x
  unfolding pow
  map_pow v zero = H.one
  map_pow v (suc x) = H.mul v (pow F v x) ∙ ap (G.mul (φ v)) (map_pow v x)

  map_expand : (v : A) (n : ℕ) → map φ (expand F v n) ≡ expand G (φ v) n
  unfolding expand
  map_expand v zero = refl
  map_expand v (suc n) = ap₂ (λ a l. a ∷ l) (map_pow v (2 ^ n)) (map_expand v n)

  at_setting : (o : VariableOrder) (g b x : List A) → φ (value F g (setting o b x)) ≡ value G (map φ g) (setting o (map φ b) (map φ x))
  at_setting o g b x = map_value g (setting o b x) ∙ ap (value G (map φ g)) (map_setting φ o b x)

  map_folded : (o : VariableOrder) (n : ℕ) (g rs : List A) → map φ (folded F o n g rs) ≡ folded G o n (map φ g) (map φ rs)
  unfolding folded
  map_folded o n g rs =
      map_tabulate n (λ x. value F g (setting o (orient o rs) x)) (λ x. value G (map φ g) (setting o (orient o (map φ rs)) x))
      (λ x. at_setting o g (orient o rs) x ∙ ap (λ b. value G (map φ g) (setting o b (map φ x))) (map_orient φ o rs))

  map_row : (o : VariableOrder) (k : ℕ) (g q : List A) → map φ (row F o k g q) ≡ row G o k (map φ g) (map φ q)
  unfolding row
  map_row o k g q =
      map_tabulate k (λ b. position F (tabulate F (length q) (λ x. value F g (setting o b x))) q)
      (λ b. position G (tabulate G (length (map φ q)) (λ x. value G (map φ g) (setting o b x))) (map φ q))
      (λ b. map_position (tabulate F (length q) (λ x. value F g (setting o b x))) q
      ∙ ap (λ t. position G t (map φ q)) (map_tabulate (length q) (λ x. value F g (setting o b x)) (λ x. value G (map φ g) (setting o (map φ b) x)) (at_setting o g b)
      ∙ ap (λ n. tabulate G n (λ x. value G (map φ g) (setting o (map φ b) x))) (sym (length-map q φ))))

  pub keeps_tables : EmbeddingKeepsTables F G φ
  keeps_tables = record { values = map_value; positions = map_position; expansions = map_expand; folds = map_folded; rows = map_row }
