-- A table's value, one variable at a time: what a buffer of values does.
use Rattle.std.proofs.Common.{◌≡◌, suc, ◌^◌, List, [], ◌∷◌, ◌++◌, length, sym, refl, ap, ◌∙◌, ap₂, arith}
use Rattle.ring.specs.Ring.{Ops, IsRing}
use Rattle.multilinear.specs.Tables.{corners, product, dot, tabulate, eq, value}
use Rattle.multilinear.specs.Weights.{weighted}
use Rattle.multilinear.specs.Scratch.{mixed}
use Rattle.multilinear.proofs.Algebra as A
use Rattle.multilinear.proofs.Corners as C

module _ {E : Type 0} (F : Ops E) (L : IsRing F) where
  open F use {zero as 𝟘, one as 𝟙, add as ◌⊕◌, sub as ◌⊖◌, mul as ◌⊗◌}

  infixl 60 ◌⊕◌
  infixl 60 ◌⊖◌
  infixl 70 ◌⊗◌
  zeros : (m r : E) → 𝟘 ≡ m ⊗ 𝟘 ⊕ r ⊗ 𝟘
  zeros m r = simp (A.mul-zero F L, A.add-zero F L)

  dot_mixed : (ws : List E) (r : E) (a b : List E) → length a ≡ length b → dot F ws (mixed F r a b) ≡ (𝟙 ⊖ r) ⊗ dot F ws a ⊕ r ⊗ dot F ws b
  unfolding dot mixed
  dot_mixed [] r [] [] h = zeros (𝟙 ⊖ r) r
  dot_mixed [] r [] (v ∷ b) h = zeros (𝟙 ⊖ r) r
  dot_mixed [] r (u ∷ a) [] h = zeros (𝟙 ⊖ r) r
  dot_mixed [] r (u ∷ a) (v ∷ b) h = zeros (𝟙 ⊖ r) r
  dot_mixed (w ∷ ws) r [] [] h = zeros (𝟙 ⊖ r) r
  dot_mixed (w ∷ ws) r [] (v ∷ b) h = absurd (C.none_left F L (length b) (sym h))
  dot_mixed (w ∷ ws) r (u ∷ a) [] h = absurd (C.none_left F L (length a) h)
  dot_mixed (w ∷ ws) r (u ∷ a) (v ∷ b) h =
      ap₂ (λ x y. w ⊗ x ⊕ y) (sym (A.mix F L r u v)) (dot_mixed ws r a b (omega arith)) ∙ A.mix_step F L (𝟙 ⊖ r) r w u v (dot F ws a) (dot F ws b)

  -- the value at r, ps of two halves is the value at ps of the halves mixed
  pub value_mixed : (r : E) (ps a b : List E) → length a ≡ 2 ^ length ps → length b ≡ 2 ^ length ps → value F (a ++ b) (r ∷ ps) ≡ value F (mixed F r a b) ps
  value_mixed r ps a b ha hb = C.value_halves F L r ps a b ha ∙ sym (unfold value in dot_mixed (tabulate F (length ps) (eq F ps)) r a b (ha ∙ sym hb))

  pub weighted_one : (f : E → E → E) (v : E) (g : List E) → weighted F f (v ∷ g) [] ≡ v
  unfolding weighted tabulate corners dot product
  weighted_one f v [] = A.add-zero F L (𝟙 ⊗ v) ∙ A.one-mul F L v
  weighted_one f v (w ∷ g) = A.add-zero F L (𝟙 ⊗ v) ∙ A.one-mul F L v

  pub length_mixed : (r : E) (a b : List E) → length a ≡ length b → length (mixed F r a b) ≡ length a
  unfolding mixed
  length_mixed r [] [] h = refl
  length_mixed r [] (v ∷ b) h = refl
  length_mixed r (u ∷ a) [] h = absurd (C.none_left F L (length a) h)
  length_mixed r (u ∷ a) (v ∷ b) h = ap suc (length_mixed r a b (omega arith))

  pub mixed_push : (r : E) (a b : List E) (u v : E) → length a ≡ length b → mixed F r (a ++ (u ∷ [])) (b ++ (v ∷ [])) ≡ mixed F r a b ++ ((u ⊕ r ⊗ (v ⊖ u)) ∷ [])
  unfolding mixed
  mixed_push r [] [] u v h = refl
  mixed_push r [] (y ∷ b) u v h = absurd (C.none_left F L (length b) (sym h))
  mixed_push r (x ∷ a) [] u v h = absurd (C.none_left F L (length a) h)
  mixed_push r (x ∷ a) (y ∷ b) u v h = ap (λ l. (x ⊕ r ⊗ (y ⊖ x)) ∷ l) (mixed_push r a b u v (omega arith))
