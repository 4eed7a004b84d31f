-- The steps of a sumcheck.
use Rattle.std.proofs.Common.{◌≡◌, ℕ, suc, ◌⊎◌, List, [], ◌∷◌, ◌++◌, length, sym, refl, ap, ◌∙◌, ap₂, inl, inr}
use mathlib.Core.Path.{fun_ext}
use Rattle.ring.specs.Ring.{Ops, IsRing}
use Rattle.field.specs.Laws.{IsField}
use Rattle.multilinear.specs.Tables.{cube}
use Rattle.ring.specs.Polynomials.{value as at, Zero, minus}
use Rattle.multilinear.specs.Laws.{Multilinear}
use Rattle.multilinear.proofs.Sums as S
use Rattle.multilinear.proofs.Linear as M
use Rattle.ring.proofs.Roots.{same_or_root}
use Rattle.argument.specs.Roots.{Any, Root}
use Rattle.argument.specs.Sumcheck.{Step, draws, before, here, later, message, after, rise, true0, true1, true2, true_message, TrueSteps, MessageRoot}
use Rattle.argument.proofs.Identities as I
use Rattle.argument.proofs.Members as Q

pub length_draws : {E : Type 0} (ss : List (Step E)) (x : List E) → length (draws ss ++ x) ≡ before ss (length x)
length_draws [] x = refl
length_draws (s ∷ ss) x = ap suc (length_draws ss x)

module _ {E : Type 0} (F : Ops E) (K : IsField F) where
  open F use {zero as 𝟘, one as 𝟙, add as ◌⊕◌, sub as ◌⊖◌, mul as ◌⊗◌}

  infixl 60 ◌⊕◌
  infixl 60 ◌⊖◌
  infixl 70 ◌⊗◌
  L : IsRing F
  L = K.ring

  -- two polynomials with equally many coefficients that agree at x are one, or x is a root of their difference
  pub equal_or_root : (p q : List E) (x : E) → length p ≡ length q → at F p x ≡ at F q x → (p ≡ q) ⊎ Root F (minus F p q) x
  equal_or_root p q x l e =
      elim (same_or_root K.ring K.decide p q x l e) [
        | inl s ↦ inl s
        | inr r ↦ inr (record { nonzero = some r.0; vanishes = r.1 })
      ]
    where
      some : (r : ¬ Zero F (minus F p q)) → Any (λ c. ¬ (c ≡ 𝟘)) (minus F p q)
      some r = elim (Q.all_or_any (λ c. c ≡ 𝟘) (λ c. K.decide c 𝟘) (minus F p q)) [ inl z ↦ absurd (r z) | inr a ↦ a ]

  -- the true message at r is the sum with the variable bound at r
  pub true_at : (n : ℕ) (W g : List E → E) → Multilinear F W → Multilinear F g → (r : E) → at F (true_message F n W g) r ≡ cube F n (λ x. W (r ∷ x) ⊗ g (r ∷ x))
  true_at n W g mW mg r =
      let zeros : cube F n (λ x. 𝟘) ≡ 𝟘 = S.cube_nothing F L n in
      sym (ap (cube F n) (fun_ext (λ x. ap₂ (λ a b. a ⊗ b) (M.at_first F L W mW r x) (M.at_first F L g mg r x) ∙ I.lines F L (W (𝟘 ∷ x)) (rise F W x) (g (𝟘 ∷ x)) (rise F g x) r))
      ∙ S.cube_add F L n (λ x. W (𝟘 ∷ x) ⊗ g (𝟘 ∷ x)) (λ x. r ⊗ ((W (𝟘 ∷ x) ⊗ rise F g x ⊕ rise F W x ⊗ g (𝟘 ∷ x)) ⊕ r ⊗ (rise F W x ⊗ rise F g x ⊕ r ⊗ 𝟘)))
      ∙ ap (λ z. true0 F n W g ⊕ z) (
      S.cube_scale F L n r (λ x. (W (𝟘 ∷ x) ⊗ rise F g x ⊕ rise F W x ⊗ g (𝟘 ∷ x)) ⊕ r ⊗ (rise F W x ⊗ rise F g x ⊕ r ⊗ 𝟘))
      ∙ ap (λ z. r ⊗ z) (
      S.cube_add F L n (λ x. W (𝟘 ∷ x) ⊗ rise F g x ⊕ rise F W x ⊗ g (𝟘 ∷ x)) (λ x. r ⊗ (rise F W x ⊗ rise F g x ⊕ r ⊗ 𝟘))
      ∙ ap (λ z. true1 F n W g ⊕ z) (
      S.cube_scale F L n r (λ x. rise F W x ⊗ rise F g x ⊕ r ⊗ 𝟘)
      ∙ ap (λ z. r ⊗ z) (S.cube_add F L n (λ x. rise F W x ⊗ rise F g x) (λ x. r ⊗ 𝟘) ∙ ap (λ z. true2 F n W g ⊕ z) (S.cube_scale F L n r (λ x. 𝟘) ∙ ap (λ z. r ⊗ z) zeros))))))

  -- and its values at 0 and 1 add up to the whole sum
  pub true_ends : (n : ℕ) (W g : List E → E) → Multilinear F W → Multilinear F g → true0 F n W g ⊕ (true0 F n W g ⊕ (true1 F n W g ⊕ true2 F n W g)) ≡ cube F (suc n) (λ x. W x ⊗ g x)
  true_ends n W g mW mg =
      ap (λ z. true0 F n W g ⊕ z) (sym (I.at_one F L (true0 F n W g) (true1 F n W g) (true2 F n W g)) ∙ true_at n W g mW mg 𝟙) ∙ sym (S.cube_suc F L n (λ x. W x ⊗ g x))

  spread : List E → E
  spread [] = 𝟘
  spread (a ∷ []) = a
  spread (a ∷ b ∷ []) = 𝟘
  spread (a ∷ b ∷ c ∷ t) = a ⊕ (a ⊕ (b ⊕ c))

  -- so a message that is the true one has the true claim
  settled : (n : ℕ) (W g : List E → E) → Multilinear F W → Multilinear F g → (h0 h2 c : E) → message F h0 h2 c ≡ true_message F n W g → c ≡ cube F (suc n) (λ x. W x ⊗ g x)
  unfolding spread
  settled n W g mW mg h0 h2 c e = sym (I.ends F L c h0 h2) ∙ ap spread e ∙ true_ends n W g mW mg

  -- one step
  step_sound : (n : ℕ) (W g : List E → E) → Multilinear F W → Multilinear F g → (h0 h2 c r : E)
      → at F (message F h0 h2 c) r ≡ cube F n (λ x. W (r ∷ x) ⊗ g (r ∷ x))
      → (c ≡ cube F (suc n) (λ x. W x ⊗ g x)) ⊎ Root F (minus F (message F h0 h2 c) (true_message F n W g)) r
  step_sound n W g mW mg h0 h2 c r h =
      elim (equal_or_root (message F h0 h2 c) (true_message F n W g) r refl (h ∙ sym (true_at n W g mW mg r))) [
        | inl e ↦ inl (settled n W g mW mg h0 h2 c e)
        | inr x ↦ inr x
      ]

  one_more : (s : Step E) (ss : List (Step E)) (n : ℕ) (W g : List E → E) (c : E) → Multilinear F W → Multilinear F g
      → (at F (message F s.h0 s.h2 c) s.r ≡ cube F (before ss n) (λ x. W (s.r ∷ x) ⊗ g (s.r ∷ x))) ⊎ MessageRoot F ss n (λ x. W (s.r ∷ x)) (λ x. g (s.r ∷ x)) (at F (message F s.h0 s.h2 c) s.r)
      → (c ≡ cube F (suc (before ss n)) (λ x. W x ⊗ g x)) ⊎ MessageRoot F (s ∷ ss) n W g c
  one_more s ss n W g c mW mg (inl h) = elim (step_sound (before ss n) W g mW mg s.h0 s.h2 c s.r h) [ inl e ↦ inl e | inr x ↦ inr (here x) ]
  one_more s ss n W g c mW mg (inr b) = inr (later b)

  -- all steps of a sumcheck
  pub steps_sound : (ss : List (Step E)) (n : ℕ) (W g : List E → E) (c : E) → Multilinear F W → Multilinear F g
      → after F c ss ≡ cube F n (λ x. W (draws ss ++ x) ⊗ g (draws ss ++ x))
      → (c ≡ cube F (before ss n) (λ x. W x ⊗ g x)) ⊎ MessageRoot F ss n W g c
  steps_sound [] n W g c mW mg h = inl h
  steps_sound (s ∷ ss) n W g c mW mg h =
      one_more s ss n W g c mW mg (steps_sound ss n (λ x. W (s.r ∷ x)) (λ x. g (s.r ∷ x)) (at F (message F s.h0 s.h2 c) s.r) (M.ml_bind F L W s.r mW) (M.ml_bind F L g s.r mg) h)

  -- a true claim and true coefficients make the true message
  told : (n : ℕ) (W g : List E → E) (c h0 h2 : E) → Multilinear F W → Multilinear F g → c ≡ cube F (suc n) (λ x. W x ⊗ g x) → h0 ≡ true0 F n W g → h2 ≡ true2 F n W g → message F h0 h2 c ≡ true_message F n W g
  told n W g c h0 h2 mW mg h e0 e2 =
      ap₂ (λ a d. message F a d c) e0 e2
      ∙ ap (λ b. true0 F n W g ∷ b ∷ true2 F n W g ∷ []) (I.middle F L c (true0 F n W g) (true1 F n W g) (true2 F n W g) (true_ends n W g mW mg ∙ sym h))

  pub steps_complete : (ss : List (Step E)) (n : ℕ) (W g : List E → E) (c : E) → Multilinear F W → Multilinear F g
      → TrueSteps F ss n W g → c ≡ cube F (before ss n) (λ x. W x ⊗ g x) → after F c ss ≡ cube F n (λ x. W (draws ss ++ x) ⊗ g (draws ss ++ x))
  steps_complete [] n W g c mW mg t h = h
  steps_complete (s ∷ ss) n W g c mW mg t h =
      steps_complete ss n (λ x. W (s.r ∷ x)) (λ x. g (s.r ∷ x)) (at F (message F s.h0 s.h2 c) s.r) (M.ml_bind F L W s.r mW) (M.ml_bind F L g s.r mg) t.rest
      (ap (λ p. at F p s.r) (told (before ss n) W g c s.h0 s.h2 mW mg h t.first t.last) ∙ true_at (before ss n) W g mW mg s.r)
