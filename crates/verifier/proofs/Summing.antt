-- What a sum by powers comes to.
use Rattle.std.proofs.Common.{◌≡◌, ℕ, zero, suc, ◌+◌, ◌<◌, ◌≤◌, List, [], ◌∷◌, ◌++◌, map, length, get_or, drop, Option, Some, unwrap_or, sym, refl, ap, ◌∙◌, subst, drop_of_length-le, le_of_suc-le-suc, not-suc-le-zero}
use Rattle.std.specs.List.{AllByRecursion}
use Rattle.multilinear.specs.Tables.{eq}
use Rattle.ring.specs.Ring.{Ops, IsRing}
use Rattle.ring.specs.Polynomials.{value as at}
use Rattle.ring.proofs.Solve.{O, I, ◌⊕◌, ◌⊗◌, v0, v1, v2, v3, v4, ring}
use Rattle.multilinear.proofs.Loops.{front}
use Rattle.verifier.specs.declared.powers.Powers.{Powers}
use Rattle.verifier.specs.Powers.{with, with_all}

module _ {E : Type 0} (F : Ops E) (L : IsRing F) where
  -- the first value, and no value, taken out of a sum; and a sum from nothing and the power 0
  first_out : (s p c v t : E) → F.add (F.add s (F.mul p v)) (F.mul (F.mul p c) t) ≡ F.add s (F.mul p (F.add v (F.mul c t)))
  first_out s p c v t = ring L (s ∷ p ∷ c ∷ v ∷ t ∷ []) ((v0 ⊕ v1 ⊗ v3) ⊕ (v1 ⊗ v2) ⊗ v4) (v0 ⊕ v1 ⊗ (v3 ⊕ v2 ⊗ v4)) tt

  none_out : (s p : E) → s ≡ F.add s (F.mul p F.zero)
  none_out s p = ring L (s ∷ p ∷ []) v0 (v0 ⊕ v1 ⊗ O) tt

  from_one : (t : E) → F.add F.zero (F.mul F.one t) ≡ t
  from_one t = ring L (t ∷ []) (O ⊕ I ⊗ v0) v0 tt

  -- the sum so far, and the values as coefficients at the challenge, from the next power on
  pub sum_is : (s : Powers E) (vs : List E) → (with_all F s vs).sum ≡ F.add s.sum (F.mul s.power (at F vs s.challenge))
  sum_is s [] = none_out s.sum s.power
  sum_is s (v ∷ vs) = sum_is (with F s v) vs ∙ first_out s.sum s.power s.challenge v (at F vs s.challenge)

  -- some values, and then others
  with_both : (s : Powers E) (vs ws : List E) → with_all F (with_all F s vs) ws ≡ with_all F s (vs ++ ws)
  with_both s [] ws = refl
  with_both s (v ∷ vs) ws = with_both (with F s v) vs ws

  -- beside a carried sum a: some values and then others, each by its power of c, from the power 1 on
  pub sum_of_both : (a c : E) (t u : Powers E) (vs ws : List E) → t ≡ with_all F (record { sum = a; power = c; challenge = c }) vs → u ≡ with_all F t ws → u.sum ≡ F.add a (F.mul c (at F (vs ++ ws) c))
  sum_of_both a c t u vs ws first then =
      let start : Powers E = record { sum = a; power = c; challenge = c } in
      ap (λ x. x.sum) (then ∙ ap (λ x. with_all F x ws) first ∙ with_both start vs ws) ∙ sum_is start (vs ++ ws)

  -- from nothing, and the power 0
  pub sum_from_one : (s : Powers E) (vs : List E) (c : E) → s.sum ≡ F.zero → s.power ≡ F.one → s.challenge ≡ c → (with_all F s vs).sum ≡ at F vs c
  sum_from_one s vs c none unit same = sum_is s vs ∙ cc (none, unit, same, from_one (at F vs c))

  -- a value more, of the item at an index: what is left still comes to the same sum
  pub sum_next : {A : Type 0} (f : A → E) (s t : Powers E) (xs : List A) (i : ℕ) (r : A) (v a : E) → i < length xs → r ≡ get_or xs i r → v ≡ f (get_or xs i r) → t ≡ with F s v
      → (with_all F s (map f (drop i xs))).sum ≡ a → (with_all F t (map f (drop (i + 1) xs))).sum ≡ a
  sum_next f s t xs i r v a h at worth is so_far =
      let x = get_or xs i r in
      ap (λ u. (with_all F u (map f (drop (i + 1) xs))).sum) (is ∙ ap (with F s) worth) ∙ sym (ap (λ l. (with_all F s (map f l)).sum) (front xs i x h (ap (get_or xs i) at))) ∙ so_far

  -- past the last nothing is left
  pub sum_end : {A : Type 0} (f : A → E) (s : Powers E) (xs : List A) (i : ℕ) (a : E) → length xs ≤ i → (with_all F s (map f (drop i xs))).sum ≡ a → s.sum ≡ a
  sum_end f s xs i a h so_far = sym (ap (λ l. (with_all F s (map f l)).sum) (drop_of_length-le xs h)) ∙ so_far

-- the weight of a point of as many coordinates
pub weight_is : {E : Type 0} (F : Ops E) (p cs x : List E) (r : Option E) (z v : E) → cs ≡ p → length p ≡ length x → (length cs ≡ length x → r ≡ Some (eq F cs x)) → v ≡ unwrap_or r z → v ≡ eq F p x
weight_is F p cs x r z v there long fits is = is ∙ ap (λ o. unwrap_or o z) (fits (ap length there ∙ long)) ∙ ap (λ l. eq F l x) there

-- what holds of all holds of the one at an index
pub all_at : {X : Type 0} (P : X → Type 0) (xs : List X) (i : ℕ) (x : X) → i < length xs → x ≡ get_or xs i x → AllByRecursion P xs → P x
all_at P [] i x h e all = absurd (not-suc-le-zero h)
all_at P (y ∷ xs) zero x h e all = subst P (sym e) all.0
all_at P (y ∷ xs) (suc i) x h e all = all_at P xs i x (le_of_suc-le-suc h) e all.1
