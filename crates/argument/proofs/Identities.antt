-- Identities of a sumcheck message, in any commutative ring.
use Rattle.std.proofs.Common.{◌≡◌, [], ◌∷◌}
use Rattle.ring.specs.Ring.{Ops, IsRing}
use Rattle.ring.proofs.Solve.{O, I, ◌⊕◌, ◌⊖◌, ◌⊗◌, v0, v1, v2, v3, v4, ring, ring_by}

module _ {E : Type 0} (F : Ops E) (L : IsRing F) where
  -- the product of two lines, by the powers of r
  pub lines : (a d u e r : E) → F.mul (F.add a (F.mul r d)) (F.add u (F.mul r e))
      ≡ F.add (F.mul a u) (F.mul r (F.add (F.add (F.mul a e) (F.mul d u)) (F.mul r (F.add (F.mul d e) (F.mul r F.zero)))))
  lines a d u e r =
      ring L (a ∷ d ∷ u ∷ e ∷ r ∷ []) ((v0 ⊕ v4 ⊗ v1) ⊗ (v2 ⊕ v4 ⊗ v3)) (v0 ⊗ v2 ⊕ v4 ⊗ ((v0 ⊗ v3 ⊕ v1 ⊗ v2) ⊕ v4 ⊗ (v1 ⊗ v3 ⊕ v4 ⊗ O))) tt

  -- a polynomial of degree 2 at 1
  pub at_one : (a b d : E) → F.add a (F.mul F.one (F.add b (F.mul F.one (F.add d (F.mul F.one F.zero))))) ≡ F.add a (F.add b d)
  at_one a b d = ring L (a ∷ b ∷ d ∷ []) (v0 ⊕ I ⊗ (v1 ⊕ I ⊗ (v2 ⊕ I ⊗ O))) (v0 ⊕ (v1 ⊕ v2)) tt

  -- a message's values at 0 and 1 add up to the claim
  pub ends : (c h0 h2 : E) → F.add h0 (F.add h0 (F.add (F.sub (F.sub c (F.add h0 h0)) h2) h2)) ≡ c
  ends c h0 h2 = ring L (c ∷ h0 ∷ h2 ∷ []) (v1 ⊕ (v1 ⊕ (((v0 ⊖ (v1 ⊕ v1)) ⊖ v2) ⊕ v2))) v0 tt

  -- and settle the middle coefficient
  pub middle : (c a b d : E) → F.add a (F.add a (F.add b d)) ≡ c → F.sub (F.sub c (F.add a a)) d ≡ b
  middle c a b d h = ring_by L (c ∷ a ∷ b ∷ d ∷ []) ((v0 ⊖ (v1 ⊕ v1)) ⊖ v3) v2 (O ⊖ I) (v1 ⊕ (v1 ⊕ (v2 ⊕ v3))) v0 h tt

  -- Horner's rule at three coefficients
  pub horner : (a b d r : E) → F.add a (F.mul r (F.add b (F.mul r d))) ≡ F.add a (F.mul r (F.add b (F.mul r (F.add d (F.mul r F.zero)))))
  horner a b d r = ring L (a ∷ b ∷ d ∷ r ∷ []) (v0 ⊕ v3 ⊗ (v1 ⊕ v3 ⊗ v2)) (v0 ⊕ v3 ⊗ (v1 ⊕ v3 ⊗ (v2 ⊕ v3 ⊗ O))) tt
