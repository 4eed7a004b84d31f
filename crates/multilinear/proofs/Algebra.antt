-- Identities of a commutative ring, under the names that the proofs of this crate use.
use Rattle.std.proofs.Common.{◌≡◌, [], ◌∷◌}
use Rattle.ring.specs.Ring.{Ops, IsRing}
use Rattle.ring.proofs.Solve.{O, I, ◌⊕◌, ◌⊖◌, ◌⊗◌, v0, v1, v2, v3, v4, v5, v6, ring, ring_by}

module _ {E : Type 0} (F : Ops E) (L : IsRing F) where
  pub comm : (a b : E) → F.add a b ≡ F.add b a
  comm = L.add_comm

  pub assoc : (a b c : E) → F.add (F.add a b) c ≡ F.add a (F.add b c)
  assoc = L.add_assoc

  pub mcomm : (a b : E) → F.mul a b ≡ F.mul b a
  mcomm = L.mul_comm

  pub massoc : (a b c : E) → F.mul (F.mul a b) c ≡ F.mul a (F.mul b c)
  massoc = L.mul_assoc

  pub add-zero : (a : E) → F.add a F.zero ≡ a
  add-zero = L.add-zero

  pub zero-add : (a : E) → F.add F.zero a ≡ a
  zero-add a = ring L (a ∷ []) (O ⊕ v0) v0 tt

  pub mul-one : (a : E) → F.mul a F.one ≡ a
  mul-one = L.mul-one

  pub one-mul : (a : E) → F.mul F.one a ≡ a
  one-mul a = ring L (a ∷ []) (I ⊗ v0) v0 tt

  pub mul-zero : (a : E) → F.mul a F.zero ≡ F.zero
  mul-zero a = ring L (a ∷ []) (v0 ⊗ O) O tt

  pub zero-mul : (a : E) → F.mul F.zero a ≡ F.zero
  zero-mul a = ring L (a ∷ []) (O ⊗ v0) O tt

  pub dist : (a b c : E) → F.mul a (F.add b c) ≡ F.add (F.mul a b) (F.mul a c)
  dist = L.mul-add

  pub distr : (a b c : E) → F.mul (F.add a b) c ≡ F.add (F.mul a c) (F.mul b c)
  distr a b c = ring L (a ∷ b ∷ c ∷ []) ((v0 ⊕ v1) ⊗ v2) (v0 ⊗ v2 ⊕ v1 ⊗ v2) tt

  -- differences
  pub sub_add : (a b : E) → F.add (F.sub a b) b ≡ a
  sub_add = L.sub_add

  pub cancel : (a b c : E) → F.add a c ≡ F.add b c → a ≡ b
  cancel a b c h = ring_by L (a ∷ b ∷ c ∷ []) v0 v1 I (v0 ⊕ v2) (v1 ⊕ v2) h tt

  pub sub_unique : (a b x : E) → F.add x b ≡ a → F.sub a b ≡ x
  sub_unique a b x h = ring_by L (a ∷ b ∷ x ∷ []) (v0 ⊖ v1) v2 (O ⊖ I) (v2 ⊕ v1) v0 h tt

  pub sub_self : (a : E) → F.sub a a ≡ F.zero
  sub_self a = ring L (a ∷ []) (v0 ⊖ v0) O tt

  pub sub_eq : (a b : E) → F.sub a b ≡ F.zero → a ≡ b
  sub_eq a b h = ring_by L (a ∷ b ∷ []) v0 v1 I (v0 ⊖ v1) O h tt

  pub swap4 : (a b c d : E) → F.add (F.add a b) (F.add c d) ≡ F.add (F.add a c) (F.add b d)
  swap4 a b c d = ring L (a ∷ b ∷ c ∷ d ∷ []) ((v0 ⊕ v1) ⊕ (v2 ⊕ v3)) ((v0 ⊕ v2) ⊕ (v1 ⊕ v3)) tt

  -- lines: c = c + r·0, and what is added to a line, scales it or runs along it
  pub line_still : (c r : E) → c ≡ F.add c (F.mul r F.zero)
  line_still c r = ring L (c ∷ r ∷ []) v0 (v0 ⊕ v1 ⊗ O) tt

  pub line_add : (a d b e r : E) → F.add (F.add a (F.mul r d)) (F.add b (F.mul r e)) ≡ F.add (F.add a b) (F.mul r (F.add d e))
  line_add a d b e r = ring L (a ∷ d ∷ b ∷ e ∷ r ∷ []) ((v0 ⊕ v4 ⊗ v1) ⊕ (v2 ⊕ v4 ⊗ v3)) ((v0 ⊕ v2) ⊕ v4 ⊗ (v1 ⊕ v3)) tt

  pub line_scale : (c a d r : E) → F.mul c (F.add a (F.mul r d)) ≡ F.add (F.mul c a) (F.mul r (F.mul c d))
  line_scale c a d r = ring L (c ∷ a ∷ d ∷ r ∷ []) (v0 ⊗ (v1 ⊕ v3 ⊗ v2)) (v0 ⊗ v1 ⊕ v3 ⊗ (v0 ⊗ v2)) tt

  pub line_times : (a d r s : E) → F.mul (F.add a (F.mul r d)) s ≡ F.add (F.mul a s) (F.mul r (F.mul d s))
  line_times a d r s = ring L (a ∷ d ∷ r ∷ s ∷ []) ((v0 ⊕ v2 ⊗ v1) ⊗ v3) (v0 ⊗ v3 ⊕ v2 ⊗ (v1 ⊗ v3)) tt

  pub line_dot : (a d r v s t : E) → F.add (F.mul (F.add a (F.mul r d)) v) (F.add s (F.mul r t)) ≡ F.add (F.add (F.mul a v) s) (F.mul r (F.add (F.mul d v) t))
  line_dot a d r v s t =
      ring L (a ∷ d ∷ r ∷ v ∷ s ∷ t ∷ []) ((v0 ⊕ v2 ⊗ v1) ⊗ v3 ⊕ (v4 ⊕ v2 ⊗ v5)) ((v0 ⊗ v3 ⊕ v4) ⊕ v2 ⊗ (v1 ⊗ v3 ⊕ v5)) tt

  -- the factors of the two weights, at 0, at 1 and as lines
  pub eq_zero : (p : E) → F.add (F.mul p F.zero) (F.mul (F.sub F.one p) (F.sub F.one F.zero)) ≡ F.sub F.one p
  eq_zero p = ring L (p ∷ []) (v0 ⊗ O ⊕ (I ⊖ v0) ⊗ (I ⊖ O)) (I ⊖ v0) tt

  pub eq_one : (p : E) → F.add (F.mul p F.one) (F.mul (F.sub F.one p) (F.sub F.one F.one)) ≡ p
  eq_one p = ring L (p ∷ []) (v0 ⊗ I ⊕ (I ⊖ v0) ⊗ (I ⊖ I)) v0 tt

  pub eq_line : (p x : E) → F.add (F.mul p x) (F.mul (F.sub F.one p) (F.sub F.one x))
      ≡ F.add (F.add (F.mul p F.zero) (F.mul (F.sub F.one p) (F.sub F.one F.zero))) (F.mul x (F.sub p (F.sub F.one p)))
  eq_line p x = ring L (p ∷ x ∷ []) (v0 ⊗ v1 ⊕ (I ⊖ v0) ⊗ (I ⊖ v1)) ((v0 ⊗ O ⊕ (I ⊖ v0) ⊗ (I ⊖ O)) ⊕ v1 ⊗ (v0 ⊖ (I ⊖ v0))) tt

  pub select_zero : (p : E) → F.add (F.sub F.one F.zero) (F.mul F.zero p) ≡ F.one
  select_zero p = ring L (p ∷ []) ((I ⊖ O) ⊕ O ⊗ v0) I tt

  pub select_one : (p : E) → F.add (F.sub F.one F.one) (F.mul F.one p) ≡ p
  select_one p = ring L (p ∷ []) ((I ⊖ I) ⊕ I ⊗ v0) v0 tt

  pub select_line : (p x : E) → F.add (F.sub F.one x) (F.mul x p) ≡ F.add (F.add (F.sub F.one F.zero) (F.mul F.zero p)) (F.mul x (F.sub p F.one))
  select_line p x = ring L (p ∷ x ∷ []) ((I ⊖ v1) ⊕ v1 ⊗ v0) (((I ⊖ O) ⊕ O ⊗ v0) ⊕ v1 ⊗ (v0 ⊖ I)) tt

  -- between a at 0 and b at 1
  pub mix : (p a b : E) → F.add (F.mul (F.sub F.one p) a) (F.mul p b) ≡ F.add a (F.mul p (F.sub b a))
  mix p a b = ring L (p ∷ a ∷ b ∷ []) ((I ⊖ v0) ⊗ v1 ⊕ v0 ⊗ v2) (v1 ⊕ v0 ⊗ (v2 ⊖ v1)) tt

  pub mix_zero : (a b : E) → F.add (F.mul (F.sub F.one F.zero) a) (F.mul F.zero b) ≡ a
  mix_zero a b = ring L (a ∷ b ∷ []) ((I ⊖ O) ⊗ v0 ⊕ O ⊗ v1) v0 tt

  pub mix_one : (a b : E) → F.add (F.mul (F.sub F.one F.one) a) (F.mul F.one b) ≡ b
  mix_one a b = ring L (a ∷ b ∷ []) ((I ⊖ I) ⊗ v0 ⊕ I ⊗ v1) v1 tt

  pub mix_step : (m r w u v s t : E) → F.add (F.mul w (F.add (F.mul m u) (F.mul r v))) (F.add (F.mul m s) (F.mul r t))
      ≡ F.add (F.mul m (F.add (F.mul w u) s)) (F.mul r (F.add (F.mul w v) t))
  mix_step m r w u v s t =
      ring L (m ∷ r ∷ w ∷ u ∷ v ∷ s ∷ t ∷ []) (v2 ⊗ (v0 ⊗ v3 ⊕ v1 ⊗ v4) ⊕ (v0 ⊗ v5 ⊕ v1 ⊗ v6)) (v0 ⊗ (v2 ⊗ v3 ⊕ v5) ⊕ v1 ⊗ (v2 ⊗ v4 ⊕ v6)) tt

  -- division by X − r: its start, and one more coefficient, at y + r
  pub divide_none : (r y : E) → F.mul (F.add y r) F.zero ≡ F.add (F.mul r F.zero) (F.mul y F.zero)
  divide_none r y = ring L (r ∷ y ∷ []) ((v1 ⊕ v0) ⊗ O) (v0 ⊗ O ⊕ v1 ⊗ O) tt

  pub divide_more : (d r y m s t : E) → F.mul (F.add y r) t ≡ F.add (F.mul r m) (F.mul y s)
      → F.mul (F.add y r) (F.add d (F.mul (F.add y r) t)) ≡ F.add (F.mul r (F.add d (F.mul r m))) (F.mul y (F.add (F.add d (F.mul r m)) (F.mul (F.add y r) s)))
  divide_more d r y m s t h =
      ring_by L (d ∷ r ∷ y ∷ m ∷ s ∷ t ∷ []) ((v2 ⊕ v1) ⊗ (v0 ⊕ (v2 ⊕ v1) ⊗ v5)) (v1 ⊗ (v0 ⊕ v1 ⊗ v3) ⊕ v2 ⊗ ((v0 ⊕ v1 ⊗ v3) ⊕ (v2 ⊕ v1) ⊗ v4)) (v2 ⊕ v1) ((v2 ⊕ v1) ⊗ v5)
      (v1 ⊗ v3 ⊕ v2 ⊗ v4) h tt
