-- The pairs over a field are a field. Assumes nothing.
use Rattle.std.specs.Prelude.{◌≡◌, ◌↔◌, ◌⊎◌, Bool, true, false, ◌&&◌, [], ◌∷◌, refl}
use Rattle.std.specs.Cmp.Derive.{both_true}
use Rattle.std.proofs.lemmas.Bool.{both_ways}
use Rattle.std.proofs.Common.{ap, inl, inr, ⊎_elim}
use Rattle.ring.specs.Ring.{Ops, IsRing}
use Rattle.ring.proofs.Basic.{eq_of_sub}
use Rattle.ring.proofs.Solve.{Expr, O, I, ◌⊕◌, ◌⊖◌, ◌⊗◌, ring, ring_from, by, v0, v1, v2, v3, v4, v5, v6}
use Rattle.field.specs.declared.pair.Pair.{Pair}
use Rattle.field.specs.Laws.{IsField}
use Rattle.field.specs.Tower.{pair_ops}

pub pair_path : {A : Type 0} {x y : Pair A} → x.a ≡ y.a → x.b ≡ y.b → x ≡ y
pair_path p q = λ j. record { a = p j; b = q j }

-- the two coordinates of a product, as expressions
abbrev re : Expr → Expr → Expr → Expr → Expr → Expr
re s a b c d = a ⊗ c ⊕ s ⊗ (b ⊗ d)

abbrev im : Expr → Expr → Expr → Expr → Expr
im a b c d = a ⊗ d ⊕ b ⊗ c

abbrev nm : Expr → Expr → Expr → Expr
nm s a b = a ⊗ a ⊖ s ⊗ (b ⊗ b)

abbrev pub norm : {A : Type 0} → Ops A → Pair A → A
norm o x = o.sub (o.mul x.a x.a) (o.mul o.s (o.mul x.b x.b))

module _ {A : Type 0} {o : Ops A} where
  pub pair_ring : IsRing o → IsRing (pair_ops o)
  pair_ring L = record {
    add_assoc = λ x y z. pair_path (L.add_assoc _ _ _) (L.add_assoc _ _ _);
    add_comm = λ x y. pair_path (L.add_comm _ _) (L.add_comm _ _);
    add-zero = λ x. pair_path (L.add-zero _) (L.add-zero _);
    sub_add = λ x y. pair_path (L.sub_add _ _) (L.sub_add _ _);
    mul_assoc = λ x y z.
        let ρ = o.s ∷ x.a ∷ x.b ∷ y.a ∷ y.b ∷ z.a ∷ z.b ∷ [] in
        pair_path
        (ring L ρ (re v0 (re v0 v1 v2 v3 v4) (im v1 v2 v3 v4) v5 v6) (re v0 v1 v2 (re v0 v3 v4 v5 v6) (im v3 v4 v5 v6)) tt)
        (ring L ρ (im (re v0 v1 v2 v3 v4) (im v1 v2 v3 v4) v5 v6) (im v1 v2 (re v0 v3 v4 v5 v6) (im v3 v4 v5 v6)) tt);
    mul_comm = λ x y.
        let ρ = o.s ∷ x.a ∷ x.b ∷ y.a ∷ y.b ∷ [] in
        pair_path (ring L ρ (re v0 v1 v2 v3 v4) (re v0 v3 v4 v1 v2) tt) (ring L ρ (im v1 v2 v3 v4) (im v3 v4 v1 v2) tt);
    mul-one = λ x.
        let ρ = o.s ∷ x.a ∷ x.b ∷ [] in
        pair_path (ring L ρ (re v0 v1 v2 I O) v1 tt) (ring L ρ (im v1 v2 I O) v2 tt);
    mul-add = λ x y z.
        let ρ = o.s ∷ x.a ∷ x.b ∷ y.a ∷ y.b ∷ z.a ∷ z.b ∷ [] in
        pair_path
        (ring L ρ (re v0 v1 v2 (v3 ⊕ v5) (v4 ⊕ v6)) (re v0 v1 v2 v3 v4 ⊕ re v0 v1 v2 v5 v6) tt)
        (ring L ρ (im v1 v2 (v3 ⊕ v5) (v4 ⊕ v6)) (im v1 v2 v3 v4 ⊕ im v1 v2 v5 v6) tt);
  }

  pub norm_zero : IsField o → (x : Pair A) → norm o x ≡ o.zero → x ≡ (pair_ops o).zero
  norm_zero F x e =
      let both = F.nonresidue x.a x.b (eq_of_sub F.ring _ _ e) in
      pair_path both.0 both.1

  no_divisors : IsField o → (x y : Pair A) → (pair_ops o).mul x y ≡ (pair_ops o).zero → (x ≡ (pair_ops o).zero) ⊎ (y ≡ (pair_ops o).zero)
  no_divisors F x y e =
      let L = F.ring in
      let ρ = o.s ∷ x.a ∷ x.b ∷ y.a ∷ y.b ∷ [] in
      let r = re v0 v1 v2 v3 v4 in
      let m = im v1 v2 v3 v4 in
      let product : o.mul (norm o x) (norm o y) ≡ o.zero =
      ring_from L ρ (nm v0 v1 v2 ⊗ nm v0 v3 v4) O (by L r r O (ap (λ p. p.a) e) ∷ by L (O ⊖ v0 ⊗ m) m O (ap (λ p. p.b) e) ∷ []) tt in
      ⊎_elim (λ p. inl (norm_zero F x p)) (λ p. inr (norm_zero F y p)) (F.no_divisors (norm o x) (norm o y) product)

  nonresidue : IsField o → (x y : Pair A) → (pair_ops o).mul x x ≡ (pair_ops o).mul (pair_ops o).s ((pair_ops o).mul y y) →
      (x ≡ (pair_ops o).zero) × (y ≡ (pair_ops o).zero)
  nonresidue F x y e =
      let L = F.ring in
      let ρ = o.s ∷ x.a ∷ x.b ∷ y.a ∷ y.b ∷ o.i ∷ [] in
      let U = re v0 v1 v2 v1 v2 in
      let W = im v1 v2 v1 v2 in
      let P = re v0 v3 v4 v3 v4 in
      let Q = im v3 v4 v3 v4 in
      let V = re v0 O I P Q in
      let Z = im O I P Q in
      let N = nm v0 v3 v4 in
      let squares : o.mul (norm o x) (norm o x) ≡ o.mul o.s (o.mul (o.mul o.i (norm o y)) (o.mul o.i (norm o y))) =
      ring_from L ρ (nm v0 v1 v2 ⊗ nm v0 v1 v2) (v0 ⊗ ((v5 ⊗ N) ⊗ (v5 ⊗ N)))
      (by L (U ⊕ V) U V (ap (λ p. p.a) e) ∷ by L (O ⊖ v0 ⊗ (W ⊕ Z)) W Z (ap (λ p. p.b) e) ∷ by L (O ⊖ v0 ⊗ (N ⊗ N)) (v5 ⊗ v5) (O ⊖ I) F.imaginary ∷ []) tt in
      let zeros = F.nonresidue (norm o x) (o.mul o.i (norm o y)) squares in
      let ny : norm o y ≡ o.zero =
      ring_from L ρ N O (by L (O ⊖ v5) (v5 ⊗ N) O zeros.1 ∷ by L N (v5 ⊗ v5) (O ⊖ I) F.imaginary ∷ []) tt in
      (norm_zero F x zeros.0, norm_zero F y ny)

  decide : IsField o → (x y : Pair A) → Dec (x ≡ y)
  decide F x y = both (F.decide x.a y.a) (F.decide x.b y.b)
    where
      both : Dec (x.a ≡ y.a) → Dec (x.b ≡ y.b) → Dec (x ≡ y)
      both (yes p) (yes q) = yes (pair_path p q)
      both (yes p) (no q) = no (λ e. q (ap (λ w. w.b) e))
      both (no p) d = no (λ e. p (ap (λ w. w.a) e))

  pub pair_field : IsField o → IsField (pair_ops o)
  pair_field F = record {
    ring = pair_ring F.ring;
    one_not_zero = λ e. F.one_not_zero (ap (λ p. p.a) e);
    no_divisors = no_divisors F;
    nonresidue = nonresidue F;
    imaginary =
        let L = F.ring in
        let ρ = o.s ∷ o.i ∷ [] in
        pair_path (ring_from L ρ (re v0 v1 O v1 O) (O ⊖ I) (by L I (v1 ⊗ v1) (O ⊖ I) F.imaginary ∷ []) tt) (ring L ρ (im v1 O v1 O) (O ⊖ O) tt);
    decide = decide F;
  }

-- pairs are equal where both of their elements are
pub pair_same : {A : Type 0} (eq : A → A → Bool) → ((x y : A) → (eq x y ≡ true) ↔ (x ≡ y)) → (x y : Pair A) →
    ((eq x.a y.a && eq x.b y.b) ≡ true) ↔ (x ≡ y)
pair_same eq same x y = (
  λ e. let both = and_true (eq x.a y.a) (eq x.b y.b) e in pair_path ((same x.a y.a).0 both.0) ((same x.b y.b).0 both.1),
  λ e. both_true ((same x.a y.a).1 (ap (λ p. p.a) e)) ((same x.b y.b).1 (ap (λ p. p.b) e)),
)
  where
    and_true : (s t : Bool) → (s && t) ≡ true → (s ≡ true) × (t ≡ true)
    and_true true t e = (refl, e)
    and_true false t e = absurd (both_ways false refl e)
