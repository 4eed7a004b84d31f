-- A field lies over itself, and pairs over an extension lie over the same base. Assumes nothing.
use Rattle.std.specs.Prelude.{◌≡◌, ℕ, suc, ◌+◌, ◌-◌, ◌<◌, ◌≤◌, List, [], ◌∷◌, ◌++◌, map, length, get_or, take, drop, replicate, slice_index_or, slice_set, refl}
use Rattle.std.proofs.Common.{sym, ap, ap₂, ◌∙◌, ⊎_elim, suc-ne-zero, arith, length-append, length-drop, take-append-drop}
use Rattle.std.proofs.Math.Nat.{suc_inj}
use Rattle.std.proofs.lemmas.List.{take_at, drop_at, length-take-le, set-append_left, set-append_right, replicate-append-replicate}
use Rattle.ring.specs.Ring.{Ops, IsRing}
use Rattle.ring.proofs.Basic.{sub_self}
use Rattle.ring.proofs.Solve.{ring, v0, v1, v2, v3, O, ◌⊕◌, ◌⊗◌}
use Rattle.field.specs.declared.pair.Pair.{Pair}
use Rattle.field.specs.Tower.{pair_ops}
use Rattle.field.specs.Extension.{Extension, Extends, Sized, together, itself, doubled}
use Rattle.field.specs.Pairs.{pair_path}

only : {A : Type 0} (l : List A) (z : A) → length l ≡ 1 → (slice_index_or l 0 z ∷ []) ≡ l
only [] z n = absurd (suc-ne-zero 0 (sym n))
only (y ∷ []) z n = refl
only (y ∷ w ∷ l) z n = absurd (suc-ne-zero (length l) (suc_inj n))

together_append : {A : Type 0} (g : A → A → A) (xs ys us vs : List A) → length xs ≡ length us →
    together g (xs ++ ys) (us ++ vs) ≡ together g xs us ++ together g ys vs
together_append g [] ys [] vs n = refl
together_append g [] ys (u ∷ us) vs n = absurd (suc-ne-zero (length us) (sym n))
together_append g (x ∷ xs) ys [] vs n = absurd (suc-ne-zero (length xs) n)
together_append g (x ∷ xs) ys (u ∷ us) vs n = ap (λ l. g x u ∷ l) (together_append g xs ys us vs (suc_inj n))

map-append : {A : Type 0} (g : A → A) (xs ys : List A) → map g (xs ++ ys) ≡ map g xs ++ map g ys
map-append g [] ys = refl
map-append g (x ∷ xs) ys = ap (λ l. g x ∷ l) (map-append g xs ys)

-- another coefficient in the first or in the second half
pub set_left : {A : Type 0} (xs ys zs : List A) (i : ℕ) (a : A) → zs ≡ slice_set xs i a → i < length xs → zs ++ ys ≡ slice_set (xs ++ ys) i a
set_left xs ys zs i a e l = ap (λ l. l ++ ys) e ∙ sym (set-append_left xs ys i a l)

pub set_right : {A : Type 0} (xs ys zs : List A) (n i : ℕ) (a : A) → zs ≡ slice_set ys (i - n) a → length xs ≡ n → n ≤ i → xs ++ zs ≡ slice_set (xs ++ ys) i a
set_right xs ys zs n i a e c l = ap (λ l. xs ++ l) e ∙ sym (set-append_right xs ys n i a c l)

pub itself_extends : {A : Type 0} {f : Ops A} → Extends f f (itself f)
itself_extends {A} {f} = record {
  zero = refl;
  one = refl;
  add = λ a b. refl;
  sub = λ a b. refl;
  mul = λ a b. refl;
  one_to_one = λ a b e. e;
  count = λ y. refl;
  settled = λ y z e. ap (λ l. get_or l 0 f.zero) e;
  made = λ l n. only l f.zero n;
  embedded = λ a. refl;
  sums = λ y z. refl;
  multiples = λ a y. refl;
}

module _ {A B : Type 0} {f : Ops A} {e : Ops B} {x : Extension A B} (L : IsRing e) (E : Extends f e x) (positive : 0 < x.degree) where
  -- zero has only zero coefficients
  zeros : x.coefficients e.zero ≡ replicate x.degree f.zero
  zeros =
      ap x.coefficients (sym E.zero) ∙ E.embedded f.zero ∙
      ap (λ n. replicate n f.zero) (let p : suc (x.degree - 1) ≡ x.degree = omega arith in p)

  halves : (y z : Pair B) → x.coefficients y.a ++ x.coefficients y.b ≡ x.coefficients z.a ++ x.coefficients z.b → y ≡ z
  halves y z p =
      pair_path
      (E.settled y.a z.a (sym (take_at (x.coefficients y.a) _ _ (E.count y.a)) ∙ ap (take x.degree) p ∙ take_at (x.coefficients z.a) _ _ (E.count z.a)))
      (E.settled y.b z.b (sym (drop_at (x.coefficients y.a) _ _ (E.count y.a)) ∙ ap (drop x.degree) p ∙ drop_at (x.coefficients z.a) _ _ (E.count z.a)))

  pub doubled_extends : Extends f (pair_ops e) (doubled e x)
  doubled_extends = record {
    zero = pair_path E.zero refl;
    one = pair_path E.one refl;
    add = λ a b. pair_path (E.add a b) (sym (L.add-zero e.zero));
    sub = λ a b. pair_path (E.sub a b) (sym (sub_self L e.zero));
    mul = λ a b.
        let ρ = e.s ∷ x.embed a ∷ x.embed b ∷ [] in
        pair_path (E.mul a b ∙ ring L ρ (v1 ⊗ v2) (v1 ⊗ v2 ⊕ v0 ⊗ (O ⊗ O)) tt) (ring L ρ O (v1 ⊗ O ⊕ O ⊗ v2) tt);
    one_to_one = λ a b p. E.one_to_one a b (ap (λ w. w.a) p);
    count = λ y. length-append (x.coefficients y.a) (x.coefficients y.b) ∙ ap₂ ◌+◌ (E.count y.a) (E.count y.b);
    settled = halves;
    made = λ l n.
        let low : length (take x.degree l) ≡ x.degree = length-take-le x.degree l (omega arith) in
        let high : length (drop x.degree l) ≡ x.degree = length-drop x.degree l ∙ omega arith in
        ap₂ ◌++◌ (E.made (take x.degree l) low) (E.made (drop x.degree l) high) ∙ take-append-drop x.degree l;
    embedded = λ a.
        let d = x.degree in
        ap₂ ◌++◌ (E.embedded a) zeros ∙
        ap (λ l. a ∷ l) (replicate-append-replicate (x.degree - 1) x.degree f.zero ∙
        ap (λ n. replicate n f.zero) (let p : x.degree - 1 + x.degree ≡ x.degree + x.degree - 1 = omega arith in p));
    sums = λ y z.
        ap₂ ◌++◌ (E.sums y.a z.a) (E.sums y.b z.b) ∙
        sym (together_append f.add (x.coefficients y.a) (x.coefficients y.b) (x.coefficients z.a) (x.coefficients z.b) (E.count y.a ∙ sym (E.count z.a)));
    multiples = λ a y.
        let ρ = e.s ∷ x.embed a ∷ y.a ∷ y.b ∷ [] in
        ap₂ (λ u v. x.coefficients u ++ x.coefficients v) (ring L ρ (v1 ⊗ v2 ⊕ v0 ⊗ (O ⊗ v3)) (v1 ⊗ v2) tt) (ring L ρ (v1 ⊗ v3 ⊕ O ⊗ v2) (v1 ⊗ v3) tt) ∙
        ap₂ ◌++◌ (E.multiples a y.a) (E.multiples a y.b) ∙ sym (map-append (f.mul a) (x.coefficients y.a) (x.coefficients y.b));
  }

pub degree_small : {d : ℕ} → Sized d → d ≤ 8
degree_small s = ⊎_elim (λ e. omega arith) (λ s. ⊎_elim (λ e. omega arith) (λ s. ⊎_elim (λ e. omega arith) (λ e. omega arith) s) s) s

-- an element with these coefficients is the one that they make
pub element_of : {A B : Type 0} {f : Ops A} {e : Ops B} {x : Extension A B} → Extends f e x → (y : B) (l : List A) → x.coefficients y ≡ l → y ≡ x.element l
element_of {x} E y l p = E.settled y (x.element l) (p ∙ sym (E.made l (ap length (sym p) ∙ E.count y)))
