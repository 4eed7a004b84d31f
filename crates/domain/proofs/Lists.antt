-- Lists of distinct elements. Assumes nothing.
use Rattle.std.proofs.Common.{◌≡◌, ℕ, zero, suc, ◌-◌, ◌*◌, ◌^◌, ◌<◌, ◌≤◌, Bool, true, false, ◌||◌, ◌⊎◌, ◌↔◌, List, [], ◌∷◌, length, get_or, take, drop, sym, refl, ap, ◌∙◌, subst, inl, inr, ⊎_elim, arith, pow_mono}
use native.Mathlib.Nat.{pow-succ'}
use native.Mathlib.Decide.{dec_lt}
use Rattle.std.specs.List.{AllByRecursion, list_any}
use Rattle.std.proofs.Math.Pow.{pow-lt}
use Rattle.std.proofs.lemmas.Bool.{both_ways}
use Rattle.std.proofs.lemmas.List.{take_all}
use Rattle.std.proofs.ByRecursion.{All-get_or}
use Rattle.ring.specs.Polynomials.{Distinct}
use Rattle.domain.proofs.Orders.{pick}

or_false : (a b : Bool) → (a || b) ≡ false → (a ≡ false) × (b ≡ false)
or_false true b e = absurd (both_ways true e refl)
or_false false b e = (refl, e)

or_true : (a b : Bool) → (a || b) ≡ true → (a ≡ true) ⊎ (b ≡ true)
or_true true b e = inl refl
or_true false b e = inr e

module _ {A : Type 0} where
  -- different places hold different elements
  pub places_apart : (l : List A) (d : A) → Distinct l → (i j : ℕ) → i < length l → j < length l → get_or l i d ≡ get_or l j d → i ≡ j
  places_apart [] d u i j hi hj e = absurd (omega arith)
  places_apart (x ∷ l) d u zero zero hi hj e = refl
  places_apart (x ∷ l) d u zero (suc j) hi hj e = absurd (All-get_or (λ y. x ≡ y → ⊥) l j d (omega arith) u.0 e)
  places_apart (x ∷ l) d u (suc i) zero hi hj e = absurd (All-get_or (λ y. x ≡ y → ⊥) l i d (omega arith) u.0 (sym e))
  places_apart (x ∷ l) d u (suc i) (suc j) hi hj e = ap suc (places_apart l d u.1 i j (omega arith) (omega arith) e)

  -- without its first elements a list of distinct elements is one
  pub distinct_drop : (n : ℕ) (l : List A) → Distinct l → Distinct (drop n l)
  distinct_drop zero l u = u
  distinct_drop (suc n) [] u = u
  distinct_drop (suc n) (x ∷ l) u = distinct_drop n l u.1

  -- `==` decides equality
  module _ (eq : A → A → Bool) (same : (x y : A) → (eq x y ≡ true) ↔ (x ≡ y)) where
    -- x is none of the elements, or one of them
    pub absent : (x : A) (xs : List A) → list_any (λ y. eq y x) xs ≡ false → AllByRecursion (λ y. x ≡ y → ⊥) xs
    absent x [] e = tt
    absent x (y ∷ xs) e =
        let both = or_false (eq y x) (list_any (λ z. eq z x) xs) e in
        (λ q. both_ways (eq y x) both.0 ((same y x).1 (sym q)), absent x xs both.1)

    pub present : (x : A) (xs : List A) → list_any (λ y. eq y x) xs ≡ true → AllByRecursion (λ y. x ≡ y → ⊥) xs → ⊥
    present x [] e u = both_ways false refl e
    present x (y ∷ xs) e u = ⊎_elim (λ q. u.0 (sym ((same y x).0 q))) (λ q. present x xs q u.1) (or_true (eq y x) (list_any (λ z. eq z x) xs) e)

-- the elements behind the first, as a slice pattern has them
abbrev pub behind : {A : Type 0} → List A → List A
behind l = take (length l - 1) (drop 1 l)

behind_cons : {A : Type 0} (y : A) (l : List A) → behind (y ∷ l) ≡ l
behind_cons y l = take_all (length (y ∷ l) - 1) l (omega arith)

pub behind_distinct : {A : Type 0} (l : List A) → 1 ≤ length l → Distinct l → Distinct (behind l)
behind_distinct [] h u = absurd (omega arith)
behind_distinct (y ∷ l) h u = subst Distinct (sym (behind_cons y l)) u.1

module _ {A : Type 0} (eq : A → A → Bool) (same : (x y : A) → (eq x y ≡ true) ↔ (x ≡ y)) where
  pub first_repeated : (l : List A) (x : A) → 1 ≤ length l → x ≡ get_or l 0 x → true ≡ list_any (λ y. eq y x) (behind l) → Distinct l → ⊥
  first_repeated [] x h is e u = absurd (omega arith)
  first_repeated (y ∷ l) x h is e u =
      present eq same y l (ap (λ z. list_any (λ w. eq w z) l) (sym is) ∙ ap (list_any (λ w. eq w x)) (sym (behind_cons y l)) ∙ sym e) u.0

  pub first_absent : (l : List A) (x : A) → 1 ≤ length l → x ≡ get_or l 0 x → false ≡ list_any (λ y. eq y x) (behind l) → Distinct (behind l) → Distinct l
  first_absent [] x h is e u = absurd (omega arith)
  first_absent (y ∷ l) x h is e u = (
    absent eq same y l (ap (λ z. list_any (λ w. eq w z) l) (sym is) ∙ ap (list_any (λ w. eq w x)) (sym (behind_cons y l)) ∙ sym e),
    subst Distinct (behind_cons y l) u,
  )

-- a number between two powers of two that is one itself is the lower one
pub log_of : (log count c : ℕ) → 2 ^ log ≤ count → count < 2 * 2 ^ log → count ≡ 2 ^ c → c ≡ log
log_of log count c low high e =
    pick (dec_lt c log) (λ l. let w = pow-lt l in absurd (omega arith))
    (λ n. pick (dec_lt log c) (λ l. let w : 2 ^ suc log ≤ 2 ^ c = pow_mono l in let d = pow-succ' 2 log in absurd (omega arith)) (λ m. omega arith))
