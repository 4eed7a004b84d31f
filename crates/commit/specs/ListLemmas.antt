-- Lemmas on lists for the laws of schemes: two lists joined, an item of a list, two tests of equations. Assumes nothing.
use Rattle.std.proofs.Common.{◌≡◌, ℕ, zero, suc, ◌<◌, eqb, List, [], ◌∷◌, ◌++◌, length, get_or, sym, refl, ◌∙◌, ⊎_elim, le_of_suc-le-suc, not-suc-le-zero, arith}
use mathlib.Core.List.{Memᴰ, head-eq_of_cons-eq, tail-eq_of_cons-eq}
use Rattle.std.proofs.lemmas.Bool.{cases_eq, eq-eqb, ne_eqb}

-- two tests of equations that follow from one another are the same
pub eqb_same : (a b c d : ℕ) → (a ≡ b → c ≡ d) → (c ≡ d → a ≡ b) → eqb a b ≡ eqb c d
eqb_same a b c d f g =
    ⊎_elim (λ (e : a ≡ b). eq-eqb a b e ∙ sym (eq-eqb c d (f e)))
    (λ (h : a ≡ b → ⊥). ne_eqb a b h ∙ sym (ne_eqb c d (λ e. h (g e))))
    (cases_eq a b)

-- lists of one length that others are joined to
pub append_inj : {X : Type 0} (a b c d : List X) → length a ≡ length b → a ++ c ≡ b ++ d → (a ≡ b) × (c ≡ d)
append_inj [] [] c d l e = (refl, e)
append_inj [] (y ∷ b) c d l e = absurd (not-suc-le-zero {n = length b} (omega arith))
append_inj (x ∷ a) [] c d l e = absurd (not-suc-le-zero {n = length a} (omega arith))
append_inj (x ∷ a) (y ∷ b) c d l e =
    let rest = append_inj a b c d (omega arith) (tail-eq_of_cons-eq e) in
    (cc (head-eq_of_cons-eq e, rest.0), rest.1)

pub member : {X : Type 0} (l : List X) (i : ℕ) (d : X) → i < length l → Memᴰ (get_or l i d) l
member [] i d h = absurd (not-suc-le-zero h)
member (x ∷ l) zero d h = Memᴰ.head refl
member (x ∷ l) (suc i) d h = Memᴰ.tail (member l i d (le_of_suc-le-suc h))
