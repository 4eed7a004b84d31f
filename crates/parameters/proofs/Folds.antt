-- Clamped folds: how often, by how much, and what they leave.
use Rattle.std.proofs.Common.{◌≡◌, ℕ, zero, suc, ◌+◌, ◌-◌, ◌*◌, ◌<◌, ◌≤◌, min, Bool, true, false, cond, leb, List, [], ◌∷◌, ◌++◌, map, sym, refl, ap, ◌∙◌, add-mul, one-mul, arith, below_more}
use Rattle.std.specs.List.{range_with_len}
use Rattle.std.proofs.lemmas.List.FromFn.{map-range_with_len_more}
use Rattle.std.proofs.lemmas.Bool.{le-leb, lt-leb}
use Rattle.parameters.specs.Schedule.{first, folds, clamped}

-- the first number that passes is the one that passes with none before it
pub first_least : (b j : ℕ) (p : ℕ → Bool) → ((i : ℕ) → i < j → p i ≡ false) → p j ≡ true → j ≤ b → first b p ≡ j
unfolding first
first_least zero zero p low hit le = refl
first_least zero (suc j) p low hit le = absurd (omega arith)
first_least (suc b) zero p low hit le = rw hit
first_least (suc b) (suc j) p low hit le =
    let miss : p 0 ≡ false = low 0 (omega arith) in
    rw miss (ap suc (first_least b j (λ i. p (suc i)) (λ i h. low (suc i) (omega arith)) hit (omega arith)))

-- it passes, if the bound does
pub first_passes : (b : ℕ) (p : ℕ → Bool) → p b ≡ true → p (first b p) ≡ true
unfolding first
first_passes zero p hit = hit
first_passes (suc b) p hit =
    let go : (t : Bool) → p 0 ≡ t → p (cond t 0 (suc (first b (λ j. p (suc j))))) ≡ true =
    λ t e. elim t as (λ u. p 0 ≡ u → p (cond u 0 (suc (first b (λ j. p (suc j))))) ≡ true)
    [ true ↦ λ h. h | false ↦ λ h. first_passes b (λ j. p (suc j)) hit ] e in
    go (p 0) refl

-- and none before it does
pub first_misses : (b : ℕ) (p : ℕ → Bool) (i : ℕ) → i < first b p → p i ≡ false
unfolding first
first_misses zero p i h = absurd (omega arith)
first_misses (suc b) p zero h =
    let go : (t : Bool) → p 0 ≡ t → 0 < cond t 0 (suc (first b (λ j. p (suc j)))) → p 0 ≡ false =
    λ t e. elim t as (λ u. p 0 ≡ u → 0 < cond u 0 (suc (first b (λ j. p (suc j)))) → p 0 ≡ false)
    [ true ↦ λ q k. absurd (omega arith) | false ↦ λ q k. q ] e in
    go (p 0) refl h
first_misses (suc b) p (suc i) h =
    let go : (t : Bool) → p 0 ≡ t → suc i < cond t 0 (suc (first b (λ j. p (suc j)))) → p (suc i) ≡ false =
    λ t e. elim t as (λ u. p 0 ≡ u → suc i < cond u 0 (suc (first b (λ j. p (suc j)))) → p (suc i) ≡ false)
    [ true ↦ λ q k. absurd (omega arith) | false ↦ λ q k. first_misses b (λ j. p (suc j)) i (omega arith) ] e in
    go (p 0) refl h

-- the j-th fold
abbrev pub part : ℕ → ℕ → ℕ → ℕ
part f left j = min f (left - j * f)

pub more_times : (j f : ℕ) → (j + 1) * f ≡ j * f + f
more_times j f = add-mul j 1 f ∙ ap (λ x. j * f + x) (one-mul f)

-- what is left after one fold more
pub less_left : (f left j now : ℕ) → now ≡ left - j * f → now - min f now ≡ left - (j + 1) * f
less_left f left j now e = omega (arith, more_times j f)

-- so many folds were made after the first, each of them needed
pub record Folding (t f left now first_factor : ℕ) (items : List ℕ) : Type 0 where
  pub count : ℕ
  pub remains : now ≡ left - count * f
  pub made : items ≡ first_factor ∷ map (part f left) (range_with_len 0 count)
  pub needed : (i : ℕ) → i < count → t < left - i * f
  pub bound : count + now ≤ left

pub folding_more : (t f left now k : ℕ) (items : List ℕ) → 0 < f → t < now → Folding t f left now k items
    → Folding t f left (now - min f now) k (items ++ min f now ∷ [])
folding_more t f left now k items pos h fo =
    let here : min f now ≡ part f left fo.count = ap (min f) fo.remains in
    record {
      count = fo.count + 1;
      remains = less_left f left fo.count now fo.remains;
      made = ap (λ l. l ++ min f now ∷ []) fo.made
          ∙ ap (λ x. k ∷ (map (part f left) (range_with_len 0 fo.count) ++ x ∷ [])) here
          ∙ ap (λ l. k ∷ l) (sym (map-range_with_len_more (part f left) 0 fo.count fo.count (omega arith)));
      needed = below_more (λ i. t < left - i * f) fo.count fo.needed (omega (arith, fo.remains));
      bound = omega (arith, fo.bound);
    }

pub folding_all : (t f left now k : ℕ) (items : List ℕ) → now ≤ t → Folding t f left now k items → items ≡ k ∷ clamped t f left
unfolding clamped
folding_all t f left now k items h fo =
    let count : folds t f left ≡ fo.count =
    first_least left fo.count (λ j. leb (left - j * f) t) (λ i k. lt-leb _ _ (fo.needed i k))
    (le-leb _ _ (omega (arith, fo.remains))) (omega (arith, fo.bound)) in
    fo.made ∙ ap (λ n. k ∷ map (part f left) (range_with_len 0 n)) (sym count)
