-- The law of a schedule, for every strategy.
use Rattle.std.proofs.Common.{◌≡◌, ℕ, zero, suc, ◌+◌, ◌-◌, ◌*◌, ◌<◌, ◌≤◌, leb, List, [], ◌∷◌, map, length, take, sum, refl, ◌∙◌, subst, ◌⊎◌, ⊎_elim, mul-le-mul_left, zero-mul, mul-one, add-one, arith}
use Rattle.std.specs.List.{range_with_len, AllByRecursion}
use Rattle.std.proofs.lemmas.List.FromFn.{length-map-range_with_len, get_or-map-range_with_len, take-map-range_with_len, sum_by-map-range_with_len_more}
use Rattle.std.proofs.ByRecursion.{All-from_get_or}
use Rattle.std.proofs.lemmas.List.Sums.{sum_by-cons}
use Rattle.std.proofs.lemmas.Bool.{leb-true, leb-false, le-leb}
use Rattle.std.proofs.lemmas.Bool.Decides.{nat_tests}
use Rattle.parameters.specs.Schedule.{constant, second, per_round, Verdict, planned, refused, folds, clamped, by_factors, before, walk, unless_faulty, listed, Lawful, SchedulesLawful}
use Rattle.parameters.proofs.Folds.{part, more_times, first_passes, first_misses}

-- m folds by g take what they do not leave
parts_sum : (g left m : ℕ) → sum (map (part g left) (range_with_len 0 m)) ≡ left - (left - m * g)
parts_sum g left zero = omega (arith, zero-mul g)
parts_sum g left (suc m) =
    let step : sum (map (part g left) (range_with_len 0 (m + 1))) ≡ left - (left - (m + 1) * g) =
    sum_by-map-range_with_len_more (λ x. x) (part g left) 0 m m (omega arith) ∙ omega (arith, parts_sum g left m, more_times m g) in
    subst (λ k. sum (map (part g left) (range_with_len 0 k)) ≡ left - (left - k * g)) (add-one m) step

-- the folds by g: nothing above the threshold is left after them, and more before each
folds_enough : (t g left : ℕ) → 0 < g → left - folds t g left * g ≤ t
folds_enough t g left pos =
    leb-true _ _ (first_passes left (λ j. leb (left - j * g) t) (le-leb _ _ (omega (arith, mul-le-mul_left left pos, mul-one left))))

folds_needed : (t g left i : ℕ) → i < folds t g left → t < left - i * g
folds_needed t g left i h = leb-false _ _ (first_misses left (λ j. leb (left - j * g) t) i h)

parts_folding : (t g left : ℕ) → 0 < g → AllByRecursion (λ k. 1 ≤ k) (map (part g left) (range_with_len 0 (folds t g left)))
parts_folding t g left pos =
    All-from_get_or (λ k. 1 ≤ k) (map (part g left) (range_with_len 0 (folds t g left))) 0
    (λ i h. let h' : i < folds t g left = omega (arith, length-map-range_with_len (part g left) 0 (folds t g left)) in
    omega (arith, get_or-map-range_with_len (part g left) 0 (folds t g left) i i 0 h' (omega arith), folds_needed t g left i h'))

factors_needed : (t f g n j : ℕ) → f ≤ n → 0 < j → j < length (f ∷ map (part g (n - f)) (range_with_len 0 (folds t g (n - f))))
    → t < n - sum (take j (f ∷ map (part g (n - f)) (range_with_len 0 (folds t g (n - f)))))
factors_needed t f g n zero le pos h = absurd (omega arith)
factors_needed t f g n (suc i) le pos h =
    let short : i < folds t g (n - f) = omega (arith, length-map-range_with_len (part g (n - f)) 0 (folds t g (n - f))) in
    rw (take-map-range_with_len (part g (n - f)) 0 (folds t g (n - f)) i (omega arith))
    (omega (arith, sum_by-cons (λ x. x) f (map (part g (n - f)) (range_with_len 0 i)), parts_sum g (n - f) i, folds_needed t g (n - f) i short))

factors_lawful : (t f g n : ℕ) → 0 < f → 0 < g → f ≤ n → Lawful t n (f ∷ clamped t g (n - f))
unfolding clamped
factors_lawful t f g n fpos gpos le =
    let all = sum_by-cons (λ x. x) f (map (part g (n - f)) (range_with_len 0 (folds t g (n - f)))) in
    let parts = parts_sum g (n - f) (folds t g (n - f)) in
    record {
      some = omega arith;
      folding = (fpos, parts_folding t g (n - f) gpos);
      within = omega (arith, all, parts);
      enough = omega (arith, all, parts, folds_enough t g (n - f) gpos);
      needed = λ j pos h. factors_needed t f g n j le pos h;
    }

by_factors_planned : (t f g n : ℕ) (ks : List ℕ) → by_factors t f g n ≡ planned ks → (0 < f) × (0 < g) × (f ≤ n) × (f ∷ clamped t g (n - f) ≡ ks)
by_factors_planned t f g n ks p = grind (arith, nat_tests)

by_factors_lawful : (t f g n : ℕ) (ks : List ℕ) → by_factors t f g n ≡ planned ks → Lawful t n ks
by_factors_lawful t f g n ks p =
    let q = by_factors_planned t f g n ks p in subst (Lawful t n) q.3 (factors_lawful t f g n q.0 q.1 q.2)

before_planned : (k : ℕ) (v : Verdict) (ks : List ℕ) → before k v ≡ planned ks → (ls : List ℕ) × (v ≡ planned ls) × (k ∷ ls ≡ ks)
before_planned k (planned ls) ks p = (ls, refl, cc)
before_planned k (refused e) ks p = cc

one_lawful : (t left k : ℕ) → 1 ≤ k → k ≤ left → left - k ≤ t → Lawful t left (k ∷ [])
one_lawful t left k pos le enough =
    record {
      some = omega arith;
      folding = (pos, tt);
      within = omega arith;
      enough = omega arith;
      needed = λ j a b. absurd (omega arith);
    }

cons_needed : (t left k j : ℕ) (ls : List ℕ) → k ≤ left → t < left - k → Lawful t (left - k) ls → 0 < j → j < length (k ∷ ls) → t < left - sum (take j (k ∷ ls))
cons_needed t left k zero ls le h law pos short = absurd (omega arith)
cons_needed t left k (suc zero) ls le h law pos short = omega arith
cons_needed t left k (suc (suc i)) ls le h law pos short =
    omega (arith, sum_by-cons (λ x. x) k (take (suc i) ls), law.needed (suc i) (omega arith) (omega arith))

cons_lawful : (t left k : ℕ) (ls : List ℕ) → 1 ≤ k → k ≤ left → t < left - k → Lawful t (left - k) ls → Lawful t left (k ∷ ls)
cons_lawful t left k ls pos le h law =
    record {
      some = omega arith;
      folding = (pos, law.folding);
      within = omega (arith, sum_by-cons (λ x. x) k ls, law.within);
      enough = omega (arith, sum_by-cons (λ x. x) k ls, law.enough);
      needed = λ j a b. cons_needed t left k j ls le h law a b;
    }

walk_planned : (t n left k : ℕ) (all ks : List ℕ) → walk t n left (k ∷ all) ≡ planned ks
    → (k ≤ left) × (((left - k ≤ t) × (k ∷ [] ≡ ks)) ⊎ ((t < left - k) × (before k (walk t n (left - k) all) ≡ planned ks)))
walk_planned t n left k all ks p = grind (arith, nat_tests)

walk_lawful : (t n left : ℕ) (all ks : List ℕ) → AllByRecursion (λ k. 1 ≤ k) all → walk t n left all ≡ planned ks → Lawful t left ks
walk_lawful t n left [] ks ok p = cc
walk_lawful t n left (k ∷ all) ks ok p =
    let q = walk_planned t n left k all ks p in
    ⊎_elim (λ s. subst (Lawful t left) s.1 (one_lawful t left k ok.0 q.0 s.0))
    (λ s.
    let m = before_planned k (walk t n (left - k) all) ks s.1 in
    subst (Lawful t left) m.2 (cons_lawful t left k m.0 ok.0 q.0 s.0 (walk_lawful t n (left - k) all m.0 ok.1 m.1)))
    q.1

faultless_more : (n k : ℕ) (all : List ℕ) (v : Verdict) (ks : List ℕ) → unless_faulty n (k ∷ all) v ≡ planned ks → (1 ≤ k) × (unless_faulty n all v ≡ planned ks)
faultless_more n k all v ks p = grind (arith, nat_tests)

faultless : (n : ℕ) (all : List ℕ) (v : Verdict) (ks : List ℕ) → unless_faulty n all v ≡ planned ks → AllByRecursion (λ k. 1 ≤ k) all × (v ≡ planned ks)
faultless n [] v ks p = (tt, p)
faultless n (k ∷ all) v ks p =
    let q = faultless_more n k all v ks p in
    let rest = faultless n all v ks q.1 in
    ((q.0, rest.0), rest.1)

listed_lawful : (t n : ℕ) (all ks : List ℕ) → listed t all n ≡ planned ks → Lawful t n ks
listed_lawful t n [] ks p = cc
listed_lawful t n (k ∷ all) ks p =
    let m = faultless n (k ∷ all) (walk t n n (k ∷ all)) ks p in
    walk_lawful t n n (k ∷ all) ks m.0 m.1

pub schedules_lawful : SchedulesLawful
schedules_lawful t n (constant f) ks p = by_factors_lawful t f f n ks p
schedules_lawful t n (second f g) ks p = by_factors_lawful t f g n ks p
schedules_lawful t n (per_round all) ks p = listed_lawful t n all ks p
