-- The depths of a number: one bit after another.
use Rattle.std.proofs.Common.{◌≡◌, ℕ, zero, suc, ◌+◌, ◌-◌, ◌*◌, ◌%◌, ◌^◌, ◌<◌, ◌≤◌, leb, ◌⊎◌, List, [], ◌∷◌, ◌++◌, length, sum_by, sym, refl, ap, ◌∙◌, subst, inl, inr, ⊎_elim, append_assoc, append-nil, zero-lt-suc, pow-suc, arith}
use Rattle.std.proofs.lemmas.Nat.{one_shl}
use native.Mathlib.Decide.{le_ind}
use lib.Count.{ones, ones_cat}
use Rattle.std.proofs.lemmas.List.Sums.{sum_by-cons}
use Rattle.std.proofs.lemmas.Bool.{cases_Bool, leb-true, leb-false, le-leb, lt-leb, cond-true, cond-false}
use Rattle.transcript.specs.Depths.{set_bits, depths, Falling, DepthsSum}

pub double : (k : ℕ) → 2 ^ suc k ≡ 2 ^ k + 2 ^ k
double k = pow-suc 2 k ∙ omega arith

pub below_power : (n : ℕ) → n < 2 ^ n
below_power zero = zero-lt-suc 0
below_power (suc n) = omega (arith, below_power n, double n)

there : (k d : ℕ) → 2 ^ k ≤ d → set_bits (suc k) d ≡ k ∷ set_bits k (d - 2 ^ k)
unfolding set_bits
there k d h = cond-true (leb (2 ^ k) d) _ _ (le-leb (2 ^ k) d h)

absent : (k d : ℕ) → d < 2 ^ k → set_bits (suc k) d ≡ set_bits k d
unfolding set_bits
absent k d h = cond-false (leb (2 ^ k) d) _ _ (lt-leb (2 ^ k) d h)

power_grows : (k m : ℕ) → k ≤ m → 2 ^ k ≤ 2 ^ m
power_grows k m h = le_ind (λ (j : ℕ). 2 ^ k ≤ 2 ^ j) (omega arith) (λ j l e. omega (arith, double j)) m h

-- bits above a number's own are not set
enough : (k d m : ℕ) → d < 2 ^ k → k ≤ m → set_bits m d ≡ set_bits k d
enough k d m h l = le_ind (λ (j : ℕ). set_bits j d ≡ set_bits k d) refl (λ j p e. absent j d (omega (arith, power_grows k j p)) ∙ e) m l

pub from_width : (k d : ℕ) → d < 2 ^ k → depths d ≡ set_bits k d
unfolding depths
from_width k d h = ⊎_elim (λ l. enough k d d h l) (λ l. sym (enough d d k (below_power d) l)) (total k d)
  where
    total : (a b : ℕ) → (a ≤ b) ⊎ (b ≤ a)
    total a b = elim (cases_Bool (leb a b)) [ inl e ↦ inl (leb-true a b e) | inr e ↦ inr (omega (arith, leb-false a b e)) ]

-- the highest bit and the others
pub peeled : (j d : ℕ) → 2 ^ j ≤ d → d < 2 ^ suc j → depths d ≡ j ∷ depths (d - 2 ^ j)
peeled j d low high =
    from_width (suc j) d high ∙ there j d low ∙ ap (λ ts. j ∷ ts) (sym (from_width j (d - 2 ^ j) (omega (arith, double j))))

pub none_left : depths 0 ≡ []
unfolding depths set_bits
none_left = refl

whole : (k d : ℕ) → d < 2 ^ k → sum_by (λ t. 2 ^ t) (set_bits k d) ≡ d
unfolding set_bits
whole zero d h = omega arith
whole (suc k) d h =
    ⊎_elim (λ e. ap (λ ts. sum_by (λ t. 2 ^ t) ts) (there k d (leb-true (2 ^ k) d e))
    ∙ sum_by-cons (λ t. 2 ^ t) k (set_bits k (d - 2 ^ k)) ∙ omega (arith, whole k (d - 2 ^ k) (omega (arith, double k, leb-true (2 ^ k) d e)), leb-true (2 ^ k) d e))
    (λ e. ap (λ ts. sum_by (λ t. 2 ^ t) ts) (absent k d (leb-false (2 ^ k) d e)) ∙ whole k d (leb-false (2 ^ k) d e))
    (cases_Bool (leb (2 ^ k) d))

pub looser : (a b : ℕ) (ts : List ℕ) → a ≤ b → Falling a ts → Falling b ts
looser a b [] h f = tt
looser a b (t ∷ ts) h f = (omega (arith, f.0), f.1)

falling : (k d : ℕ) → Falling k (set_bits k d)
unfolding set_bits
falling zero d = tt
falling (suc k) d =
    ⊎_elim (λ e. subst (Falling (suc k)) (sym (there k d (leb-true (2 ^ k) d e))) (omega arith, falling k (d - 2 ^ k)))
    (λ e. subst (Falling (suc k)) (sym (absent k d (leb-false (2 ^ k) d e))) (looser k (suc k) (set_bits k d) (omega arith) (falling k d)))
    (cases_Bool (leb (2 ^ k) d))

one_more : (k d : ℕ) → 2 ^ k ≤ d → d < 2 ^ suc k → ones d ≡ suc (ones (d - 2 ^ k))
unfolding ones
one_more k d low high =
    let e : d ≡ 1 * 2 ^ k + (d - 2 ^ k) = omega arith in
    ap ones e ∙ ones_cat k 1 (d - 2 ^ k) (omega (arith, double k)) ∙ omega arith

many : (k d : ℕ) → d < 2 ^ k → length (set_bits k d) ≡ ones d
unfolding set_bits ones
many zero d h = let e : d ≡ 0 = omega arith in sym (ap ones e)
many (suc k) d h =
    ⊎_elim (λ e. ap length (there k d (leb-true (2 ^ k) d e))
    ∙ ap suc (many k (d - 2 ^ k) (omega (arith, double k, leb-true (2 ^ k) d e))) ∙ sym (one_more k d (leb-true (2 ^ k) d e) h))
    (λ e. ap length (absent k d (leb-false (2 ^ k) d e)) ∙ many k d (leb-false (2 ^ k) d e))
    (cases_Bool (leb (2 ^ k) d))

pub depths_sum : DepthsSum
depths_sum d = record {
  whole = ap (λ ts. sum_by (λ t. 2 ^ t) ts) (from_width d d (below_power d)) ∙ whole d d (below_power d);
  falling = λ k h. subst (Falling k) (sym (from_width k d h)) (falling k d);
  count = ap length (from_width d d (below_power d)) ∙ many d d (below_power d);
}

-- the highest bit comes first, and the others are those of what is left
pub first_depth : (d r : ℕ) → 2 ^ r ≤ d → d < 2 * 2 ^ r → r < 64 → depths d ≡ r ∷ depths (d - 1 * 2 ^ r % 18446744073709551616)
first_depth d r low high fits =
    let e : depths d ≡ r ∷ depths (d - 2 ^ r) = peeled r d low (omega (arith, double r)) in
    e ∙ ap (λ x. r ∷ depths (d - x)) (sym (one_shl r 64 fits))

pub no_depth : (d : ℕ) → d ≡ 0 → depths d ≡ []
no_depth d e = ap depths e ∙ none_left

pub fewer_left : (d r : ℕ) → 2 ^ r ≤ d → d < 2 * 2 ^ r → r < 64 → length (depths (d - 1 * 2 ^ r % 18446744073709551616)) < length (depths d)
fewer_left d r low high fits = omega (arith, ap length (first_depth d r low high fits))

falling_at : (bound : ℕ) (ys : List ℕ) (r : ℕ) (ts : List ℕ) → Falling bound (ys ++ (r ∷ ts)) → r < bound
falling_at bound [] r ts f = f.0
falling_at bound (y ∷ ys) r ts f = omega (arith, f.0, falling_at y ys r ts f.1)

-- some depths ys of a number d, and then those of e
module _ (ys : List ℕ) (d e : ℕ) (so_far : ys ++ depths e ≡ depths d) where
  pub depth_on : (f r : ℕ) → depths e ≡ r ∷ depths f → (ys ++ (r ∷ [])) ++ depths f ≡ depths d
  depth_on f r h = append_assoc ys (r ∷ []) (depths f) ∙ ap (λ x. ys ++ x) (sym h) ∙ so_far

  pub depth_small : (f r : ℕ) → d < 2 ^ 64 → depths e ≡ r ∷ depths f → r < 64
  depth_small f r fits h = falling_at 64 ys r (depths f) (subst (Falling 64) (sym so_far ∙ ap (λ x. ys ++ x) h) ((depths_sum d).falling 64 fits))

  pub depths_end : depths e ≡ [] → ys ≡ depths d
  depths_end h = sym (append-nil ys) ∙ ap (λ x. ys ++ x) (sym h) ∙ so_far

-- a depth takes its power of two from the number, and without depths there is nothing left
pub depth_taken : (e f r : ℕ) → depths e ≡ r ∷ depths f → e ≡ 2 ^ r + f
depth_taken e f r h = sym (depths_sum e).whole ∙ ap (λ ts. sum_by (λ t. 2 ^ t) ts) h ∙ sum_by-cons (λ t. 2 ^ t) r (depths f) ∙ ap (λ n. 2 ^ r + n) (depths_sum f).whole

-- the highest depth of a number that fits in a word, and what it leaves
module _ (d f r : ℕ) (fits : d < 2 ^ 64) (h : depths d ≡ r ∷ depths f) where
  pub highest_small : r < 64
  highest_small = depth_small [] d d refl f r fits h

  pub highest_taken : d ≡ 1 * 2 ^ r % 18446744073709551616 + f
  highest_taken = depth_taken d f r h ∙ ap (λ n. n + f) (sym (one_shl r 64 highest_small))

pub none_taken : (e : ℕ) → depths e ≡ [] → e ≡ 0
none_taken e h = sym (depths_sum e).whole ∙ ap (λ ts. sum_by (λ t. 2 ^ t) ts) h
