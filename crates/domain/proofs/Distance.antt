-- Positions that distinct base elements stand for keep tables of an extension apart. Assumes nothing.
use Rattle.std.proofs.Common.{◌≡◌, ℕ, zero, suc, ◌^◌, ◌<◌, ◌≤◌, List, [], ◌∷◌, map, length, get_or, drop, sym, refl, ap, subst, ap₂, suc-ne-zero, arith, pow_mono}
use lib.ListN.{length-map}
use Rattle.std.specs.List.{ContainsAt as Has, AllByRecursion}
use Rattle.std.proofs.ByRecursion.{All-weaker, All-map, all-has}
use Rattle.ring.specs.Ring.{Ops}
use Rattle.ring.specs.Polynomials.{Distinct}
use Rattle.field.specs.Laws.{IsField}
use Rattle.field.specs.Extension.{Extension, Extends}
use Rattle.multilinear.specs.Tables.{position}
use Rattle.multilinear.specs.Univariate.{expand}
use Rattle.multilinear.proofs.Univariate.{few}
use Rattle.multilinear.proofs.Embedded.{keeps_tables}
use Rattle.domain.specs.Domains.{Domain, Agree, Distance, Settled}
use Rattle.domain.proofs.Orders.{pick}

-- the numbers below n, from the last
below : ℕ → List ℕ
below zero = []
below (suc n) = n ∷ below n

length_below : (n : ℕ) → length (below n) ≡ n
unfolding below
length_below zero = refl
length_below (suc n) = ap suc (length_below n)

all_below : (n : ℕ) → AllByRecursion (λ i. i < n) (below n)
unfolding below
all_below zero = tt
all_below (suc n) = (omega arith, All-weaker (λ i. i < n) (λ i. i < suc n) (λ i h. omega arith) (below n) (all_below n))

distinct_below : (n : ℕ) → Distinct (below n)
unfolding below
distinct_below zero = tt
distinct_below (suc n) = (All-weaker (λ i. i < n) (λ i. n ≡ i → ⊥) (λ i h e. omega arith) (below n) (all_below n), distinct_below n)

module _ {B : Type 0} (f : ℕ → B) (N : ℕ) (apart : (i j : ℕ) → i < N → j < N → f i ≡ f j → i ≡ j) where
  away : (i : ℕ) → i < N → (l : List ℕ) → AllByRecursion (λ j. j < N) l → AllByRecursion (λ j. i ≡ j → ⊥) l → AllByRecursion (λ y. f i ≡ y → ⊥) (map f l)
  away i h [] low ne = tt
  away i h (j ∷ l) low ne = (λ e. ne.0 (apart i j h low.0 e), away i h l low.1 ne.1)

  distinct_map : (l : List ℕ) → AllByRecursion (λ j. j < N) l → Distinct l → Distinct (map f l)
  distinct_map [] low d = tt
  distinct_map (i ∷ l) low d = (away i low.0 l low.1 d.0, distinct_map l low.1 d.1)

-- equality of lists is decided with that of their elements
module _ {B : Type 0} (decide : (x y : B) → Dec (x ≡ y)) where
  same? : (g h : List B) → Dec (g ≡ h)
  same? [] [] = yes refl
  same? [] (y ∷ h) = no (λ e. suc-ne-zero (length h) (sym (ap length e)))
  same? (x ∷ g) [] = no (λ e. suc-ne-zero (length g) (ap length e))
  same? (x ∷ g) (y ∷ h) = both (decide x y) (same? g h)
    where
      both : Dec (x ≡ y) → Dec (g ≡ h) → Dec (x ∷ g ≡ y ∷ h)
      both (yes a) (yes b) = yes (ap₂ ◌∷◌ a b)
      both (yes a) (no b) = no (λ e. b (ap (drop 1) e))
      both (no a) d = no (λ e. a (ap (λ l. get_or l 0 x) e))

module _ {A B : Type 0} (F : Ops A) (G : Ops B) (K : IsField G) (x : Extension A B) (H : Extends F G x) where
  -- two tables agree at the position that v stands for
  abbrev AgreeAt : ℕ → List B → List B → A → Type 0
  AgreeAt m g h v = position G g (map x.embed (expand F v m)) ≡ position G h (map x.embed (expand F v m))

  lifted : (m : ℕ) (g h : List B) (v : A) → AgreeAt m g h v → position G g (expand G (x.embed v) m) ≡ position G h (expand G (x.embed v) m)
  lifted m g h v = subst (λ p. position G g p ≡ position G h p) ((keeps_tables F G x H).expansions v m)

  module _ (element : ℕ → A) (log : ℕ) (apart : (i j : ℕ) → i < 2 ^ log → j < 2 ^ log → element i ≡ element j → i ≡ j) where
    pub agree_rarely : (m : ℕ) (g h : List B) → length g ≡ 2 ^ m → length h ≡ 2 ^ m → (g ≡ h → ⊥)
        → (indices : List ℕ) → Distinct indices → AllByRecursion (λ i. (i < 2 ^ log) × AgreeAt m g h (element i)) indices → length indices < 2 ^ m
    agree_rarely m g h lg lh ne is distinct agree =
        let f : ℕ → B = λ i. x.embed (element i) in
        let f_apart : (i j : ℕ) → i < 2 ^ log → j < 2 ^ log → f i ≡ f j → i ≡ j = λ i j hi hj e. apart i j hi hj (H.one_to_one (element i) (element j) e) in
        let low : AllByRecursion (λ i. i < 2 ^ log) is = All-weaker (λ i. (i < 2 ^ log) × AgreeAt m g h (element i)) (λ i. i < 2 ^ log) (λ i a. a.0) is agree in
        let at : AllByRecursion (λ i. position G g (expand G (f i) m) ≡ position G h (expand G (f i) m)) is =
        All-weaker (λ i. (i < 2 ^ log) × AgreeAt m g h (element i)) (λ i. position G g (expand G (f i) m) ≡ position G h (expand G (f i) m)) (λ i a. lifted m g h (element i) a.1) is agree in
        let bound : length (map f is) < 2 ^ m =
        few G K m g h lg lh ne (map f is) (distinct_map f (2 ^ log) f_apart is low distinct) (All-map (λ v. position G g (expand G v m) ≡ position G h (expand G v m)) f is at) in
        omega (arith, length-map is f)

-- a domain that keeps its distance tells tables apart
pub settled_from : {A B : Type 0} (G : Ops B) → IsField G → (embed : A → B) (d : Domain A) → Distance G embed d → Settled G embed d
settled_from G K embed d distance log m fits few' g h lg lh agree =
    pick (same? K.decide g h) (λ e. e)
    (λ ne.
    let wide : 2 ^ m ≤ 2 ^ log = pow_mono few' in
    let all : AllByRecursion (λ i. (i < 2 ^ log) × Agree G embed d log m g h i) (below (2 ^ m)) =
    All-weaker (λ i. i < 2 ^ m) (λ i. (i < 2 ^ log) × Agree G embed d log m g h i) (λ i l. let k : i < 2 ^ log = omega arith in (k, agree i k)) (below (2 ^ m)) (all_below (2 ^ m)) in
    let bound : length (below (2 ^ m)) < 2 ^ m = distance log m fits few' g h lg lh ne (below (2 ^ m)) (distinct_below (2 ^ m)) all in
    absurd (omega (arith, length_below (2 ^ m))))

-- any list that has the points of all positions of a log size tells tables of m variables apart
pub apart_by_points : {A B : Type 0} (G : Ops B) (embed : A → B) (d : Domain A) → Settled G embed d → (log m : ℕ) → log ≤ d.capacity → m ≤ log
    → (points : List (List B)) → ((i : ℕ) → i < 2 ^ log → Has points (map embed (d.point log m i)))
    → (g h : List B) → length g ≡ 2 ^ m → length h ≡ 2 ^ m → AllByRecursion (λ p. position G g p ≡ position G h p) points → g ≡ h
apart_by_points G embed d settled log m fits few' points has g h lg lh agree =
    settled log m fits few' g h lg lh (λ i l. all-has (λ p. position G g p ≡ position G h p) points (map embed (d.point log m i)) agree (has i l))
