-- The point of a position, one coordinate after another: select at it, and a table's value at it.
use Rattle.std.proofs.Common.{◌≡◌, ℕ, suc, ◌+◌, ◌-◌, ◌*◌, ◌/◌, ◌^◌, ◌<◌, List, [], ◌∷◌, ◌++◌, map, length, get_or, drop, sym, refl, ap, ◌∙◌, ap₂, add-one, arith, length-drop, drop-cons, subst, true, Ok, Result}
use native.Mathlib.Nat.{pow-succ'}
use lib.ListN.{length-map}
use Rattle.std.proofs.Math.ListN.{get_or-map}
use Rattle.ring.specs.Ring.{Ops, IsRing}
use Rattle.multilinear.specs.Tables.{product, select, select_factor, position}
use Rattle.multilinear.specs.Weights.{weighted}
use Rattle.multilinear.proofs.Algebra as A
use Rattle.multilinear.proofs.Corners as C
use Rattle.multilinear.proofs.Loops.{halves_none}
use Rattle.multilinear.proofs.Embedded.{keeps_tables}
use Rattle.multilinear.proofs.Univariate.{position_at}
use Rattle.ring.specs.Polynomials.{value as at}
use Rattle.field.specs.Laws.{IsField}
use Rattle.multilinear.specs.Univariate.{expand}
use Rattle.field.specs.Extension.{Extension, Extends}
use Rattle.domain.specs.declared.query.Limit.{Limit}
use Rattle.domain.specs.declared.query.WhirQueryPoint.{WhirQueryPoint}
use Rattle.domain.specs.declared.query.WhirQueryPoint.TheVariants.{Univariate}
use Rattle.domain.specs.Domains.{Domain, StandsFor, inside, told}

-- coordinate j of an embedded point, and the coordinates behind it
pub next_coordinate : {A B : Type 0} (embed : A → B) (point : List A) (j : ℕ) (a : A) (p : B) → j < length point → p ≡ embed (get_or point j a)
    → drop j (map embed point) ≡ p ∷ drop (j + 1) (map embed point)
next_coordinate embed point j a p near is =
    let same = length-map point embed in
    drop-cons (map embed point) j (embed a) (omega arith) ∙ ap₂ (λ b n. b ∷ drop n (map embed point)) (get_or-map embed point j a ∙ sym is) (sym (add-one j))

-- a list of no length
empty : {A : Type 0} (l : List A) → length l ≡ 0 → l ≡ []
empty [] e = refl
empty (a ∷ l) e = absurd (omega arith)

-- how many coordinates of an embedded point are left
pub length_left : {A B : Type 0} (embed : A → B) (point : List A) (j vars : ℕ) → length point ≡ vars → length (drop j (map embed point)) ≡ vars - j
length_left embed point j vars sized = length-drop j (map embed point) ∙ ap (λ n. n - j) (length-map point embed ∙ sized)

module _ {B : Type 0} (G : Ops B) (L : IsRing G) where
  open G use {one as 𝟙, add as ◌⊕◌, sub as ◌⊖◌, mul as ◌⊗◌}

  infixl 60 ◌⊕◌
  infixl 60 ◌⊖◌
  infixl 70 ◌⊗◌
  -- the factors so far make `all`, and the coordinates from j on of q, and `rest` of x, are still to come
  pub record Selected (q x : List B) (vars j : ℕ) (rest : List B) (all : B) : Type 0 where
    pub count : j + length rest ≡ vars
    pub whole : all ⊗ select G (drop j q) rest ≡ select G q x

  -- before the first coordinate
  pub selected_none : (q x : List B) (vars : ℕ) (rest : List B) (all : B) → length x ≡ vars → rest ≡ x → all ≡ 𝟙 → Selected q x vars 0 rest all
  selected_none q x vars rest all long same start = record {
    count = omega (arith, ap length same);
    whole = ap₂ (λ a l. a ⊗ select G q l) start same ∙ A.one-mul G L (select G q x);
  }

  -- one more factor is taken into the product
  take_factor : (q left rest next : List B) (p b all more : B) → q ≡ p ∷ left → rest ≡ b ∷ next → more ≡ all ⊗ ((𝟙 ⊖ b) ⊕ b ⊗ p) → more ⊗ select G left next ≡ all ⊗ select G q rest
  unfolding product select_factor
  take_factor q left rest next p b all more eq er em =
      ap (λ z. z ⊗ select G left next) em ∙ A.massoc G L all ((𝟙 ⊖ b) ⊕ b ⊗ p) (select G left next) ∙ sym (ap₂ (λ k l. all ⊗ select G k l) eq er)

  -- one coordinate further
  pub selected_more : (q x : List B) (vars j : ℕ) (rest next : List B) (p b all more : B) → drop j q ≡ p ∷ drop (j + 1) q → rest ≡ b ∷ next → more ≡ all ⊗ ((𝟙 ⊖ b) ⊕ b ⊗ p)
      → Selected q x vars j rest all → Selected q x vars (j + 1) next more
  selected_more q x vars j rest next p b all more eq er em s = record {
    count = omega (arith, ap length er, s.count);
    whole = take_factor (drop j q) (drop (j + 1) q) rest next p b all more eq er em ∙ s.whole;
  }

  -- no coordinate of x is left: the factors' product is one
  none_left : (q : List B) → select G q [] ≡ 𝟙
  unfolding product
  none_left [] = refl
  none_left (p ∷ q) = refl

  -- past the last coordinate of x: the product is all of select
  pub selected_all : (q x : List B) (vars j : ℕ) (rest : List B) (all : B) → rest ≡ [] → Selected q x vars j rest all → all ≡ select G q x
  selected_all q x vars j rest all e s = sym (ap (λ l. all ⊗ select G (drop j q) l) e ∙ ap (λ z. all ⊗ z) (none_left (drop j q)) ∙ A.mul-one G L all) ∙ s.whole

  -- a table of one value, where no coordinate is left
  pub position_none : (t left : List B) (v : B) (n : ℕ) → length left ≡ n → n ≡ 0 → length t ≡ 2 ^ n → v ≡ get_or t 0 v → v ≡ position G t left
  unfolding position weighted
  position_none t left v n el none size is = halves_none G L (select_factor G) t left v (empty left (el ∙ none)) (size ∙ ap (λ k. 2 ^ k) (sym el)) is

  -- the halves of a table, where a coordinate is left
  pub half_sizes : (t low high : List B) (vars j : ℕ) → j < vars → length t ≡ 2 ^ (vars - j) → length low ≡ length t / 2 → length high + length t / 2 ≡ length t
      → (length low ≡ 2 ^ (vars - (j + 1))) × (length high ≡ 2 ^ (vars - (j + 1)))
  half_sizes t low high vars j near size el eh =
      let less : vars - j ≡ suc (vars - (j + 1)) = omega arith in
      let two : 2 ^ (vars - j) ≡ 2 * 2 ^ (vars - (j + 1)) = ap (λ k. 2 ^ k) less ∙ pow-succ' 2 (vars - (j + 1)) in
      (omega arith, omega arith)

  -- a table's value by its halves, where p is the first of the coordinates that are left
  pub position_more : (t low high q left : List B) (n : ℕ) (p below above scaled sum : B) → q ≡ p ∷ left → t ≡ low ++ high → length low ≡ 2 ^ n → length left ≡ n
      → below ≡ position G low left → above ≡ position G high left → scaled ≡ p ⊗ above → sum ≡ below ⊕ scaled → sum ≡ position G t q
  position_more t low high q left n p below above scaled sum eq et size count eb ea es e =
      let parts : sum ≡ position G low left ⊕ p ⊗ position G high left = cc in
      parts ∙ sym (C.position_halves G L p left low high (size ∙ ap (λ k. 2 ^ k) (sym count))) ∙ sym (ap₂ (position G) et eq)

-- select at a point that one element stands for
pub select_told : {B : Type 0} (G : Ops B) (q x : List B) (m : ℕ) (v w result : B) → q ≡ expand G w m → v ≡ w → length x ≡ m → result ≡ select G (expand G v (length x)) x → result ≡ select G q x
select_told G q x m v w result eq ev long is = is ∙ ap₂ (λ u n. select G (expand G u n) x) ev long ∙ ap (λ k. select G k x) (sym eq)

-- a table's value at the position of a point that one element stands for
pub position_told : {B : Type 0} (G : Ops B) (K : IsField G) (t q : List B) (m : ℕ) (v w result : B) → q ≡ expand G w m → v ≡ w → length t ≡ 2 ^ m → result ≡ at G t v → result ≡ position G t q
position_told G K t q m v w result eq ev long is = is ∙ ap (at G t) ev ∙ sym (position_at G K m w t long) ∙ ap (position G t) (sym eq)

module _ {A B : Type 0} (F : Ops A) (G : Ops B) (E : Extension A B) (H : Extends F G E) where
  -- the point that an answer of one element stands for
  stands_for : (m : ℕ) (w : WhirQueryPoint A) (point : List A) (v : A) → w ≡ Univariate v → StandsFor F m w point → point ≡ expand F v m
  stands_for m w point v e s = subst (λ u. StandsFor F m u point) e s

  -- inside, what is told is the answer
  answered : (d : Domain A) (log m i : ℕ) (w : WhirQueryPoint A) → inside d.capacity log m i ≡ true → told d log m i ≡ Ok w → d.answer log m i ≡ w
  answered d log m i w within e = cc

  -- a point told as one element v is, embedded, the point that the embedded v stands for
  pub univariate_point : (d : Domain A) (log m i : ℕ) (v : A) (w : WhirQueryPoint A) (r : Result (WhirQueryPoint A) Limit) → ((log m i : ℕ) → StandsFor F m (d.answer log m i) (d.point log m i))
      → inside d.capacity log m i ≡ true → r ≡ told d log m i → r ≡ Ok w → w ≡ Univariate v → map E.embed (d.point log m i) ≡ expand G (E.embed v) m
  univariate_point d log m i v w r stands within told_is ok one =
      ap (map E.embed) (stands_for m (d.answer log m i) (d.point log m i) v (answered d log m i w within (sym told_is ∙ ok) ∙ one) (stands log m i)) ∙ (keeps_tables F G E H).expansions v m
