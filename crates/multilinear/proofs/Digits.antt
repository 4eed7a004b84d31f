-- The corners in order are the binary digits of the numbers in order.
use Rattle.std.proofs.Common.{◌≡◌, ℕ, zero, suc, ◌+◌, ◌-◌, ◌*◌, ◌/◌, ◌%◌, ◌^◌, ◌<◌, ◌≤◌, List, [], ◌∷◌, map, length, get_or, sym, refl, ap, ◌∙◌, ap₂, mod-eq_of_lt, suc-add, one-mul, zero-add, arith}
use native.Mathlib.Nat.{pow-succ', div-eq_of_lt}
use native.Mathlib.Decide.{dec_lt}
use lib.Arith.{lt-one, digits_div, digits_mod}
use lib.ListN.{length-map}
use Rattle.std.proofs.lemmas.List.{get_or-map, get_or_append_left, get_or-append_right}
use Rattle.ring.specs.Ring.{Ops, IsRing}
use Rattle.multilinear.specs.Tables.{bit, digits, corners, product, select, select_factor, tabulate, value}
use Rattle.multilinear.specs.Univariate.{pow, expand}
use Rattle.multilinear.proofs.Algebra as A
use Rattle.multilinear.proofs.Linear as M
use Rattle.multilinear.proofs.Corners as C

-- a number below 2^(n+1) with its highest digit 1
high_digit : (x h : ℕ) → h ≤ x → x < h + h → x / h ≡ 1
high_digit x h le lt =
    let e : x ≡ 1 * h + (x - h) = omega (arith, one-mul h) in
    let r : x - h < h = omega arith in
    ap (λ y. y / h) e ∙ digits_div 1 r

low_digits : (x h : ℕ) → h ≤ x → x < h + h → x % h ≡ x - h
low_digits x h le lt =
    let e : x ≡ 1 * h + (x - h) = omega (arith, one-mul h) in
    let r : x - h < h = omega arith in
    ap (λ y. y % h) e ∙ digits_mod 1 r

module _ {E : Type 0} (F : Ops E) (L : IsRing F) where
  open F use {zero as 𝟘, one as 𝟙, add as ◌⊕◌, sub as ◌⊖◌, mul as ◌⊗◌}

  infixl 60 ◌⊕◌
  infixl 60 ◌⊖◌
  infixl 70 ◌⊗◌
  module _ (n x : ℕ) (lt : x < 2 ^ suc n) (ih : (y : ℕ) → y < 2 ^ n → get_or (corners F n) y [] ≡ digits F n y) where
    two : 2 ^ suc n ≡ 2 * 2 ^ n
    two = pow-succ' 2 n

    by_half : Dec (x < 2 ^ n) → get_or (corners F (suc n)) x [] ≡ digits F (suc n) x
    unfolding corners digits bit
    by_half (yes l) =
        let Z = map (λ y. 𝟘 ∷ y) (corners F n) in
        let W = map (λ y. 𝟙 ∷ y) (corners F n) in
        let c = C.corners_count F L n in
        let lc : x < length (corners F n) = omega arith in
        let lz : x < length Z = omega (arith, length-map (corners F n) (λ y. 𝟘 ∷ y)) in
        get_or_append_left Z W [] x lz ∙ get_or-map (λ y. 𝟘 ∷ y) (corners F n) x [] [] lc
        ∙ ap₂ (λ b y. b ∷ y) (ap (bit F) (sym (div-eq_of_lt l))) (ih x l ∙ ap (digits F n) (sym (mod-eq_of_lt l)))
    by_half (no ge) =
        let Z = map (λ y. 𝟘 ∷ y) (corners F n) in
        let W = map (λ y. 𝟙 ∷ y) (corners F n) in
        let c = C.corners_count F L n in
        let t = two in
        let le : 2 ^ n ≤ x = omega arith in
        let below : x < 2 ^ n + 2 ^ n = omega arith in
        let rest : x - 2 ^ n < 2 ^ n = omega arith in
        let lc : x - 2 ^ n < length (corners F n) = omega arith in
        let lz : length Z ≡ 2 ^ n = omega (arith, length-map (corners F n) (λ y. 𝟘 ∷ y)) in
        get_or-append_right Z W (2 ^ n) x [] lz le ∙ get_or-map (λ y. 𝟙 ∷ y) (corners F n) (x - 2 ^ n) [] [] lc
        ∙ ap₂ (λ b y. b ∷ y) (ap (bit F) (sym (high_digit x (2 ^ n) le below))) (ih (x - 2 ^ n) rest ∙ ap (digits F n) (sym (low_digits x (2 ^ n) le below)))

  pub corners_digits : (n x : ℕ) → x < 2 ^ n → get_or (corners F n) x [] ≡ digits F n x
  unfolding corners digits
  corners_digits zero x h = ap (λ k. get_or (corners F zero) k []) (lt-one h)
  corners_digits (suc n) x h = unfold corners digits in by_half n x h (corners_digits n) (dec_lt x (2 ^ n))

  pub length_digits : (n x : ℕ) → length (digits F n x) ≡ n
  unfolding digits
  length_digits zero x = refl
  length_digits (suc n) x = ap suc (length_digits n (x % 2 ^ n))

  -- entry x of a table is its value at corner x
  pub entry : (n x : ℕ) (g : List E) → length g ≡ 2 ^ n → x < 2 ^ n → value F g (digits F n x) ≡ get_or g x 𝟘
  unfolding tabulate
  entry n x g h l =
      let c = C.corners_count F L n in
      let lc : x < length (corners F n) = omega arith in
      ap (value F g) (sym (corners_digits n x l)) ∙ sym (get_or-map (value F g) (corners F n) x [] 𝟘 lc) ∙ ap (λ t. get_or t x 𝟘) (C.tabulate_value F L n g h)

  -- powers
  pub pow-add : (v : E) (a b : ℕ) → pow F v (a + b) ≡ pow F v a ⊗ pow F v b
  unfolding pow
  pow-add v zero b = ap (pow F v) (zero-add b) ∙ sym (A.one-mul F L (pow F v b))
  pow-add v (suc a) b = ap (pow F v) (suc-add a b) ∙ ap (λ z. v ⊗ z) (pow-add v a b) ∙ sym (A.massoc F L v (pow F v a) (pow F v b))

  select_low : (p s : E) (d : ℕ) → d ≡ 0 → select_factor F p (bit F d) ⊗ s ≡ s
  unfolding bit
  select_low p s d e = ap (λ k. select_factor F p (bit F k) ⊗ s) e ∙ ap (λ z. z ⊗ s) (M.select_factor_at_zero F L p) ∙ A.one-mul F L s

  select_high : (p s : E) (d : ℕ) → d ≡ 1 → select_factor F p (bit F d) ⊗ s ≡ p ⊗ s
  unfolding bit
  select_high p s d e = ap (λ k. select_factor F p (bit F k) ⊗ s) e ∙ ap (λ z. z ⊗ s) (M.select_factor_at_one F L p)

  module _ (v : E) (n x : ℕ) (lt : x < 2 ^ suc n) (ih : (y : ℕ) → y < 2 ^ n → select F (expand F v n) (digits F n y) ≡ pow F v y) where
    power_half : Dec (x < 2 ^ n) → select F (expand F v (suc n)) (digits F (suc n) x) ≡ pow F v x
    unfolding expand digits product
    power_half (yes l) =
        select_low (pow F v (2 ^ n)) (select F (expand F v n) (digits F n (x % 2 ^ n))) (x / 2 ^ n) (div-eq_of_lt l)
        ∙ ap (λ y. select F (expand F v n) (digits F n y)) (mod-eq_of_lt l) ∙ ih x l
    power_half (no ge) =
        let t : 2 ^ suc n ≡ 2 * 2 ^ n = pow-succ' 2 n in
        let le : 2 ^ n ≤ x = omega arith in
        let below : x < 2 ^ n + 2 ^ n = omega arith in
        let rest : x - 2 ^ n < 2 ^ n = omega arith in
        let whole : 2 ^ n + (x - 2 ^ n) ≡ x = omega arith in
        select_high (pow F v (2 ^ n)) (select F (expand F v n) (digits F n (x % 2 ^ n))) (x / 2 ^ n) (high_digit x (2 ^ n) le below)
        ∙ ap (λ y. pow F v (2 ^ n) ⊗ select F (expand F v n) (digits F n y)) (low_digits x (2 ^ n) le below)
        ∙ ap (λ z. pow F v (2 ^ n) ⊗ z) (ih (x - 2 ^ n) rest) ∙ sym (pow-add v (2 ^ n) (x - 2 ^ n)) ∙ ap (pow F v) whole

  -- select at the point that v stands for and corner x
  pub select_power : (v : E) (n x : ℕ) → x < 2 ^ n → select F (expand F v n) (digits F n x) ≡ pow F v x
  unfolding expand digits product pow
  select_power v zero x h = ap (pow F v) (sym (lt-one h))
  select_power v (suc n) x h = unfold expand digits product in power_half v n x h (select_power v n) (dec_lt x (2 ^ n))
