-- Rows one after another, and the values of a verification's queries.
use Rattle.std.proofs.Common.{◌≡◌, ℕ, suc, ◌+◌, ◌-◌, ◌*◌, ◌%◌, ◌^◌, ◌<◌, ◌≤◌, List, [], ◌∷◌, map, length, take, drop, get_or, set, inl, inr, false, ltb, min, Option, Some, unwrap_or, sym, refl, ap, ◌∙◌, suc-mul, zero-mul, arith, take_all, length-take, length-drop, pow_mono}
use Rattle.std.proofs.Math.Nat.{mul-le-mul_right}
use Rattle.field.specs.Extension.{Extension}
use Rattle.std.proofs.lemmas.List.{length-map, take-map, drop-map, drop-drop, take_more_set, map_more}
use Rattle.std.proofs.lemmas.Bool.{cases_lt, ltb-false}
use Rattle.std.proofs.lemmas.Nat.{one_shl}
use Rattle.ring.specs.Ring.{Ops}
use Rattle.multilinear.specs.Tables.{value, orient}
use Rattle.commit.specs.Opening.{piece}
use Rattle.argument.specs.Reading.{queried}
use Rattle.verification.specs.Proof.{Rows, of_base, of_extension}
use Rattle.verification.specs.Setting.{Setting, folds}
use Rattle.verification.specs.Verifying.{elements_of, queries_at}
use Rattle.verifier.specs.declared.powers.Powers.{Powers}
use Rattle.verifier.specs.Powers.{with, with_all}
use Rattle.verifier.specs.Rows.{elements, row_values, Complete}

-- The rows' elements are those of the verification.
pub rows_embedded : {F E C P : Type 0} (S : Setting F E C P) (rows : Rows F E) → elements S.extension rows ≡ elements_of S rows
rows_embedded S (of_base l) = refl
rows_embedded S (of_extension l) = refl

-- The rows' values are those that its queries claim.
pub queries_values : {F E C P : Type 0} (S : Setting F E C P) (i : ℕ) (rs : List E) (ps : List ℕ) (l : List E)
    → map (λ q. q.claimed) (map (queried S.field S.order rs) (queries_at S i ps l)) ≡ row_values S.field (2 ^ folds S i) (orient S.order rs) (length ps) l
queries_values S i rs [] l = refl
queries_values S i rs (p ∷ ps) l = ap (λ vs. value S.field (take (2 ^ folds S i) l) (orient S.order rs) ∷ vs) (queries_values S i rs ps (drop (2 ^ folds S i) l))

-- one row more
row_drop : {X : Type 0} (l : List X) (w k : ℕ) → drop w (drop (k * w) l) ≡ drop ((k + 1) * w) l
row_drop l w k = drop-drop w (k * w) l ∙ ap (λ n. drop n l) (omega (arith, suc-mul k w))

module _ {E : Type 0} (F : Ops E) (w : ℕ) (p : List E) (l : List E) where
  -- what is left of so many rows, from a row on
  abbrev pub rest : ℕ → ℕ → List E
  rest count k = row_values F w p (count - k) (drop (k * w) l)

  -- a row more: what is left still comes to the same; and past the last nothing is left
  pub rest_next : (count k : ℕ) → k < count → rest count k ≡ value F (piece l w k) p ∷ rest count (k + 1)
  rest_next count k h =
      let more : count - k ≡ suc (count - (k + 1)) = omega arith in
      ap (λ n. row_values F w p n (drop (k * w) l)) more ∙ ap (λ t. value F (piece l w k) p ∷ row_values F w p (count - (k + 1)) t) (row_drop l w k)

  -- at first all rows are left
  pub rest_begins : (count : ℕ) → rest count 0 ≡ row_values F w p count l
  rest_begins count =
      let all : count - 0 ≡ count = omega arith in
      ap (λ n. row_values F w p n (drop (0 * w) l)) all ∙ ap (λ n. row_values F w p count (drop n l)) (zero-mul w)

  pub rows_next : (s t : Powers E) (count k : ℕ) (v : E) → k < count → v ≡ value F (piece l w k) p → t ≡ with F s v → with_all F t (rest count (k + 1)) ≡ with_all F s (rest count k)
  rows_next s t count k v h e is =
      ap (λ u. with_all F u (rest count (k + 1))) (is ∙ ap (with F s) e) ∙ sym (ap (with_all F s) (rest_next count k h))

  pub rows_end : (s : Powers E) (count k : ℕ) → count ≤ k → with_all F s (rest count k) ≡ s
  rows_end s count k h =
      let none : count - k ≡ 0 = omega arith in
      ap (λ n. with_all F s (row_values F w p n (drop (k * w) l))) none

-- a whole row is there
pub row_there : {X : Type 0} (count w k : ℕ) (l : List X) → Complete count w l → k < count → length (piece l w k) ≡ w
row_there count w k l c h =
    let more : (k + 1) * w ≤ count * w = mul-le-mul_right w (omega arith) in
    simp (length-take, length-drop) (omega (arith, suc-mul k w))

-- places are filled with what f makes of the elements
pub filled_more : {A B : Type 0} (f : A → B) (xs : List A) (out : List B) (j : ℕ) (x : A) (y : B) → j < length out → length xs ≡ length out → x ≡ get_or xs j x → y ≡ f x → take j out ≡ map f (take j xs)
    → take (j + 1) (set out j y) ≡ map f (take (j + 1) xs)
filled_more f xs out j x y h same at is so_far =
    take_more_set out j y h ∙ cc (so_far, is, at, map_more f xs j x (omega arith))

-- there is an element for each place
pub filled_past : {A B : Type 0} (f : A → B) (xs : List A) (out next : List B) (j : ℕ) → j < length out → length xs ≡ length out → false ≡ ltb j (length xs) → take (j + 1) next ≡ map f (take (j + 1) xs)
filled_past f xs out next j h same none =
    let past = ltb-false j (length xs) (sym none) in
    absurd (omega arith)

-- and in the end all of them
pub filled_all : {A B : Type 0} (f : A → B) (xs : List A) (out : List B) (j : ℕ) → length out ≤ j → length xs ≡ length out → take j out ≡ map f (take j xs) → out ≡ map f xs
filled_all f xs out j h same filled = sym (take_all j out h) ∙ filled ∙ ap (map f) (take_all j xs (omega arith))

-- 2^n of values for which a word counts the room: n is below 64, and the shift makes no less
pub narrow : (n room : ℕ) → 2 ^ n ≤ room → room < 2 ^ 64 → n < 64
narrow n room h r =
    elim (cases_lt n 64) [ inl l ↦ l | inr g ↦ (let up : 2 ^ 64 ≤ 2 ^ n = pow_mono g in absurd (omega arith)) ]

pub size_is : (n room : ℕ) → 2 ^ n ≤ room → room < 2 ^ 64 → min room (1 * 2 ^ n % 18446744073709551616) ≡ 2 ^ n
size_is n room h r =
    let e : 1 * 2 ^ n % 18446744073709551616 ≡ 2 ^ n = one_shl n 64 (narrow n room h r) in
    omega arith

-- a row of the base, embedded
pub base_row : {F E : Type 0} (x : Extension F E) (l : List F) (rows : Rows F E) (w k : ℕ) (row : List F) (out : List E) → rows ≡ of_base l → row ≡ piece l w k → (length row ≡ w → out ≡ map x.embed row)
    → length (piece (elements x rows) w k) ≡ w → out ≡ piece (elements x rows) w k
base_row x l rows w k row out kind is copied long =
    let same : map x.embed row ≡ piece (elements x rows) w k =
    ap (map x.embed) is ∙ sym (take-map x.embed w (drop (k * w) l)) ∙ ap (take w) (sym (drop-map x.embed (k * w) l)) ∙ ap (λ r. piece (elements x r) w k) (sym kind) in
    copied (sym (length-map row x.embed) ∙ ap length same ∙ long) ∙ same

-- a row's value, worked out in the front of a buffer
pub row_worked : {E : Type 0} (F : Ops E) (l places p : List E) (w k : ℕ) (r : Option E) (v z : E) → w ≡ 2 ^ length p → length (piece l (2 ^ length p) k) ≡ 2 ^ length p → (length (piece l w k) ≡ w → places ≡ piece l w k)
    → (2 ^ length p ≤ length places → r ≡ Some (value F (take (2 ^ length p) places) p)) → v ≡ unwrap_or r z → v ≡ value F (piece l (2 ^ length p) k) p
row_worked F l places p w k r v z wide there copied fits is =
    let other : piece l w k ≡ piece l (2 ^ length p) k = ap (λ n. piece l n k) wide in
    let same : places ≡ piece l (2 ^ length p) k = copied (ap length other ∙ there ∙ sym wide) ∙ other in
    let long : length places ≡ 2 ^ length p = ap length same ∙ there in
    is ∙ ap (λ o. unwrap_or o z) (fits (omega arith)) ∙ ap (λ t. value F t p) (take_all (2 ^ length p) places (omega arith) ∙ same)

-- the front of a buffer is as long as a row
pub front_long : {X : Type 0} (n m width : ℕ) (xs : List X) → width ≡ 2 ^ m → m ≡ n → 2 ^ n ≤ length xs → length (take width xs) ≡ 2 ^ n
front_long n m width xs is same room =
    let wide : width ≡ 2 ^ n = is ∙ ap (λ k. 2 ^ k) same in
    simp length-take (omega arith)
