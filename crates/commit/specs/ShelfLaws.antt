-- Both laws of kept tables. Assumes nothing.
use Rattle.std.proofs.Common.{◌≡◌, ℕ, ◌<◌, true, ◌&&◌, eqb, ltb, List, [], ◌∷◌, map, length, get_or, sym, refl, ap, ◌∙◌, subst, inl, not-suc-le-zero, arith}
use mathlib.Core.List.{head-eq_of_cons-eq, tail-eq_of_cons-eq}
use Rattle.std.proofs.lemmas.Slice.Eq.{bytes_eq-Decides}
use Rattle.std.proofs.lemmas.Bool.{eq-eqb, eqb-true, lt-ltb, ltb-true, and_parts, and_from}
use Rattle.ring.specs.Ring.{Ops}
use Rattle.field.specs.Numbers.{Numbering, Numbers}
use Rattle.commit.specs.declared.shelf.Shelf.{Shelf}
use Rattle.commit.specs.Opening.{Laws, row_of}
use Rattle.commit.specs.Shelves.{bare, shelf_row, same_row, stands, kept, HeldOn}

numbers_settled : {X : Type 0} {o : Ops X} {n : Numbering X} → Numbers o n → (xs ys : List X) → map n.number xs ≡ map n.number ys → xs ≡ ys
numbers_settled h [] [] e = refl
numbers_settled h [] (y ∷ ys) e = let z : ◌≡◌ {A = ℕ} 0 1 = cc in absurd (not-suc-le-zero {n = 0} (omega arith))
numbers_settled h (x ∷ xs) [] e = let z : ◌≡◌ {A = ℕ} 0 1 = cc in absurd (not-suc-le-zero {n = 0} (omega arith))
numbers_settled {n} h (x ∷ xs) (y ∷ ys) e =
    let heads = sym (h.residue_number x) ∙ ap n.residue (head-eq_of_cons-eq e) ∙ h.residue_number y in
    let tails = numbers_settled h xs ys (tail-eq_of_cons-eq e) in
    cc (heads, tails)

-- what it is to stand on a shelf
record Found {X : Type 0} (n : Numbering X) (values : List X) (shelves : List Shelf) (c w i : ℕ) (row : List X) : Type 0 where
  within : i < (get_or shelves c bare).height
  same : map n.number row ≡ map n.number (shelf_row values (get_or shelves c bare) i)

found : {X : Type 0} (n : Numbering X) (values : List X) (shelves : List Shelf) (c w i : ℕ) (row : List X) → stands n values shelves c w i row ≡ true → Found n values shelves c w i row
found n values shelves c w i row t =
    let s = get_or shelves c bare in
    let S = same_row n row (shelf_row values s i) in
    let one = and_parts (ltb c (length shelves)) (eqb w s.width && (ltb i s.height && S)) t in
    let two = and_parts (eqb w s.width) (ltb i s.height && S) one.1 in
    let three = and_parts (ltb i s.height) S two.1 in
    record {
      within = ltb-true i s.height three.0;
      same = (bytes_eq-Decides (map n.number row) (map n.number (shelf_row values s i))).0 three.1;
    }

pub kept_laws : {X : Type 0} (o : Ops X) (n : Numbering X) → Numbers o n → (values : List X) (shelves : List Shelf) → Laws (kept n values shelves) (HeldOn values shelves)
kept_laws {X} o n numbers values shelves = record {
  own_right = λ c matrix w i of wide h.
      let s = get_or shelves c bare in
      let row = row_of matrix i in
      let S = same_row n row (shelf_row values s i) in
      and_from (eqb (length row) w) (eqb 0 0 && stands n values shelves c w i row) (eq-eqb (length row) w (wide i h))
      (and_from (eqb 0 0) (stands n values shelves c w i row) (eq-eqb 0 0 refl)
      (and_from (ltb c (length shelves)) (eqb w s.width && (ltb i s.height && S)) (lt-ltb c (length shelves) of.there)
      (and_from (eqb w s.width) (ltb i s.height && S) (eq-eqb w s.width (sym (wide i h) ∙ of.wide i h))
      (and_from (ltb i s.height) S (lt-ltb i s.height (subst (λ (k : ℕ). i < k) of.high h))
      ((bytes_eq-Decides (map n.number row) (map n.number (shelf_row values s i))).1 (ap (map n.number) (of.rows i h)))))));
  own_long = λ c matrix i of. refl;
  binding = λ c matrix w i row path of wide right.
      let there = (and_parts (eqb (length row) w) (eqb (length path) 0 && stands n values shelves c w i row) right).1 in
      let f = found n values shelves c w i row (and_parts (eqb (length path) 0) (stands n values shelves c w i row) there).1 in
      let h = subst (λ (k : ℕ). i < k) (sym of.high) f.within in
      inl (h, numbers_settled numbers row (shelf_row values (get_or shelves c bare) i) f.same ∙ sym (of.rows i h));
  wide = λ c w p i row path right. eqb-true (length row) w (and_parts (eqb (length row) w) (eqb (length path) 0 && stands n values shelves c w i row) right).0;
  long = λ c w p i row path right.
      let there = (and_parts (eqb (length row) w) (eqb (length path) 0 && stands n values shelves c w i row) right).1 in
      eqb-true (length path) 0 (and_parts (eqb (length path) 0) (stands n values shelves c w i row) there).0;
}
