-- Both laws of commitments by a tree of digests. Assumes nothing.
use Rattle.std.proofs.Common.{◌≡◌, ℕ, ◌^◌, ◌<◌, true, false, eqb, ◌⊎◌, List, [], ◌∷◌, ◌++◌, map, length, get_or, sym, refl, ap, ◌∙◌, subst, inl, inr, ⊎_elim, not-suc-le-zero, arith}
use mathlib.Core.List.Memᴰ
use mathlib.Core.List.{Memᴰ}
use Rattle.std.specs.Str.{bytes_eq}
use Rattle.std.proofs.lemmas.Slice.Eq.{bytes_eq-Decides}
use Rattle.std.proofs.lemmas.List.{get_or-map, length-map}
use Rattle.std.proofs.lemmas.Bool.{cases_Bool, both_ways, eq-eqb, eqb-true, and_parts, and_from}
use Rattle.blake2s.specs.Blake2s.{hash}
use Rattle.blake2s.proofs.Digests.{length_hash}
use Rattle.ring.specs.Ring.{Ops}
use Rattle.field.specs.Numbers.{Numbering, Numbers}
use Rattle.field.specs.Bytes.{word_bytes, little_endian, coefficients_bytes}
use Rattle.field.proofs.Encoding.{number_of_bytes}
use Rattle.digest.specs.Collision.{Collision}
use Rattle.commit.specs.Opening.{Laws, row_of}
use Rattle.commit.specs.Tree.{levels, climbs, climbed_lists, siblings, paired_lists, leaves, merkle, RootOf}
use Rattle.commit.specs.ListLemmas.{append_inj, member}
use Rattle.commit.specs.TreeLemmas.{Level, climbs_own, climbs_inside, climbs_long, climbs_bound, length_siblings}

module _ {X : Type 0} {o : Ops X} {n : Numbering X} (numbers : Numbers o n) where
  small : (x : X) → n.number x < 2 ^ 32
  small x = omega (arith, numbers.below x, numbers.small)

  -- bytes settle an element, and a row
  element_settled : (x y : X) → word_bytes (n.number x) ≡ word_bytes (n.number y) → x ≡ y
  element_settled x y e =
      sym (numbers.residue_number x)
      ∙ ap n.residue (sym (number_of_bytes (n.number x) (small x)) ∙ ap little_endian e ∙ number_of_bytes (n.number y) (small y))
      ∙ numbers.residue_number y

  pub bytes_settled : (xs ys : List X) → coefficients_bytes n xs ≡ coefficients_bytes n ys → xs ≡ ys
  bytes_settled [] [] e = refl
  bytes_settled [] (y ∷ ys) e = absurd (not-suc-le-zero {n = 0} (omega (arith, ap length e)))
  bytes_settled (x ∷ xs) [] e = absurd (not-suc-le-zero {n = 0} (omega (arith, ap length e)))
  bytes_settled (x ∷ xs) (y ∷ ys) e =
      let parts = append_inj (word_bytes (n.number x)) (word_bytes (n.number y)) (coefficients_bytes n xs) (coefficients_bytes n ys) refl e in
      let heads = element_settled x y parts.0 in
      let tails = bytes_settled xs ys parts.1 in
      cc (heads, tails)

module _ {X : Type 0} (n : Numbering X) where
  leaf_at : (matrix : List (List X)) (i : ℕ) → i < length matrix → get_or (leaves n matrix) i [] ≡ hash (coefficients_bytes n (row_of matrix i))
  leaf_at matrix i h = get_or-map (λ row. hash (coefficients_bytes n row)) matrix i [] [] h

  count_leaves : (matrix : List (List X)) → length (leaves n matrix) ≡ length matrix
  count_leaves matrix = length-map matrix (λ row. hash (coefficients_bytes n row))

  level_of : (matrix : List (List X)) → length matrix ≡ 2 ^ levels (length matrix) → Level (levels (length matrix)) (leaves n matrix)
  level_of matrix full = record {
    high = count_leaves matrix ∙ full;
    each = λ k h. ap length (leaf_at matrix k (subst (λ (m : ℕ). k < m) (count_leaves matrix) h)) ∙ length_hash (coefficients_bytes n (row_of matrix k));
  }

pub merkle_laws : {X : Type 0} (o : Ops X) (n : Numbering X) → Numbers o n → Laws (merkle n) (RootOf n)
merkle_laws {X} o n numbers = record {
  own_right = λ c matrix w i of wide h.
      let row = row_of matrix i in
      let d = levels (length matrix) in
      let l = leaves n matrix in
      and_from (eqb (length row) w) (climbs c (length matrix) i (hash (coefficients_bytes n row)) (siblings d l i)) (eq-eqb (length row) w (wide i h))
      (climbs_own d l c (length matrix) i (hash (coefficients_bytes n row)) (level_of n matrix of.full) (sym (count_leaves n matrix)) (subst (λ (m : ℕ). i < m) (sym (count_leaves n matrix)) h) (sym (leaf_at n matrix i h)) of.top);
  own_long = λ c matrix i of. length_siblings (levels (length matrix)) (leaves n matrix) i;
  binding = λ c matrix w i row path of wide right.
      let d = levels (length matrix) in
      let l = leaves n matrix in
      let p = length matrix in
      let x = coefficients_bytes n row in
      let y = coefficients_bytes n (row_of matrix i) in
      let up = (and_parts (eqb (length row) w) (climbs c p i (hash x) path) right).1 in
      let h = climbs_inside c p i (hash x) path up in
      let Goal : Type 0 = ((i < p) × (row ≡ row_of matrix i)) ⊎ Collision hash (x ∷ climbed_lists i (hash x) path) (map (coefficients_bytes n) matrix ++ paired_lists d l) in
      let first : hash x ≡ get_or l i [] → Goal = λ e.
      ⊎_elim
      (λ (q : bytes_eq x y ≡ true). inl (h, bytes_settled numbers row (row_of matrix i) ((bytes_eq-Decides x y).0 q)))
      (λ (q : bytes_eq x y ≡ false). inr (record {
        one = x;
        other = y;
        in_checking = Memᴰ.head refl;
        in_committing = Memᴰ.append_left (paired_lists d l) (Memᴰ.cast (sym (get_or-map (coefficients_bytes n) matrix i [] [] h)) (member (map (coefficients_bytes n) matrix) i [] (subst (λ (m : ℕ). i < m) (sym (length-map matrix (coefficients_bytes n))) h)));
        different = λ z. both_ways (bytes_eq x y) q ((bytes_eq-Decides x y).1 z);
        shared = e ∙ leaf_at n matrix i h;
      }))
      (cases_Bool (bytes_eq x y)) in
      let later : Collision hash (climbed_lists i (hash x) path) (paired_lists d l) → Goal = λ k.
      inr (record {
        one = k.one;
        other = k.other;
        in_checking = Memᴰ.tail k.in_checking;
        in_committing = Memᴰ.append_right (map (coefficients_bytes n) matrix) k.in_committing;
        different = k.different;
        shared = k.shared;
      }) in
      ⊎_elim first later (climbs_bound d l c p i (hash x) path (level_of n matrix of.full) (sym (count_leaves n matrix)) (length_hash x) of.top up);
  wide = λ c w p i row path right. eqb-true (length row) w (and_parts (eqb (length row) w) (climbs c p i (hash (coefficients_bytes n row)) path) right).0;
  long = λ c w p i row path right. climbs_long c p i (hash (coefficients_bytes n row)) path (and_parts (eqb (length row) w) (climbs c p i (hash (coefficients_bytes n row)) path) right).1;
}
