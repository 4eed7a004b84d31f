-- Elements as bytes: writing and reading word by word, and reading back. Assumes nothing.
use Rattle.std.proofs.Common.{◌≡◌, ℕ, zero, suc, ◌+◌, ◌*◌, ◌^◌, ◌<◌, ◌≤◌, List, [], ◌∷◌, ◌++◌, map, length, get_or, take, drop, Some, None, Option, w32, sym, refl, ap, ◌∙◌, subst, ap₂, inr, ⊎_elim, le_of_suc-le-suc, not-suc-le-zero, suc-ne-zero, arith, lit<, take-add, length-drop, get_or-drop}
use Rattle.std.specs.List.{Any, All}
use Rattle.std.specs.Int.{from_le_bytes}
use Rattle.std.specs.Simd.{first_chunks}
use Rattle.std.proofs.lemmas.List.{drop-drop, take_more, length-take-le, length-map, get_or-map}
use Rattle.std.proofs.lemmas.List.Elements.{All-get_or}
use Rattle.std.proofs.lemmas.Nat.{le_bytes_4, from_le_bytes-to_le_bytes_4}
use Rattle.ring.specs.Ring.{Ops}
use Rattle.field.specs.Numbers.{Numbering, Numbers}
use Rattle.field.specs.Extension.{Extension, Extends}
use Rattle.field.specs.Bytes.{word_bytes, little_endian, coefficients_bytes, element_bytes, Overflows, Reads, ReadsNumbers, ReadBack}

-- numbers and their four bytes

pub number_of_bytes : (n : ℕ) → n < 2 ^ 32 → little_endian (word_bytes n) ≡ n
number_of_bytes n l = let e = from_le_bytes-to_le_bytes_4 n l in omega arith

-- words as bytes

abbrev pub words_bytes : List ℕ → List ℕ
words_bytes [] = []
words_bytes (w ∷ ws) = word_bytes w ++ words_bytes ws

pub length_words : (ws : List ℕ) → length (words_bytes ws) ≡ 4 * length ws
length_words [] = refl
length_words (w ∷ ws) = let h = length_words ws in omega arith

words_push : (ws : List ℕ) (w : ℕ) → words_bytes (ws ++ (w ∷ [])) ≡ words_bytes ws ++ word_bytes w
words_push [] w = refl
words_push (v ∷ ws) w = ap (λ l. word_bytes v ++ l) (words_push ws w)

-- the word at a place
word_at : (ws : List ℕ) (j z : ℕ) → j < length ws → take 4 (drop (4 * j) (words_bytes ws)) ≡ word_bytes (get_or ws j z)
word_at [] j z l = absurd (not-suc-le-zero l)
word_at (w ∷ ws) zero z l = refl
word_at (w ∷ ws) (suc j) z l =
    let e : 4 * suc j ≡ suc (suc (suc (suc (4 * j)))) = omega arith in
    ap (λ k. take 4 (drop k (word_bytes w ++ words_bytes ws))) e ∙ word_at ws j z (le_of_suc-le-suc l)

number_at : (ws : List ℕ) (j z : ℕ) → j < length ws → get_or ws j z < 2 ^ 32 → little_endian (take 4 (drop (4 * j) (words_bytes ws))) ≡ get_or ws j z
number_at ws j z l small = ap little_endian (word_at ws j z l) ∙ number_of_bytes (get_or ws j z) small

chunk_at : (k i : ℕ) (xs : List ℕ) (z : List ℕ) → i < k → get_or (first_chunks 4 k xs) i z ≡ take 4 (drop (4 * i) xs)
chunk_at zero i xs z l = absurd (not-suc-le-zero l)
chunk_at (suc k) zero xs z l = refl
chunk_at (suc k) (suc i) xs z l =
    let e : 4 + 4 * i ≡ 4 * suc i = omega arith in
    chunk_at k i (drop 4 xs) z (le_of_suc-le-suc l) ∙ ap (take 4) (drop-drop (4 * i) 4 xs ∙ ap (λ j. drop j xs) e)

pub words_count : (ws bytes : List ℕ) (j : ℕ) → 4 * j ≤ length bytes → words_bytes ws ≡ take (4 * j) bytes → length ws ≡ j
words_count ws bytes j l e =
    let size = length-take-le (4 * j) bytes l in
    omega (arith, sym (length_words ws) ∙ ap length e)

small_drop : (xs : List ℕ) (i : ℕ) → ((k : ℕ) → get_or xs k 0 < 256) → (k : ℕ) → get_or (drop i xs) k 0 < 256
small_drop xs i small k = subst (λ b. b < 256) (sym (get_or-drop i xs k 0)) (small (i + k))

small_take : (xs : List ℕ) (n : ℕ) → ((k : ℕ) → get_or xs k 0 < 256) → (k : ℕ) → get_or (take n xs) k 0 < 256
small_take xs zero small k = lit< tt
small_take [] (suc n) small k = lit< tt
small_take (x ∷ xs) (suc n) small zero = small 0
small_take (x ∷ xs) (suc n) small (suc k) = small_take xs n (λ i. small (suc i)) k

-- one word more is read
pub read_more : (ws after bytes z : List ℕ) (words : List (List ℕ)) (j k w : ℕ) → 4 * k ≤ length bytes → words ≡ first_chunks 4 k bytes → j < k →
    ((i : ℕ) → get_or bytes i 0 < 256) → w ≡ from_le_bytes w32 (get_or words j z) → words_bytes ws ≡ take (4 * j) bytes → after ≡ ws ++ (w ∷ []) → words_bytes after ≡ take (4 * (j + 1)) bytes
read_more ws after bytes z words j k w room chunks l small number inv e =
    let word = take 4 (drop (4 * j) bytes) in
    let at : get_or words j z ≡ take 4 (drop (4 * j) bytes) = ap (λ c. get_or c j z) chunks ∙ chunk_at k j bytes z l in
    let rest = length-drop (4 * j) bytes in
    let four = length-take-le 4 (drop (4 * j) bytes) (omega arith) in
    let places : 4 * j + 4 ≡ 4 * (j + 1) = omega arith in
    ap words_bytes e ∙ words_push ws w ∙ ap₂ ◌++◌ inv (le_bytes_4 word w four (small_take (drop (4 * j) bytes) 4 (small_drop bytes (4 * j) small)) (number ∙ ap (from_le_bytes w32) at)) ∙
    sym (take-add (4 * j) 4 bytes) ∙ ap (λ n. take n bytes) places

-- an element's bytes

module _ {A : Type 0} (n : Numbering A) where
  bytes_append : (cs ds : List A) → coefficients_bytes n (cs ++ ds) ≡ coefficients_bytes n cs ++ coefficients_bytes n ds
  bytes_append [] ds = refl
  bytes_append (c ∷ cs) ds = ap (λ l. word_bytes (n.number c) ++ l) (bytes_append cs ds)

  length_bytes : (cs : List A) → length (coefficients_bytes n cs) ≡ 4 * length cs
  length_bytes [] = refl
  length_bytes (c ∷ cs) = let h = length_bytes cs in omega arith

  bytes_push : (cs : List A) (c : A) → coefficients_bytes n (cs ++ (c ∷ [])) ≡ coefficients_bytes n cs ++ word_bytes (n.number c)
  bytes_push cs c = bytes_append cs (c ∷ [])

  pub written_length : (cs : List A) (j : ℕ) (written : List ℕ) → j < length cs → written ≡ coefficients_bytes n (take j cs) → length written ≡ 4 * j
  written_length cs j written l e = ap length e ∙ length_bytes (take j cs) ∙ ap (λ k. 4 * k) (length-take-le j cs (omega arith))

  coefficients_words : (cs : List A) → coefficients_bytes n cs ≡ words_bytes (map n.number cs)
  coefficients_words [] = refl
  coefficients_words (c ∷ cs) = ap (λ l. word_bytes (n.number c) ++ l) (coefficients_words cs)

  -- one coefficient more is written
  pub write_more : (cs : List A) (z c : A) (j w : ℕ) (before after : List ℕ) → j < length cs → before ≡ coefficients_bytes n (take j cs) →
      c ≡ get_or cs j z → w ≡ n.number c → after ≡ before ++ word_bytes w → after ≡ coefficients_bytes n (take (j + 1) cs)
  write_more cs z c j w before after l inv coefficient number e =
      e ∙ ap₂ (λ u v. u ++ word_bytes v) inv (number ∙ ap n.number coefficient) ∙
      sym (bytes_push (take j cs) (get_or cs j z)) ∙ ap (coefficients_bytes n) (sym (take_more cs j z l))

module _ {A : Type 0} {o : Ops A} {n : Numbering A} (N : Numbers o n) where
  small_number : (x : A) → n.number x < 2 ^ 32
  small_number x = let a = N.below x in let b = N.small in omega arith

  same_number : (c d : A) → word_bytes (n.number c) ≡ word_bytes (n.number d) → c ≡ d
  same_number c d e =
      sym (N.residue_number c) ∙
      ap n.residue (sym (number_of_bytes (n.number c) (small_number c)) ∙ ap little_endian e ∙ number_of_bytes (n.number d) (small_number d)) ∙
      N.residue_number d

  same_coefficients : (cs ds : List A) → coefficients_bytes n cs ≡ coefficients_bytes n ds → cs ≡ ds
  same_coefficients [] [] e = refl
  same_coefficients [] (d ∷ ds) e = absurd (suc-ne-zero _ (sym (ap length e)))
  same_coefficients (c ∷ cs) [] e = absurd (suc-ne-zero _ (ap length e))
  same_coefficients (c ∷ cs) (d ∷ ds) e = ap₂ ◌∷◌ (same_number c d (ap (take 4) e)) (same_coefficients cs ds (ap (drop 4) e))

  module _ {B : Type 0} {e : Ops B} {x : Extension A B} (E : Extends o e x) where
    size : (y : B) → length (element_bytes n x y) ≡ 4 * x.degree
    size y = length_bytes n (x.coefficients y) ∙ ap (λ k. 4 * k) (E.count y)

    fits : (y : B) → Overflows n x (element_bytes n x y) → ⊥
    fits y over =
        let j = over.0 in
        let numbers = map n.number (x.coefficients y) in
        let l : j < length (x.coefficients y) = subst (λ k. j < k) (sym (E.count y)) over.1 in
        let c = get_or (x.coefficients y) j o.zero in
        let is : get_or (map n.number (x.coefficients y)) j (n.number o.zero) ≡ n.number (get_or (x.coefficients y) j o.zero) = get_or-map n.number (x.coefficients y) j o.zero (n.number o.zero) l in
        let small : get_or (map n.number (x.coefficients y)) j (n.number o.zero) < 2 ^ 32 = subst (λ k. k < 2 ^ 32) (sym is) (small_number c) in
        let at = ap (λ b. little_endian (take 4 (drop (4 * j) b))) (coefficients_words n (x.coefficients y)) ∙ number_at numbers j (n.number o.zero) (subst (λ k. j < k) (sym (length-map (x.coefficients y) n.number)) l) small ∙ is in
        let big : n.modulus ≤ n.number c = subst (λ k. n.modulus ≤ k) at over.2 in
        let below = N.below c in
        omega arith

    back : (y : B) (r : Option B) → Reads n x (element_bytes n x y) r → r ≡ Some y
    back y (Some z) p = ap Some (E.settled z y (same_coefficients (x.coefficients z) (x.coefficients y) p))
    back y None p = ⊎_elim (λ q. absurd (q (size y))) (λ q. absurd (fits y q)) p

    pub read_back : ReadBack n x
    read_back y = (size y, back y)

-- bytes are read by their words
module _ {A B : Type 0} (n : Numbering A) (x : Extension A B) (ws bytes : List ℕ) (count : length ws ≡ x.degree) (small : All (λ w. w < 2 ^ 32) ws)
    (whole : words_bytes ws ≡ bytes) where
  overflows : Any (λ k. n.modulus ≤ k) ws → Overflows n x bytes
  overflows (j, w, l, is, big) =
      let at : little_endian (take 4 (drop (4 * j) bytes)) ≡ w =
      ap (λ b. little_endian (take 4 (drop (4 * j) b))) (sym whole) ∙ number_at ws j w l (All-get_or (λ v. v < 2 ^ 32) ws j w l small) ∙ is in
      (j, subst (λ k. j < k) count l, subst (λ k. n.modulus ≤ k) (sym at) big)

  pub reads_words : (r : Option B) → ReadsNumbers n x ws r → Reads n x bytes r
  reads_words (Some y) e = coefficients_words n (x.coefficients y) ∙ ap words_bytes e ∙ whole
  reads_words None p = ⊎_elim (λ q. absurd (q count)) (λ q. inr (overflows q)) p
