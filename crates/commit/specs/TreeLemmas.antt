-- Trees of digests: their levels, the way up, and what binds a leaf to its root. Assumes nothing.
use Rattle.std.proofs.Common.{◌≡◌, ℕ, zero, suc, ◌+◌, ◌-◌, ◌/◌, ◌%◌, ◌^◌, ◌<◌, ◌≤◌, true, false, ◌&&◌, eqb, ltb, ◌⊎◌, List, [], ◌∷◌, ◌++◌, map, length, get_or, sym, refl, ap, ◌∙◌, subst, inl, inr, ⊎_elim, not-suc-le-zero, pow-suc, arith, length-append, pow_pos}
use mathlib.Core.List.Memᴰ
use mathlib.Core.List.{Memᴰ}
use Rattle.std.specs.Str.{bytes_eq}
use Rattle.std.proofs.lemmas.Slice.Eq.{bytes_eq-Decides}
use Rattle.std.proofs.lemmas.List.{get_or-map, length-map}
use Rattle.std.proofs.lemmas.Bool.{cases_lt, cases_eq, cases_Bool, both_ways, lt-ltb, le-ltb, eq-eqb, ne_eqb, eqb-true, and_parts, and_from, cond-true, cond-false}
use Rattle.blake2s.specs.Blake2s.{hash}
use Rattle.blake2s.proofs.Digests.{length_hash}
use Rattle.digest.specs.Collision.{Collision}
use Rattle.commit.specs.Tree.{halvings, levels, ordered, climbs, climbed_lists, pairs, above, root_of, sibling, siblings, paired_lists}
use Rattle.commit.specs.ListLemmas.{append_inj, member}

-- levels

fuel : (f g n : ℕ) → n ≤ f → n ≤ g → halvings f n ≡ halvings g n
fuel zero zero n hf hg = refl
fuel zero (suc g) n hf hg = sym (cond-true (ltb n 2) 0 (suc (halvings g (n / 2))) (lt-ltb n 2 (omega arith)))
fuel (suc f) zero n hf hg = cond-true (ltb n 2) 0 (suc (halvings f (n / 2))) (lt-ltb n 2 (omega arith))
fuel (suc f) (suc g) n hf hg =
    ⊎_elim
    (λ (h : n < 2). cond-true (ltb n 2) 0 (suc (halvings f (n / 2))) (lt-ltb n 2 h) ∙ sym (cond-true (ltb n 2) 0 (suc (halvings g (n / 2))) (lt-ltb n 2 h)))
    (λ (h : 2 ≤ n). cond-false (ltb n 2) 0 (suc (halvings f (n / 2))) (le-ltb n 2 h) ∙ ap suc (fuel f g (n / 2) (omega arith) (omega arith)) ∙ sym (cond-false (ltb n 2) 0 (suc (halvings g (n / 2))) (le-ltb n 2 h)))
    (cases_lt n 2)

pub levels_few : (n : ℕ) → n < 2 → levels n ≡ 0
unfolding levels
levels_few zero h = refl
levels_few (suc n) h = cond-true (ltb (suc n) 2) 0 (suc (halvings n (suc n / 2))) (lt-ltb (suc n) 2 h)

pub levels_more : (n : ℕ) → 2 ≤ n → levels n ≡ suc (levels (n / 2))
unfolding levels
levels_more zero h = absurd (not-suc-le-zero h)
levels_more (suc n) h =
    cond-false (ltb (suc n) 2) 0 (suc (halvings n (suc n / 2))) (le-ltb (suc n) 2 h)
    ∙ ap suc (fuel n (suc n / 2) (suc n / 2) (omega arith) (omega arith))

few_halvings : (f n : ℕ) → halvings f n ≤ f
few_halvings zero n = omega arith
few_halvings (suc f) n =
    let r = few_halvings f (n / 2) in
    ⊎_elim
    (λ (h : n < 2). let e = cond-true (ltb n 2) 0 (suc (halvings f (n / 2))) (lt-ltb n 2 h) in omega arith)
    (λ (h : 2 ≤ n). let e = cond-false (ltb n 2) 0 (suc (halvings f (n / 2))) (le-ltb n 2 h) in omega arith)
    (cases_lt n 2)

pub levels_bound : (n : ℕ) → levels n ≤ n
unfolding levels
levels_bound n = few_halvings n n

-- the sides of a pair

pub left_side : (i : ℕ) (d s : List ℕ) → i % 2 ≡ 0 → ordered i d s ≡ d ++ s
left_side i d s e = cond-true (eqb (i % 2) 0) (d ++ s) (s ++ d) (eq-eqb (i % 2) 0 e)

pub right_side : (i : ℕ) (d s : List ℕ) → (i % 2 ≡ 0 → ⊥) → ordered i d s ≡ s ++ d
right_side i d s h = cond-false (eqb (i % 2) 0) (d ++ s) (s ++ d) (ne_eqb (i % 2) 0 h)

length_pairs : (h : ℕ) (l : List (List ℕ)) → length l ≡ h + h → length (pairs l) ≡ h
length_pairs zero [] e = refl
length_pairs zero (a ∷ l) e = absurd (not-suc-le-zero {n = 0} (omega arith))
length_pairs (suc h) [] e = absurd (not-suc-le-zero {n = 0} (omega arith))
length_pairs (suc h) (a ∷ []) e = absurd (not-suc-le-zero {n = 0} (omega arith))
length_pairs (suc h) (a ∷ (b ∷ l)) e = ap suc (length_pairs h l (omega arith))

get_or_pairs : (j : ℕ) (l : List (List ℕ)) → j + j + 1 < length l → get_or (pairs l) j [] ≡ get_or l (j + j) [] ++ get_or l (j + j + 1) []
get_or_pairs j [] h = absurd (not-suc-le-zero h)
get_or_pairs j (a ∷ []) h = absurd (not-suc-le-zero {n = 0} (omega arith))
get_or_pairs zero (a ∷ (b ∷ l)) h = refl
get_or_pairs (suc j) (a ∷ (b ∷ l)) h =
    let first : suc (suc (j + j)) ≡ suc j + suc j = omega arith in
    let second : suc (suc (j + j + 1)) ≡ suc j + suc j + 1 = omega arith in
    get_or_pairs j l (omega arith)
    ∙ ap (λ k. get_or (a ∷ (b ∷ l)) k [] ++ get_or l (j + j + 1) []) first
    ∙ ap (λ k. get_or (a ∷ (b ∷ l)) (suc j + suc j) [] ++ get_or (a ∷ (b ∷ l)) k []) second

-- a level of 2 ^ (suc d) digests and the one above it
pub record Level (d : ℕ) (l : List (List ℕ)) : Type 0 where
  pub high : length l ≡ 2 ^ d
  pub each : (k : ℕ) → k < length l → length (get_or l k []) ≡ 32

half : (d : ℕ) (l : List (List ℕ)) → length l ≡ 2 ^ suc d → length (pairs l) ≡ 2 ^ d
half d l e = length_pairs (2 ^ d) l (omega (arith, pow-suc 2 d))

hashed : (l : List (List ℕ)) (k : ℕ) → k < length l → get_or (map hash l) k [] ≡ hash (get_or l k [])
hashed l k h = get_or-map hash l k [] [] h

level_above : (d : ℕ) (l : List (List ℕ)) → Level (suc d) l → Level d (above l)
level_above d l v =
    let n = length-map (pairs l) hash in
    record {
      high = n ∙ half d l v.high;
      each = λ k h. let h' : k < length (pairs l) = omega arith in ap length (hashed (pairs l) k h') ∙ length_hash (get_or (pairs l) k []);
    }

-- what stands above an index
module _ (d : ℕ) (l : List (List ℕ)) (i : ℕ) (v : Level (suc d) l) (h : i < length l) where
  under : i / 2 < length (pairs l)
  under = omega (arith, half d l v.high, v.high, pow-suc 2 d)

  two : get_or (pairs l) (i / 2) [] ≡ get_or l (i / 2 + i / 2) [] ++ get_or l (i / 2 + i / 2 + 1) []
  two = get_or_pairs (i / 2) l (omega (arith, v.high, pow-suc 2 d))

  -- a digest and its sibling, in order, are the pair above them
  own_pair : ordered i (get_or l i []) (get_or l (sibling i) []) ≡ get_or (pairs l) (i / 2) []
  own_pair =
      ⊎_elim
      (λ (e : i % 2 ≡ 0).
      let s : sibling i ≡ i / 2 + i / 2 + 1 = cond-true (eqb (i % 2) 0) (i + 1) (i - 1) (eq-eqb (i % 2) 0 e) ∙ omega arith in
      let o : i ≡ i / 2 + i / 2 = omega arith in
      left_side i (get_or l i []) (get_or l (sibling i) []) e ∙ ap (λ k. get_or l i [] ++ get_or l k []) s ∙ ap (λ k. get_or l k [] ++ get_or l (i / 2 + i / 2 + 1) []) o ∙ sym two)
      (λ (e : i % 2 ≡ 0 → ⊥).
      let s : sibling i ≡ i / 2 + i / 2 = cond-false (eqb (i % 2) 0) (i + 1) (i - 1) (ne_eqb (i % 2) 0 e) ∙ omega arith in
      let o : i ≡ i / 2 + i / 2 + 1 = omega arith in
      right_side i (get_or l i []) (get_or l (sibling i) []) e ∙ ap (λ k. get_or l k [] ++ get_or l i []) s ∙ ap (λ k. get_or l (i / 2 + i / 2) [] ++ get_or l k []) o ∙ sym two)
      (cases_eq (i % 2) 0)

  -- of two digests whose pair, in order, is the pair above, the first is the one at the index
  settled_pair : (x s : List ℕ) → length x ≡ 32 → ordered i x s ≡ get_or (pairs l) (i / 2) [] → x ≡ get_or l i []
  settled_pair x s lx e =
      let A = get_or l (i / 2 + i / 2) [] in
      let B = get_or l (i / 2 + i / 2 + 1) [] in
      let la : length A ≡ 32 = v.each (i / 2 + i / 2) (omega (arith, v.high, pow-suc 2 d)) in
      let lb : length B ≡ 32 = v.each (i / 2 + i / 2 + 1) (omega (arith, v.high, pow-suc 2 d)) in
      ⊎_elim
      (λ (z : i % 2 ≡ 0).
      let o : i / 2 + i / 2 ≡ i = omega arith in
      (append_inj x A s B (lx ∙ sym la) (sym (left_side i x s z) ∙ e ∙ two)).0 ∙ ap (λ k. get_or l k []) o)
      (λ (z : i % 2 ≡ 0 → ⊥).
      let o : i / 2 + i / 2 + 1 ≡ i = omega arith in
      let q : s ++ x ≡ A ++ B = sym (right_side i x s z) ∙ e ∙ two in
      let ls : length s ≡ length A = omega (arith, ap length q, length-append s x, length-append A B, lx, la, lb) in
      (append_inj s A x B ls q).1 ∙ ap (λ k. get_or l k []) o)
      (cases_eq (i % 2) 0)

-- the way up from a leaf along its own siblings
pub climbs_own : (d : ℕ) (l : List (List ℕ)) (root : List ℕ) (p i : ℕ) (x : List ℕ) → Level d l → p ≡ length l → i < length l → x ≡ get_or l i [] → root ≡ root_of d l → climbs root p i x (siblings d l i) ≡ true
climbs_own zero l root p i x v ep h ex er =
    let one : length l ≡ 1 = v.high in
    let first : i ≡ 0 = omega arith in
    and_from (eqb p 1) (eqb i 0 && bytes_eq x root) (eq-eqb p 1 (ep ∙ one))
    (and_from (eqb i 0) (bytes_eq x root) (eq-eqb i 0 first) ((bytes_eq-Decides x root).1 (ex ∙ ap (λ k. get_or l k []) first ∙ sym er)))
climbs_own (suc d) l root p i x v ep h ex er =
    let s = get_or l (sibling i) [] in
    let even : p % 2 ≡ 0 = omega (arith, ep, v.high, pow-suc 2 d) in
    let up = level_above d l v in
    let halved : p / 2 ≡ length (above l) = omega (arith, ep, v.high, pow-suc 2 d, up.high) in
    let in' : i / 2 < length (above l) = omega (arith, v.high, pow-suc 2 d, up.high) in
    let made : hash (ordered i x s) ≡ get_or (above l) (i / 2) [] = ap (λ y. hash (ordered i y s)) ex ∙ ap hash (own_pair d l i v h) ∙ sym (hashed (pairs l) (i / 2) (under d l i v h)) in
    and_from (eqb (p % 2) 0) (climbs root (p / 2) (i / 2) (hash (ordered i x s)) (siblings d (above l) (i / 2))) (eq-eqb (p % 2) 0 even)
    (climbs_own d (above l) root (p / 2) (i / 2) (hash (ordered i x s)) up halved in' made er)

pub length_siblings : (d : ℕ) (l : List (List ℕ)) (i : ℕ) → length (siblings d l i) ≡ d
length_siblings zero l i = refl
length_siblings (suc d) l i = ap suc (length_siblings d (above l) (i / 2))

-- what the way up says of the index and of the path's length
pub climbs_inside : (root : List ℕ) (p i : ℕ) (x : List ℕ) (path : List (List ℕ)) → climbs root p i x path ≡ true → i < p
climbs_inside root p i x [] t =
    let a = and_parts (eqb p 1) (eqb i 0 && bytes_eq x root) t in
    let b = and_parts (eqb i 0) (bytes_eq x root) a.1 in
    omega (arith, eqb-true p 1 a.0, eqb-true i 0 b.0)
climbs_inside root p i x (s ∷ ss) t =
    let a = and_parts (eqb (p % 2) 0) (climbs root (p / 2) (i / 2) (hash (ordered i x s)) ss) t in
    let r = climbs_inside root (p / 2) (i / 2) (hash (ordered i x s)) ss a.1 in
    omega (arith, eqb-true (p % 2) 0 a.0)

pub climbs_long : (root : List ℕ) (p i : ℕ) (x : List ℕ) (path : List (List ℕ)) → climbs root p i x path ≡ true → length path ≡ levels p
climbs_long root p i x [] t =
    let a = and_parts (eqb p 1) (eqb i 0 && bytes_eq x root) t in
    sym (levels_few p (omega (arith, eqb-true p 1 a.0)))
climbs_long root p i x (s ∷ ss) t =
    let a = and_parts (eqb (p % 2) 0) (climbs root (p / 2) (i / 2) (hash (ordered i x s)) ss) t in
    let r = climbs_inside root (p / 2) (i / 2) (hash (ordered i x s)) ss a.1 in
    ap suc (climbs_long root (p / 2) (i / 2) (hash (ordered i x s)) ss a.1) ∙ sym (levels_more p (omega arith))

-- what leads up to the root is the digest at its index, or a pair on its way collides with one of the tree
pub climbs_bound : (d : ℕ) (l : List (List ℕ)) (root : List ℕ) (p i : ℕ) (x : List ℕ) (path : List (List ℕ)) → Level d l → p ≡ length l → length x ≡ 32 → root ≡ root_of d l → climbs root p i x path ≡ true
    → (x ≡ get_or l i []) ⊎ Collision hash (climbed_lists i x path) (paired_lists d l)
climbs_bound zero l root p i x [] v ep lx er t =
    let a = and_parts (eqb p 1) (eqb i 0 && bytes_eq x root) t in
    let b = and_parts (eqb i 0) (bytes_eq x root) a.1 in
    inl ((bytes_eq-Decides x root).0 b.1 ∙ er ∙ ap (λ k. get_or l k []) (sym (eqb-true i 0 b.0)))
climbs_bound zero l root p i x (s ∷ ss) v ep lx er t =
    let a = and_parts (eqb (p % 2) 0) (climbs root (p / 2) (i / 2) (hash (ordered i x s)) ss) t in
    let one : length l ≡ 1 = v.high in
    absurd (not-suc-le-zero {n = 0} (omega (arith, eqb-true (p % 2) 0 a.0)))
climbs_bound (suc d) l root p i x [] v ep lx er t =
    let a = and_parts (eqb p 1) (eqb i 0 && bytes_eq x root) t in
    absurd (not-suc-le-zero {n = 0} (omega (arith, eqb-true p 1 a.0, v.high, pow-suc 2 d)))
climbs_bound (suc d) l root p i x (s ∷ ss) v ep lx er t =
    let y = ordered i x s in
    let a = and_parts (eqb (p % 2) 0) (climbs root (p / 2) (i / 2) (hash y) ss) t in
    let h : i < length l = subst (λ (n : ℕ). i < n) ep (climbs_inside root p i x (s ∷ ss) t) in
    let up = level_above d l v in
    let halved : p / 2 ≡ length (above l) = omega (arith, ep, v.high, pow-suc 2 d, up.high) in
    let z = get_or (pairs l) (i / 2) [] in
    let first : hash y ≡ get_or (above l) (i / 2) [] → (x ≡ get_or l i []) ⊎ Collision hash (y ∷ climbed_lists (i / 2) (hash y) ss) (pairs l ++ paired_lists d (above l)) = λ e.
    ⊎_elim
    (λ (q : bytes_eq y z ≡ true). inl (settled_pair d l i v h x s lx ((bytes_eq-Decides y z).0 q)))
    (λ (q : bytes_eq y z ≡ false). inr (record {
      one = y;
      other = z;
      in_checking = Memᴰ.head refl;
      in_committing = Memᴰ.append_left (paired_lists d (above l)) (member (pairs l) (i / 2) [] (under d l i v h));
      different = λ w. both_ways (bytes_eq y z) q ((bytes_eq-Decides y z).1 w);
      shared = e ∙ hashed (pairs l) (i / 2) (under d l i v h);
    }))
    (cases_Bool (bytes_eq y z)) in
    let later : Collision hash (climbed_lists (i / 2) (hash y) ss) (paired_lists d (above l)) → (x ≡ get_or l i []) ⊎ Collision hash (y ∷ climbed_lists (i / 2) (hash y) ss) (pairs l ++ paired_lists d (above l)) = λ k.
    inr (record {
      one = k.one;
      other = k.other;
      in_checking = Memᴰ.tail k.in_checking;
      in_committing = Memᴰ.append_right (pairs l) k.in_committing;
      different = k.different;
      shared = k.shared;
    }) in
    ⊎_elim first later (climbs_bound d (above l) root (p / 2) (i / 2) (hash y) ss up halved (length_hash y) er a.1)

pub climbs_power : (root : List ℕ) (p i : ℕ) (x : List ℕ) (path : List (List ℕ)) → climbs root p i x path ≡ true → p ≡ 2 ^ length path
climbs_power root p i x [] t = eqb-true p 1 (and_parts (eqb p 1) (eqb i 0 && bytes_eq x root) t).0
climbs_power root p i x (s ∷ ss) t =
    let a = and_parts (eqb (p % 2) 0) (climbs root (p / 2) (i / 2) (hash (ordered i x s)) ss) t in
    let r = climbs_power root (p / 2) (i / 2) (hash (ordered i x s)) ss a.1 in
    omega (arith, eqb-true (p % 2) 0 a.0, pow-suc 2 (length ss))

pub levels_power : (n : ℕ) → levels (2 ^ n) ≡ n
levels_power zero = levels_few 1 (omega arith)
levels_power (suc n) =
    let more : 2 ≤ 2 ^ suc n = omega (arith, pow-suc 2 n, pow_pos n) in
    let halved : 2 ^ suc n / 2 ≡ 2 ^ n = omega (arith, pow-suc 2 n) in
    levels_more (2 ^ suc n) more ∙ ap (λ k. suc (levels k)) halved ∙ ap suc (levels_power n)
