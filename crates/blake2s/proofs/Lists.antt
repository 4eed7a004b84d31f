-- Lists of a known length.
use Rattle.std.proofs.Common.{◌≡◌, ℕ, zero, suc, ◌+◌, ◌*◌, ◌<◌, List, [], ◌∷◌, length, get_or, take, drop, refl, ap, ◌∙◌, add-zero, w32, arith}
use Rattle.std.specs.Int.{from_le_bytes}
use Rattle.std.specs.Simd.{first_chunks}
use Rattle.blake2s.specs.Blake2s.{word_at}
use Rattle.std.proofs.lemmas.List.{drop-drop, get_or-take, get_or-drop}

-- a list of eight words is the words at its eight places
pub eight : (h : List ℕ)
    → length h ≡ 8
    → h ≡ get_or h 0 0 ∷ get_or h 1 0 ∷ get_or h 2 0 ∷ get_or h 3 0 ∷ get_or h 4 0 ∷ get_or h 5 0 ∷ get_or h 6 0 ∷ get_or h 7 0 ∷ []
eight [] e = absurd (omega (arith, e))
eight (x0 ∷ []) e = absurd (omega (arith, e))
eight (x0 ∷ x1 ∷ []) e = absurd (omega (arith, e))
eight (x0 ∷ x1 ∷ x2 ∷ []) e = absurd (omega (arith, e))
eight (x0 ∷ x1 ∷ x2 ∷ x3 ∷ []) e = absurd (omega (arith, e))
eight (x0 ∷ x1 ∷ x2 ∷ x3 ∷ x4 ∷ []) e = absurd (omega (arith, e))
eight (x0 ∷ x1 ∷ x2 ∷ x3 ∷ x4 ∷ x5 ∷ []) e = absurd (omega (arith, e))
eight (x0 ∷ x1 ∷ x2 ∷ x3 ∷ x4 ∷ x5 ∷ x6 ∷ []) e = absurd (omega (arith, e))
eight (x0 ∷ x1 ∷ x2 ∷ x3 ∷ x4 ∷ x5 ∷ x6 ∷ x7 ∷ []) e = refl
eight (x0 ∷ x1 ∷ x2 ∷ x3 ∷ x4 ∷ x5 ∷ x6 ∷ x7 ∷ x8 ∷ rest) e = absurd (omega (arith, e))

-- group i of four is the bytes from place 4 i on
group_at : (xs d : List ℕ) (k i : ℕ) → i < k → get_or (first_chunks 4 k xs) i d ≡ take 4 (drop (4 * i) xs)
group_at xs d zero i lt = absurd (omega (arith, lt))
group_at xs d (suc k) zero lt = refl
group_at xs d (suc k) (suc i) lt =
    group_at (drop 4 xs) d k i (omega (arith, lt)) ∙ ap (take 4) (drop-drop (4 * i) 4 xs ∙ ap (λ n. drop n xs) (omega arith))

-- .. and its number is word i
pub word_in_group : (xs d : List ℕ) (k i : ℕ) → i < k → from_le_bytes w32 (get_or (first_chunks 4 k xs) i d) ≡ word_at xs i
unfolding word_at
word_in_group xs d k i lt =
    let e : (j : ℕ) → j < 4 → get_or (get_or (first_chunks 4 k xs) i d) j 0 ≡ get_or xs (4 * i + j) 0 =
    λ j b.
    ap (λ (ys : List ℕ). get_or ys j 0) (group_at xs d k i lt) ∙ get_or-take 4 (drop (4 * i) xs) j 0 b ∙ get_or-drop (4 * i) xs j 0 in
    let e₀ : get_or (get_or (first_chunks 4 k xs) i d) 0 0 ≡ get_or xs (4 * i) 0 = rw add-zero at (e 0 (omega arith)) in
    omega (arith, e₀, e 1 (omega arith), e 2 (omega arith), e 3 (omega arith))
