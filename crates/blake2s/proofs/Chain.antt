-- The states between the blocks of a message that grows at its end.
use Rattle.std.proofs.Common.{◌≡◌, ℕ, zero, suc, ◌*◌, ◌≤◌, false, List, ◌++◌, length, drop, sym, refl, ap, ◌∙◌, arith}
use Rattle.std.proofs.lemmas.List.{length-drop, drop-append-le}
use Rattle.blake2s.specs.Compress.{compressed}
use Rattle.blake2s.specs.Blake2s.{words, padded, block, chain, counter}
use Rattle.blake2s.proofs.Padding.{padded_front, padded_whole}

-- a whole block stays what it is
pub block_append : (xs ys : List ℕ) (n : ℕ) → 64 * suc n ≤ length xs → block (xs ++ ys) n ≡ block xs n
unfolding block
block_append xs ys n long =
    let le : 64 * n ≤ length xs = omega (arith, long) in
    let rest : 64 ≤ length (drop (64 * n) xs) = omega (arith, long, length-drop (64 * n) xs) in
    ap (λ (bs : List ℕ). words (padded bs)) (drop-append-le (64 * n) xs ys le)
    ∙ ap words (padded_front (drop (64 * n) xs) ys rest)

-- and so does the state after whole blocks
pub chain_append : (xs ys : List ℕ) (n : ℕ) → 64 * n ≤ length xs → chain (xs ++ ys) n ≡ chain xs n
unfolding chain
chain_append xs ys zero long = refl
chain_append xs ys (suc n) long =
    let le : 64 * n ≤ length xs = omega (arith, long) in
    ap (λ (h : List ℕ). compressed h (block (xs ++ ys) n) (counter (64 * suc n)) false) (chain_append xs ys n le)
    ∙ ap (λ (m : List ℕ). compressed (chain xs n) m (counter (64 * suc n)) false) (block_append xs ys n long)

-- a full buffer that holds the rest of the message is its next block
pub block_full : (xs bytes : List ℕ) (n : ℕ) → length bytes ≡ 64 → bytes ≡ drop (64 * n) xs → words bytes ≡ block xs n
unfolding block
block_full xs bytes n long e =
    ap words (sym (padded_whole bytes long)) ∙ ap (λ (bs : List ℕ). words (padded bs)) e

-- the state after one block more
pub chain_more : (xs bytes h : List ℕ) (n t : ℕ)
    → h ≡ chain xs n
    → words bytes ≡ block xs n
    → t ≡ counter (64 * suc n)
    → compressed h (words bytes) t false ≡ chain xs (suc n)
unfolding chain
chain_more xs bytes h n t state m count =
    ap (λ (g : List ℕ). compressed g (words bytes) t false) state
    ∙ ap (λ (w : List ℕ). compressed (chain xs n) w t false) m
    ∙ ap (λ (k : ℕ). compressed (chain xs n) (block xs n) k false) count
