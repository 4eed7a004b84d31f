-- The compression function of BLAKE2s (RFC 7693, section 3), on words of 32 bits.
-- A word is a number below 2 ^ 32; a state has eight words, a block sixteen, the working words are sixteen.
use Rattle.std.specs.Prelude.{ℕ, zero, suc, ◌+◌, ◌-◌, ◌*◌, ◌/◌, ◌%◌, ◌^◌, Bool, cond, List, [], ◌∷◌, ◌++◌, map, bit_or, bit_xor, slice_index, slice_index_or, slice_set}
use Rattle.std.specs.List.{range_with_len}

-- the sum of two words
abbrev pub plus : ℕ → ℕ → ℕ
plus x y = (x + y) % 2 ^ 32

-- a word turned right by some bits, at least 1 and at most 31
abbrev pub turn : ℕ → ℕ → ℕ
turn x by = bit_or (x / 2 ^ by) (x * 2 ^ (32 - by) % 2 ^ 32)

-- v[a] becomes v[a] + v[b] + x
unfoldable pub added : List ℕ → (a b x : ℕ) → List ℕ
added v a b x = slice_set v a (plus (plus (slice_index v a) (slice_index v b)) x)

-- v[d] becomes v[d] xor v[a], turned right
unfoldable pub turned : List ℕ → (d a by : ℕ) → List ℕ
turned v d a by = slice_set v d (turn (bit_xor (slice_index v d) (slice_index v a)) by)

-- the mixing function G on the words at a, b, c and d, with the message words x and y
unfoldable pub mixed : List ℕ → (a b c d x y : ℕ) → List ℕ
mixed v a b c d x y =
    turned (added (turned (added (turned (added (turned (added v a b x) d a 16) c d 0) b c 12) a b y) d a 8) c d 0) b c 7

-- the order of the message words, a row for each of the ten rounds
unfoldable pub sigma : List (List ℕ)
sigma =
    (0 ∷ 1 ∷ 2 ∷ 3 ∷ 4 ∷ 5 ∷ 6 ∷ 7 ∷ 8 ∷ 9 ∷ 10 ∷ 11 ∷ 12 ∷ 13 ∷ 14 ∷ 15 ∷ [])
    ∷ (14 ∷ 10 ∷ 4 ∷ 8 ∷ 9 ∷ 15 ∷ 13 ∷ 6 ∷ 1 ∷ 12 ∷ 0 ∷ 2 ∷ 11 ∷ 7 ∷ 5 ∷ 3 ∷ [])
    ∷ (11 ∷ 8 ∷ 12 ∷ 0 ∷ 5 ∷ 2 ∷ 15 ∷ 13 ∷ 10 ∷ 14 ∷ 3 ∷ 6 ∷ 7 ∷ 1 ∷ 9 ∷ 4 ∷ [])
    ∷ (7 ∷ 9 ∷ 3 ∷ 1 ∷ 13 ∷ 12 ∷ 11 ∷ 14 ∷ 2 ∷ 6 ∷ 5 ∷ 10 ∷ 4 ∷ 0 ∷ 15 ∷ 8 ∷ [])
    ∷ (9 ∷ 0 ∷ 5 ∷ 7 ∷ 2 ∷ 4 ∷ 10 ∷ 15 ∷ 14 ∷ 1 ∷ 11 ∷ 12 ∷ 6 ∷ 8 ∷ 3 ∷ 13 ∷ [])
    ∷ (2 ∷ 12 ∷ 6 ∷ 10 ∷ 0 ∷ 11 ∷ 8 ∷ 3 ∷ 4 ∷ 13 ∷ 7 ∷ 5 ∷ 15 ∷ 14 ∷ 1 ∷ 9 ∷ [])
    ∷ (12 ∷ 5 ∷ 1 ∷ 15 ∷ 14 ∷ 13 ∷ 4 ∷ 10 ∷ 0 ∷ 7 ∷ 6 ∷ 3 ∷ 9 ∷ 2 ∷ 8 ∷ 11 ∷ [])
    ∷ (13 ∷ 11 ∷ 7 ∷ 14 ∷ 12 ∷ 1 ∷ 3 ∷ 9 ∷ 5 ∷ 0 ∷ 15 ∷ 4 ∷ 8 ∷ 6 ∷ 2 ∷ 10 ∷ [])
    ∷ (6 ∷ 15 ∷ 14 ∷ 9 ∷ 11 ∷ 3 ∷ 0 ∷ 8 ∷ 12 ∷ 2 ∷ 13 ∷ 7 ∷ 1 ∷ 4 ∷ 10 ∷ 5 ∷ [])
    ∷ (10 ∷ 2 ∷ 8 ∷ 4 ∷ 7 ∷ 6 ∷ 1 ∷ 5 ∷ 15 ∷ 11 ∷ 9 ∷ 14 ∷ 3 ∷ 12 ∷ 13 ∷ 0 ∷ [])
    ∷ []

-- the message word at place j of round r
unfoldable pub word : List ℕ → (r j : ℕ) → ℕ
word m r j = slice_index m (slice_index (slice_index_or sigma r []) j)

-- the first half of a round mixes the columns of the four by four working words
unfoldable pub columns : List ℕ → ℕ → List ℕ → List ℕ
columns m r v =
    mixed (mixed (mixed (mixed v 0 4 8 12 (word m r 0) (word m r 1)) 1 5 9 13 (word m r 2) (word m r 3))
    2 6 10 14 (word m r 4) (word m r 5)) 3 7 11 15 (word m r 6) (word m r 7)

-- the second half its diagonals
unfoldable pub diagonals : List ℕ → ℕ → List ℕ → List ℕ
diagonals m r v =
    mixed (mixed (mixed (mixed v 0 5 10 15 (word m r 8) (word m r 9)) 1 6 11 12 (word m r 10) (word m r 11))
    2 7 8 13 (word m r 12) (word m r 13)) 3 4 9 14 (word m r 14) (word m r 15)

-- the working words after the first n rounds, of which there are ten
unfoldable pub rounds : ℕ → List ℕ → List ℕ → List ℕ
rounds zero m v = v
rounds (suc r) m v = diagonals m r (columns m r (rounds r m v))

-- the working words at the start: the state, then the constants, with the lower and the upper word of the
-- counter t xored into the fifth and the sixth of them, and the bits of the seventh turned over at the last block
unfoldable pub working : List ℕ → (t : ℕ) → (last : Bool) → List ℕ
working h t last =
    h ++ (0x6A09E667 ∷ 0xBB67AE85 ∷ 0x3C6EF372 ∷ 0xA54FF53A ∷ bit_xor 0x510E527F (t % 2 ^ 32) ∷ bit_xor 0x9B05688C (t / 2 ^ 32)
    ∷ bit_xor 0x1F83D9AB (cond last 0xFFFFFFFF 0) ∷ 0x5BE0CD19 ∷ [])

-- word i of the new state: that of the old one, xored with both halves of the working words
abbrev pub folded : List ℕ → List ℕ → ℕ → ℕ
folded h v i = bit_xor (bit_xor (slice_index h i) (slice_index v i)) (slice_index v (i + 8))

-- the compression function F: the state after the block m, where t bytes have come with the end of this block
unfoldable pub compressed : List ℕ → List ℕ → (t : ℕ) → (last : Bool) → List ℕ
compressed h m t last = map (folded h (rounds 10 m (working h t last))) (range_with_len 0 8)
