-- BLAKE2s with no key and a digest of 32 bytes (RFC 7693), on lists of bytes, numbers below 256.
use Rattle.std.specs.Prelude.{ℕ, zero, suc, ◌+◌, ◌-◌, ◌*◌, ◌/◌, ◌%◌, ◌^◌, true, false, List, [], ◌∷◌, ◌++◌, map, length, take, drop, replicate, bit_xor, slice_index}
use Rattle.std.specs.List.{range_with_len}
use Rattle.blake2s.specs.Compress.{compressed}

-- the state before the first block: the constants, the first xored with the digest's length, 32, no key, no tree
abbrev pub start : List ℕ
start =
    bit_xor 0x6A09E667 0x01010020 ∷ 0xBB67AE85 ∷ 0x3C6EF372 ∷ 0xA54FF53A ∷ 0x510E527F ∷ 0x9B05688C ∷ 0x1F83D9AB ∷ 0x5BE0CD19
    ∷ []

-- word i of a block of bytes, lowest byte first
unfoldable pub word_at : List ℕ → ℕ → ℕ
word_at bs i =
    slice_index bs (4 * i) + slice_index bs (4 * i + 1) * 256 + slice_index bs (4 * i + 2) * 65536 + slice_index bs (4 * i + 3) * 16777216

-- the sixteen words of a block of 64 bytes
unfoldable pub words : List ℕ → List ℕ
words bs = map (word_at bs) (range_with_len 0 16)

-- bytes filled up to 64 by zeros
unfoldable pub padded : List ℕ → List ℕ
padded bs = take 64 (bs ++ replicate 64 0)

-- block n of a message
unfoldable pub block : List ℕ → ℕ → List ℕ
block xs n = words (padded (drop (64 * n) xs))

-- the counter of bytes, two words; RFC 7693 has messages of fewer than 2 ^ 64 bytes, past which it starts again
abbrev pub counter : ℕ → ℕ
counter t = t % 2 ^ 64

-- the state after the first n blocks of a message that goes on after them
unfoldable pub chain : List ℕ → ℕ → List ℕ
chain xs zero = start
chain xs (suc n) = compressed (chain xs n) (block xs n) (counter (64 * suc n)) false

-- how many blocks come before the last one, which is empty only if the message is
abbrev pub before : List ℕ → ℕ
before xs = (length xs - 1) / 64

-- byte k of a state's words, each lowest byte first
unfoldable pub byte_at : List ℕ → ℕ → ℕ
byte_at h k = slice_index h (k / 4) / 2 ^ (8 * (k % 4)) % 256

-- the bytes of a state
unfoldable pub digest : List ℕ → List ℕ
digest h = map (byte_at h) (range_with_len 0 32)

-- the hash of a message
unfoldable pub hash : List ℕ → List ℕ
hash xs = digest (compressed (chain xs (before xs)) (block xs (before xs)) (counter (length xs)) true)
