-- What the hash promises beyond its definition.
use Rattle.std.specs.Prelude.{◌≡◌, ℕ, suc, ◌*◌, ◌^◌, ◌<◌, Bool, true, false, ◌≢◌, ◌⊎◌, List, length, slice_index}
use Rattle.blake2s.specs.Compress.{compressed}
use Rattle.blake2s.specs.Blake2s.{block, chain, counter, before, digest, hash}

-- each number of the list is a byte
abbrev pub Bytes : List ℕ → Type 0
Bytes xs = (k : ℕ) → slice_index xs k < 256

-- what a call of the compression function is given
pub record Call : Type 0 where
  pub state : List ℕ
  pub message : List ℕ
  pub count : ℕ
  pub last : Bool

-- the bytes of what it answers
abbrev pub answer : Call → List ℕ
answer c = digest (compressed c.state c.message c.count c.last)

-- the call for block n of a message, where more blocks come
abbrev pub inner : List ℕ → ℕ → Call
inner xs n = record { state = chain xs n; message = block xs n; count = counter (64 * suc n); last = false }

-- the call for the last block, whose answer is the hash
abbrev pub ending : List ℕ → Call
ending xs =
    record { state = chain xs (before xs); message = block xs (before xs); count = counter (length xs); last = true }

-- the call is made in hashing the message
abbrev pub Made : List ℕ → Call → Type 0
Made xs c = (c ≡ ending xs) ⊎ ((n : ℕ) × (n < before xs) × (c ≡ inner xs n))

-- a call made in hashing xs and a different one made in hashing ys have the same answer
abbrev pub Clash : List ℕ → List ℕ → Type 0
Clash xs ys = (a : Call) × (b : Call) × Made xs a × Made ys b × (a ≢ b) × (answer a ≡ answer b)

-- Two messages of fewer than 2 ^ 64 bytes that have one hash are the same message, or the compression function
-- itself gave one answer to two different calls that hashing them made: blocks, padding, counter and flag add no collision.
abbrev pub CollisionsAreOfCompression : Type 0
CollisionsAreOfCompression =
    (xs ys : List ℕ)
    → Bytes xs
    → Bytes ys
    → length xs < 2 ^ 64
    → length ys < 2 ^ 64
    → hash xs ≡ hash ys
    → (xs ≡ ys) ⊎ Clash xs ys

-- A hash is 32 bytes.
abbrev pub HashesAreThirtyTwoBytes : Type 0
HashesAreThirtyTwoBytes = (xs : List ℕ) → (length (hash xs) ≡ 32) × Bytes (hash xs)
