-- What a hasher in progress has taken in.
use Rattle.std.specs.Prelude.{◌≡◌, ℕ, ◌+◌, ◌*◌, ◌<◌, ◌≤◌, false, List, ◌++◌, length, take, drop}
use Rattle.blake2s.specs.Compress.{compressed}
use Rattle.blake2s.specs.Blake2s.{words, chain, counter}
use Rattle.blake2s.specs.declared.state.Hasher.{Hasher}

-- the hasher has compressed the first n blocks of xs, and its buffer holds what comes after them
pub record Cut (s : Hasher) (xs : List ℕ) (n : ℕ) : Type 0 where
  pub state : s.h ≡ chain xs n
  pub counted : s.count ≡ counter (64 * n)
  pub waits : take s.filled s.block ≡ drop (64 * n) xs
  pub whole : 64 * n + s.filled ≡ length xs

-- some number of blocks of xs are compressed
abbrev pub Ready : Hasher → List ℕ → Type 0
Ready s xs = (n : ℕ) × Cut s xs n

-- the bytes xs, and no others, have been taken in, in this order; the last block is still in the buffer
pub record Absorbed (s : Hasher) (xs : List ℕ) : Type 0 where
  pub blocks : ℕ
  pub cut : Cut s xs blocks
  pub held : 0 < blocks → 0 < s.filled

-- what compressing the block that some bytes begin with makes of a hasher
pub record Pressed (s s' : Hasher) (bytes : List ℕ) : Type 0 where
  pub state : s'.h ≡ compressed s.h (words bytes) s'.count false
  pub counted : s'.count ≡ counter (s.count + 64)
  pub emptied : s'.filled ≡ 0

-- r of the bytes were taken in, at least one; where they were the last ones, the buffer is not empty
pub record Taken (s s' : Hasher) (rest : List ℕ) (r : ℕ) : Type 0 where
  pub some : 0 < r
  pub within : r ≤ length rest
  pub held : r ≡ length rest → 0 < s'.filled
  pub keeps : (xs : List ℕ) (n : ℕ) → Cut s xs n → Ready s' (xs ++ take r rest)
