-- Reading digits one by one.
use Rattle.std.proofs.Common.{◌≡◌, ℕ, min, List, drop}
use Rattle.text.specs.Number.{largest, digits_after}

-- i digits were read, and came to a number; what is left goes on from it
pub record Reading (word : List ℕ) (i value : ℕ) : Type 0 where
  pub so_far : ℕ
  pub held : value ≡ min largest so_far
  pub rest : digits_after 0 word ≡ digits_after so_far (drop i word)
