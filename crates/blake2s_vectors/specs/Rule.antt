-- The long messages of the list, by a rule.
use Rattle.std.specs.Prelude.{ℕ, ◌+◌, ◌*◌, ◌%◌, List, map}
use Rattle.std.specs.List.{range_with_len}

-- byte i
unfoldable pub rule : ℕ → ℕ
rule i = (i % 251 * 7 + 3) % 251

-- n bytes from byte a on
unfoldable pub bytes_from : (a n : ℕ) → List ℕ
bytes_from a n = map (λ k. rule (a + k)) (range_with_len 0 n)
