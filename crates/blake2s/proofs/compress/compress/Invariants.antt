use Rattle.std.proofs.Common.{◌≡◌, ℕ, ◌<◌, ◌≤◌, length, get_or}
use Rattle.blake2s.specs.Compress.{folded}
use Rattle.blake2s.proofs.compress.compress.Given as goal

-- the words so far are those of the new state, and the rest those of the old one
abbrev pub invariant-loop-i : goal.invariant-loop-i
invariant-loop-i l =
    (length l.h ≡ 8) × ((k : ℕ) → k < l.i → get_or l.h k 0 ≡ folded l.initial.h l.v k)
    × ((k : ℕ) → l.i ≤ k → get_or l.h k 0 ≡ get_or l.initial.h k 0)
