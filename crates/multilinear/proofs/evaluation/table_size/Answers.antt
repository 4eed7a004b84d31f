use Rattle.std.proofs.Common.{◌≡◌, ℕ, ◌^◌, ◌<◌, ◌≤◌, Result, Ok, Err, None, arith}
use Rattle.std.specs.Result.{OkIff, result_ok}
use Rattle.multilinear.proofs.Loops.{size_past}
use Rattle.multilinear.proofs.evaluation.table_size.Goals as goal

-- what is no `u32` is past the last
past : {E : Type 0} (r : Result ℕ E) (n : ℕ) → OkIff r (n < 2 ^ 32) n → None ≡ result_ok r → 2 ^ 32 ≤ n
past (Ok x) n h e = cc
past (Err x) n h e = omega arith

pub returns-in_err-exponent : goal.returns-in_err-exponent
returns-in_err-exponent c =
    rw c.from_residual.ensures (size_past c.args.variables c.args.room (past c.try_from.result c.args.variables c.try_from.ensures c.in_err-exponent.ensures.value) c.ranges.room.fits)
