use Rattle.std.proofs.Common.{◌≡◌, ℕ, ◌*◌, ◌^◌, ◌<◌, ◌≤◌, Bool, true, false, eqb, leb, MatchOption, ◌≢◌, sym, ap, ◌∙◌, arith}
use Rattle.std.specs.Bool.{then_some}
use Rattle.std.proofs.lemmas.Bool.Decides.{nat_tests}
use Rattle.std.proofs.lemmas.Nat.{one_shl}
use Rattle.domain.proofs.Lists.{log_of}
use Rattle.domain.proofs.listed.log_of_length.Goals as goal
use Rattle.domain.proofs.listed.log_of_length.Goals.{then-log-le-MAX_LOG, else-log-le-MAX_LOG}

-- what a test of the logarithm answers
abbrev Tells : Bool → ℕ → ℕ → Type 0
Tells t log count = MatchOption (then_some t log) ((k : ℕ) → k ≤ 12 → count ≢ 2 ^ k) (λ k. (k ≤ 12) × (count ≡ 2 ^ k))

-- below the largest logarithm, the test is of the number itself
power : (t : Bool) (log count p : ℕ) → log ≤ 12 → 2 ^ log ≤ count → count < 2 * 2 ^ log → p ≡ 2 ^ log → t ≡ eqb count p → Tells t log count
power true log count p small low high is e = let same : count ≡ p = grind (arith, nat_tests) in (small, same ∙ is)
power false log count p small low high is e = λ k s q.
    let none : count ≢ p = grind (arith, nat_tests) in
    none (q ∙ ap (λ n. 2 ^ n) (log_of log count k low high q) ∙ sym is)

-- above it, the test fails
large : (t : Bool) (log count : ℕ) → 12 < log → 2 ^ log ≤ count → count < 2 * 2 ^ log → t ≡ leb log 12 → Tells t log count
large true log count big low high e = let small : log ≤ 12 = grind (arith, nat_tests) in absurd (omega arith)
large false log count big low high e = λ k s q. let same = log_of log count k low high q in absurd (omega arith)

pub returns : goal.returns
returns c =
    let log = c.in_ok-log.field-0 in
    let t = c.if-log-le-MAX_LOG.then_some in
    let count = c.args.count in
    let low = c.in_ok-log.ensures.power_le in
    let high = c.in_ok-log.ensures.next_power_gt in
    rw c.then_some.ensures (elim c.if-log-le-MAX_LOG.branch [
      | then-log-le-MAX_LOG w ↦ power t log count _ w.if-log-le-MAX_LOG.true low high (one_shl log 64 c.in_ok-log.ensures.bound) w.then_some-is
      | else-log-le-MAX_LOG w ↦ large t log count w.if-log-le-MAX_LOG.false low high w.then_some-is
    ])
