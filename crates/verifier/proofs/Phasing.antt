-- The numbers of a phase of a checked configuration.
use Rattle.std.proofs.Common.{◌≡◌, ℕ, suc, ◌-◌, ◌<◌, min, true, length, ap, ◌∙◌, arith}
use Rattle.configuration.specs.Numbers.{Numbers}
use Rattle.configuration.specs.declared.walk.PhaseNumbers.{PhaseNumbers}
use Rattle.configuration.specs.Phases.{left, factor}
use Rattle.configuration.specs.Walk.{phase_at}
use Rattle.configuration.specs.Verdicts.{flawless}
use Rattle.configuration.proofs.Views.{in_order}

-- what a phase's fold leaves is what is left before the next
left_after : (N : Numbers) (i : ℕ) → flawless N ≡ true → i < length N.stored → left N N.stored i - factor N.stored i ≡ left N N.stored (suc i)
left_after N i flaw h = let next = (in_order N flaw).next_left i h in omega (arith, next)

pub vars_left : (N : Numbers) (p : PhaseNumbers) (i : ℕ) → flawless N ≡ true → p ≡ phase_at N N.stored (min i (length N.rounds)) → p.variables - p.factor ≡ left N N.stored (suc (min i (length N.rounds)))
vars_left N p i flaw e =
    let there : min i (length N.rounds) < length N.stored = omega (arith, (in_order N flaw).rounds_so) in
    ap (λ (q : PhaseNumbers). q.variables - q.factor) e ∙ left_after N (min i (length N.rounds)) flaw there
