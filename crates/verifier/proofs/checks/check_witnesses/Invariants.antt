use Rattle.std.proofs.Common.{◌≡◌, drop}
use Rattle.configuration.specs.Numbers.{numbers_of}
use Rattle.verification.specs.Checks.{verdict}
use Rattle.verifier.specs.Witnesses.{witness_checks}
use Rattle.verifier.proofs.checks.check_witnesses.Given as goal

-- the verdict on all witnesses is that on those from this round on
abbrev pub invariant-loop-round : goal.invariant-loop-round
invariant-loop-round g l =
    let checks = witness_checks g.F.BaseField.numbering (numbers_of l.config.numbers) in
    verdict (checks 0 l.rounds l.last) (tt {0}) ≡ verdict (checks l.round (drop l.round l.rounds) l.last) (tt {0})
