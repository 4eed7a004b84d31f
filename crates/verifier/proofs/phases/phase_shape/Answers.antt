use Rattle.configuration.specs.Numbers.{numbers_of}
use Rattle.verifier.proofs.Phasing.{vars_left}
use Rattle.verifier.proofs.phases.phase_shape.Goals as goal

pub returns-clause-vars : goal.returns-clause-vars
returns-clause-vars c =
    vars_left (numbers_of c.args.config.now.numbers) c.phase-numbers.result c.args.phase c.args.config.now.checked c.phase-numbers.ensures.phase
