use Rattle.std.proofs.Common.{length, min, is_some, ap}
use Rattle.configuration.specs.Numbers.{numbers_of}
use Rattle.configuration.proofs.Views.{phase_nth, phase_read, small_at}
use Rattle.configuration.proofs.whir.WhirConfig.phase.Goals as goal

pub unwrap-requires : goal.unwrap-requires
unwrap-requires c =
    ap is_some
    (phase_nth (numbers_of c.args.self.now.numbers) c.phases.result c.nth.result c.nth.new.self c.args.phase c.n_rounds.result c.min.result
    c.args.self.now.checked c.phases.ensures c.n_rounds.ensures c.min.ensures c.nth.ensures.ran)

pub returns : goal.returns
returns c =
    let N = numbers_of c.args.self.now.numbers in
    let e = phase_nth N c.phases.result c.nth.result c.nth.new.self c.args.phase c.n_rounds.result c.min.result
    c.args.self.now.checked c.phases.ensures c.n_rounds.ensures c.min.ensures c.nth.ensures.ran in
    let there = phase_read N c.nth.result c.unwrap.result (min c.args.phase (length N.rounds)) e c.unwrap.ensures in
    let small = small_at N c.unwrap.result c.args.phase c.args.self.now.checked there in
    record { phase = there; domain = small.domain; fold = small.fold }
