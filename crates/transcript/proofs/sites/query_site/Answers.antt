use Rattle.configuration.specs.Numbers.{numbers_of}
use Rattle.transcript.proofs.Siting.{draws_small, drawn_not_none, sited}
use Rattle.transcript.proofs.sites.query_site.Goals as goal

pub invariant_of-result : goal.invariant_of-result
invariant_of-result c = record {
  narrow = c.positions-positions.result.few;
  small = draws_small (numbers_of c.args.config.now.numbers) c.args.round c.positions-positions.result.log c.positions-positions.result.queries c.draws.result
      c.args.config.now.checked c.positions-positions.ensures.log c.positions-positions.ensures.queries c.draws.ensures;
  some = drawn_not_none c.draws.result _ c.draws.ensures;
}

pub returns : goal.returns
returns c =
    sited (numbers_of c.args.config.now.numbers) c.args.round c.positions-positions.result.queries _ c.args.config.now.checked c.difficulty_of.ensures
    c.positions-positions.ensures.log c.positions-positions.ensures.queries c.draws.ensures
