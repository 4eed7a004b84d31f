use Rattle.std.proofs.Common.{true, false}
use Rattle.transcript.specs.Sites.{draws_of}
use Rattle.transcript.proofs.Filling.{positions_some, some_there}
use Rattle.transcript.proofs.positions.draw_positions.Goals as goal

pub returns-in-Some : goal.returns-in-Some
returns-in-Some g c =
    positions_some g.S.Sponge.rules _ _ c.args.stratified true c.args.site.index_bits (draws_of c.args.site) _ _ (some_there c.args.site.draws _ c.in-Some.is c.args.site.some)
    c.if-stratified.true c.requires c.draw_strata.ensures

pub returns-in-Some-2 : goal.returns-in-Some-2
returns-in-Some-2 g c =
    positions_some g.S.Sponge.rules _ _ c.args.stratified false c.args.site.index_bits (draws_of c.args.site) _ _ (some_there c.args.site.draws _ c.in-Some-2.is c.args.site.some)
    c.if-stratified.false c.requires c.draw_indices.ensures
