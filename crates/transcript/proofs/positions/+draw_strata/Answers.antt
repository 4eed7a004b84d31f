use Rattle.std.proofs.Common.{◌≤◌, length, arith}
use Rattle.transcript.proofs.Filling.{strata_first}
use Rattle.transcript.proofs.positions.+draw_strata.Goals as goal

pub returns-in-Some : goal.returns-in-Some
returns-in-Some g t c =
    let few : length c.args.out.now ≤ 1024 = omega (arith, c.requires, c.args.site.small) in
    strata_first g.S.Sponge.rules _ _ _ c.args.site.index_bits c.in-Some.depth c.saturating_sub-bits.result (length c.args.out.now) _ c.split_at_mut-part.result.0.now c.split_at_mut-part.result.1.now _ _
    few c.args.site.narrow c.in-Some.ensures.steps c.saturating_sub-bits.ensures c.split_at_mut-part.ensures.front_len c.split_at_mut-part.ensures.back_len
    c.draw_indices.ensures c.draw_strata.ensures
