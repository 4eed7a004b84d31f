use Rattle.std.proofs.Common.{◌<◌, arith}
use Rattle.configuration.specs.Numbers.{numbers_of}
use Rattle.transcript.proofs.Siting.{final_small, shifted}
use Rattle.transcript.proofs.sites.final_poly_len.Goals as goal

pub returns : goal.returns
returns c =
    let small = final_small (numbers_of c.args.config.now.numbers) c.args.config.now.checked in
    let h : c.args.config.now.numbers.final_sumcheck_rounds < 64 = omega (arith, small) in
    record { value = shifted c.args.config.now.numbers.final_sumcheck_rounds h }
