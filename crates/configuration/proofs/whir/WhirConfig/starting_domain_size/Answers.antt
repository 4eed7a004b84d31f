use Rattle.std.proofs.Common.{◌+◌, ◌<◌, rules, arith}
use Rattle.configuration.specs.Numbers.{numbers_of}
use Rattle.configuration.proofs.Views.{first_domain}
use Rattle.configuration.proofs.whir.WhirConfig.starting_domain_size.Goals as goal

pub overflow_add-log_size : goal.overflow_add-log_size
overflow_add-log_size c = omega (arith, first_domain (numbers_of c.args.self.now.numbers) c.args.self.now.checked)

pub overflow_shl-result : goal.overflow_shl-result
overflow_shl-result c = omega (arith, first_domain (numbers_of c.args.self.now.numbers) c.args.self.now.checked)

pub returns : goal.returns
returns c =
    let w = c.args.self.now.numbers in
    let small : w.num_variables + w.starting_log_inv_rate < 64 = omega (arith, first_domain (numbers_of w) c.args.self.now.checked) in
    search rules
