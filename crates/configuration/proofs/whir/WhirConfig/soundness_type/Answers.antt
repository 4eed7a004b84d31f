use Rattle.configuration.specs.Numbers.{numbers_of}
use Rattle.configuration.proofs.Views.{soundness_small, kind_known}
use Rattle.configuration.proofs.whir.WhirConfig.soundness_type.Goals as goal

pub unwrap-requires : goal.unwrap-requires
unwrap-requires c =
    kind_known c.args.self.now.numbers.soundness c.try_from.result c.try_from.ensures
    (soundness_small (numbers_of c.args.self.now.numbers) c.args.self.now.checked)
