use Rattle.std.proofs.Common.{◌<◌, ◌∙◌, arith}
use Rattle.field.specs.ResiduesLemmas.{residue_path}
use Rattle.field.specs.Primes.{prime_large}
use Rattle.field.proofs.Reductions.{product_up, product_down}
use Rattle.field.proofs.base.ResidueField.mul.Goals as goal
use Rattle.field.proofs.base.ResidueField.mul.Goals.{then-high-low, else-high-low}

pub returns : goal.returns
returns g c =
    let large : 1 < g.row.P = grind (arith, prime_large) in
    residue_path
    (elim c.if-high-low.branch [
      | then-high-low w ↦ w.value-is ∙ product_up g.row.P c.args.self.value c.args.other.value large c.args.self.below c.args.other.below w.if-high-low.true
      | else-high-low w ↦ w.value-is ∙ product_down g.row.P c.args.self.value c.args.other.value large c.args.self.below c.args.other.below w.if-high-low.false
    ])
