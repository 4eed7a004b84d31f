use Rattle.std.proofs.Common.{sym, ◌∙◌, mod-eq_of_lt}
use Rattle.field.specs.ResiduesLemmas.{residue_path}
use Rattle.field.proofs.Reductions.{sum_large}
use Rattle.field.proofs.base.ResidueField.add.Goals as goal
use Rattle.field.proofs.base.ResidueField.add.Goals.{then-total-modulus, else-total-modulus}

pub returns : goal.returns
returns g c =
    residue_path
    (elim c.if-total-modulus.branch [
      | then-total-modulus w ↦ w.value-is ∙ sym (mod-eq_of_lt w.if-total-modulus.true)
      | else-total-modulus w ↦ w.value-is ∙ sum_large g.row.P c.args.self.value c.args.other.value c.args.self.below c.args.other.below w.if-total-modulus.false
    ])
