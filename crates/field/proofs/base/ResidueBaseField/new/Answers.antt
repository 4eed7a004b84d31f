use Rattle.std.proofs.Common.{Some, None, sym, ap, ◌∙◌, mod-eq_of_lt}
use Rattle.std.proofs.lemmas.Bool.{cond_below}
use Rattle.field.specs.Residues.{reduce}
use Rattle.field.specs.ResiduesLemmas.{residue_path}
use Rattle.field.proofs.base.ResidueBaseField.new.Goals as goal

pub returns-then-value : goal.returns-then-value
returns-then-value g c =
    ap Some (residue_path (sym (mod-eq_of_lt c.if-value.true))) ∙ cond_below c.args.value g.row.P (Some (reduce g.row.P _ c.args.value)) None c.if-value.true
