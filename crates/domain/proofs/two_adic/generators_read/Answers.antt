use Rattle.std.proofs.Common.{refl, ◌∙◌}
use Rattle.field.specs.Residues.{ops_257, numbering_257}
use Rattle.field.specs.ResiduesLemmas.{residue_path}
use Rattle.field.specs.Primes.{field_257}
use Rattle.domain.specs.Powers.{pow_squared}
use Rattle.domain.proofs.two_adic.generators_read.Goals as goal

pub returns : goal.returns
returns c =
    let three = numbering_257.residue 3 in
    record {
      at_one = pow_squared ops_257 field_257.ring 7 three ∙ residue_path refl;
      at_two = pow_squared ops_257 field_257.ring 6 three ∙ residue_path refl;
    }
