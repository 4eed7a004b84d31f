-- Sample readings of the subgroup's generators.
use Rattle.std.specs.Prelude.{◌≡◌}
use Rattle.field.specs.Residues.{ops_257, numbering_257}
use Rattle.domain.specs.Subgroup.{generator}

-- over 257, the generators at log 1 and 2 are 256 and 241
pub record Generators : Type 0 where
  pub at_one : generator ops_257 numbering_257 8 1 ≡ numbering_257.residue 256
  pub at_two : generator ops_257 numbering_257 8 2 ≡ numbering_257.residue 241
