use Rattle.std.proofs.Common.{eqb, length}
use Rattle.std.proofs.lemmas.Bool.{and_parts}
use Rattle.blake2s.specs.Blake2s.{hash}
use Rattle.field.specs.Bytes.{coefficients_bytes}
use Rattle.commit.specs.Tree.{climbs}
use Rattle.commit.specs.TreeLemmas.{climbs_power, climbs_inside}
use Rattle.commit.proofs.merkle.placed_stands.Goals as goal

pub returns : goal.returns
returns g c = λ root w p i row path t.
    let leaf = hash (coefficients_bytes g.F.BaseField.numbering row) in
    let up = (and_parts (eqb (length row) w) (climbs root p i leaf path) t).1 in
    (climbs_power root p i leaf path up, climbs_inside root p i leaf path up)
