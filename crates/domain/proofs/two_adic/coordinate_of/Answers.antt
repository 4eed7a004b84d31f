use Rattle.std.proofs.Common.{sym, ◌∙◌}
use Rattle.domain.specs.Powers.{expand_coordinate}
use Rattle.domain.proofs.two_adic.coordinate_of.Goals as goal

pub returns : goal.returns
returns g c =
    let F = g.F.Field.ops in
    c.squared.ensures ∙ sym (expand_coordinate F g.met.F.Field.lawful.ring c.args.v F.zero c.args.m c.args.j c.requires.1)
