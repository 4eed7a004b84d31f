use Rattle.std.proofs.Common.{sym, ◌∙◌}
use Rattle.commit.proofs.Openings.{bound_by_laws, own_by_laws}
use Rattle.commit.proofs.opening.check_opening.Goals as goal

pub returns-clause-bound : goal.returns-clause-bound
returns-clause-bound g c = λ t.
    let s = c.args.scheme.now in
    bound_by_laws (g.S.OpeningScheme.meaning s) (g.S.OpeningScheme.commits s) (g.met.S.OpeningScheme.laws s) _ _ _ _ _ _ (sym c.check.ensures ∙ t)

pub returns-clause-own : goal.returns-clause-own
returns-clause-own g c = λ o.
    let s = c.args.scheme.now in
    c.check.ensures ∙ own_by_laws (g.S.OpeningScheme.meaning s) (g.S.OpeningScheme.commits s) (g.met.S.OpeningScheme.laws s) _ _ _ _ _ _ o
