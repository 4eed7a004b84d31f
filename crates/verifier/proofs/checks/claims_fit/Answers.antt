use Rattle.std.proofs.Common.{length, ap, sym, ◌∙◌, ◌&&◌, rules, tests}
use Rattle.std.specs.List.{list_all}
use Rattle.std.proofs.lemmas.Iterator.{YieldsList-from_slice}
use Rattle.std.proofs.lemmas.Iterator.Search.{all_from_yields_List}
use Rattle.std.proofs.lemmas.Bool.{le-leb}
use Rattle.verification.specs.Verifying.{claim_placed}
use Rattle.verifier.proofs.checks.claims_fit.Goals as goal

pub returns-then-claims-le1024 : goal.returns-then-claims-le1024
returns-then-claims-le1024 g c =
    let test = claim_placed {E = g.row.E.Denot} c.args.variables (length c.args.claims.now.coordinates.now) in
    let all = list_all test c.args.claims.now.claims.now in
    all_from_yields_List test c.all.new.self _ _ c.all.ensures.ran
    (YieldsList-from_slice {s = c.iter.result} c.args.claims.now.claims.now c.iter.ensures.rest) (λ x b q k. search (rules, tests))
    ∙ sym (ap (λ b. b && all) (le-leb (length c.args.claims.now.claims.now) 1024 c.if-claims-le1024.true))
