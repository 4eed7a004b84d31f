use Rattle.std.proofs.Common.{rules, ◌≡◌, ◌∙◌, ℕ, ◌-◌, List, [], ◌∷◌, sum, arith}
use Rattle.std.specs.List.{fold}
use Rattle.std.proofs.lemmas.List.Sums.{sum_by-cons}
use Rattle.parameters.proofs.folding.variables_left.Goals as goal

fold-sub : (n : ℕ) (ks : List ℕ) → fold (λ left k. left - k) n ks ≡ n - sum ks
fold-sub n [] = omega arith
fold-sub n (k ∷ ks) = fold-sub (n - k) ks ∙ omega (arith, sum_by-cons (λ x. x) k ks)

pub returns : goal.returns
returns c =
    let e : c.fold.result ≡ fold (λ left k. left - k) c.args.num_variables c.args.factors.now = search rules in
    e ∙ fold-sub c.args.num_variables c.args.factors.now
