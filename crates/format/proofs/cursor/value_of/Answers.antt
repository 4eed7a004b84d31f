use Rattle.std.proofs.Common.{◌≡◌, ◌+◌, ◌-◌, ◌*◌, ◌^◌, min, ◌∙◌, rules, arith}
use Rattle.std.specs.List.{fold}
use Rattle.format.proofs.Digits.{capped}
use Rattle.format.proofs.cursor.value_of.Goals as goal

pub returns : goal.returns
returns c =
    let e : c.fold.result ≡ fold (λ v d. min (min (v * 10) (2 ^ 128 - 1) + (d - 48)) (2 ^ 128 - 1)) 0 c.args.digits.now = search rules in
    e ∙ capped c.args.digits.now 0 0 (omega arith)
