use Rattle.std.proofs.Common.{◌<◌, ◌-◌, length, get_or, sym, ap, ◌∙◌, arith}
use Rattle.std.proofs.lemmas.Option.{slice_get-get_or, get_or_from_slice_get}
use Rattle.configuration.specs.declared.whir_parameters.RoundConfig.{RoundConfig}
use Rattle.configuration.specs.Numbers.{numbers_of}
use Rattle.configuration.proofs.Rounds.{read_number}
use Rattle.configuration.proofs.Views.{in_order, reduces}
use Rattle.configuration.proofs.whir.WhirConfig.rs_reduction_factor.Goals as goal

pub returns-in_err-factor : goal.returns-in_err-factor
returns-in_err-factor c =
    let N = numbers_of c.args.self.now.numbers in
    let short : c.args.round < length N.rounds = omega (arith, c.in_ok-after.ensures.lookup.3.0, ap length c.deref.ensures.value) in
    let there = slice_get-get_or N.stored c.args.round 0 (omega (arith, short, (in_order N c.args.self.now.checked).rounds_so)) in
    let none = c.in_err-factor.was in
    cc (there, c.round_folding_factor.ensures, none)

pub returns : goal.returns
returns c =
    let N = numbers_of c.args.self.now.numbers in
    let i = c.args.round in
    let round = c.in_ok-after.field-0.now in
    let before = c.saturating_add-before.result in
    let short : i < length N.rounds = omega (arith, c.in_ok-after.ensures.lookup.3.0, ap length c.deref.ensures.value) in
    let after = read_number (λ (r : RoundConfig). r.log_inv_rate) N.rounds i 0 round short (c.in_ok-after.ensures.lookup.1 ∙ ap (λ l. get_or l i round) c.deref.ensures.value) in
    let factor = get_or_from_slice_get N.stored i c.in_ok-factor.factor 0 (sym c.round_folding_factor.ensures ∙ c.in_ok-factor.was) in
    reduces N i c.in_ok-factor.factor c.rate_before.result before c.saturating_sub.result c.args.self.now.checked short (sym factor)
    c.rate_before.ensures c.saturating_add-before.ensures (c.saturating_sub.ensures ∙ ap (λ x. before - x) after)
